use Rattle.std.proofs.Common.{◌≡◌, ℕ, [], ◌∷◌, ◌++◌, sym, ap, subst, ◌∙◌, inr}
use Rattle.redirect_cells.specs.Kept.{book_of}
use Rattle.entry_counts.specs.Tally.{times}
use Rattle.reopt_policy.specs.Marks.{level_for}
use Rattle.jit_session.proofs.Shelves.{collected_keeps, collected_still, same_keeps, same_still}
use Rattle.jit_session.specs.Levels.{IsSettledSymbol, MayShow}
use Rattle.jit_session.proofs.Counting.{whole_found}
use Rattle.jit_session.proofs.Levels.{refused_settles}
use Rattle.jit_session.proofs.settling.settle_symbol.Goals as goal

pub returns-in-Some-clause-settled : goal.returns-in-Some-clause-settled
returns-in-Some-clause-settled g c =
    let me = c.args.keeper.now in
    let middle = c.collect.new.self in
    let last = c.settle_one.new.keeper in
    let seat = c.args.all.now.seat.me.0 in
    let marks = g.P.ReoptPolicy.marks c.args.policy.now in
    let test = g.M.Maker.may_crowd c.args.maker.now c.args.checked.now in
    let collected = c.collect.ensures.collected in
    let keeps = collected_keeps (book_of me.desk.seat.seat.me.0) (book_of middle.desk.seat.seat.me.0) me.desk.shelf middle.desk.shelf me.desk.seat.table.now.harts c.collect.result collected in
    let still = collected_still (book_of me.desk.seat.seat.me.0) (book_of middle.desk.seat.seat.me.0) me.desk.shelf middle.desk.shelf me.desk.seat.table.now.harts c.collect.result collected in
    let found = whole_found seat c.args.symbol c.total-entries.result c.requires.whole c.requires.own c.total-entries.ensures.found in
    subst (λ (n : ℕ). IsSettledSymbol test me.desk.shelf last.desk.shelf c.args.refused.now.items c.push_reserved.new.self.items c.args.symbol (level_for marks n)) found
    (refused_settles test me.desk.shelf middle.desk.shelf last.desk.shelf c.args.refused.now.items c.push_reserved.new.self.items c.args.symbol (level_for marks c.total-entries.result) keeps collected.count still
    c.args.checked.now c.in-Some.job c.in-Some.ensures.raised c.in-Some.ensures.same c.push_reserved.ensures.items)

pub returns-in-Some-clause-shown : goal.returns-in-Some-clause-shown
returns-in-Some-clause-shown g c =
    let me = c.args.keeper.now in
    let middle = c.collect.new.self in
    let last = c.settle_one.new.keeper in
    let seat = c.args.all.now.seat.me.0 in
    let marks = g.P.ReoptPolicy.marks c.args.policy.now in
    let program = c.args.checked.now in
    let test = g.M.Maker.may_crowd c.args.maker.now program in
    let k = c.args.symbol in
    let book = book_of me.desk.seat.seat.me.0 in
    let harts = me.desk.seat.table.now.harts in
    let words = me.desk.seat.table.now.code_words in
    let job = c.in-Some.job in
    let is = c.in-Some.ensures.raised in
    let other = c.in-Some.ensures.other in
    let same = c.in-Some.ensures.same in
    let size : middle.desk.shelf.space.size ≡ words = middle.desk.size_is ∙ ap (λ t. t.now.code_words) c.collect.ensures.table in
    let level = level_for marks c.total-entries.result in
    let found = whole_found seat k c.total-entries.result c.requires.whole c.requires.own c.total-entries.ensures.found in
    subst (λ (n : ℕ). MayShow book harts (test k (level_for marks n)) program words last.desk.shelf c.args.refused.now.items c.push_reserved.new.self.items k (level_for marks n)) found
    (inr (
      job,
      c.push_reserved.ensures.items,
      is.symbol_is,
      is.level_is,
      (other.0, same_keeps middle.desk.shelf last.desk.shelf same k other.0 other.1, other.2),
      λ gone. record {
        shelf = middle.desk.shelf;
        still = same_still middle.desk.shelf last.desk.shelf same;
        other = other;
        none_pending = c.collect.ensures.none_pending gone;
        none_unlinked = middle.none_unlinked;
        space = (size, middle.words_are ∙ size);
        caused = is.cause;
      },
    ))
