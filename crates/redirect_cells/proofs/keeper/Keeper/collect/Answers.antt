use Rattle.std.proofs.Common.{sym, ap, ◌∙◌, subst}
use Rattle.redirect_cells.specs.Kept.{book_of}
use Rattle.redirect_cells.specs.Keeping.{AllCurrent}
use Rattle.redirect_cells.proofs.Settles as S
use Rattle.redirect_cells.proofs.keeper.Keeper.collect.Goals as goal

pub invariant_of-self : goal.invariant_of-self
invariant_of-self c =
    let me = c.args.self.now in
    let new = c.collect.new.self in
    let all = c.collect.ensures.collected in record {
      all_current = subst (λ v. AllCurrent v.items) (sym all.current) me.all_current;
      none_unlinked = S.none_unlinked (book_of me.desk.seat.seat.me.0) (book_of new.seat.seat.me.0) me.desk.shelf new.shelf me.desk.seat.table.now.harts c.collect.result all me.none_unlinked;
      words_are = all.words ∙ me.words_are ∙ sym all.size;
    }

pub returns-clause-none_pending : goal.returns-clause-none_pending
returns-clause-none_pending c =
    let me = c.args.self.now in
    let new = c.collect.new.self in
    S.none_pending (book_of me.desk.seat.seat.me.0) (book_of new.seat.seat.me.0) me.desk.shelf new.shelf me.desk.seat.table.now.harts c.collect.result c.collect.ensures.collected
