use Rattle.std.proofs.Common.{◌≡◌, ℕ, [], ◌∷◌, sym, ap, subst, ◌∙◌, arith}
use Rattle.std.specs.Prelude.{Option, MatchOption}
use Rattle.redirect_cells.specs.declared.table.CodeTable.{CodeTable}
use Rattle.redirect_cells.specs.Kept.{book_of}
use Rattle.jit_session.specs.Shelves.{KeepsAll, IsRenewed}
use Rattle.jit_session.proofs.Few.{few_collected}
use Rattle.jit_session.proofs.WorkerPublishing.{functions_are, good_here, tried_few, renewed}
use Rattle.jit_session.proofs.Shelves.{collected_keeps, same_keeps, keeps_all}
use Rattle.jit_session.proofs.locked.Locked.publish.Goals.{in-Ok, in-Err}
use Rattle.jit_session.proofs.locked.Locked.publish.Goals as goal

pub level-requires : goal.level-requires
level-requires g c =
    let table : c.collect.new.self.desk.seat.table.now ≡ c.args.self.now.keeper.desk.seat.table.now = ap (λ t. t.now) c.collect.ensures.table in
    let functions = functions_are g.N.Naming.tables c.args.self.now.keeper.desk.seat.table.now c.requires.good.0 c.requires.good.1 c.args.self.now.named in
    let same = ap (λ (t : CodeTable). t.functions) table in
    let low = c.requires.good.3 in
    omega (arith, functions, same, low)

pub invariant_of-self : goal.invariant_of-self
invariant_of-self g c =
    let me = c.args.self.now.keeper in
    let new = c.collect.new.self in
    let table = ap (λ t. t.now) c.collect.ensures.table in record {
      named = c.args.self.now.named ∙ ap (λ (t : CodeTable). t ∷ []) (sym table);
      few = few_collected (book_of me.desk.seat.seat.me.0) (book_of new.desk.seat.seat.me.0) me.desk.shelf new.desk.shelf me.desk.seat.table.now.harts c.collect.result c.collect.ensures.collected c.args.self.now.few;
    }

pub publish-requires-clause-good : goal.publish-requires-clause-good
publish-requires-clause-good g c =
    let table : c.collect.new.self.desk.seat.table.now ≡ c.args.self.now.keeper.desk.seat.table.now = ap (λ t. t.now) c.collect.ensures.table in
    good_here g.N.Naming.tables c.collect.new.self.desk.seat.table.now c.requires.good.0 c.requires.good.1 (c.args.self.now.named ∙ ap (λ (t : CodeTable). t ∷ []) (sym table)) c.args.version.symbol c.args.version.words c.requires.good.2

pub publish-requires-clause-symbol : goal.publish-requires-clause-symbol
publish-requires-clause-symbol g c =
    let table : c.collect.new.self.desk.seat.table.now ≡ c.args.self.now.keeper.desk.seat.table.now = ap (λ t. t.now) c.collect.ensures.table in
    let functions = functions_are g.N.Naming.tables c.args.self.now.keeper.desk.seat.table.now c.requires.good.0 c.requires.good.1 c.args.self.now.named in
    let same = ap (λ (t : CodeTable). t.functions) table in
    let low = c.requires.good.3 in
    omega (arith, functions, same, low)

pub invariant_of-self-2 : goal.invariant_of-self-2
invariant_of-self-2 g c =
    let me = c.args.self.now.keeper in
    let middle = c.collect.new.self in
    let new = c.publish.new.self in
    let table = ap (λ t. t.now) (c.publish.ensures.table ∙ c.collect.ensures.table) in
    let few = few_collected (book_of me.desk.seat.seat.me.0) (book_of middle.desk.seat.seat.me.0) me.desk.shelf middle.desk.shelf me.desk.seat.table.now.harts c.collect.result c.collect.ensures.collected c.args.self.now.few in
    let level = c.level.ensures in
    let is = level.2 in
    let past = c.if-level.false in record {
      named = c.args.self.now.named ∙ ap (λ (t : CodeTable). t ∷ []) (sym table);
      few = tried_few middle.desk.shelf new.desk.shelf c.args.version (new.desk.seat ≡ middle.desk.seat) c.publish.result middle.desk.shelf.numbers_are middle.all_current level.0 level.1 (omega (arith, is, past)) c.requires.level few
          c.publish.ensures.ok c.publish.ensures.same;
    }

pub base-requires : goal.base-requires
base-requires g c =
    let table : c.publish.new.self.desk.seat.table.now ≡ c.args.self.now.keeper.desk.seat.table.now = ap (λ t. t.now) (c.publish.ensures.table ∙ c.collect.ensures.table) in
    let functions = functions_are g.N.Naming.tables c.args.self.now.keeper.desk.seat.table.now c.requires.good.0 c.requires.good.1 c.args.self.now.named in
    let same = ap (λ (t : CodeTable). t.functions) table in
    let low = c.requires.good.3 in
    omega (arith, functions, same, low)

pub returns : goal.returns
returns g c =
    let me = c.args.self.now.keeper in
    let middle = c.collect.new.self in
    let new = c.publish.new.self in
    let keeps = collected_keeps (book_of me.desk.seat.seat.me.0) (book_of middle.desk.seat.seat.me.0) me.desk.shelf middle.desk.shelf me.desk.seat.table.now.harts c.collect.result c.collect.ensures.collected in
    elim c.match-publish.branch [
      | in-Ok w ↦
          let table : middle.desk.seat.table.now ≡ me.desk.seat.table.now = ap (λ t. t.now) c.collect.ensures.table in
          let functions = functions_are g.N.Naming.tables me.desk.seat.table.now c.requires.good.0 c.requires.good.1 c.args.self.now.named in
          let same = ap (λ (t : CodeTable). t.functions) table in
          let low = c.requires.good.3 in
          let long = middle.desk.functions_are in
          let is = c.level.ensures.2 in
          let past = c.if-level.false in
          subst (λ (o : Option ℕ). MatchOption o (KeepsAll me.desk.shelf new.desk.shelf) (IsRenewed me.desk.shelf new.desk.shelf c.args.version)) (sym w.result-is)
          (renewed me.desk.shelf middle.desk.shelf new.desk.shelf c.args.version w.in-Ok.field-0 c.level.result w.base.result keeps w.in-Ok.ensures.ok (omega (arith, functions, same, low, long)) c.level.ensures (omega (arith, past)) w.base.ensures)
      | in-Err w ↦
          subst (λ (o : Option ℕ). MatchOption o (KeepsAll me.desk.shelf new.desk.shelf) (IsRenewed me.desk.shelf new.desk.shelf c.args.version)) (sym w.result-is)
          (keeps_all me.desk.shelf middle.desk.shelf new.desk.shelf keeps (same_keeps middle.desk.shelf new.desk.shelf w.in-Err.ensures.same.1))
    ]
