use Rattle.std.proofs.Common.{◌≡◌, ℕ, ◌+◌, ◌<◌, ◌≤◌, List, length, ap, subst, ◌∙◌, arith, Bool}
use Rattle.ir_core.specs.Program.{Program}
use Rattle.redirect_cells.specs.Kept.{book_of}
use Rattle.redirect_cells.specs.declared.table.CodeTable.{CodeTable}
use Rattle.entry_counts.specs.Tally.{times}
use Rattle.reopt_policy.specs.Marks.{level_for}
use Rattle.jit_session.specs.Levels.{IsSettledSymbol, MayShow}
use Rattle.jit_session.proofs.Levels.{length_most, levels_more, still_refused, shown_more, since_gone}
use Rattle.jit_session.proofs.settling.settle_all.Goals as goal

pub loop-symbol-preserved : goal.loop-symbol-preserved
loop-symbol-preserved g c =
    let at = c.loop-symbol in
    let inv = at.invariant in
    let step = c.settle_symbol.ensures in
    let program = c.args.checked.now in
    let marks = g.P.ReoptPolicy.marks c.args.policy.now in
    let test = g.M.Maker.may_crowd c.args.maker.now program in
    let joined = c.args.all.now.seat.me.0.joined in
    let k = at.symbol in
    let old = at.keeper.desk.shelf in
    let new = c.settle_symbol.new.keeper.desk.shelf in
    let before = at.refused.items in
    let after = c.settle_symbol.new.refused.items in
    let settled : IsSettledSymbol test old new before after k (level_for marks (times k joined)) =
    subst (λ (t : Program → ℕ → ℕ → Bool). IsSettledSymbol (t program) old new before after k (level_for marks (times k joined))) inv.test
    (subst (λ (ms : List ℕ). IsSettledSymbol (g.M.Maker.may_crowd at.maker program) old new before after k (level_for ms (times k joined))) inv.marks
    (subst (λ (l : List ℕ). IsSettledSymbol (g.M.Maker.may_crowd at.maker program) old new before after k (level_for (g.P.ReoptPolicy.marks at.policy) (times k l))) inv.all.joined step.settled)) in
    let me = c.args.keeper.now in
    let book = book_of me.desk.seat.seat.me.0 in
    let now = book_of at.keeper.desk.seat.seat.me.0 in
    let harts = me.desk.seat.table.now.harts in
    let code_words = me.desk.seat.table.now.code_words in
    let wanted : ℕ → ℕ = λ n. level_for marks (times n joined) in
    let seen : MayShow now harts (test k (wanted k)) program code_words new before after k (wanted k) =
    subst (λ (t : CodeTable). MayShow now t.harts (test k (wanted k)) program t.code_words new before after k (wanted k)) (ap (λ t. t.now) inv.table)
    (subst (λ (t : Program → ℕ → ℕ → Bool). MayShow now at.keeper.desk.seat.table.now.harts (t program k (wanted k)) program at.keeper.desk.seat.table.now.code_words new before after k (wanted k)) inv.test
    (subst (λ (ms : List ℕ). MayShow now at.keeper.desk.seat.table.now.harts (g.M.Maker.may_crowd at.maker program k (level_for ms (times k joined))) program at.keeper.desk.seat.table.now.code_words new before after k (level_for ms (times k joined))) inv.marks
    (subst (λ (l : List ℕ). MayShow now at.keeper.desk.seat.table.now.harts (g.M.Maker.may_crowd at.maker program k (level_for (g.P.ReoptPolicy.marks at.policy) (times k l))) program at.keeper.desk.seat.table.now.code_words new before after k (level_for (g.P.ReoptPolicy.marks at.policy) (times k l))) inv.all.joined step.shown))) in
    let may = since_gone book now harts (test k (wanted k)) program code_words new before after k (wanted k) inv.gone seen in
    let was = inv.count in
    let more = settled.count in
    let most = length_most test old new before after k (level_for marks (times k joined)) settled in
    let few = inv.few in record {
      table = step.table ∙ inv.table;
      gone = step.gone ∙ inv.gone;
      joined = step.joined ∙ inv.joined;
      shown = shown_more book harts test program code_words wanted old new before after k settled inv.refused inv.shown may;
      count = omega (arith, was, more);
      all = record { counts = step.all.counts ∙ inv.all.counts; parts = step.all.parts ∙ inv.all.parts; own = step.all.own ∙ inv.all.own; joined = step.all.joined ∙ inv.all.joined };
      levels = levels_more test old new before after k (λ n. level_for marks (times n joined)) settled inv.levels;
      refused = still_refused test old new before after k (level_for marks (times k joined)) settled inv.refused;
      few = omega (arith, most, few);
      room = step.room ∙ inv.room;
      marks = step.marks ∙ inv.marks;
      test = step.test ∙ inv.test;
    }

pub returns-clause-levels : goal.returns-clause-levels
returns-clause-levels g c = λ k low. (
    let past = c.loop-symbol-test.false in
    c.loop-symbol.invariant.levels k (omega (arith, past, low))
    )
