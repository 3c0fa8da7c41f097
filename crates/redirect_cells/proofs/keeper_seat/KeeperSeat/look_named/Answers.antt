use Rattle.std.proofs.Common.{◌≡◌, ◌+◌, ◌<◌, ℕ, true, refl, sym, subst, ap, ◌∙◌, arith}
use Rattle.redirect_cells.specs.declared.view.View.{View}
use Rattle.redirect_cells.specs.Kept.{functions_of, is_keeper}
use Rattle.redirect_cells.proofs.Reclaims.{looks_at}
use Rattle.redirect_cells.proofs.keeper_seat.KeeperSeat.look_named.Goals as goal

pub load-requires : goal.load-requires
load-requires g c =
    let me = c.args.self.now in
    let table = c.args.self.now.table.now in
    let plan = table.table.shared.key in
    let words = table.words_are in
    let low = c.requires.hart in
    let v = c.requires.pending in
    let word : c.hart_place-word.result ≡ 1 + (functions_of plan) + c.args.hart = c.hart_place-word.ensures ∙ (λ i. 1 + table.functions_are i + c.args.hart) in (
      me.here,
      omega arith,
      looks_at plan table.table.shared.table_id.slots me.seat.id g.N.Numbered.number c.hart_place-word.result c.args.hart v.1 v.2 me.seat.me v.0 me.empty me.plan me.keeper v.3 v.4 (subst (λ (n : ℕ). c.args.hart < n) table.harts_are low) word,
    )

pub invariant_of-self : goal.invariant_of-self
invariant_of-self g c =
    let me = c.args.self.now in
    let e = c.load.ensures in
    let v = c.requires.pending in
    let is = e.2.0 v.0 v.1 v.2 v.3 v.4 in
    record { here = e.0 ∙ me.here; empty = e.2.2; plan = ap (λ (y : View). y.plan) is ∙ me.plan; keeper = subst (λ (y : View). is_keeper y.role ≡ true) (sym is) refl }
