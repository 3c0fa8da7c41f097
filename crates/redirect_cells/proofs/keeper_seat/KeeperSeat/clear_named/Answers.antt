use Rattle.std.proofs.Common.{◌≡◌, ◌+◌, ◌<◌, ℕ, true, refl, sym, subst, ap, ◌∙◌, arith}
use Rattle.redirect_cells.specs.declared.view.View.{View}
use Rattle.code_epochs.specs.Sound.{HasPassed}
use Rattle.redirect_cells.specs.Kept.{functions_of, is_keeper}
use Rattle.redirect_cells.proofs.Reclaims.{clears_header}
use Rattle.redirect_cells.proofs.keeper_seat.KeeperSeat.clear_named.Goals as goal

pub store-requires : goal.store-requires
store-requires g c =
    let me = c.args.self.now in
    let table = c.args.self.now.table.now in
    let plan = table.table.shared.key in
    let words = table.words_are in
    let low = c.requires.place in
    let v = c.requires.passed in
    let word : c.code_place-word.result ≡ 1 + (functions_of plan) + plan.harts + c.args.place = c.code_place-word.ensures ∙ (λ i. 1 + table.functions_are i + table.harts_are i + c.args.place) in (
      me.here,
      omega arith,
      clears_header plan table.table.shared.table_id.slots me.seat.id g.N.Numbered.number c.code_place-word.result v.1 v.2 me.seat.me v.0 me.empty me.keeper v.3 v.4 (subst (λ (n : ℕ). (h : ℕ) → h < n → HasPassed v.2 h) table.harts_are v.5) (word ∙ (λ i. 1 + (functions_of plan) + plan.harts + v.6 i)),
    )

pub invariant_of-self : goal.invariant_of-self
invariant_of-self g c =
    let me = c.args.self.now in
    let e = c.store.ensures in
    let v = c.requires.passed in
    let is = e.2.0 v.0 v.3 in
    record { here = e.0 ∙ me.here; empty = e.2.1; plan = ap (λ (y : View). y.plan) is ∙ me.plan; keeper = subst (λ (y : View). is_keeper y.role ≡ true) (sym is) refl }
