-- All seats, from one step of a hart to the next.
use Rattle.std.proofs.Common.{◌≡◌, ◌≢◌, ℕ, zero, suc, List, [], ◌∷◌, set, refl, sym, ap, subst, ⊎_elim}
use mathlib.Core.Option.{some-injective}
use Rattle.code_epochs.specs.declared.state.CodeState.{CodeState}
use Rattle.code_epochs.specs.Sound.{At}
use Rattle.code_epochs.proofs.Lists.{at_set}
use Rattle.jit_core.specs.declared.seat.Seat.{Seat}
use Rattle.jit_core.specs.declared.seat.Work.{Work}
use Rattle.jit_core.specs.Seats.{SeatStands}
use Rattle.jit_core.specs.Seated.{Steps, IsReady, IsSameSize}
use Rattle.jit_core.specs.Harts.{AreReady, Moves}
use Rattle.jit_core.proofs.OneStep.{hart_own}
use Rattle.jit_core.proofs.Stands.{other_stands}
use Rattle.jit_core.proofs.Readying.{other_ready}

pub all_move : (old new : CodeState) (seats : List Seat) (before after : Seat) (work : Work) (h : ℕ) → At seats h before → Steps old new before after work h → Moves old new seats (set seats h after) work h
all_move old new seats before after work h at steps m x sound state here all =
    let t = steps m x sound state here (all h before at) in (
      t.0,
      t.1,
      t.2,
      t.3,
      λ k s told.
          ⊎_elim
          (λ (e : (k ≡ h) × (after ≡ s)). subst (λ (z : Seat). SeatStands m work.image.now work.calls.now work.harts t.0 k z) e.1 (subst (λ (n : ℕ). SeatStands m work.image.now work.calls.now work.harts t.0 n after) (sym e.0) t.4))
          (λ (e : (k ≢ h) × At seats k s). other_stands m work.image.now work.calls.now work.harts x t.0 h k s (hart_own x h t.0 t.1) e.0 (all k s e.1))
          (at_set seats h k after s told),
    )

pub all_ready : (old new : CodeState) (seats : List Seat) (after : Seat) (work : Work) (h : ℕ) → IsSameSize old new → IsReady after new work h → AreReady seats old work → AreReady (set seats h after) new work
all_ready old new seats after work h size ready all = λ k s told.
    ⊎_elim
    (λ (e : (k ≡ h) × (after ≡ s)). subst (λ (z : Seat). IsReady z new work k) e.1 (subst (λ (n : ℕ). IsReady after new work n) (sym e.0) ready))
    (λ (e : (k ≢ h) × At seats k s). other_ready s old new work k size (all k s e.1))
    (at_set seats h k after s told)

-- to set an element to what it is changes nothing
pub set_same : {A : Type 0} (l : List A) (i : ℕ) (a : A) → At l i a → set l i a ≡ l
set_same [] i a at = refl
set_same (x ∷ l) zero a at = ap (λ y. y ∷ l) (sym (some-injective x a at))
set_same (x ∷ l) (suc i) a at = ap (λ (m : List _). x ∷ m) (set_same l i a at)
