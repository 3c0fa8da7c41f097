-- A loop over the items of a `repeat`: what its invariant says at each turn and exit.
use Rattle.std.proofs.Common.{◌≡◌, ℕ, suc, ◌+◌, ◌-◌, ◌<◌, ◌≤◌, List, Option, Some, None, refl, sym, ◌∙◌, arith}
use Rattle.std.specs.Option.{option_and_then}
use Rattle.jit_calls.specs.declared.form.Refusal.{Refusal}
use Rattle.jit_calls.specs.Reads.{Refuses}
use Rattle.jit_calls.proofs.Refused.{refuses-then}
use Rattle.jit_calls.specs.Form.{Form, yield, Next, more, stop, after_next, repeat}

module _ {S X Y : Type 0} (item : S → Form (Next X Y)) (add : S → X → S) where
  -- the turn reads one item
  pub turn : (steps i : ℕ) (state : S) (rest : List ℕ) (total : Option ((S × Y) × List ℕ)) → i < steps → (repeat item add (steps - i) state).read rest ≡ total
      → total ≡ option_and_then (λ x. (after_next x.0 (λ x. repeat item add (steps - (i + 1)) (add state x)) (λ y. yield (state, y))).read x.1) ((item state).read rest)
  unfolding repeat
  turn steps i state rest total lt e =
      let k : steps - i ≡ suc (steps - (i + 1)) = omega arith in
      sym e ∙ rw k refl

  -- no turn is left
  pub ended : (steps i : ℕ) (state : S) (rest : List ℕ) (total : Option ((S × Y) × List ℕ)) → steps ≤ i → (repeat item add (steps - i) state).read rest ≡ total → total ≡ None
  unfolding repeat
  ended steps i state rest total le e =
      let k : steps - i ≡ 0 = omega arith in
      sym e ∙ rw k refl

  -- it read the end
  pub stops : (steps i : ℕ) (state : S) (rest : List ℕ) (total : Option ((S × Y) × List ℕ)) (y : Y) (after : List ℕ) → i < steps → (repeat item add (steps - i) state).read rest ≡ total
      → (item state).read rest ≡ Some (stop y, after) → total ≡ Some ((state, y), after)
  stops steps i state rest total y after lt e read = rw read at (turn steps i state rest total lt e)

  -- it read another item
  pub goes : (steps i : ℕ) (state : S) (rest : List ℕ) (total : Option ((S × Y) × List ℕ)) (x : X) (after : List ℕ) → i < steps → (repeat item add (steps - i) state).read rest ≡ total
      → (item state).read rest ≡ Some (more x, after) → (repeat item add (steps - (i + 1)) (add state x)).read after ≡ total
  goes steps i state rest total x after lt e read = sym (rw read at (turn steps i state rest total lt e))

  -- it was refused
  pub refused : (steps i : ℕ) (state : S) (rest : List ℕ) (total : Option ((S × Y) × List ℕ)) (refusal : Refusal) → i < steps → (repeat item add (steps - i) state).read rest ≡ total
      → Refuses refusal ((item state).read rest) → Refuses refusal total
  refused steps i state rest total refusal lt e h = refuses-then _ refusal _ total h (turn steps i state rest total lt e)
