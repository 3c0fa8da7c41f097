-- Spans that cover a function and are tight are the same.
use Rattle.std.proofs.Common.{◌≡◌, ℕ, ◌≤◌, inl, inr, length, Option, Some, None, arith, refl, ap, sym, ◌∙◌}
use Rattle.std.proofs.lemmas.List.{ext_get_or}
use Rattle.mir.specs.declared.code.MFunction.{MFunction}
use Rattle.mir.specs.declared.places.Intervals.{Intervals}
use Rattle.mir.specs.Places.{Holds, span_of}
use Rattle.mir.specs.Live.{Covers, IsInUse, IsTight}
use Rattle.liveness.proofs.Extending.{one_span}

held : (f : MFunction) (spans : Intervals) → Covers f spans → (r point : ℕ) → IsInUse f r point → Holds spans r point
held f spans covers r point (inl live) = covers.live r point live
held f spans covers r point (inr written) = covers.written r point written

nothing_there : (span : ℕ × ℕ) → None ≡ Some span → ⊥
nothing_there span e = cc

has_none : (spans : Intervals) (r point : ℕ) → span_of spans r ≡ None → Holds spans r point → ⊥
has_none spans r point none' (first, last, is, low, high) = nothing_there (first, last) (sym none' ∙ is)

bounds : (spans : Intervals) (r point : ℕ) (span : ℕ × ℕ) → span_of spans r ≡ Some span → Holds spans r point → (span.0 ≤ point) × (point ≤ span.1)
bounds spans r point span at (first, last, is, low, high) =
    let same : (first, last) ≡ span = one_span (first, last) span (sym is ∙ at) in
    let first_is : first ≡ span.0 = ap (λ (s : ℕ × ℕ). s.0) same in
    let last_is : last ≡ span.1 = ap (λ (s : ℕ × ℕ). s.1) same in
    (omega (arith, low, first_is), omega (arith, high, last_is))

abbrev from_to : ℕ → ℕ → Option (ℕ × ℕ)
from_to first last = Some (first, last)

pair_is : (a b c d : ℕ) → a ≡ c → b ≡ d → from_to a b ≡ from_to c d
pair_is a b c d e e' = rw (e, e') refl

module _ (f : MFunction) (one other : Intervals) (covers : Covers f one) (tight : IsTight f one) (covers' : Covers f other) (tight' : IsTight f other) where
  same_span : (r : ℕ) (span span' : Option (ℕ × ℕ)) → span_of one r ≡ span → span_of other r ≡ span' → span ≡ span'
  same_span r None None at at' = refl
  same_span r (Some (a, b)) None at at' = absurd (has_none other r a at' (held f other covers' r a (tight r a b at).0))
  same_span r None (Some (c, d)) at at' = absurd (has_none one r c at (held f one covers r c (tight' r c d at').0))
  same_span r (Some (a, b)) (Some (c, d)) at at' =
      let first : (c ≤ a) × (a ≤ d) = bounds other r a (c, d) at' (held f other covers' r a (tight r a b at).0) in
      let last : (c ≤ b) × (b ≤ d) = bounds other r b (c, d) at' (held f other covers' r b (tight r a b at).1) in
      let first' : (a ≤ c) × (c ≤ b) = bounds one r c (a, b) at (held f one covers r c (tight' r c d at').0) in
      let last' : (a ≤ d) × (d ≤ b) = bounds one r d (a, b) at (held f one covers r d (tight' r c d at').1) in
      pair_is a b c d (omega (arith, first.0, first'.0)) (omega (arith, last.1, last'.1))

  pub same_spans : length one.spans ≡ length other.spans → one.spans ≡ other.spans
  same_spans long = ext_get_or None one.spans other.spans long (λ r below. same_span r (span_of one r) (span_of other r) refl refl)
