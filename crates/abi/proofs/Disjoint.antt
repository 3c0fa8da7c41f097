-- The places of a frame lie apart.
use Rattle.std.proofs.Common.{◌≡◌, ◌≢◌, ℕ, ◌+◌, ◌-◌, ◌*◌, ◌<◌, ◌≤◌, ◌⊎◌, inl, inr, ⊎_elim, arith}
use Rattle.std.proofs.lemmas.Bool.{cases_lt}
use Rattle.abi.specs.Frame.{AreApart, save_place, slot_place, frame_of_values, IsDisjointFrame, FramesAreDisjoint}

pub disjoint : FramesAreDisjoint
disjoint n = record {
  saves = λ i j h k other. ⊎_elim (λ lt. inr (omega (arith, lt, h, k))) (λ le. inl (omega (arith, le, h, k, other))) (cases_lt i j);
  slots = λ i j other. ⊎_elim (λ lt. inl (omega (arith, lt))) (λ le. inr (omega (arith, le, other))) (cases_lt i j);
  both = λ i j h k. omega (arith, h, k);
  inside = λ i h. omega (arith, h);
}
