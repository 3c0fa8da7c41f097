-- The argument of the tests.
use Rattle.std.proofs.Common.{ℕ, zero, suc, ◌^◌, ◌<◌, [], ◌∷◌, slice_index, arith}

pub five_fits : (i : ℕ) → slice_index (5 ∷ []) i < 2 ^ 64
five_fits zero = omega arith
five_fits (suc i) = omega arith
