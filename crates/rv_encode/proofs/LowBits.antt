-- The low bits of a signed number are those of its two's complement.
use Rattle.std.proofs.Common.{◌≡◌, refl, ◌%◌, ◌^◌, ◌<◌, arith}
use Rattle.std.specs.Int.{w32, cast_unsigned}
use Rattle.std.specs.Prelude.{ℤ, pos, negsuc, FitsSigned}
use Rattle.rv_encode.specs.Spelling.{low_bits}

pub low_12_is : (z : ℤ) → FitsSigned w32 z → cast_unsigned w32 z % 2 ^ 12 ≡ low_bits 12 z
low_12_is (pos n) h = refl
low_12_is (negsuc n) h = let f : n < 2 ^ 31 = h.sfits in omega arith

pub low_13_is : (z : ℤ) → FitsSigned w32 z → cast_unsigned w32 z % 2 ^ 13 ≡ low_bits 13 z
low_13_is (pos n) h = refl
low_13_is (negsuc n) h = let f : n < 2 ^ 31 = h.sfits in omega arith

pub low_21_is : (z : ℤ) → FitsSigned w32 z → cast_unsigned w32 z % 2 ^ 21 ≡ low_bits 21 z
low_21_is (pos n) h = refl
low_21_is (negsuc n) h = let f : n < 2 ^ 31 = h.sfits in omega arith
