-- Bounds of numbers of a width.
use Rattle.std.proofs.Common.{◌≡◌, ◌≢◌, ℕ, zero, suc, ◌+◌, ◌-◌, ◌*◌, ◌/◌, ◌^◌, ◌<◌, ◌≤◌, Bool, true, false, not, nat_lt, ℤ, pos, negsuc, neg_ℤ, ◌-ℤ◌, ◌+ℤ◌, ◌*ℤ◌, FitsSigned, to_z, of_z, arith, ap, refl, sym, ◌∙◌, if◌then◌else◌}
use Rattle.std.specs.Prelude.{unsigned_abs, int_div, int_rem}
use Rattle.std.specs.Int.{w128}
use Rattle.std.proofs.Math.Nat.{div-le_self}
use Rattle.std.proofs.Math.Pow.{pow_mono}
use Rattle.std.proofs.lemmas.Nat.{pow_pos}
use Rattle.std.proofs.lemmas.Int.{ints, to_z-of_z, fits_signed_mul, fits_signed_from_abs, quot_is, rem_is}
use Rattle.std.proofs.lemmas.Bool.Decides.{nat_tests}
use native.Mathlib.Numerals.{unary_clauses}
use Rattle.rj_num.specs.Width.{signed, is_negative}

pub small : (w a : ℕ) → w ≤ 64 → a < 2 ^ w → a < 2 ^ 64
small w a le h = let most : 2 ^ w ≤ 2 ^ 64 = pow_mono {i = w} {j = 64} le in omega (arith, most)

halves : (w : ℕ) → 1 ≤ w → 2 ^ w ≡ 2 * 2 ^ (w - 1)
halves zero h = absurd (omega arith)
halves (suc k) h = ap (λ (n : ℕ). 2 ^ n) (one_more k) ∙ doubled k
  where
    one_more : (k : ℕ) → suc k ≡ suc (suc k - 1)
    one_more k = omega arith

    doubled : (k : ℕ) → 2 ^ suc (suc k - 1) ≡ 2 * 2 ^ (suc k - 1)
    doubled k = simp unary_clauses (omega arith)

between : (n p : ℕ) → n < p → unsigned_abs (pos n -ℤ pos p) ≡ p - n
between n p h = grind (arith, ints)

pub magnitude : (w a : ℕ) → 1 ≤ w → w ≤ 64 → a < 2 ^ w → unsigned_abs (signed w a) ≤ 2 ^ 63
magnitude w a wide le h = by_sign (is_negative w a) refl
  where
    by_sign : (b : Bool) → is_negative w a ≡ b → unsigned_abs (if b then pos a -ℤ pos (2 ^ w) else pos a) ≤ 2 ^ 63
    by_sign true e =
        let most : 2 ^ (w - 1) ≤ 2 ^ 63 = pow_mono {i = w - 1} {j = 63} (omega arith) in
        let high : 2 ^ (w - 1) ≤ a = grind (arith, nat_tests) in
        omega (arith, halves w wide, most, high, between a (2 ^ w) h)
    by_sign false e =
        let most : 2 ^ (w - 1) ≤ 2 ^ 63 = pow_mono {i = w - 1} {j = 63} (omega arith) in
        let low : a < 2 ^ (w - 1) = grind (arith, nat_tests) in
        omega (arith, most, low)

pub fits : (z : ℤ) → unsigned_abs z ≤ 2 ^ 63 → FitsSigned w128 z
fits z h = fits_signed_from_abs w128 z (omega arith)

pub read_back : (z : ℤ) → unsigned_abs z ≤ 2 ^ 63 → to_z w128 (of_z w128 z) ≡ z
read_back z h = to_z-of_z w128 z (fits z h)

pub product_fits : (x y : ℤ) → unsigned_abs x ≤ 2 ^ 63 → unsigned_abs y ≤ 2 ^ 63 → FitsSigned w128 (x *ℤ y)
product_fits x y h k = fits_signed_mul w128 x y (2 ^ 63) (2 ^ 63) h k (omega arith)

negated : (n : ℕ) → unsigned_abs (neg_ℤ (pos n)) ≡ n
negated zero = refl
negated (suc n) = refl

ratio_least : (x y : ℤ) → unsigned_abs (int_div x y) ≤ unsigned_abs x
ratio_least (pos a) (pos b) = div-le_self a b
ratio_least (pos a) (negsuc b) = let e = negated (a / suc b) in let l = div-le_self a (suc b) in omega (arith, e, l)
ratio_least (negsuc a) (pos b) = let e = negated (suc a / b) in let l = div-le_self (suc a) b in omega (arith, e, l)
ratio_least (negsuc a) (negsuc b) = div-le_self (suc a) (suc b)

pub ratio_fits : (x y : ℤ) → unsigned_abs x ≤ 2 ^ 63 → FitsSigned w128 (int_div x y)
ratio_fits x y h = fits (int_div x y) (let l = ratio_least x y in omega (arith, l))

-- a number of a width that isn't 0 isn't 0 when it is read with its sign
pub not_zero : (w a : ℕ) → 0 < a → a < 2 ^ w → 0 < unsigned_abs (signed w a)
not_zero w a some h = by_sign (is_negative w a)
  where
    by_sign : (b : Bool) → 0 < unsigned_abs (if b then pos a -ℤ pos (2 ^ w) else pos a)
    by_sign true = omega (arith, between a (2 ^ w) h)
    by_sign false = some

pub bits_not_zero : (z : ℤ) → unsigned_abs z ≤ 2 ^ 63 → 0 < unsigned_abs z → 0 < of_z w128 z
bits_not_zero (pos n) h some = some
bits_not_zero (negsuc n) h some = omega arith
