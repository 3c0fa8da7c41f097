-- What is known of bits is so of the number that a register holds.
use Rattle.std.proofs.Common.{◌≡◌, refl, sym, ap, subst, ◌∙◌, ℕ, ◌+◌, ◌%◌, ◌^◌, ◌<◌, ◌≤◌, Bool, true, false, cond, Option, Some, None, arith}
use Rattle.std.specs.Prelude.{nat_lt, unwrap_or, if◌then◌else◌}
use Rattle.std.proofs.lemmas.Bool.{ltb-true}
use Rattle.walks.specs.Walk.{Bits}
use Rattle.walks.specs.Bits.{bit_of, cut, constant, number}
use Rattle.walks.proofs.Monotone.{keeps_number}
use Rattle.walks.proofs.Numbers.{number_constant}
use Rattle.mir_play.specs.Machine.{IsHeld}
use Rattle.mir_play.proofs.Numbers.{bit_below_cut}

same : {A : Type 0} (x y : A) → Some x ≡ Some y → x ≡ y
same x y e = ap (λ o. unwrap_or o x) e

-- what is known of a register's bits is known of its low 64
pub cut-held : (bits : Bits) (n : ℕ) → IsHeld bits n → IsHeld (cut 64 bits) n
cut-held bits n h = record { low = h.low; bits = λ i bit e. by_test i bit (nat_lt i 64) refl e }
  where
    by_test : (i : ℕ) (bit : Bool) (b : Bool) → nat_lt i 64 ≡ b → (if b then bits i else None) ≡ Some bit → constant 64 n i ≡ Some bit
    by_test i bit true e is = h.bits i bit is
    by_test i bit false e is = absurd (let bad : None ≡ Some bit = is in cc)

-- the low 64 bits of a number are those of what a register holds of it
pub constant-held : (n : ℕ) → IsHeld (constant 64 n) (n % 2 ^ 64)
constant-held n = record { low = omega arith; bits = λ i bit e. by_test i (nat_lt i 64) refl ∙ e }
  where
    by_test : (i : ℕ) (b : Bool) → nat_lt i 64 ≡ b → cond b (Some (bit_of (n % 2 ^ 64) i)) None ≡ cond b (Some (bit_of n i)) None
    by_test i true e = ap Some (bit_below_cut n 64 i (ltb-true i 64 e))
    by_test i false e = refl

pub number-held : (a : Bits) (n k : ℕ) → IsHeld a n → number 64 a ≡ Some k → n ≡ k
number-held a n k h e =
    let is : n % 2 ^ 64 ≡ k = same (n % 2 ^ 64) k (sym (number_constant 64 64 n (omega arith)) ∙ keeps_number 64 a (constant 64 n) h.bits k e) in
    let low = h.low in omega (arith, is, low)

pub byte-held : (a : Bits) (n k : ℕ) → IsHeld a n → number 8 a ≡ Some k → n % 256 ≡ k
byte-held a n k h e = same (n % 2 ^ 8) k (sym (number_constant 64 8 n (omega arith)) ∙ keeps_number 8 a (constant 64 n) h.bits k e)
