-- What shifts, cuts and extensions give on numbers is what the instructions give.
use Rattle.std.proofs.Common.{◌≡◌, refl, sym, ap, subst, ◌∙◌, ℕ, ◌+◌, ◌-◌, ◌*◌, ◌/◌, ◌%◌, ◌^◌, ◌<◌, ◌≤◌, ◌⊎◌, inl, inr, Bool, true, false, Option, Some, None, arith}
use Rattle.std.specs.Prelude.{nat_lt, ◌==◌, if◌then◌else◌}
use Rattle.std.specs.Int.{bit_at}
use Rattle.std.proofs.Math.Nat.{mod-eq_of_lt, div-div-eq-div-mul}
use Rattle.std.proofs.lemmas.Nat.{pow_pos, pow-add}
use Rattle.std.proofs.lemmas.Bool.{cases_lt}
use Rattle.std.proofs.lemmas.Nat.Bits.{bit_at-zero, bit_at_above, bit_at_cat_low, bit_at_cat_high}
use Rattle.ir_core.specs.declared.code.Flags.{Flags}
use Rattle.ir_meaning.specs.Value.{Value}
use Rattle.ir_meaning.specs.Operators.{shift, shl, lshr, shifted_left}
use Rattle.walks.specs.Walk.{Bits}
use Rattle.walks.specs.Refines.{RefinesBits}
use Rattle.walks.specs.Bits.{constant, bit_of, number, shifted, shift_left, shift_right}
use Rattle.walks.specs.Functions.{bits_of}
use Rattle.walks.proofs.Numbers.{number_constant, same_bit, lt_true}
use Rattle.generic_code.proofs.Rows.{poison_row, by_bits, mod_low}

pub lt_false : (k w : ℕ) → w ≤ k → nat_lt k w ≡ false
lt_false k w h = grind arith

-- a bit of a constant
pub constant_bit : (w x i : ℕ) → i < w → constant w x i ≡ Some (bit_of x i)
constant_bit w x i h = rw (lt_true i w h) refl

pub no_bit : (n i : ℕ) → bit_at n i ≡ 0 → bit_of n i ≡ false
no_bit n i h = ap (λ (b : ℕ). b == 1) h

-- ---- shifts by a number below the width; by any other the value is poison

pub shift_row : (f : ℕ → ℕ → Value) (g : ℕ → Bits) (w x k : ℕ) → k < 2 ^ w → (k < w → RefinesBits (bits_of w (f x k)) (g k))
    → RefinesBits (bits_of w (shift f w x k)) (shifted g w (number w (constant w k)))
shift_row f g w x k fits h =
    let known : number w (constant w k) ≡ Some k = number_constant w w k (omega arith) ∙ ap Some (mod-eq_of_lt fits) in
    subst (λ (o : Option ℕ). RefinesBits (bits_of w (shift f w x k)) (shifted g w o)) (sym known) (by_amount (nat_lt k w) refl)
  where
    by_amount : (below : Bool) → nat_lt k w ≡ below → RefinesBits (bits_of w (if below then f x k else None)) (λ i. if below then g k i else None)
    by_amount true e = h (let l : k < w = grind arith in l)
    by_amount false e = λ i b z. absurd (let bad : ⊥ = cc in bad)

pub shl_row : (flags : Flags) (w x k : ℕ) → k < 2 ^ w → RefinesBits (bits_of w (shift (shl flags w) w x k)) (shifted (shift_left w (constant w x)) w (number w (constant w k)))
shl_row flags w x k fits = shift_row (shl flags w) (shift_left w (constant w x)) w x k fits (λ small.
    poison_row w _ (shifted_left w x k) _ (by_bits w (shifted_left w x k) _ (λ i below. each i below (cases_lt i k))))
  where
    same : (i : ℕ) → i < w → bit_of (x * 2 ^ k) i ≡ bit_of (shifted_left w x k) i
    same i below = same_bit (x * 2 ^ k) (shifted_left w x k) i (sym (mod_low (x * 2 ^ k) i w below))

    plus_none : x * 2 ^ k ≡ x * 2 ^ k + 0
    plus_none = omega arith

    each : (i : ℕ) → i < w → (i < k) ⊎ (k ≤ i) → shift_left w (constant w x) k i ≡ Some (bit_of (shifted_left w x k) i)
    each i below (inl l) =
        let none : bit_of (x * 2 ^ k) i ≡ false = no_bit (x * 2 ^ k) i (ap (λ (n : ℕ). bit_at n i) plus_none ∙ bit_at_cat_low x k 0 i l ∙ bit_at-zero i) in
        rw (lt_true i w below, lt_true i k l) (ap Some (sym none ∙ same i below))
    each i below (inr l) =
        let high : bit_of (x * 2 ^ k) i ≡ bit_of x (i - k) = ap (λ (n : ℕ). n == 1) (ap (λ (n : ℕ). bit_at n i) plus_none ∙ bit_at_cat_high x k 0 i (pow_pos k) l) in
        rw (lt_true i w below, lt_false i k l) (constant_bit w x (i - k) (omega (arith, below)) ∙ ap Some (sym high ∙ same i below))

-- a bit of a number that is shifted to the right
pub right_bit : (x k i : ℕ) → bit_at (x / 2 ^ k) i ≡ bit_at x (i + k)
right_bit x k i =
    let turned : k + i ≡ i + k = omega arith in
    ap (λ (n : ℕ). n % 2) (div-div-eq-div-mul x (2 ^ k) (2 ^ i) ∙ ap (λ (n : ℕ). x / n) (sym (pow-add 2 k i) ∙ ap (λ (n : ℕ). 2 ^ n) turned))

pub lshr_row : (flags : Flags) (w x k : ℕ) → x < 2 ^ w → k < 2 ^ w → RefinesBits (bits_of w (shift (lshr flags w) w x k)) (shifted (shift_right w (constant w x)) w (number w (constant w k)))
lshr_row flags w x k small fits = shift_row (lshr flags w) (shift_right w (constant w x)) w x k fits (λ few.
    poison_row w _ (x / 2 ^ k) _ (by_bits w (x / 2 ^ k) _ (λ i below. each i below (cases_lt (i + k) w))))
  where
    each : (i : ℕ) → i < w → (i + k < w) ⊎ (w ≤ i + k) → shift_right w (constant w x) k i ≡ Some (bit_of (x / 2 ^ k) i)
    each i below (inl l) = rw (lt_true i w below, lt_true (i + k) w l) (ap (λ (n : ℕ). Some (n == 1)) (sym (right_bit x k i)))
    each i below (inr l) =
        let none : bit_of (x / 2 ^ k) i ≡ false = no_bit (x / 2 ^ k) i (right_bit x k i ∙ bit_at_above x w (i + k) small l) in
        rw (lt_true i w below, lt_false (i + k) w l) (ap Some (sym none))
