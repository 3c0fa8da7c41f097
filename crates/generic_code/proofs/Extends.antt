-- What signed shifts, cuts and extensions give on numbers is what the instructions give.
use Rattle.std.proofs.Common.{◌≡◌, refl, sym, ap, subst, ◌∙◌, ℕ, ◌+◌, ◌-◌, ◌*◌, ◌/◌, ◌%◌, ◌^◌, ◌<◌, ◌≤◌, ◌⊎◌, inl, inr, Bool, true, false, cond, Some, arith}
use Rattle.std.specs.Prelude.{◌==◌, not, if◌then◌else◌, pos, negsuc, ◌-ℤ◌}
use Rattle.std.proofs.Math.Nat.{mod-eq_of_lt}
use Rattle.std.proofs.lemmas.Nat.{pow_pos, pow-add, shr_below, div-mul-add}
use Rattle.std.proofs.lemmas.Int.{ints}
use Rattle.std.proofs.lemmas.Bool.{cases_lt, lt-ltb, le-ltb}
use Rattle.std.proofs.lemmas.Nat.Bits.{bit_at_above, bit_at_cat_low, bit_at_cat_high, bit_at_ones}
use Rattle.ir_core.specs.declared.code.Flags.{Flags}
use Rattle.ir_meaning.specs.Operators.{shift, ashr, truncate, zero_extend}
use Rattle.rj_num.specs.Width.{modulo, is_negative, sign_extended as extended_number}
use Rattle.walks.specs.Refines.{RefinesBits}
use Rattle.walks.specs.Bits.{constant, bit_of, number, cut, shifted, shift_right_signed, zero_extended, sign_extended}
use Rattle.walks.specs.Functions.{bits_of}
use Rattle.walks.proofs.Numbers.{same_bit, lt_true}
use Rattle.generic_code.proofs.Rows.{poison_row, by_bits, mod_low}
use Rattle.generic_code.proofs.Moves.{lt_false, constant_bit, no_bit, shift_row, right_bit}

-- ---- the sign bit, and copies of it above a number

half : (w : ℕ) → 1 ≤ w → 2 ^ (w - 1) * 2 ≡ 2 ^ w
half w h = let e : w - 1 + 1 ≡ w = omega (arith, h) in sym (pow-add 2 (w - 1) 1) ∙ ap (λ (j : ℕ). 2 ^ j) e

sign_one : (w x : ℕ) → 1 ≤ w → 2 ^ (w - 1) ≤ x → x < 2 ^ w → bit_of x (w - 1) ≡ true
sign_one w x some low high =
    let twice = half w some in
    let p = pow_pos (w - 1) in
    let parts : x ≡ 1 * 2 ^ (w - 1) + (x - 2 ^ (w - 1)) = omega (arith, low) in
    let one : x / 2 ^ (w - 1) ≡ 1 = ap (λ n. n / 2 ^ (w - 1)) parts ∙ div-mul-add 1 (2 ^ (w - 1)) (x - 2 ^ (w - 1)) (omega (arith, twice, high, low, p)) in
    ap (λ n. n % 2 == 1) one

sign_zero : (w x : ℕ) → x < 2 ^ (w - 1) → bit_of x (w - 1) ≡ false
sign_zero w x low = no_bit x (w - 1) (bit_at_above x (w - 1) (w - 1) low (omega arith))

-- a number below ones: so many of them, from this bit on
abbrev below_ones : ℕ → ℕ → ℕ → ℕ
below_ones k v x = (2 ^ k - 1) * 2 ^ v + x

ones_low : (k v x i : ℕ) → i < v → bit_of (below_ones k v x) i ≡ bit_of x i
ones_low k v x i h = ap (λ (n : ℕ). n == 1) (bit_at_cat_low (2 ^ k - 1) v x i h)

ones_high : (k v x i : ℕ) → x < 2 ^ v → v ≤ i → i < v + k → bit_of (below_ones k v x) i ≡ true
ones_high k v x i small h top = ap (λ (n : ℕ). n == 1) (bit_at_cat_high (2 ^ k - 1) v x i small h ∙ bit_at_ones k (i - v) (omega (arith, h, top)))

-- ones from a bit up to the width are a difference of powers
ones_are : (k v w : ℕ) → v + k ≡ w → (2 ^ k - 1) * 2 ^ v ≡ 2 ^ w - 2 ^ v
ones_are k v w e =
    let all : 2 ^ k * 2 ^ v ≡ 2 ^ w = (let turned : k + v ≡ w = omega (arith, e) in sym (pow-add 2 k v) ∙ ap (λ (j : ℕ). 2 ^ j) turned) in
    apart (2 ^ k) (2 ^ v) (2 ^ w) (pow_pos k) all
  where
    apart : (Q V W : ℕ) → 0 < Q → Q * V ≡ W → (Q - 1) * V ≡ W - V
    apart Q V W some e =
        let d : ℕ = Q - 1 in
        let is : Q ≡ d + 1 = omega (arith, some) in
        let product : Q * V ≡ d * V + V = ap (λ (x : ℕ). x * V) is ∙ omega arith in
        omega (arith, product, e)

power_below : (v w : ℕ) → v ≤ w → 2 ^ v ≤ 2 ^ w
power_below v w h =
    let all : 2 ^ (w - v) * 2 ^ v ≡ 2 ^ w = (let sum : (w - v) + v ≡ w = omega (arith, h) in sym (pow-add 2 (w - v) v) ∙ ap (λ (j : ℕ). 2 ^ j) sum) in
    low (2 ^ (w - v)) (2 ^ v) (2 ^ w) (pow_pos (w - v)) all
  where
    low : (Q V W : ℕ) → 0 < Q → Q * V ≡ W → V ≤ W
    low Q V W some e =
        let d : ℕ = Q - 1 in
        let is : Q ≡ d + 1 = omega (arith, some) in
        let product : Q * V ≡ d * V + V = ap (λ (x : ℕ). x * V) is ∙ omega arith in
        omega (arith, product, e)

-- ---- the signed shift

pub ashr_row : (flags : Flags) (w x k : ℕ) → 1 ≤ w → x < 2 ^ w → k < 2 ^ w
    → RefinesBits (bits_of w (shift (ashr flags w) w x k)) (shifted (shift_right_signed w (constant w x)) w (number w (constant w k)))
ashr_row flags w x k some small fits = shift_row (ashr flags w) (shift_right_signed w (constant w x)) w x k fits (λ few. by_sign few (cases_lt x (2 ^ (w - 1))))
  where
    filled : ℕ
    filled = x / 2 ^ k + (if is_negative w x then 2 ^ w - 2 ^ (w - k) else 0)

    top : constant w x (w - 1) ≡ Some (bit_of x (w - 1))
    top = constant_bit w x (w - 1) (omega (arith, some))

    plain : x < 2 ^ (w - 1) → filled ≡ x / 2 ^ k
    plain l = ap (λ (b : Bool). x / 2 ^ k + (if not b then 2 ^ w - 2 ^ (w - k) else 0)) (lt-ltb x (2 ^ (w - 1)) l) ∙ omega arith

    turned : 2 ^ (w - 1) ≤ x → k < w → filled ≡ below_ones k (w - k) (x / 2 ^ k)
    turned l few =
        let sum : (w - k) + k ≡ w = omega (arith, few) in
        ap (λ (b : Bool). x / 2 ^ k + (if not b then 2 ^ w - 2 ^ (w - k) else 0)) (le-ltb x (2 ^ (w - 1)) l)
        ∙ ap (λ (n : ℕ). x / 2 ^ k + n) (sym (ones_are k (w - k) w sum)) ∙ omega arith

    low_part : k < w → x / 2 ^ k < 2 ^ (w - k)
    low_part few = shr_below x (w - k) k (let sum : (w - k) + k ≡ w = omega (arith, few) in subst (λ (j : ℕ). x < 2 ^ j) (sym sum) small)

    known : (i : ℕ) → k < w → i < w → (b : Bool) → bit_of filled i ≡ b → ((i + k < w) × (bit_of x (i + k) ≡ b)) ⊎ ((w ≤ i + k) × (bit_of x (w - 1) ≡ b)) → shift_right_signed w (constant w x) k i ≡ Some (bit_of filled i)
    known i few below b e (inl (l, same)) = rw (lt_true i w below, lt_true (i + k) w l) (ap Some (same ∙ sym e))
    known i few below b e (inr (l, same)) = rw (lt_true i w below, lt_false (i + k) w l) (top ∙ ap Some (same ∙ sym e))

    not_filled : (i : ℕ) → x < 2 ^ (w - 1) → k < w → i < w → (i + k < w) ⊎ (w ≤ i + k) → shift_right_signed w (constant w x) k i ≡ Some (bit_of filled i)
    not_filled i l few below (inl s) =
        known i few below (bit_of (x / 2 ^ k) i) (ap (λ (n : ℕ). bit_of n i) (plain l)) (inl (s, ap (λ (n : ℕ). n == 1) (sym (right_bit x k i))))
    not_filled i l few below (inr s) =
        let none : bit_of (x / 2 ^ k) i ≡ false = no_bit (x / 2 ^ k) i (right_bit x k i ∙ bit_at_above x w (i + k) small s) in
        known i few below false (ap (λ (n : ℕ). bit_of n i) (plain l) ∙ none) (inr (s, sign_zero w x l))

    is_filled : (i : ℕ) → 2 ^ (w - 1) ≤ x → k < w → i < w → (i + k < w) ⊎ (w ≤ i + k) → shift_right_signed w (constant w x) k i ≡ Some (bit_of filled i)
    is_filled i l few below (inl s) =
        known i few below (bit_of (x / 2 ^ k) i) (ap (λ (n : ℕ). bit_of n i) (turned l few) ∙ ones_low k (w - k) (x / 2 ^ k) i (omega (arith, s)))
        (inl (s, ap (λ (n : ℕ). n == 1) (sym (right_bit x k i))))
    is_filled i l few below (inr s) =
        known i few below true (ap (λ (n : ℕ). bit_of n i) (turned l few) ∙ ones_high k (w - k) (x / 2 ^ k) i (low_part few) (omega (arith, s)) (omega (arith, below, few)))
        (inr (s, sign_one w x some l small))

    by_sign : k < w → (x < 2 ^ (w - 1)) ⊎ (2 ^ (w - 1) ≤ x) → RefinesBits (bits_of w (ashr flags w x k)) (shift_right_signed w (constant w x) k)
    by_sign few (inl l) = poison_row w _ filled _ (by_bits w filled _ (λ i below. not_filled i l few below (cases_lt (i + k) w)))
    by_sign few (inr l) = poison_row w _ filled _ (by_bits w filled _ (λ i below. is_filled i l few below (cases_lt (i + k) w)))

-- ---- casts

pub trunc_row : (flags : Flags) (v w n : ℕ) → w < v → RefinesBits (bits_of w (truncate flags v w n)) (cut w (constant v n))
trunc_row flags v w n fewer = poison_row w _ (n % 2 ^ w) _ (by_bits w (n % 2 ^ w) _ (λ i below.
    rw (lt_true i w below) (constant_bit v n i (omega (arith, fewer, below)) ∙ ap Some (same_bit n (n % 2 ^ w) i (sym (mod_low n i w below))))))

-- zeros above
zero_bit : (v w n i : ℕ) → n < 2 ^ v → i < w → zero_extended v w (constant v n) i ≡ Some (bit_of n i)
zero_bit v w n i small below = by_place (cases_lt i v)
  where
    by_place : (i < v) ⊎ (v ≤ i) → zero_extended v w (constant v n) i ≡ Some (bit_of n i)
    by_place (inl l) = rw (lt_true i w below, lt_true i v l) refl
    by_place (inr l) = rw (lt_true i w below, lt_false i v l) (ap Some (sym (no_bit n i (bit_at_above n v i small l))))

pub zext_row : (flags : Flags) (v w n : ℕ) → n < 2 ^ v → RefinesBits (bits_of w (zero_extend flags v n)) (zero_extended v w (constant v n))
zext_row flags v w n small = poison_row w _ n _ (by_bits w n _ (λ i below. zero_bit v w n i small below))

-- cut, or with zeros above
pub reset_row : (v w n : ℕ) → n < 2 ^ v → RefinesBits (constant w (n % 2 ^ w)) (zero_extended v w (constant v n))
reset_row v w n small = by_bits w (n % 2 ^ w) _ (λ i below.
    zero_bit v w n i small below ∙ ap Some (same_bit n (n % 2 ^ w) i (sym (mod_low n i w below))))

below_zero : (a b : ℕ) → a < b → pos a -ℤ pos b ≡ negsuc (b - a - 1)
below_zero a b h = grind (arith, ints)

pub sext_row : (v w n : ℕ) → 1 ≤ v → v < w → n < 2 ^ v → RefinesBits (constant w (extended_number v w n)) (sign_extended v w (constant v n))
sext_row v w n some more small = by_sign (cases_lt n (2 ^ (v - 1)))
  where
    top : constant v n (v - 1) ≡ Some (bit_of n (v - 1))
    top = constant_bit v n (v - 1) (omega (arith, some))

    powers : 2 ^ v ≤ 2 ^ w
    powers = power_below v w (omega (arith, more))

    plain : n < 2 ^ (v - 1) → extended_number v w n ≡ n
    plain l =
        ap (λ (b : Bool). modulo w (cond (not b) (pos n -ℤ pos (2 ^ v)) (pos n))) (lt-ltb n (2 ^ (v - 1)) l)
        ∙ mod-eq_of_lt (let high = powers in let s : n < 2 ^ w = omega (arith, small, high) in s)

    turned : 2 ^ (v - 1) ≤ n → extended_number v w n ≡ below_ones (w - v) v n
    turned l =
        let high = powers in
        let few : 2 ^ v - n - 1 < 2 ^ w = omega (arith, small, high) in
        let sum : v + (w - v) ≡ w = omega (arith, more) in
        let ones = ones_are (w - v) v w sum in
        ap (λ (b : Bool). modulo w (cond (not b) (pos n -ℤ pos (2 ^ v)) (pos n))) (le-ltb n (2 ^ (v - 1)) l)
        ∙ ap (modulo w) (below_zero n (2 ^ v) small)
        ∙ ap (λ (k : ℕ). 2 ^ w - 1 - k) (mod-eq_of_lt few)
        ∙ (let e : 2 ^ w - 1 - (2 ^ v - n - 1) ≡ (2 ^ w - 2 ^ v) + n = omega (arith, small, high) in e)
        ∙ ap (λ (k : ℕ). k + n) (sym ones)

    each : (i : ℕ) → i < w → (r : ℕ) → (i < v → bit_of r i ≡ bit_of n i) → (v ≤ i → bit_of r i ≡ bit_of n (v - 1)) → (i < v) ⊎ (v ≤ i) → sign_extended v w (constant v n) i ≡ Some (bit_of r i)
    each i below r low high (inl l) = rw (lt_true i w below, lt_true i v l) (ap Some (sym (low l)))
    each i below r low high (inr l) = rw (lt_true i w below, lt_false i v l) (top ∙ ap Some (sym (high l)))

    by_sign : (n < 2 ^ (v - 1)) ⊎ (2 ^ (v - 1) ≤ n) → RefinesBits (constant w (extended_number v w n)) (sign_extended v w (constant v n))
    by_sign (inl l) =
        rw (plain l) (by_bits w n _ (λ i below. each i below n (λ s. refl) (λ s. no_bit n i (bit_at_above n v i small s) ∙ sym (sign_zero v n l)) (cases_lt i v)))
    by_sign (inr l) =
        rw (turned l) (by_bits w (below_ones (w - v) v n) _ (λ i below.
        each i below (below_ones (w - v) v n) (λ s. ones_low (w - v) v n i s)
        (λ s. ones_high (w - v) v n i small s (omega (arith, below, more)) ∙ sym (sign_one v n some l small)) (cases_lt i v)))
