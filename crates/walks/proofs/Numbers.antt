-- The bits of numbers.
use Rattle.std.proofs.Common.{◌≡◌, refl, sym, ap, subst, ◌∙◌, ℕ, zero, suc, ◌+◌, ◌*◌, ◌/◌, ◌%◌, ◌^◌, ◌<◌, ◌≤◌, ⊎_elim, Bool, true, false, Option, Some, None, arith}
use Rattle.std.specs.Prelude.{if◌then◌else◌, nat_lt, ◌==◌, ◌-◌, unwrap_or}
use Rattle.std.proofs.lemmas.Bool.{cases_lt}
use Rattle.std.proofs.lemmas.Nat.{mod-pow-add, div-mul-add, mod_below, pow_pos, pow-add}
use Rattle.std.proofs.lemmas.Nat.Bits.{bit_at_above, bit_at_cat_low, bit_at_cat_high}
use Rattle.std.specs.Int.{bit_at}
use Rattle.std.proofs.Math.Nat.{mod-one}
use Rattle.walks.specs.Walk.{Bits}
use Rattle.walks.specs.Bits.{constant, bit_of, with_bit, number}
use Rattle.walks.specs.Refines.{RefinesBits}

pub lt_true : (k w : ℕ) → k < w → nat_lt k w ≡ true
lt_true k w h = grind arith

bit_cases : (p low q : ℕ) → q < 2 → (if q == 1 then low + p else low) ≡ q * p + low
bit_cases p low zero h = omega arith
bit_cases p low (suc zero) h = omega arith
bit_cases p low (suc (suc q)) h = absurd (let bad : ⊥ = omega arith in bad)

split : (m k : ℕ) → m % 2 ^ suc k ≡ (m / 2 ^ k % 2) * 2 ^ k + m % 2 ^ k
split m k = let count : suc k ≡ 1 + k = omega arith in subst (λ (n : ℕ). m % 2 ^ n ≡ (m / 2 ^ k % 2) * 2 ^ k + m % 2 ^ k) (sym count) (mod-pow-add m 1 k)

pub number_constant : (w k m : ℕ) → k ≤ w → number k (constant w m) ≡ Some (m % 2 ^ k)
number_constant w zero m h = sym (ap Some (mod-one m))
number_constant w (suc k) m h =
    let before : number k (constant w m) ≡ Some (m % 2 ^ k) = number_constant w k m (omega arith) in
    let inside : nat_lt k w ≡ true = lt_true k w (omega arith) in
    rw (before, inside) (ap Some (bit_cases (2 ^ k) (m % 2 ^ k) (m / 2 ^ k % 2) (omega arith) ∙ sym (split m k)))

pow_positive : (k : ℕ) → 0 < 2 ^ k
pow_positive k = pow_pos k

half : (x i : ℕ) → (x % 2 ^ suc i) / 2 ^ i ≡ x / 2 ^ i % 2
half x i = ap (λ n. n / 2 ^ i) (split x i) ∙ div-mul-add (x / 2 ^ i % 2) (2 ^ i) (x % 2 ^ i) (mod_below x (2 ^ i) (pow_positive i))

-- a bit shows in what is left by the power above it
pub same_bit : (x y i : ℕ) → x % 2 ^ suc i ≡ y % 2 ^ suc i → bit_of x i ≡ bit_of y i
same_bit x y i h = ap (λ n. n == 1) (sym (half x i) ∙ ap (λ n. n / 2 ^ i) h ∙ half y i)

one_half : (q : ℕ) → q < 2 → (x : ℕ) → x < 2 → (q == 1) ≡ (x == 1) → q ≡ x
one_half zero h zero k e = refl
one_half (suc zero) h (suc zero) k e = refl
one_half zero h (suc zero) k e = absurd (let bad : ⊥ = cc in bad)
one_half (suc zero) h zero k e = absurd (let bad : ⊥ = cc in bad)
one_half (suc (suc q)) h x k e = absurd (let bad : ⊥ = omega arith in bad)
one_half zero h (suc (suc x)) k e = absurd (let bad : ⊥ = omega arith in bad)
one_half (suc zero) h (suc (suc x)) k e = absurd (let bad : ⊥ = omega arith in bad)

-- numbers with the same low bits leave the same by the power above them
pub same_number : (w x y : ℕ) → ((i : ℕ) → i < w → bit_of x i ≡ bit_of y i) → x % 2 ^ w ≡ y % 2 ^ w
same_number zero x y h = mod-one x ∙ sym (mod-one y)
same_number (suc w) x y h =
    let low : x % 2 ^ w ≡ y % 2 ^ w = same_number w x y (λ i k. h i (omega arith)) in
    let top : x / 2 ^ w % 2 ≡ y / 2 ^ w % 2 = one_half (x / 2 ^ w % 2) (omega arith) (y / 2 ^ w % 2) (omega arith) (h w (omega arith)) in
    split x w ∙ ap (λ n. n * 2 ^ w + x % 2 ^ w) top ∙ ap (λ n. (y / 2 ^ w % 2) * 2 ^ w + n) low ∙ sym (split y w)

-- ---- what is known of bits by their number

-- the number has so many bits, and they are these
pub record IsNumber (w : ℕ) (a : Bits) (n : ℕ) : Type 0 where
  pub low : n < 2 ^ w
  pub bits : (i : ℕ) → i < w → a i ≡ Some (bit_of n i)

same_some : {A : Type 0} (x y : A) → Some x ≡ Some y → x ≡ y
same_some x y e = ap (λ o. unwrap_or o x) e

power : (w : ℕ) → 2 ^ suc w ≡ 2 * 2 ^ w
power w = let e : suc w ≡ 1 + w = omega arith in ap (λ (j : ℕ). 2 ^ j) e ∙ pow-add 2 1 w

-- with a one at the next place
with_one : (w : ℕ) (a : Bits) (m n : ℕ) → IsNumber w a m → a w ≡ Some true → m + 2 ^ w ≡ n → IsNumber (suc w) a n
with_one w a m n h top e = record {
  low = (let two = power w in let below = h.low in omega (arith, two, below, e));
  bits = λ i l. ⊎_elim (lower i) (λ g. highest i (let z : i ≡ w = omega (arith, l, g) in z)) (cases_lt i w);
}
  where
    is : 1 * 2 ^ w + m ≡ n
    is = omega (arith, e)

    lower : (i : ℕ) → i < w → a i ≡ Some (bit_of n i)
    lower i l = h.bits i l ∙ ap (λ (b : ℕ). Some (b == 1)) (sym (bit_at_cat_low 1 w m i l) ∙ ap (λ (x : ℕ). bit_at x i) is)

    one_at : bit_at n w ≡ 1
    one_at =
        let none : w - w ≡ 0 = omega arith in
        sym (ap (λ (x : ℕ). bit_at x w) is) ∙ bit_at_cat_high 1 w m w h.low (omega arith) ∙ ap (bit_at 1) none

    highest : (i : ℕ) → i ≡ w → a i ≡ Some (bit_of n i)
    highest i e = subst (λ (j : ℕ). a j ≡ Some (bit_of n j)) (sym e) (top ∙ ap (λ (b : ℕ). Some (b == 1)) (sym one_at))

with_zero : (w : ℕ) (a : Bits) (m n : ℕ) → IsNumber w a m → a w ≡ Some false → m ≡ n → IsNumber (suc w) a n
with_zero w a m n h top e = record {
  low = (let two = power w in let below = h.low in omega (arith, two, below, e));
  bits = λ i l. ⊎_elim (lower i) (λ g. highest i (let z : i ≡ w = omega (arith, l, g) in z)) (cases_lt i w);
}
  where
    lower : (i : ℕ) → i < w → a i ≡ Some (bit_of n i)
    lower i l = h.bits i l ∙ ap (λ (x : ℕ). Some (bit_of x i)) e

    highest : (i : ℕ) → i ≡ w → a i ≡ Some (bit_of n i)
    highest i s =
        subst (λ (j : ℕ). a j ≡ Some (bit_of n j)) (sym s)
        (top ∙ ap (λ (b : ℕ). Some (b == 1)) (sym (bit_at_above m w w h.low (omega arith))) ∙ ap (λ (x : ℕ). Some (bit_of x w)) e)

pub number_known : (w : ℕ) (a : Bits) (n : ℕ) → number w a ≡ Some n → IsNumber w a n
number_known zero a n e = record { low = (let z : 0 ≡ n = same_some 0 n e in omega (arith, z)); bits = λ i l. absurd (let bad : ⊥ = omega arith in bad) }
number_known (suc w) a n e = by_parts (number_known w a) (number w a) (a w) refl refl e
  where
    by_parts : ((m : ℕ) → number w a ≡ Some m → IsNumber w a m) → (o : Option ℕ) (x : Option Bool) → number w a ≡ o → a w ≡ x → with_bit w o x ≡ Some n → IsNumber (suc w) a n
    by_parts ih None x p q e = absurd (let bad : ⊥ = cc in bad)
    by_parts ih (Some m) None p q e = absurd (let bad : ⊥ = cc in bad)
    by_parts ih (Some m) (Some true) p q e = with_one w a m n (ih m p) q (same_some (m + 2 ^ w) n e)
    by_parts ih (Some m) (Some false) p q e = with_zero w a m n (ih m p) q (same_some m n e)

-- bits whose number is known are the bits of that number
pub number_refines : (w : ℕ) (a : Bits) (n : ℕ) → number w a ≡ Some n → RefinesBits (constant w n) a
number_refines w a n e i bit h = by_test (nat_lt i w) refl h
  where
    by_test : (b : Bool) → nat_lt i w ≡ b → (if b then Some (bit_of n i) else None) ≡ Some bit → a i ≡ Some bit
    by_test true t h = (number_known w a n e).bits i (grind arith) ∙ h
    by_test false t h = absurd (let bad : ⊥ = cc in bad)
