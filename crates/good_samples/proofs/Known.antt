-- The bits of a number that bits give are those bits.
use Rattle.std.proofs.Common.{◌≡◌, refl, sym, ap, subst, ◌∙◌, ℕ, zero, suc, ◌+◌, ◌-◌, ◌*◌, ◌%◌, ◌^◌, ◌<◌, ◌≤◌, ◌⊎◌, inl, inr, Bool, true, false, Option, Some, None, arith}
use Rattle.std.specs.Prelude.{if◌then◌else◌, nat_lt, ◌==◌}
use Rattle.std.proofs.lemmas.Bool.{cases_lt}
use Rattle.std.proofs.lemmas.Nat.{div-mul-add}
use Rattle.std.proofs.Math.Nat.{pow-succ', add-mod_right}
use Rattle.std.proofs.Math.Pow.{mod-mod-pow}
use Rattle.walks.specs.Walk.{Bits}
use Rattle.walks.specs.Bits.{bit_of, number, with_bit}
use Rattle.walks.specs.Functions.{bits_of}
use Rattle.walks.specs.Refines.{RefinesBits}
use Rattle.walks.proofs.Numbers.{same_bit}

-- bits that give a number
record Knows (w : ℕ) (a : Bits) (n : ℕ) : Type 0 where
  small : n < 2 ^ w
  bits : (i : ℕ) → i < w → a i ≡ Some (bit_of n i)

-- a power above a bit doesn't show in it
above : (low w i : ℕ) → i < w → bit_of (low + 2 ^ w) i ≡ bit_of low i
above low w i h = same_bit (low + 2 ^ w) low i (sym (cut (low + 2 ^ w)) ∙ ap (λ (x : ℕ). x % 2 ^ suc i) (add-mod_right low (2 ^ w)) ∙ cut low)
  where
    cut : (x : ℕ) → x % 2 ^ w % 2 ^ suc i ≡ x % 2 ^ suc i
    cut x = let count : (w - suc i) + suc i ≡ w = omega arith in subst (λ (k : ℕ). x % 2 ^ k % 2 ^ suc i ≡ x % 2 ^ suc i) count (mod-mod-pow x (w - suc i) (suc i))

top_bit : (q w low : ℕ) → low < 2 ^ w → bit_of (q * 2 ^ w + low) w ≡ (q % 2 == 1)
top_bit q w low h = ap (λ (x : ℕ). x % 2 == 1) (div-mul-add q (2 ^ w) low h)

one_more : (w : ℕ) (a : Bits) (low n : ℕ) (bit : Bool) → Knows w a low → a w ≡ Some bit → (if bit then low + 2 ^ w else low) ≡ n → Knows (suc w) a n
one_more w a low n true k at e =
    let small = k.small in
    let double = pow-succ' 2 w in
    let is : n ≡ 1 * 2 ^ w + low = omega (arith, e) in
    record { small = omega (arith, e, small, double); bits = λ i h. by_place i (cases_lt i w) h }
  where
    by_place : (i : ℕ) → (i < w) ⊎ (w ≤ i) → i < suc w → a i ≡ Some (bit_of n i)
    by_place i (inl below) h = k.bits i below ∙ ap Some (sym (above low w i below) ∙ ap (λ (x : ℕ). bit_of x i) e)
    by_place i (inr high) h =
        let same : w ≡ i = omega (arith, high, h) in
        let is : 1 * 2 ^ w + low ≡ n = omega (arith, e) in
        subst (λ (j : ℕ). a j ≡ Some (bit_of n j)) same (at ∙ ap Some (sym (top_bit 1 w low k.small) ∙ ap (λ (x : ℕ). bit_of x w) is))
one_more w a low n false k at e =
    let small = k.small in
    let double = pow-succ' 2 w in
    record { small = omega (arith, e, small, double); bits = λ i h. by_place i (cases_lt i w) h }
  where
    by_place : (i : ℕ) → (i < w) ⊎ (w ≤ i) → i < suc w → a i ≡ Some (bit_of n i)
    by_place i (inl below) h = k.bits i below ∙ ap Some (ap (λ (x : ℕ). bit_of x i) e)
    by_place i (inr high) h =
        let same : w ≡ i = omega (arith, high, h) in
        let is : 0 * 2 ^ w + low ≡ n = omega (arith, e) in
        subst (λ (j : ℕ). a j ≡ Some (bit_of n j)) same (at ∙ ap Some (sym (top_bit 0 w low k.small) ∙ ap (λ (x : ℕ). bit_of x w) is))

knows_by : (w : ℕ) (a : Bits) (n : ℕ) → ((low : ℕ) → number w a ≡ Some low → Knows w a low) → (o : Option ℕ) → number w a ≡ o → (b : Option Bool) → a w ≡ b → with_bit w o b ≡ Some n → Knows (suc w) a n
knows_by w a n ih None e b f h = absurd (let bad : ⊥ = cc in bad)
knows_by w a n ih (Some low) e None f h = absurd (let bad : ⊥ = cc in bad)
knows_by w a n ih (Some low) e (Some bit) f h = one_more w a low n bit (ih low e) f (let same : (if bit then low + 2 ^ w else low) ≡ n = cc in same)

knows : (w : ℕ) (a : Bits) (n : ℕ) → number w a ≡ Some n → Knows w a n
knows zero a n h = let none : 0 ≡ n = cc in record { small = omega (arith, none); bits = λ i less. absurd (let bad : ⊥ = omega (arith, less) in bad) }
knows (suc w) a n h = knows_by w a n (knows w a) (number w a) refl (a w) refl h

inside : (w n i : ℕ) (b : Bool) → nat_lt i w ≡ b → (bit : Bool) → (if b then Some (bit_of n i) else None) ≡ Some bit → (i < w) × (Some (bit_of n i) ≡ Some bit)
inside w n i true e bit h = (let below : i < w = grind arith in below, h)
inside w n i false e bit h = absurd (let bad : ⊥ = cc in bad)

-- the value that bits have has no other bits
pub value_refines : (w : ℕ) (a : Bits) → RefinesBits (bits_of w (number w a)) a
value_refines w a = by_number (number w a) refl
  where
    by_number : (o : Option ℕ) → number w a ≡ o → RefinesBits (bits_of w o) a
    by_number None e i bit h = absurd (let bad : ⊥ = cc in bad)
    by_number (Some n) e i bit h = let q = inside w n i (nat_lt i w) refl bit h in (knows w a n e).bits i q.0 ∙ q.1
