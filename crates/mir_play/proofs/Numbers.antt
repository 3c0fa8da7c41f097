-- Bits of sums, products, shifts and signed numbers.
use Rattle.std.proofs.Common.{◌≡◌, refl, sym, ap, ◌∙◌, ℕ, zero, suc, ◌+◌, ◌-◌, ◌*◌, ◌/◌, ◌%◌, ◌^◌, ◌<◌, ◌≤◌, ◌⊎◌, inl, inr, ⊎_elim, Bool, true, false, cond, not, ◌&&◌, ◌||◌, max, min, arith, mod-eq_of_lt}
use Rattle.std.specs.Prelude.{ℤ, pos, negsuc, ◌-ℤ◌, ◌==◌, bit_and, bit_or, bit_xor}
use Rattle.std.specs.Int.{w32, w64, cast_signed, int_shr, bit_at}
use Rattle.std.proofs.lemmas.Bool.{cases_lt, lt-ltb, le-ltb}
use Rattle.std.proofs.lemmas.Int.{ints}
use Rattle.std.proofs.lemmas.Nat.{pow_pos, pow-add, mod-pow-add, mod_low, mod_below, shr-shr, shr_le, mul-mod, div_below}
use Rattle.std.proofs.lemmas.Nat.Bits.{bit_at-lt, bit_at-zero, bit_at_and, bit_at_or, bit_at_xor, bit_at_above, bit_at_cat_low, bit_at_cat_high, bit_at_not}
use Rattle.std.proofs.Math.Nat.{mul-add-mod_self_right, mod-add-div', div-one, pow-le-pow_right}
use Rattle.rj_num.specs.Width.{signed}
use Rattle.rv_core.specs.Step.{modulo}
use Rattle.walks.specs.Bits.{bit_of}
use Rattle.walks.proofs.Numbers.{same_bit}

-- a cut forgets a larger one
pub cut_again : (w k n : ℕ) → w ≤ k → n % 2 ^ k % 2 ^ w ≡ n % 2 ^ w
cut_again w k n le =
    let j : ℕ = k - w in
    let sum : j + w ≡ k = omega (arith, le) in
    ap (λ (z : ℕ). n % 2 ^ z % 2 ^ w) (sym sum) ∙ ap (λ (x : ℕ). x % 2 ^ w) (mod-pow-add n j w)
    ∙ mod_low (n / 2 ^ w % 2 ^ j) w (n % 2 ^ w) (mod_below n (2 ^ w) (pow_pos w))

-- the bits below a cut stay
pub bit_below_cut : (n k i : ℕ) → i < k → bit_of (n % 2 ^ k) i ≡ bit_of n i
bit_below_cut n k i h = same_bit (n % 2 ^ k) n i (cut_again (suc i) k n (omega (arith, h)))

-- ---- sums, differences and products by the power above a bit

split_at : (p m : ℕ) → m ≡ m / p * p + m % p
split_at p m = let e : m % p + m / p * p ≡ m = mod-add-div' m p in omega (arith, e)

pub add_by : (p m n : ℕ) → (m % p + n % p) % p ≡ (m + n) % p
add_by p m n =
    let x : m ≡ m / p * p + m % p = split_at p m in
    let y : n ≡ n / p * p + n % p = split_at p n in
    let sum : (m / p + n / p) * p ≡ m / p * p + n / p * p = omega arith in
    let all : m + n ≡ (m / p + n / p) * p + (m % p + n % p) = omega (arith, x, y, sum) in
    sym (ap (λ (z : ℕ). z % p) all ∙ mul-add-mod_self_right (m / p + n / p) p (m % p + n % p))

-- a difference modulo a multiple of the power
pub sub_by : (p t m n : ℕ) → 0 < p → n < t * p → ((m % p + p) - n % p) % p ≡ (m + (t * p - n)) % p
sub_by p t m n some low =
    let x : m ≡ m / p * p + m % p = split_at p m in
    let y : n ≡ n / p * p + n % p = split_at p n in
    let rest : n % p < p = mod_below n p some in
    let d : ℕ = t - n / p - 1 in
    let below : n / p < t = div_below n p t some low in
    let is : t ≡ n / p + d + 1 = omega (arith, below) in
    let product : t * p ≡ n / p * p + d * p + p = ap (λ (z : ℕ). z * p) is ∙ omega arith in
    let sum : (m / p + d) * p ≡ m / p * p + d * p = omega arith in
    let all : m + (t * p - n) ≡ (m / p + d) * p + ((m % p + p) - n % p) = omega (arith, x, y, rest, product, sum) in
    sym (ap (λ (z : ℕ). z % p) all ∙ mul-add-mod_self_right (m / p + d) p ((m % p + p) - n % p))

pub mul_by : (p m n : ℕ) → (m % p * (n % p)) % p ≡ (m * n) % p
mul_by p m n = sym (mul-mod m n p)

-- ---- and, or and xor

two : (n : ℕ) → n < 2 → (n ≡ 0) ⊎ (n ≡ 1)
two zero h = inl refl
two (suc zero) h = inr refl
two (suc (suc n)) h = absurd (let bad : ⊥ = omega (arith, h) in bad)

abbrev pub exclusive : Bool → Bool → Bool
exclusive true b = not b
exclusive false b = b

pub and_of : (m n i : ℕ) → bit_of (bit_and m n) i ≡ (bit_of m i && bit_of n i)
and_of m n i = rw bit_at_and (by (bit_at m i) (bit_at n i) (two _ (bit_at-lt m i)) (two _ (bit_at-lt n i)))
  where
    by : (a b : ℕ) → (a ≡ 0) ⊎ (a ≡ 1) → (b ≡ 0) ⊎ (b ≡ 1) → (min a b == 1) ≡ ((a == 1) && (b == 1))
    by a b (inl p) (inl q) = rw (p, q) refl
    by a b (inl p) (inr q) = rw (p, q) refl
    by a b (inr p) (inl q) = rw (p, q) refl
    by a b (inr p) (inr q) = rw (p, q) refl

pub or_of : (m n i : ℕ) → bit_of (bit_or m n) i ≡ (bit_of m i || bit_of n i)
or_of m n i = rw bit_at_or (by (bit_at m i) (bit_at n i) (two _ (bit_at-lt m i)) (two _ (bit_at-lt n i)))
  where
    by : (a b : ℕ) → (a ≡ 0) ⊎ (a ≡ 1) → (b ≡ 0) ⊎ (b ≡ 1) → (max a b == 1) ≡ ((a == 1) || (b == 1))
    by a b (inl p) (inl q) = rw (p, q) refl
    by a b (inl p) (inr q) = rw (p, q) refl
    by a b (inr p) (inl q) = rw (p, q) refl
    by a b (inr p) (inr q) = rw (p, q) refl

pub xor_of : (m n i : ℕ) → bit_of (bit_xor m n) i ≡ exclusive (bit_of m i) (bit_of n i)
xor_of m n i = rw bit_at_xor (by (bit_at m i) (bit_at n i) (two _ (bit_at-lt m i)) (two _ (bit_at-lt n i)))
  where
    by : (a b : ℕ) → (a ≡ 0) ⊎ (a ≡ 1) → (b ≡ 0) ⊎ (b ≡ 1) → ((a + b) % 2 == 1) ≡ exclusive (a == 1) (b == 1)
    by a b (inl p) (inl q) = rw (p, q) refl
    by a b (inl p) (inr q) = rw (p, q) refl
    by a b (inr p) (inl q) = rw (p, q) refl
    by a b (inr p) (inr q) = rw (p, q) refl

-- ---- shifts

pub left_low : (m k i : ℕ) → i < k → bit_of (m * 2 ^ k) i ≡ false
left_low m k i h =
    let e : m * 2 ^ k + 0 ≡ m * 2 ^ k = omega arith in
    ap (λ (x : ℕ). x == 1) (ap (λ (x : ℕ). bit_at x i) (sym e) ∙ bit_at_cat_low m k 0 i h ∙ bit_at-zero i)

pub left_high : (m k i : ℕ) → k ≤ i → bit_of (m * 2 ^ k) i ≡ bit_of m (i - k)
left_high m k i h =
    let e : m * 2 ^ k + 0 ≡ m * 2 ^ k = omega arith in
    ap (λ (x : ℕ). x == 1) (ap (λ (x : ℕ). bit_at x i) (sym e) ∙ bit_at_cat_high m k 0 i (pow_pos k) h)

pub right_of : (m k i : ℕ) → bit_of (m / 2 ^ k) i ≡ bit_of m (i + k)
right_of m k i =
    let e : k + i ≡ i + k = omega arith in
    ap (λ (x : ℕ). x % 2 == 1) (shr-shr m k i ∙ ap (λ (j : ℕ). m / 2 ^ j) e)

pub above_of : (m k i : ℕ) → m < 2 ^ k → k ≤ i → bit_of m i ≡ false
above_of m k i h le = ap (λ (x : ℕ). x == 1) (bit_at_above m k i h le)

-- the complement of a number of 64 bits
pub not_of : (m i : ℕ) → m < 2 ^ 64 → i < 64 → bit_of (2 ^ 64 - 1 - m) i ≡ not (bit_of m i)
not_of m i h low = ap (λ (x : ℕ). x == 1) (bit_at_not w64 m i h low) ∙ turned (bit_at m i) (two _ (bit_at-lt m i))
  where
    turned : (b : ℕ) → (b ≡ 0) ⊎ (b ≡ 1) → (1 - b == 1) ≡ not (b == 1)
    turned b (inl e) = rw e refl
    turned b (inr e) = rw e refl

-- ---- numbers with their sign

below_zero : (a b : ℕ) → a < b → pos a -ℤ pos b ≡ negsuc (b - a - 1)
below_zero a b h = grind (arith, ints)

pub positive : (w x : ℕ) → x < 2 ^ (w - 1) → signed w x ≡ pos x
positive w x h = ap (λ (b : Bool). cond (not b) (pos x -ℤ pos (2 ^ w)) (pos x)) (lt-ltb x (2 ^ (w - 1)) h)

pub negative : (w x : ℕ) → 2 ^ (w - 1) ≤ x → x < 2 ^ w → signed w x ≡ negsuc (2 ^ w - x - 1)
negative w x h k = ap (λ (b : Bool). cond (not b) (pos x -ℤ pos (2 ^ w)) (pos x)) (le-ltb x (2 ^ (w - 1)) h) ∙ below_zero x (2 ^ w) k

half : (w : ℕ) → 1 ≤ w → 2 ^ (w - 1) * 2 ≡ 2 ^ w
half w h = let e : w - 1 + 1 ≡ w = omega (arith, h) in sym (pow-add 2 (w - 1) 1) ∙ ap (λ (j : ℕ). 2 ^ j) e

cast_positive_32 : (n : ℕ) → n < 2 ^ 31 → cast_signed w32 n ≡ pos n
cast_positive_32 n h = grind (arith, ints)

cast_negative_32 : (n : ℕ) → 2 ^ 31 ≤ n → n < 2 ^ 32 → cast_signed w32 n ≡ negsuc (2 ^ 32 - n - 1)
cast_negative_32 n h k = grind (arith, ints)

cast_positive_64 : (n : ℕ) → n < 2 ^ 63 → cast_signed w64 n ≡ pos n
cast_positive_64 n h = grind (arith, ints)

cast_negative_64 : (n : ℕ) → 2 ^ 63 ≤ n → n < 2 ^ 64 → cast_signed w64 n ≡ negsuc (2 ^ 64 - n - 1)
cast_negative_64 n h k = grind (arith, ints)

pub cast_32 : (n : ℕ) → n < 2 ^ 32 → cast_signed w32 n ≡ signed 32 n
cast_32 n h = ⊎_elim (λ l. cast_positive_32 n l ∙ sym (positive 32 n l)) (λ l. cast_negative_32 n l h ∙ sym (negative 32 n l h)) (cases_lt n (2 ^ 31))

pub cast_64 : (n : ℕ) → n < 2 ^ 64 → cast_signed w64 n ≡ signed 64 n
cast_64 n h = ⊎_elim (λ l. cast_positive_64 n l ∙ sym (positive 64 n l)) (λ l. cast_negative_64 n l h ∙ sym (negative 64 n l h)) (cases_lt n (2 ^ 63))

shr_zero : (z : ℤ) → int_shr z 0 ≡ z
shr_zero (pos a) = ap pos (div-one a)
shr_zero (negsuc a) = ap negsuc (div-one a)

twice_not : (b : Bool) → not (not b) ≡ b
twice_not true = refl
twice_not false = refl

-- the complement of a number of so many bits
abbrev pub Turns : ℕ → Type 0
Turns w = (x i : ℕ) → x < 2 ^ w → i < w → bit_of (2 ^ w - 1 - x) i ≡ not (bit_of x i)

pub turns_64 : Turns 64
turns_64 = not_of

pub turns_32 : Turns 32
turns_32 x i h low = ap (λ (x : ℕ). x == 1) (bit_at_not w32 x i h low) ∙ turned (bit_at x i) (two _ (bit_at-lt x i))
  where
    turned : (b : ℕ) → (b ≡ 0) ⊎ (b ≡ 1) → (1 - b == 1) ≡ not (b == 1)
    turned b (inl e) = rw e refl
    turned b (inr e) = rw e refl

-- A number of so many bits, read with its sign and shifted right: its bits, and copies of its sign above them.
module _ (w : ℕ) (some : 1 ≤ w) (small : w ≤ 64) (turns : Turns w) (x : ℕ) (h : x < 2 ^ w) (k i : ℕ) (low : i < 64) where
  abbrev shifted_bit : Bool
  shifted_bit = bit_of (modulo (int_shr (signed w x) k)) i

  within : 2 ^ w ≤ 2 ^ 64
  within = let two : 0 < 2 = omega arith in pow-le-pow_right two small

  -- what is seen of one that isn't below 0
  of_positive : x < 2 ^ (w - 1) → shifted_bit ≡ bit_of x (i + k)
  of_positive l =
      ap (λ (z : ℤ). bit_of (modulo (int_shr z k)) i) (positive w x l) ∙ bit_below_cut (x / 2 ^ k) 64 i low ∙ right_of x k i

  abbrev rest : ℕ
  rest = 2 ^ w - 1 - x

  rest_below : 2 ^ (w - 1) ≤ x → rest < 2 ^ (w - 1)
  rest_below l = let two_halves = half w some in let p = pow_pos (w - 1) in omega (arith, l, h, two_halves, p)

  of_negative : 2 ^ (w - 1) ≤ x → shifted_bit ≡ not (bit_of rest (i + k))
  of_negative l =
      let same : 2 ^ w - x - 1 ≡ rest = omega (arith, h) in
      let less : rest / 2 ^ k < 2 ^ 64 = (let d = shr_le rest k in let p = within in omega (arith, d, p, h)) in
      ap (λ (z : ℤ). bit_of (modulo (int_shr z k)) i) (negative w x l h)
      ∙ ap (λ (y : ℕ). bit_of (2 ^ 64 - 1 - y / 2 ^ k % 2 ^ 64) i) same
      ∙ ap (λ (y : ℕ). bit_of (2 ^ 64 - 1 - y) i) (mod-eq_of_lt less)
      ∙ not_of (rest / 2 ^ k) i less low
      ∙ ap not (right_of rest k i)

  pub shifted_inside : i + k < w → shifted_bit ≡ bit_of x (i + k)
  shifted_inside inside =
      ⊎_elim of_positive (λ l. of_negative l ∙ ap not (turns x (i + k) h inside) ∙ twice_not (bit_of x (i + k))) (cases_lt x (2 ^ (w - 1)))

  sign_of_positive : x < 2 ^ (w - 1) → bit_of x (w - 1) ≡ false
  sign_of_positive l = above_of x (w - 1) (w - 1) l (omega arith)

  sign_of_negative : 2 ^ (w - 1) ≤ x → bit_of x (w - 1) ≡ true
  sign_of_negative l =
      sym (twice_not (bit_of x (w - 1))) ∙ ap not (sym (turns x (w - 1) h (omega (arith, some))))
      ∙ ap not (above_of rest (w - 1) (w - 1) (rest_below l) (omega arith))

  pub shifted_past : w ≤ i + k → shifted_bit ≡ bit_of x (w - 1)
  shifted_past past =
      ⊎_elim
      (λ l. of_positive l ∙ above_of x w (i + k) h past ∙ sym (sign_of_positive l))
      (λ l. of_negative l ∙ ap not (above_of rest (w - 1) (i + k) (rest_below l) (omega (arith, past))) ∙ sym (sign_of_negative l))
      (cases_lt x (2 ^ (w - 1)))

-- a number of 32 bits with its sign, in 64 bits
pub extended_inside : (x i : ℕ) → x < 2 ^ 32 → i < 32 → bit_of (modulo (signed 32 x)) i ≡ bit_of x i
extended_inside x i h low =
    let e : i + 0 ≡ i = omega arith in
    ap (λ (z : ℤ). bit_of (modulo z) i) (sym (shr_zero (signed 32 x)))
    ∙ shifted_inside 32 (omega arith) (omega arith) turns_32 x h 0 i (omega (arith, low)) (omega (arith, low)) ∙ ap (bit_of x) e

pub extended_past : (x i : ℕ) → x < 2 ^ 32 → 32 ≤ i → i < 64 → bit_of (modulo (signed 32 x)) i ≡ bit_of x 31
extended_past x i h high low =
    ap (λ (z : ℤ). bit_of (modulo z) i) (sym (shr_zero (signed 32 x)))
    ∙ shifted_past 32 (omega arith) (omega arith) turns_32 x h 0 i low (omega (arith, high))
