-- Numbers of a width in 64 bits, with zeros above them or with their sign.
use Rattle.std.proofs.Common.{◌≡◌, refl, sym, ap, subst, ◌∙◌, ℕ, zero, suc, ◌+◌, ◌-◌, ◌*◌, ◌/◌, ◌%◌, ◌^◌, ◌<◌, ◌≤◌, ⊎_elim, Bool, true, false, not, Some, None, arith, mod-eq_of_lt}
use Rattle.std.specs.Prelude.{ℤ, pos, negsuc, ◌-ℤ◌, ◌==◌, if◌then◌else◌}
use Rattle.std.specs.Int.{bit_at}
use Rattle.std.proofs.lemmas.Bool.{cases_lt, lt-ltb, le-ltb}
use Rattle.std.proofs.lemmas.Int.{ints}
use Rattle.std.proofs.lemmas.Nat.{pow_pos, pow-add, mod_low, mod_below, div_below}
use Rattle.std.proofs.lemmas.Nat.Bits.{bit_at_above, bit_at_ones, bit_at_ones_above, bit_at_cat_low, bit_at_cat_high}
use Rattle.std.proofs.Math.Nat.{pow-le-pow_right, mod-add-div'}
use Rattle.std.proofs.Math.Pow.{mod-mod-pow}
use Rattle.rj_num.specs.Width.{is_negative, signed, modulo}
use Rattle.walks.specs.Walk.{Bits}
use Rattle.walks.specs.Bits.{bit_of, with_bit, number, constant}
use Rattle.walks.proofs.Numbers.{lt_true, number_constant, same_bit}

-- ---- powers

pub double : (w : ℕ) → 1 ≤ w → 2 ^ (w - 1) + 2 ^ (w - 1) ≡ 2 ^ w
double w h =
    let e : w - 1 + 1 ≡ w = omega (arith, h) in
    let two : 2 ^ (w - 1) * 2 ≡ 2 ^ w = sym (pow-add 2 (w - 1) 1) ∙ ap (λ (j : ℕ). 2 ^ j) e in
    omega (arith, two)

pub power_low : (v w : ℕ) → v ≤ w → 2 ^ v ≤ 2 ^ w
power_low v w h = let two : 0 < 2 = omega arith in pow-le-pow_right two h

pub power_split : (v w : ℕ) → v ≤ w → 2 ^ w ≡ 2 ^ (w - v) * 2 ^ v
power_split v w h = let e : w - v + v ≡ w = omega (arith, h) in sym (ap (λ (j : ℕ). 2 ^ j) e) ∙ pow-add 2 (w - v) v

-- ---- low bits

pub cut_low : (n w i : ℕ) → i < w → n % 2 ^ w % 2 ^ suc i ≡ n % 2 ^ suc i
cut_low n w i h =
    let count : (w - suc i) + suc i ≡ w = omega (arith, h) in
    subst (λ (k : ℕ). n % 2 ^ k % 2 ^ suc i ≡ n % 2 ^ suc i) count (mod-mod-pow n (w - suc i) (suc i))

pub cut_bit : (n w i : ℕ) → i < w → bit_of (n % 2 ^ w) i ≡ bit_of n i
cut_bit n w i h = same_bit (n % 2 ^ w) n i (cut_low n w i h)

pub above_of : (n w i : ℕ) → n < 2 ^ w → w ≤ i → bit_of n i ≡ false
above_of n w i h l = ap (λ (x : ℕ). x == 1) (bit_at_above n w i h l)

pub ones_low : (w i : ℕ) → i < w → bit_of (2 ^ w - 1) i ≡ true
ones_low w i h = ap (λ (x : ℕ). x == 1) (bit_at_ones w i h)

pub ones_high : (w i : ℕ) → w ≤ i → bit_of (2 ^ w - 1) i ≡ false
ones_high w i h = ap (λ (x : ℕ). x == 1) (bit_at_ones_above w i h)

-- the number of bits that are known
pub number_is : (a : Bits) (n : ℕ) → n < 2 ^ 64 → ((i : ℕ) → i < 64 → a i ≡ Some (bit_of n i)) → number 64 a ≡ Some n
number_is a n low h =
    same 64 a (constant 64 n) (λ i l. h i l ∙ sym (ap (λ (b : Bool). if b then Some (bit_of n i) else None) (lt_true i 64 l)))
    ∙ number_constant 64 64 n (omega arith) ∙ ap Some (mod-eq_of_lt low)
  where
    same : (k : ℕ) (a b : Bits) → ((i : ℕ) → i < k → a i ≡ b i) → number k a ≡ number k b
    same zero a b h = refl
    same (suc k) a b h = ap (λ o. with_bit k o (a k)) (same k a b (λ i l. h i (omega (arith, l)))) ∙ ap (with_bit k (number k b)) (h k (omega arith))

-- ---- numbers with their sign

-- a number of a width in 64 bits, with its sign
abbrev pub extend_by : Bool → ℕ → ℕ → ℕ
extend_by negative w m = if negative then (m + 2 ^ 64) - 2 ^ w else m

abbrev pub extend : ℕ → ℕ → ℕ
extend w m = extend_by (is_negative w m) w m

pub is_not_negative : (w m : ℕ) → m < 2 ^ (w - 1) → is_negative w m ≡ false
is_not_negative w m h = ap not (lt-ltb m (2 ^ (w - 1)) h)

pub is_then_negative : (w m : ℕ) → 2 ^ (w - 1) ≤ m → is_negative w m ≡ true
is_then_negative w m h = ap not (le-ltb m (2 ^ (w - 1)) h)

below_zero : (a b : ℕ) → a < b → pos a -ℤ pos b ≡ negsuc (b - a - 1)
below_zero a b h = grind (arith, ints)

pub positive : (w x : ℕ) → x < 2 ^ (w - 1) → signed w x ≡ pos x
positive w x h = ap (λ (b : Bool). if b then pos x -ℤ pos (2 ^ w) else pos x) (is_not_negative w x h)

pub negative : (w x : ℕ) → 2 ^ (w - 1) ≤ x → x < 2 ^ w → signed w x ≡ negsuc (2 ^ w - x - 1)
negative w x h k = ap (λ (b : Bool). if b then pos x -ℤ pos (2 ^ w) else pos x) (is_then_negative w x h) ∙ below_zero x (2 ^ w) k

module _ (w : ℕ) (some : 1 ≤ w) (small : w ≤ 64) (m : ℕ) (low : m < 2 ^ w) where
  powers : 2 ^ w ≤ 2 ^ 64
  powers = power_low w 64 small

  halves : 2 ^ (w - 1) ≤ 2 ^ 63
  halves = power_low (w - 1) 63 (omega (arith, small))

  extend_of_positive : m < 2 ^ (w - 1) → extend w m ≡ m
  extend_of_positive h = ap (λ (b : Bool). extend_by b w m) (is_not_negative w m h)

  extend_of_negative : 2 ^ (w - 1) ≤ m → extend w m ≡ (m + 2 ^ 64) - 2 ^ w
  extend_of_negative h = ap (λ (b : Bool). extend_by b w m) (is_then_negative w m h)

  pub extend_low : extend w m < 2 ^ 64
  extend_low =
      ⊎_elim
      (λ h. let e = extend_of_positive h in let p = powers in omega (arith, e, p, low))
      (λ h. let e = extend_of_negative h in let p = powers in omega (arith, e, p, low))
      (cases_lt m (2 ^ (w - 1)))

  -- it is the same number
  pub signed_extend : signed 64 (extend w m) ≡ signed w m
  signed_extend =
      ⊎_elim
      (λ h. ap (signed 64) (extend_of_positive h) ∙ positive 64 m (let p = halves in omega (arith, p, h)) ∙ sym (positive w m h))
      (λ h. ap (signed 64) (extend_of_negative h)
      ∙ negative 64 ((m + 2 ^ 64) - 2 ^ w) (let p = halves in let d = double w some in let q = powers in omega (arith, p, d, q, h)) (let q = powers in omega (arith, q, low))
      ∙ ap negsuc (let q = powers in let z : 2 ^ 64 - ((m + 2 ^ 64) - 2 ^ w) - 1 ≡ 2 ^ w - m - 1 = omega (arith, q, low) in z) ∙ sym (negative w m h low))
      (cases_lt m (2 ^ (w - 1)))

  as_sum : 2 ^ (w - 1) ≤ m → extend w m ≡ (2 ^ (64 - w) - 1) * 2 ^ w + m
  as_sum h =
      let e = extend_of_negative h in
      let s = power_split w 64 small in
      let p = pow_pos (64 - w) in
      let q = times_less (2 ^ (64 - w)) (2 ^ w) p in
      omega (arith, e, s, q)
    where
      times_less : (k n : ℕ) → 0 < k → (k - 1) * n + n ≡ k * n
      times_less zero n h = absurd (let bad : ⊥ = omega (arith, h) in bad)
      times_less (suc k) n h = let e : suc k - 1 ≡ k = omega arith in ap (λ (z : ℕ). z * n + n) e ∙ omega arith

  -- its bits are those of the number, and copies of its sign
  pub extend_inside : (i : ℕ) → i < w → bit_of (extend w m) i ≡ bit_of m i
  extend_inside i l =
      ⊎_elim
      (λ h. ap (λ (x : ℕ). bit_of x i) (extend_of_positive h))
      (λ h. ap (λ (x : ℕ). bit_of x i) (as_sum h) ∙ ap (λ (x : ℕ). x == 1) (bit_at_cat_low (2 ^ (64 - w) - 1) w m i l))
      (cases_lt m (2 ^ (w - 1)))

  pub extend_above : (i : ℕ) → w ≤ i → i < 64 → bit_of (extend w m) i ≡ is_negative w m
  extend_above i l top =
      ⊎_elim
      (λ h. ap (λ (x : ℕ). bit_of x i) (extend_of_positive h) ∙ above_of m w i low l ∙ sym (is_not_negative w m h))
      (λ h. ap (λ (x : ℕ). bit_of x i) (as_sum h) ∙ ap (λ (x : ℕ). x == 1) (bit_at_cat_high (2 ^ (64 - w) - 1) w m i low l)
      ∙ ones_low (64 - w) (i - w) (omega (arith, l, top)) ∙ sym (is_then_negative w m h))
      (cases_lt m (2 ^ (w - 1)))

  -- the highest bit is the sign
  pub sign_bit : bit_of m (w - 1) ≡ is_negative w m
  sign_bit =
      ⊎_elim
      (λ h. above_of m (w - 1) (w - 1) h (omega arith) ∙ sym (is_not_negative w m h))
      (λ h. one h ∙ sym (is_then_negative w m h))
      (cases_lt m (2 ^ (w - 1)))
    where
      one : 2 ^ (w - 1) ≤ m → bit_of m (w - 1) ≡ true
      one h =
          let d = double w some in
          let rest : m - 2 ^ (w - 1) < 2 ^ (w - 1) = omega (arith, d, h, low) in
          let e : m ≡ 1 * 2 ^ (w - 1) + (m - 2 ^ (w - 1)) = omega (arith, h) in
          let none : (w - 1) - (w - 1) ≡ 0 = omega arith in
          ap (λ (x : ℕ). bit_of x (w - 1)) e
          ∙ ap (λ (x : ℕ). x == 1) (bit_at_cat_high 1 (w - 1) (m - 2 ^ (w - 1)) (w - 1) rest (omega arith) ∙ ap (bit_at 1) none)

test_same : (a b c d : ℕ) → (a ≡ b → c ≡ d) → (c ≡ d → a ≡ b) → (a == b) ≡ (c == d)
test_same a b c d f g = by (a == b) refl (c == d) refl
  where
    equal : (x y : ℕ) → (x == y) ≡ true → x ≡ y
    equal x y e = grind arith

    by : (s : Bool) → (a == b) ≡ s → (t : Bool) → (c == d) ≡ t → (a == b) ≡ (c == d)
    by true e true h = e ∙ sym h
    by false e false h = e ∙ sym h
    by true e false h = let same : c ≡ d = f (equal a b e) in grind (arith, same, e, h)
    by false e true h = let same : a ≡ b = g (equal c d h) in grind (arith, same, e, h)

-- numbers that extend to one are one
pub extend_same : (w m n : ℕ) → 1 ≤ w → w ≤ 64 → m < 2 ^ w → n < 2 ^ w → (extend w m == extend w n) ≡ (m == n)
extend_same w m n some small l l' =
    ⊎_elim
    (λ h. ⊎_elim
    (λ k. rw (extend_of_positive w some small m l h, extend_of_positive w some small n l' k) refl)
    (λ k. test_same (extend w m) (extend w n) m n
    (λ e. let x = extend_of_positive w some small m l h in let y = extend_of_negative w some small n l' k in let q = p in omega (arith, e, x, y, q, h, k, l))
    (λ e. absurd (let bad : ⊥ = omega (arith, e, h, k) in bad)))
    (cases_lt n (2 ^ (w - 1))))
    (λ h. ⊎_elim
    (λ k. test_same (extend w m) (extend w n) m n
    (λ e. let x = extend_of_negative w some small m l h in let y = extend_of_positive w some small n l' k in let q = p in omega (arith, e, x, y, q, h, k, l))
    (λ e. absurd (let bad : ⊥ = omega (arith, e, h, k) in bad)))
    (λ k. test_same (extend w m) (extend w n) m n
    (λ e. let x = extend_of_negative w some small m l h in let y = extend_of_negative w some small n l' k in let q = p in omega (arith, e, x, y, q))
    (λ e. ap (extend w) e))
    (cases_lt n (2 ^ (w - 1))))
    (cases_lt m (2 ^ (w - 1)))
  where
    p : 2 ^ w ≤ 2 ^ 64
    p = power_low w 64 small

-- ---- integers modulo a power

complement : (n k j : ℕ) → j ≤ k → (2 ^ k - 1 - n % 2 ^ k) % 2 ^ j ≡ 2 ^ j - 1 - n % 2 ^ j
complement n k j h =
    let count : k - j + j ≡ k = omega (arith, h) in
    let rest : n % 2 ^ k % 2 ^ j ≡ n % 2 ^ j = subst (λ (x : ℕ). n % 2 ^ x % 2 ^ j ≡ n % 2 ^ j) count (mod-mod-pow n (k - j) j) in
    let whole : n % 2 ^ k % 2 ^ j + n % 2 ^ k / 2 ^ j * 2 ^ j ≡ n % 2 ^ k = mod-add-div' (n % 2 ^ k) (2 ^ j) in
    let top : 2 ^ k ≡ 2 ^ (k - j) * 2 ^ j = power_split j k h in
    let below : n % 2 ^ k < 2 ^ k = mod_below n (2 ^ k) (pow_pos k) in
    let small : n % 2 ^ k % 2 ^ j < 2 ^ j = mod_below (n % 2 ^ k) (2 ^ j) (pow_pos j) in
    let quotient : n % 2 ^ k / 2 ^ j < 2 ^ (k - j) = div_below (n % 2 ^ k) (2 ^ j) (2 ^ (k - j)) (pow_pos j) (let z : n % 2 ^ k < 2 ^ (k - j) * 2 ^ j = omega (arith, below, top) in z) in
    turn (2 ^ k) (2 ^ (k - j)) (2 ^ j) (n % 2 ^ k) (n % 2 ^ k / 2 ^ j) (n % 2 ^ k % 2 ^ j) j refl top whole small quotient
    ∙ ap (λ (x : ℕ). 2 ^ j - 1 - x) rest
  where
    turn : (a t p y q r j : ℕ) → p ≡ 2 ^ j → a ≡ t * p → r + q * p ≡ y → r < p → q < t → (a - 1 - y) % p ≡ p - 1 - r
    turn a t p y q r j e top whole small quotient =
        let d : ℕ = t - 1 - q in
        let is : t ≡ q + d + 1 = omega (arith, quotient) in
        let product : t * p ≡ q * p + d * p + p = ap (λ (z : ℕ). z * p) is ∙ omega arith in
        let all : a - 1 - y ≡ d * p + (p - 1 - r) = omega (arith, top, product, whole, small) in
        let low : p - 1 - r < 2 ^ j = omega (arith, e, small) in
        ap (λ (z : ℕ). z % p) all ∙ ap (λ (z : ℕ). (d * z + (p - 1 - r)) % z) e ∙ mod_low d j (p - 1 - r) low

pub modulo_bit : (z : ℤ) (w i : ℕ) → i < w → w ≤ 64 → bit_of (modulo w z) i ≡ bit_of (modulo 64 z) i
modulo_bit (pos n) w i h l = cut_bit n w i h ∙ sym (cut_bit n 64 i (omega (arith, h, l)))
modulo_bit (negsuc n) w i h l =
    same_bit (2 ^ w - 1 - n % 2 ^ w) (2 ^ 64 - 1 - n % 2 ^ 64) i
    (complement n w (suc i) (omega (arith, h)) ∙ sym (complement n 64 (suc i) (omega (arith, h, l))))
