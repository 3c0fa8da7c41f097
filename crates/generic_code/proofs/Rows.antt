-- What generic operations give on numbers is what the instructions give.
use Rattle.std.proofs.Common.{◌≡◌, refl, sym, ap, subst, ◌∙◌, ℕ, zero, suc, ◌+◌, ◌-◌, ◌*◌, ◌%◌, ◌^◌, ◌<◌, ◌≤◌, ◌⊎◌, inl, inr, Bool, true, false, Option, Some, None, arith}
use Rattle.std.specs.Prelude.{nat_lt, ◌==◌, ◌&&◌, ◌||◌, not, if◌then◌else◌, bit_and, bit_or, bit_xor, min, max, pos, negsuc, ◌-ℤ◌}
use Rattle.std.specs.Int.{bit_at}
use Rattle.std.proofs.Math.Nat.{mod-eq_of_lt, mod-lt, add-mod-mod, mod-add-mod, add-mod_right}
use Rattle.std.proofs.Math.Pow.{mod-mod-pow}
use Rattle.std.proofs.lemmas.Nat.{pow_pos, mul-mod}
use Rattle.std.proofs.lemmas.Int.{ints}
use Rattle.std.proofs.lemmas.Bool.{cases_lt}
use Rattle.std.proofs.lemmas.Nat.Bits.{bit_at_and, bit_at_or, bit_at_xor, bit_at-lt}
use Rattle.ir_core.specs.declared.code.Flags.{Flags}
use Rattle.ir_meaning.specs.Value.{poison_if}
use Rattle.ir_meaning.specs.Operators.{add, sub, mul}
use Rattle.rj_num.specs.Width.{modulo}
use Rattle.walks.specs.Walk.{Bits}
use Rattle.walks.specs.Refines.{RefinesBits}
use Rattle.walks.specs.Bits.{constant, bit_of, number, low_exact, whole, bitwise, and_bit, or_bit, xor_bit, add_low, sub_low, mul_low}
use Rattle.walks.specs.Functions.{bits_of}
use Rattle.walks.proofs.Numbers.{number_constant, same_bit, lt_true}

-- a poison value asks nothing
pub poison_row : (w : ℕ) (broken : Bool) (r : ℕ) (a : Bits) → RefinesBits (constant w r) a → RefinesBits (bits_of w (poison_if broken r)) a
poison_row w true r a h = λ i b e. absurd (let bad : ⊥ = cc in bad)
poison_row w false r a h = h

-- two known bits are the same
same_known : (x y : Bool) (b : Bool) → x ≡ y → Some x ≡ Some b → Some y ≡ Some b
same_known x y b e h = ap Some (sym e) ∙ h

lt_of : (i w : ℕ) → nat_lt i w ≡ true → i < w
lt_of i w h = grind arith

-- by each bit below the width
pub by_bits : (w r : ℕ) (a : Bits) → ((i : ℕ) → i < w → a i ≡ Some (bit_of r i)) → RefinesBits (constant w r) a
by_bits w r a h i = by_place (nat_lt i w) refl
  where
    by_place : (below : Bool) → nat_lt i w ≡ below → (b : Bool) → (if below then Some (bit_of r i) else None) ≡ Some b → a i ≡ Some b
    by_place true e b k = h i (lt_of i w e) ∙ k
    by_place false e b k = absurd (let bad : ⊥ = cc in bad)

-- the remainder by a lower power
pub mod_low : (n i w : ℕ) → i < w → n % 2 ^ w % 2 ^ suc i ≡ n % 2 ^ suc i
mod_low n i w h =
    let count : (w - suc i) + suc i ≡ w = omega arith in
    subst (λ (k : ℕ). n % 2 ^ k % 2 ^ suc i ≡ n % 2 ^ suc i) count (mod-mod-pow n (w - suc i) (suc i))

-- ---- operations that are exact below the lowest free bit

low_row : (f : ℕ → ℕ → ℕ → ℕ) (w x y r : ℕ) → ((i : ℕ) → i < w → f (suc i) (x % 2 ^ suc i) (y % 2 ^ suc i) % 2 ^ suc i ≡ r % 2 ^ suc i)
    → RefinesBits (constant w r) (low_exact f w (constant w x) (constant w y))
low_row f w x y r h = by_bits w r _ (λ i below.
    let one : number (suc i) (constant w x) ≡ Some (x % 2 ^ suc i) = number_constant w (suc i) x (omega arith) in
    let two : number (suc i) (constant w y) ≡ Some (y % 2 ^ suc i) = number_constant w (suc i) y (omega arith) in
    let inside : nat_lt i w ≡ true = lt_true i w below in
    rw (one, two, inside) (ap Some (same_bit _ r i (h i below))))

pub add_row : (flags : Flags) (w x y : ℕ) → RefinesBits (bits_of w (add flags w x y)) (low_exact add_low w (constant w x) (constant w y))
add_row flags w x y = poison_row w _ ((x + y) % 2 ^ w) _ (low_row add_low w x y ((x + y) % 2 ^ w) (λ i below.
    mod-add-mod x (2 ^ suc i) (y % 2 ^ suc i) ∙ add-mod-mod x y (2 ^ suc i) ∙ sym (mod_low (x + y) i w below)))

pub mul_row : (flags : Flags) (w x y : ℕ) → RefinesBits (bits_of w (mul flags w x y)) (low_exact mul_low w (constant w x) (constant w y))
mul_row flags w x y = poison_row w _ ((x * y) % 2 ^ w) _ (low_row mul_low w x y ((x * y) % 2 ^ w) (λ i below.
    sym (mul-mod x y (2 ^ suc i)) ∙ sym (mod_low (x * y) i w below)))

-- a sum of two remainders is one, or passes the modulus once
wrapped : (s p x : ℕ) → s < p + p → s % p ≡ x → (s ≡ x) ⊎ (s ≡ x + p)
wrapped s p x small h = by_size (cases_lt s p)
  where
    by_size : (s < p) ⊎ (p ≤ s) → (s ≡ x) ⊎ (s ≡ x + p)
    by_size (inl l) = inl (sym (mod-eq_of_lt l) ∙ h)
    by_size (inr l) =
        let again : (s - p) + p ≡ s = omega (arith, l) in
        let low : s - p < p = omega (arith, l, small) in
        let one : s % p ≡ s - p = ap (λ n. n % p) (sym again) ∙ add-mod_right (s - p) p ∙ mod-eq_of_lt low in
        let two : s - p ≡ x = sym one ∙ h in
        inr (omega (arith, two, again))

-- what is left of a difference, from what is left of its sum with what was taken away
taken_away : (d y x p : ℕ) → 0 < p → (d + y) % p ≡ x % p → ((x % p + p) - y % p) % p ≡ d % p
taken_away d y x p some h = by_wrap (wrapped (d % p + y % p) p (x % p) sum_small sum)
  where
    d_small : d % p < p
    d_small = mod-lt d some

    y_small : y % p < p
    y_small = mod-lt y some

    sum_small : d % p + y % p < p + p
    sum_small = let one = d_small in let two = y_small in omega (arith, one, two)

    sum : (d % p + y % p) % p ≡ x % p
    sum = mod-add-mod d p (y % p) ∙ add-mod-mod d y p ∙ h

    by_wrap : (d % p + y % p ≡ x % p) ⊎ (d % p + y % p ≡ x % p + p) → ((x % p + p) - y % p) % p ≡ d % p
    by_wrap (inl e) =
        let is : (x % p + p) - y % p ≡ d % p + p = omega (arith, e) in
        ap (λ n. n % p) is ∙ add-mod_right (d % p) p ∙ mod-eq_of_lt d_small
    by_wrap (inr e) =
        let is : (x % p + p) - y % p ≡ d % p = omega (arith, e) in
        ap (λ n. n % p) is ∙ mod-eq_of_lt d_small

below_zero : (a b : ℕ) → a < b → pos a -ℤ pos b ≡ negsuc (b - a - 1)
below_zero a b h = grind (arith, ints)

not_below_zero : (a b : ℕ) → b ≤ a → pos a -ℤ pos b ≡ pos (a - b)
not_below_zero a b h = grind (arith, ints)

-- a difference modulo two to the width, and what was taken away
difference : (w x y : ℕ) → x < 2 ^ w → y < 2 ^ w → (modulo w (pos x -ℤ pos y) + y ≡ x) ⊎ (modulo w (pos x -ℤ pos y) + y ≡ x + 2 ^ w)
difference w x y fits fits' = by_order (cases_lt x y)
  where
    by_order : (x < y) ⊎ (y ≤ x) → (modulo w (pos x -ℤ pos y) + y ≡ x) ⊎ (modulo w (pos x -ℤ pos y) + y ≡ x + 2 ^ w)
    by_order (inl l) =
        let small : y - x - 1 < 2 ^ w = omega (arith, fits') in
        let is : modulo w (pos x -ℤ pos y) ≡ 2 ^ w - 1 - (y - x - 1) = ap (modulo w) (below_zero x y l) ∙ ap (λ n. 2 ^ w - 1 - n) (mod-eq_of_lt small) in
        inr (omega (arith, is, l, fits'))
    by_order (inr l) =
        let small : x - y < 2 ^ w = omega (arith, fits) in
        let is : modulo w (pos x -ℤ pos y) ≡ x - y = ap (modulo w) (not_below_zero x y l) ∙ mod-eq_of_lt small in
        inl (omega (arith, is, l))

pub sub_row : (flags : Flags) (w x y : ℕ) → x < 2 ^ w → y < 2 ^ w → RefinesBits (bits_of w (sub flags w x y)) (low_exact sub_low w (constant w x) (constant w y))
sub_row flags w x y fits fits' = poison_row w _ (modulo w (pos x -ℤ pos y)) _ (low_row sub_low w x y (modulo w (pos x -ℤ pos y)) (λ i below.
    taken_away (modulo w (pos x -ℤ pos y)) y x (2 ^ suc i) (pow_pos (suc i)) (by_sum i below (difference w x y fits fits'))))
  where
    by_sum : (i : ℕ) → i < w → (modulo w (pos x -ℤ pos y) + y ≡ x) ⊎ (modulo w (pos x -ℤ pos y) + y ≡ x + 2 ^ w) → (modulo w (pos x -ℤ pos y) + y) % 2 ^ suc i ≡ x % 2 ^ suc i
    by_sum i below (inl e) = ap (λ n. n % 2 ^ suc i) e
    by_sum i below (inr e) = ap (λ n. n % 2 ^ suc i) e ∙ sym (mod_low (x + 2 ^ w) i w below) ∙ ap (λ n. n % 2 ^ suc i) (add-mod_right x (2 ^ w)) ∙ mod_low x i w below

-- ---- operations of all bits

pub whole_row : (f : ℕ → ℕ → ℕ) (v w x y : ℕ) → x < 2 ^ v → y < 2 ^ v → RefinesBits (constant w (f x y)) (whole f v w (constant v x) (constant v y))
whole_row f v w x y fits fits' = by_bits w (f x y) _ (λ i below.
    let one : number v (constant v x) ≡ Some x = number_constant v v x (omega arith) ∙ ap Some (mod-eq_of_lt fits) in
    let two : number v (constant v y) ≡ Some y = number_constant v v y (omega arith) ∙ ap Some (mod-eq_of_lt fits') in
    let inside : nat_lt i w ≡ true = lt_true i w below in
    rw (one, two, inside) refl)

-- ---- bit by bit

bit_same : (n i : ℕ) → bit_of n i ≡ (bit_at n i == 1)
bit_same n i = refl

and_bits : (a b : ℕ) → a < 2 → b < 2 → (min a b == 1) ≡ ((a == 1) && (b == 1))
and_bits zero zero h k = refl
and_bits zero (suc zero) h k = refl
and_bits (suc zero) zero h k = refl
and_bits (suc zero) (suc zero) h k = refl
and_bits (suc (suc a)) b h k = absurd (let bad : ⊥ = omega (arith, h) in bad)
and_bits zero (suc (suc b)) h k = absurd (let bad : ⊥ = omega (arith, k) in bad)
and_bits (suc zero) (suc (suc b)) h k = absurd (let bad : ⊥ = omega (arith, k) in bad)

or_bits : (a b : ℕ) → a < 2 → b < 2 → (max a b == 1) ≡ ((a == 1) || (b == 1))
or_bits zero zero h k = refl
or_bits zero (suc zero) h k = refl
or_bits (suc zero) zero h k = refl
or_bits (suc zero) (suc zero) h k = refl
or_bits (suc (suc a)) b h k = absurd (let bad : ⊥ = omega (arith, h) in bad)
or_bits zero (suc (suc b)) h k = absurd (let bad : ⊥ = omega (arith, k) in bad)
or_bits (suc zero) (suc (suc b)) h k = absurd (let bad : ⊥ = omega (arith, k) in bad)

-- unlike
abbrev unlike : Bool → Bool → Bool
unlike true b = not b
unlike false b = b

xor_bits : (a b : ℕ) → a < 2 → b < 2 → ((a + b) % 2 == 1) ≡ unlike (a == 1) (b == 1)
xor_bits zero zero h k = refl
xor_bits zero (suc zero) h k = refl
xor_bits (suc zero) zero h k = refl
xor_bits (suc zero) (suc zero) h k = refl
xor_bits (suc (suc a)) b h k = absurd (let bad : ⊥ = omega (arith, h) in bad)
xor_bits zero (suc (suc b)) h k = absurd (let bad : ⊥ = omega (arith, k) in bad)
xor_bits (suc zero) (suc (suc b)) h k = absurd (let bad : ⊥ = omega (arith, k) in bad)

and_known : (p q : Bool) → and_bit (Some p) (Some q) ≡ Some (p && q)
and_known true q = refl
and_known false q = refl

or_known : (p q : Bool) → or_bit (Some p) (Some q) ≡ Some (p || q)
or_known true q = refl
or_known false q = refl

xor_known : (p q : Bool) → xor_bit (Some p) (Some q) ≡ Some (unlike p q)
xor_known true q = refl
xor_known false q = refl

bitwise_row : (f : Option Bool → Option Bool → Option Bool) (op : Bool → Bool → Bool) (w x y r : ℕ) → ((p q : Bool) → f (Some p) (Some q) ≡ Some (op p q))
    → ((i : ℕ) → bit_of r i ≡ op (bit_of x i) (bit_of y i)) → RefinesBits (constant w r) (bitwise f w (constant w x) (constant w y))
bitwise_row f op w x y r known each = by_bits w r _ (λ i below.
    let inside : nat_lt i w ≡ true = lt_true i w below in
    rw inside (known (bit_of x i) (bit_of y i) ∙ ap Some (sym (each i))))

pub and_row : (w x y : ℕ) → RefinesBits (constant w (bit_and x y)) (bitwise and_bit w (constant w x) (constant w y))
and_row w x y = bitwise_row and_bit (λ p q. p && q) w x y (bit_and x y) and_known (λ i.
    ap (λ (n : ℕ). n == 1) (bit_at_and x y i) ∙ and_bits (bit_at x i) (bit_at y i) (bit_at-lt x i) (bit_at-lt y i))

pub or_row : (w x y : ℕ) → RefinesBits (constant w (bit_or x y)) (bitwise or_bit w (constant w x) (constant w y))
or_row w x y = bitwise_row or_bit (λ p q. p || q) w x y (bit_or x y) or_known (λ i.
    ap (λ (n : ℕ). n == 1) (bit_at_or x y i) ∙ or_bits (bit_at x i) (bit_at y i) (bit_at-lt x i) (bit_at-lt y i))

pub xor_row : (w x y : ℕ) → RefinesBits (constant w (bit_xor x y)) (bitwise xor_bit w (constant w x) (constant w y))
xor_row w x y = bitwise_row xor_bit unlike w x y (bit_xor x y) xor_known (λ i.
    ap (λ (n : ℕ). n == 1) (bit_at_xor x y i) ∙ xor_bits (bit_at x i) (bit_at y i) (bit_at-lt x i) (bit_at-lt y i))
