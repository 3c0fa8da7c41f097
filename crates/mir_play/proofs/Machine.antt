-- What is known of an operation's result is what the machine gives.
use Rattle.std.proofs.Common.{◌≡◌, ◌≢◌, refl, sym, ap, subst, ◌∙◌, ℕ, zero, suc, ◌+◌, ◌-◌, ◌*◌, ◌/◌, ◌%◌, ◌^◌, ◌<◌, ◌≤◌, ⊎_elim, Bool, true, false, not, ◌&&◌, ◌||◌, Option, Some, arith, mod-eq_of_lt}
use Rattle.std.specs.Prelude.{ℤ, pos, negsuc, ◌==◌, nat_lt, bit_and, bit_or, bit_xor, int_div, int_rem, if◌then◌else◌}
use Rattle.std.specs.Int.{w32, w64, cast_signed, int_shr}
use Rattle.std.proofs.lemmas.Bool.{cases_lt, le-ltb, ne_eqb}
use Rattle.std.proofs.lemmas.Nat.{pow_pos, pow-add, mod_below}
use Rattle.rj_num.specs.Width.{signed, modulo as wrap}
use Rattle.rv_core.specs.declared.instr.RegOp.{RegOp}
use Rattle.rv_core.specs.declared.instr.RegOp.TheVariants.{Add, Sub, Sll, Slt, Sltu, Xor, Srl, Sra, Or, And, Mul, Mulh, Mulhsu, Mulhu, Div, Divu, Rem, Remu, Addw, Subw, Sllw, Srlw, Sraw, Mulw, Divw, Divuw, Remw, Remuw}
use Rattle.rv_core.specs.Step.{op_value, modulo, sign_extend_word}
use Rattle.walks.specs.Walk.{Bits}
use Rattle.walks.specs.Bits.{bit_of, constant, number, low_exact, whole, and_bit, or_bit, xor_bit, bitwise, shifted, shift_left, shift_right, shift_right_signed, add_low, sub_low, mul_low, divide_signed, rest_signed}
use Rattle.walks.proofs.Numbers.{lt_true, number_constant, same_bit}
use Rattle.mir_play.specs.Values.{word, quotient, quotient_unsigned, remainder, remainder_unsigned, value, divisor, MayDivide}
use Rattle.mir_play.proofs.Numbers.{cut_again, bit_below_cut, add_by, sub_by, mul_by, and_of, or_of, exclusive, xor_of, left_low, left_high, right_of, above_of, cast_32, cast_64, Turns, turns_32, turns_64, shifted_inside, shifted_past, extended_inside, extended_past}

-- the low bits are those of a number, so many
abbrev pub Below : ℕ → Bits → ℕ → Type 0
Below w a x = (i : ℕ) → i < w → a i ≡ Some (bit_of x i)

pub bit_is : (n i : ℕ) → i < 64 → constant 64 n i ≡ Some (bit_of n i)
bit_is n i h = rw (lt_true i 64 h) refl

-- ---- the rows at a width, of numbers
module _ (w : ℕ) (small : w ≤ 64) (m n : ℕ) where
  pub low_is : (f : ℕ → ℕ → ℕ → ℕ) (x : ℕ) → ((i : ℕ) → i < w → f (suc i) (m % 2 ^ suc i) (n % 2 ^ suc i) % 2 ^ suc i ≡ x % 2 ^ suc i)
      → Below w (low_exact f w (constant 64 m) (constant 64 n)) x
  low_is f x same i h =
      rw (lt_true i w h, number_constant 64 (suc i) m (omega (arith, h, small)), number_constant 64 (suc i) n (omega (arith, h, small)))
      (ap Some (same_bit (f (suc i) (m % 2 ^ suc i) (n % 2 ^ suc i)) x i (same i h)))

  whole_is : (f : ℕ → ℕ → ℕ) (x : ℕ) → ((i : ℕ) → i < w → bit_of (f (m % 2 ^ w) (n % 2 ^ w)) i ≡ bit_of x i) → Below w (whole f w w (constant 64 m) (constant 64 n)) x
  whole_is f x same i h = rw (lt_true i w h, number_constant 64 w m small, number_constant 64 w n small) (ap Some (same i h))

  left_is : (k : ℕ) → k < w → Below w (shifted (shift_left w (constant 64 m)) w (Some k)) (m * 2 ^ k)
  left_is k below i h = rw (lt_true k w below, lt_true i w h) (⊎_elim lower higher (cases_lt i k))
    where
      lower : i < k → (if nat_lt i k then Some false else constant 64 m (i - k)) ≡ Some (bit_of (m * 2 ^ k) i)
      lower l = rw (lt_true i k l) (ap Some (sym (left_low m k i l)))

      higher : k ≤ i → (if nat_lt i k then Some false else constant 64 m (i - k)) ≡ Some (bit_of (m * 2 ^ k) i)
      higher l = rw (le-ltb i k l) (bit_is m (i - k) (omega (arith, h, small)) ∙ ap Some (sym (left_high m k i l)))

  right_is : (k : ℕ) → k < w → Below w (shifted (shift_right w (constant 64 m)) w (Some k)) (m % 2 ^ w / 2 ^ k)
  right_is k below i h = rw (lt_true k w below, lt_true i w h) (⊎_elim inside past (cases_lt (i + k) w))
    where
      inside : i + k < w → (if nat_lt (i + k) w then constant 64 m (i + k) else Some false) ≡ Some (bit_of (m % 2 ^ w / 2 ^ k) i)
      inside l =
          rw (lt_true (i + k) w l)
          (bit_is m (i + k) (omega (arith, l, small)) ∙ ap Some (sym (right_of (m % 2 ^ w) k i ∙ bit_below_cut m w (i + k) l)))

      past : w ≤ i + k → (if nat_lt (i + k) w then constant 64 m (i + k) else Some false) ≡ Some (bit_of (m % 2 ^ w / 2 ^ k) i)
      past l =
          rw (le-ltb (i + k) w l)
          (ap Some (sym (right_of (m % 2 ^ w) k i ∙ above_of (m % 2 ^ w) w (i + k) (mod_below m (2 ^ w) (pow_pos w)) l)))

  signed_is : 1 ≤ w → Turns w → (k : ℕ) → k < w → Below w (shifted (shift_right_signed w (constant 64 m)) w (Some k)) (modulo (int_shr (signed w (m % 2 ^ w)) k))
  signed_is some turns k below i h = rw (lt_true k w below, lt_true i w h) (⊎_elim inside past (cases_lt (i + k) w))
    where
      low : m % 2 ^ w < 2 ^ w
      low = mod_below m (2 ^ w) (pow_pos w)

      inside : i + k < w → (if nat_lt (i + k) w then constant 64 m (i + k) else constant 64 m (w - 1)) ≡ Some (bit_of (modulo (int_shr (signed w (m % 2 ^ w)) k)) i)
      inside l =
          rw (lt_true (i + k) w l)
          (bit_is m (i + k) (omega (arith, l, small))
          ∙ ap Some (sym (shifted_inside w some small turns (m % 2 ^ w) low k i (omega (arith, h, small)) l ∙ bit_below_cut m w (i + k) l)))

      past : w ≤ i + k → (if nat_lt (i + k) w then constant 64 m (i + k) else constant 64 m (w - 1)) ≡ Some (bit_of (modulo (int_shr (signed w (m % 2 ^ w)) k)) i)
      past l =
          rw (le-ltb (i + k) w l)
          (bit_is m (w - 1) (omega (arith, some, small))
          ∙ ap Some (sym (shifted_past w some small turns (m % 2 ^ w) low k i (omega (arith, h, small)) l ∙ bit_below_cut m w (w - 1) (omega (arith, some)))))

bit_and_is : (a b : Bool) → and_bit (Some a) (Some b) ≡ Some (a && b)
bit_and_is true true = refl
bit_and_is true false = refl
bit_and_is false true = refl
bit_and_is false false = refl

bit_or_is : (a b : Bool) → or_bit (Some a) (Some b) ≡ Some (a || b)
bit_or_is true true = refl
bit_or_is true false = refl
bit_or_is false true = refl
bit_or_is false false = refl

bit_xor_is : (a b : Bool) → xor_bit (Some a) (Some b) ≡ Some (exclusive a b)
bit_xor_is true b = refl
bit_xor_is false b = refl

bits_are : (f : Option Bool → Option Bool → Option Bool) (g : Bool → Bool → Bool) (m n x : ℕ) → ((a b : Bool) → f (Some a) (Some b) ≡ Some (g a b))
    → ((i : ℕ) → bit_of x i ≡ g (bit_of m i) (bit_of n i)) → Below 64 (bitwise f 64 (constant 64 m) (constant 64 n)) x
bits_are f g m n x each same i h = rw (lt_true i 64 h) (each (bit_of m i) (bit_of n i) ∙ ap Some (sym (same i)))

-- ---- words

-- 32 bits, extended by their sign, of a number whose upper bits are copies of it
word_of : (a : Bits) (x : ℕ) → Below 32 a x → ((i : ℕ) → 32 ≤ i → i < 64 → bit_of x i ≡ bit_of x 31) → Below 64 (word a) x
word_of a x h copies i below = rw (lt_true i 64 below) (⊎_elim inside past (cases_lt i 32))
  where
    inside : i < 32 → (if nat_lt i 32 then a i else a 31) ≡ Some (bit_of x i)
    inside l = rw (lt_true i 32 l) (h i l)

    past : 32 ≤ i → (if nat_lt i 32 then a i else a 31) ≡ Some (bit_of x i)
    past l = rw (le-ltb i 32 l) (h 31 (omega arith) ∙ ap Some (sym (copies i l below)))

word_inside : (x i : ℕ) → i < 32 → bit_of (sign_extend_word x) i ≡ bit_of x i
word_inside x i h =
    let low : x % 2 ^ 32 < 2 ^ 32 = mod_below x (2 ^ 32) (pow_pos 32) in
    ap (λ (z : ℤ). bit_of (modulo z) i) (cast_32 (x % 2 ^ 32) low) ∙ extended_inside (x % 2 ^ 32) i low h ∙ bit_below_cut x 32 i h

word_past : (x i : ℕ) → 32 ≤ i → i < 64 → bit_of (sign_extend_word x) i ≡ bit_of (sign_extend_word x) 31
word_past x i high h =
    let low : x % 2 ^ 32 < 2 ^ 32 = mod_below x (2 ^ 32) (pow_pos 32) in
    ap (λ (z : ℤ). bit_of (modulo z) i) (cast_32 (x % 2 ^ 32) low) ∙ extended_past (x % 2 ^ 32) i low high h ∙ bit_below_cut x 32 31 (omega arith)
    ∙ sym (word_inside x 31 (omega arith))

word_is : (a : Bits) (x : ℕ) → Below 32 a x → Below 64 (word a) (sign_extend_word x)
word_is a x h = word_of a (sign_extend_word x) (λ i l. h i l ∙ ap Some (sym (word_inside x i l))) (word_past x)

-- the low word's bits of an integer
wrap_bit : (z : ℤ) (i : ℕ) → i < 32 → bit_of (wrap 32 z) i ≡ bit_of (modulo z) i
wrap_bit (pos n) i h = bit_below_cut n 32 i h ∙ sym (bit_below_cut n 64 i (omega (arith, h)))
wrap_bit (negsuc n) i h =
    turns_32 (n % 2 ^ 32) i (mod_below n (2 ^ 32) (pow_pos 32)) h ∙ ap not (bit_below_cut n 32 i h ∙ sym (bit_below_cut n 64 i (omega (arith, h))))
    ∙ sym (turns_64 (n % 2 ^ 64) i (mod_below n (2 ^ 64) (pow_pos 64)) (omega (arith, h)))

-- ---- the operations

module _ (m n : ℕ) (low_m : m < 2 ^ 64) (low_n : n < 2 ^ 64) where
  abbrev A : Bits
  A = constant 64 m

  abbrev B : Bits
  B = constant 64 n

  all_m : m % 2 ^ 64 ≡ m
  all_m = mod-eq_of_lt low_m

  all_n : n % 2 ^ 64 ≡ n
  all_n = mod-eq_of_lt low_n

  add_same : (i : ℕ) → (m % 2 ^ suc i + n % 2 ^ suc i) % 2 ^ suc i ≡ (m + n) % 2 ^ suc i
  add_same i = add_by (2 ^ suc i) m n

  mul_same : (i : ℕ) → (m % 2 ^ suc i * (n % 2 ^ suc i)) % 2 ^ suc i ≡ (m * n) % 2 ^ suc i
  mul_same i = mul_by (2 ^ suc i) m n

  sub_same : (i : ℕ) → i < 64 → ((m % 2 ^ suc i + 2 ^ suc i) - n % 2 ^ suc i) % 2 ^ suc i ≡ (m + (2 ^ 64 - n)) % 2 ^ suc i
  sub_same i h =
      let sum : (64 - suc i) + suc i ≡ 64 = omega (arith, h) in
      let product : 2 ^ (64 - suc i) * 2 ^ suc i ≡ 2 ^ 64 = sym (pow-add 2 (64 - suc i) (suc i)) ∙ ap (λ (j : ℕ). 2 ^ j) sum in
      sub_by (2 ^ suc i) (2 ^ (64 - suc i)) m n (pow_pos (suc i)) (subst (λ (t : ℕ). n < t) (sym product) low_n)
      ∙ ap (λ (t : ℕ). (m + (t - n)) % 2 ^ suc i) product

  amount : (w : ℕ) → w ≤ 64 → number w B ≡ Some (n % 2 ^ w)
  amount w small = number_constant 64 w n small

  -- the divisor isn't 0
  some : (w : ℕ) → w ≤ 64 → MayDivide (Some (number w B)) → n % 2 ^ w ≢ 0
  some w small h = subst (λ (o : Option ℕ). MayDivide (Some o)) (amount w small) h

  is_some : (x : ℕ) → x ≢ 0 → (x == 0) ≡ false
  is_some x h = ne_eqb x 0 h

  -- rows of all 64 bits
  whole_64 : (f : ℕ → ℕ → ℕ) (x : ℕ) → f m n ≡ x → Below 64 (whole f 64 64 A B) x
  whole_64 f x same = whole_is 64 (omega arith) m n f x (λ i h. ap (λ (y : ℕ). bit_of (f y (n % 2 ^ 64)) i) all_m ∙ ap (λ (y : ℕ). bit_of (f m y) i) all_n ∙ ap (λ (y : ℕ). bit_of y i) same)

  divided_64 : n ≢ 0 → divide_signed 64 m n ≡ op_value Div m n
  divided_64 h = rw (is_some n h, cast_64 m low_m, cast_64 n low_n) refl

  rest_64 : n ≢ 0 → rest_signed 64 m n ≡ op_value Rem m n
  rest_64 h = rw (is_some n h, cast_64 m low_m, cast_64 n low_n) refl

  quotient_64 : n ≢ 0 → m / n ≡ op_value Divu m n
  quotient_64 h = rw (is_some n h) refl

  remainder_64 : n ≢ 0 → m % n ≡ op_value Remu m n
  remainder_64 h = rw (is_some n h) refl

  not_zero : MayDivide (Some (number 64 B)) → n ≢ 0
  not_zero h = λ e. some 64 (omega arith) h (all_n ∙ e)

  -- rows of low words
  low_words : MayDivide (Some (number 32 B)) → n % 2 ^ 32 ≢ 0
  low_words h = some 32 (omega arith) h

  divided_32 : n % 2 ^ 32 ≢ 0 → Below 32 (quotient 32 A B) (modulo (if n % 2 ^ 32 == 0 then negsuc 0 else int_div (cast_signed w32 (m % 2 ^ 32)) (cast_signed w32 (n % 2 ^ 32))))
  divided_32 h =
      rw (is_some (n % 2 ^ 32) h, cast_32 (m % 2 ^ 32) (mod_below m (2 ^ 32) (pow_pos 32)), cast_32 (n % 2 ^ 32) (mod_below n (2 ^ 32) (pow_pos 32)))
      (whole_is 32 (omega arith) m n (divide_signed 32) _ (λ i l. wrap_bit (int_div (signed 32 (m % 2 ^ 32)) (signed 32 (n % 2 ^ 32))) i l))

  rest_32 : n % 2 ^ 32 ≢ 0 → Below 32 (remainder 32 A B) (modulo (if n % 2 ^ 32 == 0 then cast_signed w32 (m % 2 ^ 32) else int_rem (cast_signed w32 (m % 2 ^ 32)) (cast_signed w32 (n % 2 ^ 32))))
  rest_32 h =
      rw (is_some (n % 2 ^ 32) h, cast_32 (m % 2 ^ 32) (mod_below m (2 ^ 32) (pow_pos 32)), cast_32 (n % 2 ^ 32) (mod_below n (2 ^ 32) (pow_pos 32)))
      (whole_is 32 (omega arith) m n (rest_signed 32) _ (λ i l. wrap_bit (int_rem (signed 32 (m % 2 ^ 32)) (signed 32 (n % 2 ^ 32))) i l))

  quotient_32 : n % 2 ^ 32 ≢ 0 → Below 32 (quotient_unsigned 32 A B) (if n % 2 ^ 32 == 0 then 2 ^ 32 - 1 else m % 2 ^ 32 / (n % 2 ^ 32))
  quotient_32 h = rw (is_some (n % 2 ^ 32) h) (whole_is 32 (omega arith) m n (λ x y. x / y) _ (λ i l. refl))

  remainder_32 : n % 2 ^ 32 ≢ 0 → Below 32 (remainder_unsigned 32 A B) (if n % 2 ^ 32 == 0 then m % 2 ^ 32 else m % 2 ^ 32 % (n % 2 ^ 32))
  remainder_32 h = rw (is_some (n % 2 ^ 32) h) (whole_is 32 (omega arith) m n (λ x y. x % y) _ (λ i l. refl))

  -- shifts by the low bits of the amount
  below_64 : n % 64 < 64
  below_64 = mod_below n 64 (omega arith)

  below_32 : n % 32 < 32
  below_32 = mod_below n 32 (omega arith)

  by_amount : (w k a : ℕ) (f : ℕ → Bits) (x : ℕ) → a ≤ 64 → n % 2 ^ a ≡ k → Below w (shifted f w (Some k)) x → Below w (shifted f w (number a B)) x
  by_amount w k a f x small e h = subst (λ (o : Option ℕ). Below w (shifted f w o) x) (sym (amount a small ∙ ap Some e)) h

  cut_bits : (x : ℕ) (a : Bits) → Below 64 a x → Below 64 a (x % 2 ^ 64)
  cut_bits x a h i l = h i l ∙ ap Some (sym (bit_below_cut x 64 i l))

  left_64 : Below 64 (shifted (shift_left 64 A) 64 (number 6 B)) ((m * 2 ^ (n % 64)) % 2 ^ 64)
  left_64 = by_amount 64 (n % 64) 6 (shift_left 64 A) _ (omega arith) refl (cut_bits (m * 2 ^ (n % 64)) _ (left_is 64 (omega arith) m n (n % 64) below_64))

  right_64 : Below 64 (shifted (shift_right 64 A) 64 (number 6 B)) (m / 2 ^ (n % 64))
  right_64 =
      by_amount 64 (n % 64) 6 (shift_right 64 A) _ (omega arith) refl
      (subst (λ (x : ℕ). Below 64 (shifted (shift_right 64 A) 64 (Some (n % 64))) (x / 2 ^ (n % 64))) all_m (right_is 64 (omega arith) m n (n % 64) below_64))

  signed_64 : Below 64 (shifted (shift_right_signed 64 A) 64 (number 6 B)) (modulo (int_shr (cast_signed w64 m) (n % 64)))
  signed_64 =
      by_amount 64 (n % 64) 6 (shift_right_signed 64 A) _ (omega arith) refl
      (subst (λ (z : ℤ). Below 64 (shifted (shift_right_signed 64 A) 64 (Some (n % 64))) (modulo (int_shr z (n % 64)))) (ap (signed 64) all_m ∙ sym (cast_64 m low_m))
      (signed_is 64 (omega arith) m n (omega arith) turns_64 (n % 64) below_64))

  left_32 : Below 32 (shifted (shift_left 32 A) 32 (number 5 B)) (m * 2 ^ (n % 32))
  left_32 = by_amount 32 (n % 32) 5 (shift_left 32 A) _ (omega arith) refl (left_is 32 (omega arith) m n (n % 32) below_32)

  right_32 : Below 32 (shifted (shift_right 32 A) 32 (number 5 B)) (m % 2 ^ 32 / 2 ^ (n % 32))
  right_32 = by_amount 32 (n % 32) 5 (shift_right 32 A) _ (omega arith) refl (right_is 32 (omega arith) m n (n % 32) below_32)

  signed_32 : Below 32 (shifted (shift_right_signed 32 A) 32 (number 5 B)) (modulo (int_shr (signed 32 (m % 2 ^ 32)) (n % 32)))
  signed_32 = by_amount 32 (n % 32) 5 (shift_right_signed 32 A) _ (omega arith) refl (signed_is 32 (omega arith) m n (omega arith) turns_32 (n % 32) below_32)

  -- its upper bits are copies of its sign
  copies_32 : (i : ℕ) → 32 ≤ i → i < 64 → bit_of (modulo (int_shr (signed 32 (m % 2 ^ 32)) (n % 32))) i ≡ bit_of (modulo (int_shr (signed 32 (m % 2 ^ 32)) (n % 32))) 31
  copies_32 i high l = past i (omega (arith, high)) l ∙ sym (at_31 (n % 32) refl)
    where
      low : m % 2 ^ 32 < 2 ^ 32
      low = mod_below m (2 ^ 32) (pow_pos 32)

      past : (i : ℕ) → 32 ≤ i + n % 32 → i < 64 → bit_of (modulo (int_shr (signed 32 (m % 2 ^ 32)) (n % 32))) i ≡ bit_of (m % 2 ^ 32) 31
      past i high l = shifted_past 32 (omega arith) (omega arith) turns_32 (m % 2 ^ 32) low (n % 32) i l high

      at_31 : (k : ℕ) → n % 32 ≡ k → bit_of (modulo (int_shr (signed 32 (m % 2 ^ 32)) (n % 32))) 31 ≡ bit_of (m % 2 ^ 32) 31
      at_31 zero e =
          let inside : 31 + n % 32 < 32 = omega (arith, e) in
          let same : 31 + n % 32 ≡ 31 = omega (arith, e) in
          shifted_inside 32 (omega arith) (omega arith) turns_32 (m % 2 ^ 32) low (n % 32) 31 (omega arith) inside ∙ ap (bit_of (m % 2 ^ 32)) same
      at_31 (suc k) e = past 31 (omega (arith, e)) (omega arith)

  -- what an operation gives of numbers is the machine's number
  pub machine_is : (op : RegOp) → MayDivide (divisor op B) → Below 64 (value op A B) (op_value op m n)
  machine_is Add d = low_is 64 (omega arith) m n add_low _ (λ i h. add_same i ∙ sym (cut_again (suc i) 64 (m + n) (omega (arith, h))))
  machine_is Sub d = low_is 64 (omega arith) m n sub_low _ (λ i h. sub_same i h ∙ sym (cut_again (suc i) 64 (m + (2 ^ 64 - n)) (omega (arith, h))))
  machine_is Mul d = low_is 64 (omega arith) m n mul_low _ (λ i h. mul_same i ∙ sym (cut_again (suc i) 64 (m * n) (omega (arith, h))))
  machine_is And d = bits_are and_bit (λ a b. a && b) m n (bit_and m n) bit_and_is (λ i. and_of m n i)
  machine_is Or d = bits_are or_bit (λ a b. a || b) m n (bit_or m n) bit_or_is (λ i. or_of m n i)
  machine_is Xor d = bits_are xor_bit exclusive m n (bit_xor m n) bit_xor_is (λ i. xor_of m n i)
  machine_is Sll d = left_64
  machine_is Srl d = right_64
  machine_is Sra d = signed_64
  machine_is Div d = whole_64 (divide_signed 64) _ (divided_64 (not_zero d))
  machine_is Divu d = whole_64 (λ x y. x / y) _ (quotient_64 (not_zero d))
  machine_is Rem d = whole_64 (rest_signed 64) _ (rest_64 (not_zero d))
  machine_is Remu d = whole_64 (λ x y. x % y) _ (remainder_64 (not_zero d))
  machine_is Slt d = whole_64 (op_value Slt) _ refl
  machine_is Sltu d = whole_64 (op_value Sltu) _ refl
  machine_is Mulh d = whole_64 (op_value Mulh) _ refl
  machine_is Mulhsu d = whole_64 (op_value Mulhsu) _ refl
  machine_is Mulhu d = whole_64 (op_value Mulhu) _ refl
  machine_is Addw d = word_is _ (m + n) (low_is 32 (omega arith) m n add_low (m + n) (λ i h. add_same i))
  machine_is Subw d = word_is _ (m + (2 ^ 64 - n)) (low_is 32 (omega arith) m n sub_low (m + (2 ^ 64 - n)) (λ i h. sub_same i (omega (arith, h))))
  machine_is Mulw d = word_is _ (m * n) (low_is 32 (omega arith) m n mul_low (m * n) (λ i h. mul_same i))
  machine_is Sllw d = word_is _ (m * 2 ^ (n % 32)) left_32
  machine_is Srlw d = word_is _ (m % 2 ^ 32 / 2 ^ (n % 32)) right_32
  machine_is Sraw d =
      subst (λ (z : ℤ). Below 64 (value Sraw A B) (modulo (int_shr z (n % 32)))) (sym (cast_32 (m % 2 ^ 32) (mod_below m (2 ^ 32) (pow_pos 32))))
      (word_of _ (modulo (int_shr (signed 32 (m % 2 ^ 32)) (n % 32))) signed_32 copies_32)
  machine_is Divw d = word_is _ _ (divided_32 (low_words d))
  machine_is Divuw d = word_is _ _ (quotient_32 (low_words d))
  machine_is Remw d = word_is _ _ (rest_32 (low_words d))
  machine_is Remuw d = word_is _ _ (remainder_32 (low_words d))
