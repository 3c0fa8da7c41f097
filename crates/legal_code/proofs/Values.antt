-- What an instruction computes from registers of its widths is kept where its operands are extended and all is done in 64 bits.
use Rattle.std.proofs.Common.{◌≡◌, refl, sym, ap, subst, ◌∙◌, ℕ, zero, suc, ◌+◌, ◌-◌, ◌^◌, ◌<◌, ◌≤◌, ⊎_elim, Bool, true, false, not, Option, Some, None, arith}
use Rattle.std.specs.Prelude.{if◌then◌else◌, nat_lt, nat_le, ◌==◌, ◌&&◌, int_div, int_rem, int_lt, int_le}
use Rattle.std.proofs.lemmas.Bool.{cases_lt}
use Rattle.gmir.specs.declared.code.GType.{GType}
use Rattle.gmir.specs.declared.code.GType.TheVariants.{S, P0}
use Rattle.rj_num.specs.Width.{signed, modulo}
use Rattle.ir_meaning.specs.Operators.{bit}
use Rattle.walks.specs.Walk.{Bits}
use Rattle.walks.specs.Refines.{RefinesBits}
use Rattle.walks.specs.Bits.{cut, bit_of, constant, number, on_both, low_exact, whole, and_bit, bitwise, shifted, shift_left, shift_right, shift_right_signed, zero_extended, sign_extended, divide_signed, rest_signed, compared}
use Rattle.walks.proofs.Numbers.{lt_true, number_known}
use Rattle.walks.proofs.Monotone.{Keeps}
use Rattle.gmir.specs.Play.{width_of}
use Rattle.legal_code.specs.Legal.{Above, Anything, Zeros, Signs, compared_above, Extension, Kept, ByZeros, BySigns, by_type}
use Rattle.legal_code.proofs.Numbers.{power_low, above_of, ones_low, ones_high, number_is, extend, signed_extend, extend_low, extend_inside, extend_above, sign_bit, extend_same, modulo_bit}

-- an operand as it is extended
abbrev pub wide : Extension → Bits → Bits
wide Kept a = a
wide (ByZeros w) a = bitwise and_bit 64 a (constant 64 (2 ^ w - 1))
wide (BySigns w) a = sign_extended w 64 a

pub lt_false : (k w : ℕ) → w ≤ k → nat_lt k w ≡ false
lt_false k w h = grind arith

lt_of : (i w : ℕ) → nat_lt i w ≡ true → i < w
lt_of i w h = grind arith

equal : (x y : ℕ) → (x == y) ≡ true → x ≡ y
equal x y e = grind arith

and_one : (o : Option Bool) → and_bit o (Some true) ≡ o
and_one (Some true) = refl
and_one (Some false) = refl
and_one None = refl

and_none : (o : Option Bool) → and_bit o (Some false) ≡ Some false
and_none (Some true) = refl
and_none (Some false) = refl
and_none None = refl

-- ---- operands with zeros above them, or copies of their sign

pub record ZerosAbove (w : ℕ) (a b : Bits) : Type 0 where
  pub low : (i : ℕ) → i < w → b i ≡ a i
  pub high : (i : ℕ) → w ≤ i → i < 64 → b i ≡ Some false

pub record SignsAbove (w : ℕ) (a b : Bits) : Type 0 where
  pub low : (i : ℕ) → i < w → b i ≡ a i
  pub high : (i : ℕ) → w ≤ i → i < 64 → b i ≡ a (w - 1)

pub masked_zeros : (w : ℕ) → w ≤ 64 → (a : Bits) → ZerosAbove w a (wide (ByZeros w) a)
masked_zeros w small a = record {
  low = λ i l. rw (lt_true i 64 (omega (arith, small, l)), ones_low w i l) (and_one (a i));
  high = λ i l top. rw (lt_true i 64 top, ones_high w i l) (and_none (a i));
}

pub extended_signs : (w : ℕ) → w ≤ 64 → (a : Bits) → SignsAbove w a (wide (BySigns w) a)
extended_signs w small a = record {
  low = λ i l. rw (lt_true i 64 (omega (arith, small, l)), lt_true i w l) refl;
  high = λ i l top. rw (lt_true i 64 top, lt_false i w l) refl;
}

pub by_zeros : (t : GType) → width_of t ≤ 64 → (a : Bits) → ZerosAbove (width_of t) a (wide (by_type Zeros t) a)
by_zeros P0 small a = record { low = λ i l. refl; high = λ i l top. absurd (let bad : ⊥ = omega (arith, l, top) in bad) }
by_zeros (S w) small a = by (w == 64) refl
  where
    by : (b : Bool) → (w == 64) ≡ b → ZerosAbove w a (wide (if b then Kept else ByZeros w) a)
    by true e = let full = equal w 64 e in record { low = λ i l. refl; high = λ i l top. absurd (let bad : ⊥ = omega (arith, l, top, full) in bad) }
    by false e = masked_zeros w small a

pub by_signs : (t : GType) → width_of t ≤ 64 → (a : Bits) → SignsAbove (width_of t) a (wide (by_type Signs t) a)
by_signs P0 small a = record { low = λ i l. refl; high = λ i l top. absurd (let bad : ⊥ = omega (arith, l, top) in bad) }
by_signs (S w) small a = by (w == 64) refl
  where
    by : (b : Bool) → (w == 64) ≡ b → SignsAbove w a (wide (if b then Kept else BySigns w) a)
    by true e = let full = equal w 64 e in record { low = λ i l. refl; high = λ i l top. absurd (let bad : ⊥ = omega (arith, l, top, full) in bad) }
    by false e = extended_signs w small a

pub zeros_number : (w : ℕ) (a b : Bits) → w ≤ 64 → ZerosAbove w a b → (m : ℕ) → number w a ≡ Some m → number 64 b ≡ Some m
zeros_number w a b small z m e =
    let known = number_known w a m e in
    let p = power_low w 64 small in
    let low = known.low in
    number_is b m (omega (arith, p, low))
    (λ i top. ⊎_elim (λ l. z.low i l ∙ known.bits i l) (λ l. z.high i l top ∙ ap Some (sym (above_of m w i low l))) (cases_lt i w))

pub signs_number : (w : ℕ) (a b : Bits) → 1 ≤ w → w ≤ 64 → SignsAbove w a b → (m : ℕ) → number w a ≡ Some m → number 64 b ≡ Some (extend w m)
signs_number w a b some small z m e =
    let known = number_known w a m e in
    number_is b (extend w m) (extend_low w some small m known.low)
    (λ i top. ⊎_elim
    (λ l. z.low i l ∙ known.bits i l ∙ ap Some (sym (extend_inside w some small m known.low i l)))
    (λ l. z.high i l top ∙ known.bits (w - 1) (omega (arith, some)) ∙ ap Some (sign_bit w some small m known.low ∙ sym (extend_above w some small m known.low i l top)))
    (cases_lt i w))

-- ---- what goes bit by bit

narrow_if : (w i : ℕ) (x y : Option Bool) → w ≤ 64 → (i < w → Keeps x y) → Keeps (if nat_lt i w then x else None) (if nat_lt i 64 then y else None)
narrow_if w i x y small h = by (nat_lt i w) refl
  where
    by : (b : Bool) → nat_lt i w ≡ b → Keeps (if b then x else None) (if nat_lt i 64 then y else None)
    by true e bit k = let l = lt_of i w e in rw (lt_true i 64 (omega (arith, l, small))) (h l bit k)
    by false e bit k = absurd (let bad : ⊥ = cc in bad)

pub low_widens : (f : ℕ → ℕ → ℕ → ℕ) (w : ℕ) (a b : Bits) → w ≤ 64 → RefinesBits (low_exact f w a b) (low_exact f 64 a b)
low_widens f w a b small i = narrow_if w i _ _ small (λ l z e. e)

pub bits_widen : (f : Option Bool → Option Bool → Option Bool) (w : ℕ) (a b : Bits) → w ≤ 64 → RefinesBits (bitwise f w a b) (bitwise f 64 a b)
bits_widen f w a b small i = narrow_if w i _ _ small (λ l z e. e)

pub cut_widens : (w : ℕ) (a : Bits) → w ≤ 64 → RefinesBits (cut w a) (cut 64 a)
cut_widens w a small i = narrow_if w i _ _ small (λ l z e. e)

pub constant_widens : (w n : ℕ) → w ≤ 64 → RefinesBits (constant w n) (constant 64 n)
constant_widens w n small i = narrow_if w i _ _ small (λ l z e. e)

pub sign_widens : (v w : ℕ) (a : Bits) → w ≤ 64 → RefinesBits (sign_extended v w a) (sign_extended v 64 a)
sign_widens v w a small i = narrow_if w i _ _ small (λ l z e. e)

pub zero_widens : (v w : ℕ) (a : Bits) → w ≤ 64 → RefinesBits (zero_extended v w a) (zero_extended v 64 a)
zero_widens v w a small i = narrow_if w i _ _ small (λ l z e. e)

-- what is cut first
pub cut_twice : (v w : ℕ) (a : Bits) → w ≤ 64 → RefinesBits (cut w (cut v a)) (cut 64 a)
cut_twice v w a small i = narrow_if w i _ _ small (λ l. by (nat_lt i v))
  where
    by : (b : Bool) → Keeps (if b then a i else None) (a i)
    by true z e = e
    by false z e = absurd (let bad : ⊥ = cc in bad)

-- zeros by a mask
pub zeros_masked : (v w : ℕ) (a : Bits) → v ≤ 64 → w ≤ 64 → RefinesBits (zero_extended v w a) (bitwise and_bit 64 a (constant 64 (2 ^ v - 1)))
zeros_masked v w a low small i bit e = by_width (nat_lt i w) refl e
  where
    z : ZerosAbove v a (bitwise and_bit 64 a (constant 64 (2 ^ v - 1)))
    z = masked_zeros v low a

    by_bit : (b : Bool) → nat_lt i v ≡ b → i < w → (if b then a i else Some false) ≡ Some bit → bitwise and_bit 64 a (constant 64 (2 ^ v - 1)) i ≡ Some bit
    by_bit true h l k = z.low i (lt_of i v h) ∙ k
    by_bit false h l k = z.high i (let q : v ≤ i = grind arith in q) (omega (arith, l, small)) ∙ k

    by_width : (b : Bool) → nat_lt i w ≡ b → (if b then (if nat_lt i v then a i else Some false) else None) ≡ Some bit → bitwise and_bit 64 a (constant 64 (2 ^ v - 1)) i ≡ Some bit
    by_width true h k = by_bit (nat_lt i v) refl (lt_of i w h) k
    by_width false h k = absurd (let bad : ⊥ = cc in bad)

-- ---- what asks for all bits

pub whole_widens : (f g : ℕ → ℕ → ℕ) (v w : ℕ) (x : ℕ → ℕ) (a b c d : Bits) → w ≤ 64
    → ((m : ℕ) → number v a ≡ Some m → number 64 c ≡ Some (x m)) → ((m : ℕ) → number v b ≡ Some m → number 64 d ≡ Some (x m))
    → ((m n i : ℕ) → m < 2 ^ v → n < 2 ^ v → i < w → bit_of (f m n) i ≡ bit_of (g (x m) (x n)) i)
    → RefinesBits (whole f v w a b) (whole g 64 64 c d)
whole_widens f g v w x a b c d small p q h i =
    narrow_if w i _ _ small (λ l. by l (number v a) (number v b) refl refl)
  where
    by : i < w → (m n : Option ℕ) → number v a ≡ m → number v b ≡ n
        → Keeps (on_both (λ m n. Some (bit_of (f m n) i)) m n) (on_both (λ m n. Some (bit_of (g m n) i)) (number 64 c) (number 64 d))
    by l None n e k bit z = absurd (let bad : ⊥ = cc in bad)
    by l (Some m) None e k bit z = absurd (let bad : ⊥ = cc in bad)
    by l (Some m) (Some n) e k bit z =
        rw (p m e, q n k) (ap Some (sym (h m n i (number_known v a m e).low (number_known v b n k).low l)) ∙ z)

-- two operands with zeros above, of which the same is computed
pub zeros_widen : (f : ℕ → ℕ → ℕ) (w : ℕ) (t u : GType) (a b : Bits) → w ≤ 64 → width_of t ≤ 64 → width_of u ≡ width_of t
    → RefinesBits (whole f (width_of t) w a b) (whole f 64 64 (wide (by_type Zeros t) a) (wide (by_type Zeros u) b))
zeros_widen f w t u a b small low same =
    whole_widens f f (width_of t) w (λ m. m) a b (wide (by_type Zeros t) a) (wide (by_type Zeros u) b) small
    (zeros_number (width_of t) a _ low (by_zeros t low a))
    (subst (λ (v : ℕ). (m : ℕ) → number v b ≡ Some m → number 64 (wide (by_type Zeros u) b) ≡ Some m) same
    (zeros_number (width_of u) b _ (omega (arith, same, low)) (by_zeros u (omega (arith, same, low)) b)))
    (λ m n i l l' k. refl)

-- two operands with their signs
pub signs_widen : (f g : ℕ → ℕ → ℕ) (w : ℕ) (t u : GType) (a b : Bits) → w ≤ 64 → 1 ≤ width_of t → width_of t ≤ 64 → width_of u ≡ width_of t
    → ((m n i : ℕ) → m < 2 ^ width_of t → n < 2 ^ width_of t → i < w → bit_of (f m n) i ≡ bit_of (g (extend (width_of t) m) (extend (width_of t) n)) i)
    → RefinesBits (whole f (width_of t) w a b) (whole g 64 64 (wide (by_type Signs t) a) (wide (by_type Signs u) b))
signs_widen f g w t u a b small some low same h =
    whole_widens f g (width_of t) w (extend (width_of t)) a b (wide (by_type Signs t) a) (wide (by_type Signs u) b) small
    (signs_number (width_of t) a _ some low (by_signs t low a))
    (subst (λ (v : ℕ). (m : ℕ) → number v b ≡ Some m → number 64 (wide (by_type Signs u) b) ≡ Some (extend v m)) same
    (signs_number (width_of u) b _ (omega (arith, same, some)) (omega (arith, same, low)) (by_signs u (omega (arith, same, low)) b)))
    h

pub quotient_bit : (w m n i : ℕ) → 1 ≤ w → w ≤ 64 → m < 2 ^ w → n < 2 ^ w → i < w → bit_of (divide_signed w m n) i ≡ bit_of (divide_signed 64 (extend w m) (extend w n)) i
quotient_bit w m n i some small l l' k =
    modulo_bit (int_div (signed w m) (signed w n)) w i k small
    ∙ ap (λ z. bit_of (modulo 64 (int_div z (signed w n))) i) (sym (signed_extend w some small m l))
    ∙ ap (λ z. bit_of (modulo 64 (int_div (signed 64 (extend w m)) z)) i) (sym (signed_extend w some small n l'))

pub rest_bit : (w m n i : ℕ) → 1 ≤ w → w ≤ 64 → m < 2 ^ w → n < 2 ^ w → i < w → bit_of (rest_signed w m n) i ≡ bit_of (rest_signed 64 (extend w m) (extend w n)) i
rest_bit w m n i some small l l' k =
    modulo_bit (int_rem (signed w m) (signed w n)) w i k small
    ∙ ap (λ z. bit_of (modulo 64 (int_rem z (signed w n))) i) (sym (signed_extend w some small m l))
    ∙ ap (λ z. bit_of (modulo 64 (int_rem (signed 64 (extend w m)) z)) i) (sym (signed_extend w some small n l'))

-- ---- compares

signed_less : (w m n : ℕ) → 1 ≤ w → w ≤ 64 → m < 2 ^ w → n < 2 ^ w → int_lt (signed 64 (extend w m)) (signed 64 (extend w n)) ≡ int_lt (signed w m) (signed w n)
signed_less w m n some small l l' =
    ap (λ z. int_lt z (signed 64 (extend w n))) (signed_extend w some small m l) ∙ ap (λ z. int_lt (signed w m) z) (signed_extend w some small n l')

signed_most : (w m n : ℕ) → 1 ≤ w → w ≤ 64 → m < 2 ^ w → n < 2 ^ w → int_le (signed 64 (extend w m)) (signed 64 (extend w n)) ≡ int_le (signed w m) (signed w n)
signed_most w m n some small l l' =
    ap (λ z. int_le z (signed 64 (extend w n))) (signed_extend w some small m l) ∙ ap (λ z. int_le (signed w m) z) (signed_extend w some small n l')

-- the predicates that ask for signs
compared_signs : (place w m n : ℕ) → compared_above place ≡ Signs → 1 ≤ w → w ≤ 64 → m < 2 ^ w → n < 2 ^ w → compared w place m n ≡ compared 64 place (extend w m) (extend w n)
compared_signs zero w m n e some small l l' = ap bit (sym (extend_same w m n some small l l'))
compared_signs (suc zero) w m n e some small l l' = ap (λ b. bit (not b)) (sym (extend_same w m n some small l l'))
compared_signs (suc (suc zero)) w m n e some small l l' = absurd (let bad : ⊥ = cc in bad)
compared_signs (suc (suc (suc zero))) w m n e some small l l' = absurd (let bad : ⊥ = cc in bad)
compared_signs (suc (suc (suc (suc zero)))) w m n e some small l l' = absurd (let bad : ⊥ = cc in bad)
compared_signs (suc (suc (suc (suc (suc zero))))) w m n e some small l l' = absurd (let bad : ⊥ = cc in bad)
compared_signs (suc (suc (suc (suc (suc (suc zero)))))) w m n e some small l l' = ap bit (sym (signed_less w n m some small l' l))
compared_signs (suc (suc (suc (suc (suc (suc (suc zero))))))) w m n e some small l l' = ap bit (sym (signed_most w n m some small l' l))
compared_signs (suc (suc (suc (suc (suc (suc (suc (suc zero)))))))) w m n e some small l l' = ap bit (sym (signed_less w m n some small l l'))
compared_signs (suc (suc (suc (suc (suc (suc (suc (suc (suc zero))))))))) w m n e some small l l' = ap bit (sym (signed_most w m n some small l l'))
compared_signs (suc (suc (suc (suc (suc (suc (suc (suc (suc (suc place)))))))))) w m n e some small l l' = ap bit (sym (extend_same w m n some small l l'))

-- those that ask for zeros
compared_zeros : (place w m n : ℕ) → compared_above place ≡ Zeros → compared w place m n ≡ compared 64 place m n
compared_zeros zero w m n e = absurd (let bad : ⊥ = cc in bad)
compared_zeros (suc zero) w m n e = absurd (let bad : ⊥ = cc in bad)
compared_zeros (suc (suc zero)) w m n e = refl
compared_zeros (suc (suc (suc zero))) w m n e = refl
compared_zeros (suc (suc (suc (suc zero)))) w m n e = refl
compared_zeros (suc (suc (suc (suc (suc zero))))) w m n e = refl
compared_zeros (suc (suc (suc (suc (suc (suc place)))))) w m n e =
    absurd (never (nat_le 2 (suc (suc (suc (suc (suc (suc place))))))) (nat_le (suc (suc (suc (suc (suc (suc place)))))) 5) (let z : nat_le (suc (suc (suc (suc (suc (suc place)))))) 5 ≡ false = grind arith in z) e)
  where
    never : (b c : Bool) → c ≡ false → (if b && c then Zeros else Signs) ≡ Zeros → ⊥
    never true true k e = cc
    never false c k e = cc
    never true false k e = cc

pub compare_widens : (place w : ℕ) (t u : GType) (a b : Bits) → w ≤ 64 → 1 ≤ width_of t → width_of t ≤ 64 → width_of u ≡ width_of t
    → RefinesBits (whole (compared (width_of t) place) (width_of t) w a b)
    (whole (compared 64 place) 64 64 (wide (by_type (compared_above place) t) a) (wide (by_type (compared_above place) u) b))
compare_widens place w t u a b small some low same = by (compared_above place) refl
  where
    by : (above : Above) → compared_above place ≡ above
        → RefinesBits (whole (compared (width_of t) place) (width_of t) w a b) (whole (compared 64 place) 64 64 (wide (by_type above t) a) (wide (by_type above u) b))
    by Zeros e =
        whole_widens (compared (width_of t) place) (compared 64 place) (width_of t) w (λ m. m) a b (wide (by_type Zeros t) a) (wide (by_type Zeros u) b) small
        (zeros_number (width_of t) a _ low (by_zeros t low a))
        (subst (λ (v : ℕ). (m : ℕ) → number v b ≡ Some m → number 64 (wide (by_type Zeros u) b) ≡ Some m) same
        (zeros_number (width_of u) b _ (omega (arith, same, low)) (by_zeros u (omega (arith, same, low)) b)))
        (λ m n i l l' k. ap (λ (x : ℕ). bit_of x i) (compared_zeros place (width_of t) m n e))
    by Signs e =
        signs_widen (compared (width_of t) place) (compared 64 place) w t u a b small some low same
        (λ m n i l l' k. ap (λ (x : ℕ). bit_of x i) (compared_signs place (width_of t) m n e some low l l'))
    by Anything e = absurd (never (nat_le 2 place && nat_le place 5) e)
      where
        never : (b : Bool) → (if b then Zeros else Signs) ≡ Anything → ⊥
        never true e = cc
        never false e = cc

-- ---- shifts

amount_kept : (u : GType) (b : Bits) → width_of u ≤ 64 → Keeps (number (width_of u) b) (number 64 (wide (by_type Zeros u) b))
amount_kept u b low k e = zeros_number (width_of u) b _ low (by_zeros u low b) k e

shift_widens : (f g : ℕ → Bits) (w : ℕ) (k k' : Option ℕ) → w ≤ 64 → Keeps k k' → ((n : ℕ) → n < w → RefinesBits (f n) (g n)) → RefinesBits (shifted f w k) (shifted g 64 k')
shift_widens f g w None k' small h p i bit e = absurd (let bad : ⊥ = cc in bad)
shift_widens f g w (Some n) k' small h p i bit e = rw (h n refl) (narrow_if w n (f n i) (g n i) small (λ l. p n l i) bit e)

pub left_widens : (w : ℕ) (u : GType) (a b : Bits) → w ≤ 64 → width_of u ≤ 64
    → RefinesBits (shifted (shift_left w a) w (number (width_of u) b)) (shifted (shift_left 64 a) 64 (number 64 (wide (by_type Zeros u) b)))
left_widens w u a b small low =
    shift_widens (shift_left w a) (shift_left 64 a) w (number (width_of u) b) _ small (amount_kept u b low) (λ n l i. narrow_if w i _ _ small (λ k z e. e))

pub right_widens : (t u : GType) (a b : Bits) → width_of t ≤ 64 → width_of u ≤ 64
    → RefinesBits (shifted (shift_right (width_of t) a) (width_of t) (number (width_of u) b)) (shifted (shift_right 64 (wide (by_type Zeros t) a)) 64 (number 64 (wide (by_type Zeros u) b)))
right_widens t u a b small low =
    shift_widens (shift_right (width_of t) a) (shift_right 64 (wide (by_type Zeros t) a)) (width_of t) (number (width_of u) b) _ small (amount_kept u b low)
    (λ n l i. narrow_if (width_of t) i _ _ small (λ k. by n i k (nat_lt (i + n) (width_of t)) refl (nat_lt (i + n) 64) refl))
  where
    z : ZerosAbove (width_of t) a (wide (by_type Zeros t) a)
    z = by_zeros t small a

    by : (n i : ℕ) → i < width_of t → (c : Bool) → nat_lt (i + n) (width_of t) ≡ c → (d : Bool) → nat_lt (i + n) 64 ≡ d
        → Keeps (if c then a (i + n) else Some false) (if d then wide (by_type Zeros t) a (i + n) else Some false)
    by n i k true e true g bit h = z.low (i + n) (lt_of (i + n) (width_of t) e) ∙ h
    by n i k true e false g bit h = let l = lt_of (i + n) (width_of t) e in absurd (let bad : ⊥ = let top : i + n < 64 = omega (arith, l, small) in grind arith in bad)
    by n i k false e true g bit h = z.high (i + n) (let q : width_of t ≤ i + n = grind arith in q) (lt_of (i + n) 64 g) ∙ h
    by n i k false e false g bit h = h

pub signed_widens : (t u : GType) (a b : Bits) → 1 ≤ width_of t → width_of t ≤ 64 → width_of u ≤ 64
    → RefinesBits (shifted (shift_right_signed (width_of t) a) (width_of t) (number (width_of u) b)) (shifted (shift_right_signed 64 (wide (by_type Signs t) a)) 64 (number 64 (wide (by_type Zeros u) b)))
signed_widens t u a b some small low =
    shift_widens (shift_right_signed (width_of t) a) (shift_right_signed 64 (wide (by_type Signs t) a)) (width_of t) (number (width_of u) b) _ small (amount_kept u b low)
    (λ n l i. narrow_if (width_of t) i _ _ small (λ k. by n i k (nat_lt (i + n) (width_of t)) refl (nat_lt (i + n) 64) refl))
  where
    z : SignsAbove (width_of t) a (wide (by_type Signs t) a)
    z = by_signs t small a

    highest : wide (by_type Signs t) a 63 ≡ a (width_of t - 1)
    highest = ⊎_elim
        (λ l. z.low 63 l ∙ ap a (let q : 63 ≡ width_of t - 1 = omega (arith, l, small) in q))
        (λ l. z.high 63 l (omega arith)) (cases_lt 63 (width_of t))

    by : (n i : ℕ) → i < width_of t → (c : Bool) → nat_lt (i + n) (width_of t) ≡ c → (d : Bool) → nat_lt (i + n) 64 ≡ d
        → Keeps (if c then a (i + n) else a (width_of t - 1)) (if d then wide (by_type Signs t) a (i + n) else wide (by_type Signs t) a 63)
    by n i k true e true g bit h = z.low (i + n) (lt_of (i + n) (width_of t) e) ∙ h
    by n i k true e false g bit h = let l = lt_of (i + n) (width_of t) e in absurd (let bad : ⊥ = let top : i + n < 64 = omega (arith, l, small) in grind arith in bad)
    by n i k false e true g bit h = z.high (i + n) (let q : width_of t ≤ i + n = grind arith in q) (lt_of (i + n) 64 g) ∙ h
    by n i k false e false g bit h = highest ∙ h
