-- What the patterns leave in registers is what operations of generic machine code give.
use Rattle.std.proofs.Common.{◌≡◌, ◌≢◌, refl, sym, ap, subst, ◌∙◌, ℕ, zero, suc, ◌+◌, ◌-◌, ◌%◌, ◌^◌, ◌<◌, ◌≤◌, ⊎_elim, Bool, true, false, not, Option, Some, None, arith, mod-eq_of_lt}
use Rattle.std.specs.Prelude.{ℤ, pos, negsuc, ◌==◌, nat_lt, nat_le, int_lt, int_le, bit_xor, slice_index_or, if◌then◌else◌}
use Rattle.std.specs.Int.{w64, cast_signed}
use Rattle.std.specs.Int.Bits.{xor_self}
use Rattle.std.proofs.lemmas.Bool.{cases_lt, le-ltb, ne_eqb, eq-eqb, lt-ltb, le-leb, lt-leb, ltb-true}
use Rattle.std.proofs.lemmas.Nat.{pow_pos, xor_lt}
use Rattle.rj_num.specs.Width.{signed}
use Rattle.ir_core.specs.declared.code.Pred.{Pred}
use Rattle.ir_core.specs.declared.code.Pred.TheVariants as pred
use Rattle.ir_meaning.specs.Operators.{holds, bit}
use Rattle.rv_core.specs.declared.instr.BranchOp.TheVariants.{Bne}
use Rattle.rv_core.specs.declared.instr.ImmOp.TheVariants.{Sltiu, Xori, Andi, Slli, Srai}
use Rattle.rv_core.specs.declared.instr.RegOp.{RegOp}
use Rattle.rv_core.specs.declared.instr.RegOp.TheVariants.{Sltu, Slt, Xor, And, Or, Sll, Sra}
use Rattle.rv_core.specs.Step.{op_value, modulo}
use Rattle.walks.specs.Walk.{Bits}
use Rattle.walks.specs.Bits.{cut, bit_of, constant, number, on_both, whole, and_bit, or_bit, xor_bit, bitwise, shifted, shift_left, shift_right, shift_right_signed, sign_extended, chosen, compared, predicates}
use Rattle.walks.specs.Refines.{RefinesBits}
use Rattle.walks.proofs.Monotone.{keeps_number, keeps_and, keeps_or}
use Rattle.walks.proofs.Numbers.{lt_true, number_constant, same_number, number_known, number_refines}
use Rattle.mir_play.specs.Values.{value, immediate_value, divisor, MayDivide, taken}
use Rattle.mir_play.proofs.Numbers.{exclusive, xor_of, cast_64, above_of, turns_64}
use Rattle.mir_play.proofs.Machine.{Below, machine_is, bit_is}
use Rattle.mir_play.proofs.Values.{value_mono, taken_keeps}

pub nothing : {A B : Type 0} (x : A) → None ≡ Some x → B
nothing x e = absurd (let bad : ⊥ = cc in bad)

within : (i w : ℕ) → nat_lt i w ≡ true → i < w
within i w t = ltb-true i w t

yes : {A : Type 0} (t : Bool) (x y : A) → t ≡ true → (if t then x else y) ≡ x
yes true x y e = refl
yes false x y e = absurd (let bad : ⊥ = cc in bad)

no_ : {A : Type 0} (t : Bool) (x y : A) → t ≡ false → (if t then x else y) ≡ y
no_ true x y e = absurd (let bad : ⊥ = cc in bad)
no_ false x y e = refl

-- ---- known numbers

-- the bits are at least those of the number
abbrev pub Shows : ℕ → Bits → Type 0
Shows x a = RefinesBits (constant 64 x) a

pub shows_below : (a : Bits) (x : ℕ) → Below 64 a x → Shows x a
shows_below a x h i bit e = by_test (nat_lt i 64) refl e
  where
    by_test : (b : Bool) → nat_lt i 64 ≡ b → (if b then Some (bit_of x i) else None) ≡ Some bit → a i ≡ Some bit
    by_test true t e = h i (within i 64 t) ∙ e
    by_test false t e = nothing bit e

-- an operation on known numbers gives the machine's
known : (op : RegOp) (m n : ℕ) → m < 2 ^ 64 → n < 2 ^ 64 → MayDivide (divisor op (constant 64 n)) → (a b : Bits) → Shows m a → Shows n b → Shows (op_value op m n) (value op a b)
known op m n low_m low_n d a b p q i bit e =
    value_mono (constant 64 m) a (constant 64 n) b p q op i bit
    (shows_below (value op (constant 64 m) (constant 64 n)) (op_value op m n) (machine_is m n low_m low_n op d) i bit e)

same_shows : (x : ℕ) → Shows x (constant 64 x)
same_shows x i bit e = e

-- a number of all the bits of two operands shows where it shows for each two numbers
pub whole_shows : (f : ℕ → ℕ → ℕ) (a b r : Bits) → ((m n : ℕ) → number 64 a ≡ Some m → number 64 b ≡ Some n → Shows (f m n) r) → RefinesBits (whole f 64 64 a b) r
whole_shows f a b r h i bit e = by_test (nat_lt i 64) refl e
  where
    both : (o o' : Option ℕ) → number 64 a ≡ o → number 64 b ≡ o' → i < 64 → on_both (λ m n. Some (bit_of (f m n) i)) o o' ≡ Some bit → r i ≡ Some bit
    both None o' p q l e = nothing bit e
    both (Some m) None p q l e = nothing bit e
    both (Some m) (Some n) p q l e = h m n p q i bit (rw (lt_true i 64 l) e)

    by_test : (t : Bool) → nat_lt i 64 ≡ t → (if t then on_both (λ m n. Some (bit_of (f m n) i)) (number 64 a) (number 64 b) else None) ≡ Some bit → r i ≡ Some bit
    by_test true t e = both (number 64 a) (number 64 b) refl refl (within i 64 t) e
    by_test false t e = nothing bit e

-- ---- compares

one_or_none : (t : Bool) → (if t then 1 else 0) ≡ bit t
one_or_none true = refl
one_or_none false = refl

module _ (m n : ℕ) (low_m : m < 2 ^ 64) (low_n : n < 2 ^ 64) (a b : Bits) (p : Shows m a) (q : Shows n b) where
  less : Shows (bit (nat_lt m n)) (value Sltu a b)
  less = subst (λ (x : ℕ). Shows x (value Sltu a b)) (one_or_none (nat_lt m n)) (known Sltu m n low_m low_n tt a b p q)

  signed_less : Shows (bit (int_lt (signed 64 m) (signed 64 n))) (value Slt a b)
  signed_less =
      let e : op_value Slt m n ≡ bit (int_lt (signed 64 m) (signed 64 n)) =
      one_or_none (int_lt (cast_signed w64 m) (cast_signed w64 n)) ∙ ap (λ (z : ℤ). bit (int_lt z (cast_signed w64 n))) (cast_64 m low_m) ∙ ap (λ (z : ℤ). bit (int_lt (signed 64 m) z)) (cast_64 n low_n) in
      subst (λ (x : ℕ). Shows x (value Slt a b)) e (known Slt m n low_m low_n tt a b p q)

  different : Shows (bit_xor m n) (value Xor a b)
  different = known Xor m n low_m low_n tt a b p q

turned : (t : Bool) (a : Bits) → Shows (bit t) a → Shows (bit (not t)) (immediate_value Xori a (pos 1))
turned true a p = known Xor 1 1 (omega arith) (omega arith) tt a (constant 64 1) p (same_shows 1)
turned false a p = known Xor 0 1 (omega arith) (omega arith) tt a (constant 64 1) p (same_shows 1)

no_bit : (i : ℕ) → bit_of 0 i ≡ false
no_bit i = above_of 0 0 i (omega arith) (omega arith)

alike : (x y : Bool) → exclusive x y ≡ false → x ≡ y
alike true true e = refl
alike true false e = absurd (let bad : ⊥ = cc in bad)
alike false true e = absurd (let bad : ⊥ = cc in bad)
alike false false e = refl

-- two numbers whose exclusive or is 0 are one
xor_none : (m n : ℕ) → m < 2 ^ 64 → n < 2 ^ 64 → bit_xor m n ≡ 0 → m ≡ n
xor_none m n low_m low_n e =
    let bits : (i : ℕ) → i < 64 → bit_of m i ≡ bit_of n i = λ i l. alike (bit_of m i) (bit_of n i) (sym (xor_of m n i) ∙ ap (λ (x : ℕ). bit_of x i) e ∙ no_bit i) in
    sym (mod-eq_of_lt low_m) ∙ same_number 64 m n bits ∙ mod-eq_of_lt low_n

xor_test : (m n : ℕ) → m < 2 ^ 64 → n < 2 ^ 64 → nat_lt (bit_xor m n) 1 ≡ (m == n)
xor_test m n low_m low_n = ⊎_elim (λ l. unlike (λ e. omega (arith, l, e))) (λ l. ⊎_elim (λ k. unlike (λ e. omega (arith, k, e))) (λ k. equal (omega (arith, l, k))) (cases_lt n m)) (cases_lt m n)
  where
    equal : m ≡ n → nat_lt (bit_xor m n) 1 ≡ (m == n)
    equal e = subst (λ (z : ℕ). nat_lt (bit_xor m z) 1 ≡ (m == z)) e (rw (xor_self m, eq-eqb m m refl) refl)

    unlike : (m ≡ n → ⊥) → nat_lt (bit_xor m n) 1 ≡ (m == n)
    unlike h =
        rw (ne_eqb m n h)
        (⊎_elim (λ l. absurd (h (xor_none m n low_m low_n (omega (arith, l))))) (λ l. le-ltb (bit_xor m n) 1 l) (cases_lt (bit_xor m n) 1))

is_none : (x : ℕ) → x < 2 ^ 64 → (a : Bits) → Shows x a → Shows (bit (nat_lt x 1)) (immediate_value Sltiu a (pos 1))
is_none x low a p = subst (λ (z : ℕ). Shows z (immediate_value Sltiu a (pos 1))) (one_or_none (nat_lt x 1)) (known Sltu x 1 low (omega arith) tt a (constant 64 1) p (same_shows 1))

not_less : (m n : ℕ) → not (nat_lt m n) ≡ nat_le n m
not_less m n = ⊎_elim (λ l. rw (lt-ltb m n l, lt-leb n m l) refl) (λ l. rw (le-ltb m n l, le-leb n m l) refl) (cases_lt m n)

not_less_signed : (x y : ℤ) → not (int_lt x y) ≡ int_le y x
not_less_signed (pos m) (pos n) = not_less m n
not_less_signed (pos m) (negsuc n) = refl
not_less_signed (negsuc m) (pos n) = refl
not_less_signed (negsuc m) (negsuc n) = not_less n m

-- the register in which a pattern of a compare leaves 1 or 0
abbrev pub compared_bits : Pred → Bits → Bits → Bits
compared_bits pred.Eq a b = immediate_value Sltiu (value Xor a b) (pos 1)
compared_bits pred.Ne a b = immediate_value Xori (immediate_value Sltiu (value Xor a b) (pos 1)) (pos 1)
compared_bits pred.Ugt a b = value Sltu b a
compared_bits pred.Uge a b = immediate_value Xori (value Sltu a b) (pos 1)
compared_bits pred.Ult a b = value Sltu a b
compared_bits pred.Ule a b = immediate_value Xori (value Sltu b a) (pos 1)
compared_bits pred.Sgt a b = value Slt b a
compared_bits pred.Sge a b = immediate_value Xori (value Slt a b) (pos 1)
compared_bits pred.Slt a b = value Slt a b
compared_bits pred.Sle a b = immediate_value Xori (value Slt b a) (pos 1)

module _ (m n : ℕ) (low_m : m < 2 ^ 64) (low_n : n < 2 ^ 64) (a b : Bits) (p : Shows m a) (q : Shows n b) where
  abbrev Tells : Pred → Bool → Type 0
  Tells c t = Shows (bit t) (compared_bits c a b)

  equal_bits : Shows (bit (m == n)) (immediate_value Sltiu (value Xor a b) (pos 1))
  equal_bits =
      subst (λ (t : Bool). Shows (bit t) (immediate_value Sltiu (value Xor a b) (pos 1))) (xor_test m n low_m low_n)
      (is_none (bit_xor m n) (xor_lt 64 m n low_m low_n) (value Xor a b) (different m n low_m low_n a b p q))

  tells : (c : Pred) → Shows (bit (holds c 64 m n)) (compared_bits c a b)
  tells pred.Eq = equal_bits
  tells pred.Ne = turned (m == n) _ equal_bits
  tells pred.Ugt = less n m low_n low_m b a q p
  tells pred.Uge = subst (Tells pred.Uge) (not_less m n) (turned (nat_lt m n) _ (less m n low_m low_n a b p q))
  tells pred.Ult = less m n low_m low_n a b p q
  tells pred.Ule = subst (Tells pred.Ule) (not_less n m) (turned (nat_lt n m) _ (less n m low_n low_m b a q p))
  tells pred.Sgt = signed_less n m low_n low_m b a q p
  tells pred.Sge = subst (Tells pred.Sge) (not_less_signed (signed 64 m) (signed 64 n)) (turned (int_lt (signed 64 m) (signed 64 n)) _ (signed_less m n low_m low_n a b p q))
  tells pred.Slt = signed_less m n low_m low_n a b p q
  tells pred.Sle = subst (Tells pred.Sle) (not_less_signed (signed 64 n) (signed 64 m)) (turned (int_lt (signed 64 n) (signed 64 m)) _ (signed_less n m low_n low_m b a q p))

-- a compare of operands of which less is known
pub compare_refines : (place : ℕ) (a b a' b' : Bits) → RefinesBits a a' → RefinesBits b b'
    → RefinesBits (whole (compared 64 place) 64 64 a b) (compared_bits (slice_index_or predicates place pred.Eq) a' b')
compare_refines place a b a' b' p q =
    whole_shows (compared 64 place) a b (compared_bits (slice_index_or predicates place pred.Eq) a' b')
    (λ m n e f. tells m n (number_known 64 a m e).low (number_known 64 b n f).low a' b'
    (λ i bit x. p i bit (number_refines 64 a m e i bit x)) (λ i bit x. q i bit (number_refines 64 b n f i bit x)) (slice_index_or predicates place pred.Eq))

-- ---- shifts: the amount is known and below 64, so it is the number of its low six bits

abbrev Amount : Option ℕ → Option ℕ → Type 0
Amount o o' = (k : ℕ) → o ≡ Some k → k < 64 → o' ≡ Some k

amount_known : (b b' : Bits) → RefinesBits b b' → Amount (number 64 b) (number 6 b')
amount_known b b' q k e low =
    let shown : RefinesBits (constant 64 k) b' = λ i bit x. q i bit (number_refines 64 b k e i bit x) in
    keeps_number 6 (constant 64 k) b' shown k (number_constant 64 6 k (omega arith) ∙ ap Some (mod-eq_of_lt low))

pub shift_refines : (f f' : ℕ → Bits) → ((k : ℕ) → RefinesBits (f k) (f' k)) → (b b' : Bits) → RefinesBits b b' → RefinesBits (shifted f 64 (number 64 b)) (shifted f' 64 (number 6 b'))
shift_refines f f' each b b' q i bit e = by_amount (number 64 b) refl e
  where
    by_test : (k : ℕ) → number 64 b ≡ Some k → (t : Bool) → nat_lt k 64 ≡ t → (if t then f k i else None) ≡ Some bit → shifted f' 64 (number 6 b') i ≡ Some bit
    by_test k s true t e = ap (λ (o : Option ℕ). shifted f' 64 o i) (amount_known b b' q k s (within k 64 t)) ∙ yes (nat_lt k 64) (f' k i) None t ∙ each k i bit e
    by_test k s false t e = nothing bit e

    by_amount : (o : Option ℕ) → number 64 b ≡ o → shifted f 64 o i ≡ Some bit → shifted f' 64 (number 6 b') i ≡ Some bit
    by_amount None s e = nothing bit e
    by_amount (Some k) s e = by_test k s (nat_lt k 64) refl e

-- ---- shifts by an immediate amount

amount_is : (k : ℕ) → k < 64 → number 6 (constant 64 (modulo (pos k))) ≡ Some k
amount_is k low =
    let inside : k % 2 ^ 64 ≡ k = mod-eq_of_lt (omega (arith, low)) in
    number_constant 64 6 (k % 2 ^ 64) (omega arith) ∙ ap (λ (z : ℕ). Some (z % 2 ^ 6)) inside ∙ ap Some (mod-eq_of_lt low)

left_by : (a : Bits) (k i : ℕ) → k < 64 → i < 64 → immediate_value Slli a (pos k) i ≡ (if nat_lt i k then Some false else a (i - k))
left_by a k i low below =
    ap (λ (o : Option ℕ). shifted (shift_left 64 a) 64 o i) (amount_is k low) ∙ yes (nat_lt k 64) (shift_left 64 a k i) None (lt_true k 64 low)
    ∙ yes (nat_lt i 64) (if nat_lt i k then Some false else a (i - k)) None (lt_true i 64 below)

right_by : (a : Bits) (k i : ℕ) → k < 64 → i < 64 → immediate_value Srai a (pos k) i ≡ (if nat_lt (i + k) 64 then a (i + k) else a 63)
right_by a k i low below =
    ap (λ (o : Option ℕ). shifted (shift_right_signed 64 a) 64 o i) (amount_is k low) ∙ yes (nat_lt k 64) (shift_right_signed 64 a k i) None (lt_true k 64 low)
    ∙ yes (nat_lt i 64) (if nat_lt (i + k) 64 then a (i + k) else a 63) None (lt_true i 64 below)

-- up by k, and down again with the sign: the low bits and their sign
module _ (a : Bits) (k i : ℕ) (low : k < 64) (below : i < 64) where
  abbrev up : Bits
  up = immediate_value Slli a (pos k)

  abbrev Down : Option Bool → Type 0
  Down x = (if nat_lt (i + k) 64 then up (i + k) else up 63) ≡ x

  inside : i < 64 - k → Down (if nat_lt i (64 - k) then a i else a (63 - k))
  inside l =
      let back : (i + k) - k ≡ i = omega arith in
      yes (nat_lt (i + k) 64) (up (i + k)) (up 63) (lt_true (i + k) 64 (omega (arith, l)))
      ∙ left_by a k (i + k) low (omega (arith, l)) ∙ no_ (nat_lt (i + k) k) (Some false) (a ((i + k) - k)) (le-ltb (i + k) k (omega arith)) ∙ ap a back
      ∙ sym (yes (nat_lt i (64 - k)) (a i) (a (63 - k)) (lt_true i (64 - k) l))

  past : 64 - k ≤ i → Down (if nat_lt i (64 - k) then a i else a (63 - k))
  past l =
      no_ (nat_lt (i + k) 64) (up (i + k)) (up 63) (le-ltb (i + k) 64 (omega (arith, l, low)))
      ∙ left_by a k 63 low (omega arith) ∙ no_ (nat_lt 63 k) (Some false) (a (63 - k)) (le-ltb 63 k (omega (arith, low)))
      ∙ sym (no_ (nat_lt i (64 - k)) (a i) (a (63 - k)) (le-ltb i (64 - k) l))

  up_and_down : immediate_value Srai up (pos k) i ≡ (if nat_lt i (64 - k) then a i else a (63 - k))
  up_and_down = right_by up k i low below ∙ ⊎_elim inside past (cases_lt i (64 - k))

-- the low bits, extended by their sign
pub extend_refines : (n : ℕ) → 1 ≤ n → n ≤ 64 → (a a' : Bits) → RefinesBits a a'
    → RefinesBits (sign_extended n 64 a) (immediate_value Srai (immediate_value Slli a' (pos (64 - n))) (pos (64 - n)))
extend_refines n some small a a' p i bit e = by_test (nat_lt i 64) refl e
  where
    back : 64 - (64 - n) ≡ n
    back = omega (arith, small)

    high : 63 - (64 - n) ≡ n - 1
    high = omega (arith, small, some)

    by_bit : (t : Bool) → (if t then a i else a (n - 1)) ≡ Some bit → (if t then a' i else a' (n - 1)) ≡ Some bit
    by_bit true e = p i bit e
    by_bit false e = p (n - 1) bit e

    by_test : (t : Bool) → nat_lt i 64 ≡ t → (if t then (if nat_lt i n then a i else a (n - 1)) else None) ≡ Some bit
        → immediate_value Srai (immediate_value Slli a' (pos (64 - n))) (pos (64 - n)) i ≡ Some bit
    by_test false t e = nothing bit e
    by_test true t e =
        up_and_down a' (64 - n) i (omega (arith, some)) (within i 64 t)
        ∙ ap (λ (z : ℕ). if nat_lt i z then a' i else a' (63 - (64 - n))) back
        ∙ ap (λ (z : ℕ). if nat_lt i n then a' i else a' z) high
        ∙ by_bit (nat_lt i n) e

-- ---- choices

-- bit by bit, a mask of ones takes the first and a mask of zeros the second
choose_bit : (c : Bool) (u v : Option Bool) (bit : Bool) → (if c then u else v) ≡ Some bit → or_bit (and_bit u (Some c)) (and_bit v (xor_bit (Some c) (Some true))) ≡ Some bit
choose_bit true None v bit e = nothing bit e
choose_bit true (Some true) v bit e = e
choose_bit true (Some false) None bit e = e
choose_bit true (Some false) (Some true) bit e = e
choose_bit true (Some false) (Some false) bit e = e
choose_bit false u None bit e = nothing bit e
choose_bit false None (Some true) bit e = e
choose_bit false None (Some false) bit e = e
choose_bit false (Some true) (Some true) bit e = e
choose_bit false (Some true) (Some false) bit e = e
choose_bit false (Some false) (Some true) bit e = e
choose_bit false (Some false) (Some false) bit e = e

-- the mask of a bit
abbrev pub mask : Bits → Bits
mask c = immediate_value Srai (immediate_value Slli c (pos 63)) (pos 63)

mask_bit : (c : Bits) (i : ℕ) → i < 64 → mask c i ≡ c 0
mask_bit c i below = up_and_down c 63 i (omega arith) below ∙ ⊎_elim first others (cases_lt i 1)
  where
    first : i < 1 → (if nat_lt i 1 then c i else c 0) ≡ c 0
    first l = let z : i ≡ 0 = omega (arith, l) in rw (lt_true i 1 l) (ap c z)

    others : 1 ≤ i → (if nat_lt i 1 then c i else c 0) ≡ c 0
    others l = rw (le-ltb i 1 l) refl

-- all bits of minus one are 1
ones : (i : ℕ) → i < 64 → constant 64 (modulo (negsuc 0)) i ≡ Some true
ones i below = bit_is (modulo (negsuc 0)) i below ∙ ap Some (turns_64 0 i (omega arith) below ∙ ap not (no_bit i))

-- both masked parts put together
module _ (a b k n : Bits) (i : ℕ) (l : i < 64) where
  at_bit : (f : Option Bool → Option Bool → Option Bool) (x y : Bits) → bitwise f 64 x y i ≡ f (x i) (y i)
  at_bit f x y = yes (nat_lt i 64) (f (x i) (y i)) None (lt_true i 64 l)

  put_together : (x : Option Bool) → k i ≡ x → n i ≡ Some true
      → value Or (value And a k) (value And b (value Xor k n)) i ≡ or_bit (and_bit (a i) x) (and_bit (b i) (xor_bit x (Some true)))
  put_together x p q =
      at_bit or_bit (value And a k) (value And b (value Xor k n))
      ∙ ap (λ (z : Option Bool). or_bit z (value And b (value Xor k n) i)) (at_bit and_bit a k ∙ ap (and_bit (a i)) p)
      ∙ ap (or_bit (and_bit (a i) x))
      (at_bit and_bit b (value Xor k n) ∙ ap (and_bit (b i)) (at_bit xor_bit k n ∙ ap (λ (z : Option Bool). xor_bit z (n i)) p ∙ ap (xor_bit x) q))

pub choose_refines : (c a b c' a' b' : Bits) → RefinesBits c c' → RefinesBits a a' → RefinesBits b b'
    → RefinesBits (cut 64 (chosen (c 0) a b)) (value Or (value And a' (mask c')) (value And b' (immediate_value Xori (mask c') (negsuc 0))))
choose_refines c a b c' a' b' p q r i bit e = by_test (nat_lt i 64) refl e
  where
    by_choice : (o : Option Bool) → c 0 ≡ o → chosen o a b i ≡ Some bit → or_bit (and_bit (a' i) (c' 0)) (and_bit (b' i) (xor_bit (c' 0) (Some true))) ≡ Some bit
    by_choice None s e = nothing bit e
    by_choice (Some true) s e = rw (p 0 true s) (choose_bit true (a' i) (b' i) bit (q i bit e))
    by_choice (Some false) s e = rw (p 0 false s) (choose_bit false (a' i) (b' i) bit (r i bit e))

    by_test : (t : Bool) → nat_lt i 64 ≡ t → (if t then chosen (c 0) a b i else None) ≡ Some bit
        → value Or (value And a' (mask c')) (value And b' (immediate_value Xori (mask c') (negsuc 0))) i ≡ Some bit
    by_test false t e = nothing bit e
    by_test true t e =
        let l : i < 64 = within i 64 t in
        put_together a' b' (mask c') (constant 64 (modulo (negsuc 0))) i l (c' 0) (mask_bit c' i l) (ones i l) ∙ by_choice (c 0) refl e

-- ---- branches

and_none : (o : Option Bool) → and_bit o (Some false) ≡ Some false
and_none None = refl
and_none (Some true) = refl
and_none (Some false) = refl

and_one : (x : Bool) → and_bit (Some x) (Some true) ≡ Some x
and_one true = refl
and_one false = refl

bit_low : (x : Bool) → bit x < 2 ^ 1
bit_low true = omega arith
bit_low false = omega arith

first_bit : (x : Bool) → bit_of (bit x) 0 ≡ x
first_bit true = refl
first_bit false = refl

-- the lowest bit alone
lowest_shows : (c : Bits) (x : Bool) → c 0 ≡ Some x → Shows (bit x) (immediate_value Andi c (pos 1))
lowest_shows c x s = shows_below (immediate_value Andi c (pos 1)) (bit x) (λ i l. rw (lt_true i 64 l) (⊎_elim (first i) (others i) (cases_lt i 1)))
  where
    first : (i : ℕ) → i < 1 → and_bit (c i) (Some (bit_of 1 i)) ≡ Some (bit_of (bit x) i)
    first i l =
        let z : i ≡ 0 = omega (arith, l) in
        subst (λ (j : ℕ). and_bit (c j) (Some (bit_of 1 j)) ≡ Some (bit_of (bit x) j)) (sym z) (ap (λ (o : Option Bool). and_bit o (Some true)) s ∙ and_one x ∙ ap Some (sym (first_bit x)))

    others : (i : ℕ) → 1 ≤ i → and_bit (c i) (Some (bit_of 1 i)) ≡ Some (bit_of (bit x) i)
    others i l =
        ap (λ (z : Bool). and_bit (c i) (Some z)) (above_of 1 1 i (omega arith) l) ∙ and_none (c i) ∙ ap Some (sym (above_of (bit x) 1 i (bit_low x) l))

taken_known : (x : Bool) → taken Bne (constant 64 (bit x)) (constant 64 0) ≡ Some x
taken_known true = refl
taken_known false = refl

-- a branch goes by the lowest bit
pub branch_taken : (c c' : Bits) → RefinesBits c c' → (x : Bool) → c 0 ≡ Some x → taken Bne (immediate_value Andi c' (pos 1)) (constant 64 0) ≡ Some x
branch_taken c c' p x s =
    taken_keeps (constant 64 (bit x)) (immediate_value Andi c' (pos 1)) (constant 64 0) (constant 64 0) (lowest_shows c' x (p 0 x s)) (λ i b e. e) Bne x (taken_known x)
