-- The code for an operator of a width up to 64 leaves what the operator gives.
use Rattle.std.proofs.Common.{◌≡◌, ◌≢◌, refl, sym, ap, ap₂, subst, ◌∙◌, ℕ, zero, suc, ◌+◌, ◌-◌, ◌*◌, ◌/◌, ◌%◌, ◌^◌, ◌<◌, ◌≤◌, ⊎_elim, List, [], ◌∷◌, ◌++◌, Some, None, Bool, true, false, cond, arith, mod-eq_of_lt}
use Rattle.std.specs.Prelude.{◌==◌, nat_lt, nat_le, ℤ, pos, negsuc, int_div, int_rem, bit_and}
use Rattle.std.specs.Int.{w32, w64, cast_signed, int_shr}
use Rattle.std.proofs.Math.Pow.{pow_mono}
use Rattle.std.proofs.lemmas.Int.{ints}
use Rattle.std.proofs.lemmas.Bool.{cases_lt, ne_eqb, ltb-true}
use Rattle.std.proofs.lemmas.Nat.{pow_pos, pow_below, and_mask}
use Rattle.ir_core.specs.declared.code.Flags.{Flags}
use Rattle.ir_core.specs.declared.code.BinOp.{BinOp}
use Rattle.ir_core.specs.declared.code.BinOp.TheVariants as ir
use Rattle.rv_core.specs.declared.reg.Reg.TheVariants.{T0, T1}
use Rattle.rv_core.specs.declared.instr.ImmOp.{ImmOp}
use Rattle.rv_core.specs.declared.instr.ImmOp.TheVariants.{Andi, Slli, Srli, Srai, Addiw}
use Rattle.rv_core.specs.declared.instr.RegOp.{RegOp}
use Rattle.rv_core.specs.declared.instr.RegOp.TheVariants.{Add, Addw, Sub, Sll, Srl, Sra, Or, And, Xor, Mul, Div, Divw, Divu, Rem, Remw, Remu, Sraw}
use Rattle.rv_core.specs.declared.instr.Instr.{Instr}
use Rattle.rv_core.specs.declared.instr.Instr.TheVariants.{Imm, Op as RegisterOp}
use Rattle.rv_core.specs.Step.{Registers, after, written, modulo, sign_extend_word, op_value, register_form}
use Rattle.rj_num.specs.Width.{signed, modulo as wrap}
use Rattle.ir_meaning.specs.Value.{Value, Computed, Gives, NoMeaning, poison_if}
use Rattle.ir_meaning.specs.Operators.{binary, unsigned_division, signed_division, unsigned_quotient, unsigned_remainder, signed_quotient, signed_remainder, overflows_quotient, shift, shl, lshr, ashr}
use Rattle.quick_code.specs.Narrow.{zero_extended, sign_extended, binary_code, after_all, Turns}
use Rattle.code_pieces.proofs.Const.{sign-cases}
use Rattle.quick_code.proofs.Narrow.{cut-modulo, sign-read, IsWidth, cut-by-shifts, cut-again, sign-by-shifts, sub-is, shl-is, lshr-is, ashr-is, sdiv-is, srem-is, sign-whole}

-- ---- lists of instructions

pub after-append : (xs ys : List Instr) (s : Registers) → after_all (xs ++ ys) s ≡ after_all ys (after_all xs s)
after-append [] ys s = refl
after-append (x ∷ xs) ys s = after-append xs ys (after s x)

pub turns-then : (xs ys : List Instr) (a b c d e f : ℕ) → Turns xs a b c d → Turns ys c d e f → Turns (xs ++ ys) a b e f
turns-then xs ys a b c d e f h g = λ s ea eb.
    let first = h s ea eb in
    let second = g (after_all xs s) first.0 first.1 in
    let same : (after_all (xs ++ ys) s).x ≡ (after_all ys (after_all xs s)).x = ap (λ (u : Registers). u.x) (after-append xs ys s) in (
      ap (λ (r : ℕ → ℕ). r 5) same ∙ second.0,
      ap (λ (r : ℕ → ℕ). r 6) same ∙ second.1,
      λ j n5 n6. ap (λ (r : ℕ → ℕ). r j) same ∙ second.2 j n5 n6 ∙ first.2 j n5 n6,
    )

pub turns-none : (a b : ℕ) → Turns [] a b a b
turns-none a b = λ s ea eb. (ea, eb, λ j n5 n6. refl)

turns-if : (t : Bool) (xs ys : List Instr) (a b c d : ℕ) → (t ≡ true → Turns xs a b c d) → (t ≡ false → Turns ys a b c d) → Turns (cond t xs ys) a b c d
turns-if true xs ys a b c d h k = h refl
turns-if false xs ys a b c d h k = k refl

-- with another number in the same place
pub turns-to : (xs : List Instr) (a b c d e : ℕ) → c ≡ e → Turns xs a b c d → Turns xs a b e d
turns-to xs a b c d e same h = subst (λ (n : ℕ). Turns xs a b n d) same h

pub written-other : (f : ℕ → ℕ) (i v j : ℕ) → j ≢ i → written f i v j ≡ f j
written-other f i v j h = ap (λ (b : Bool). cond b v (f j)) (ne_eqb j i h)

pub on-both : (op : RegOp) (a b : ℕ) → Turns (RegisterOp op T0 T0 T1 ∷ []) a b (op_value op a b) b
on-both op a b = λ s ea eb. (ap₂ (op_value op) ea eb, eb, λ j n5 n6. written-other s.x 5 _ j n5)

pub on-first : (op : ImmOp) (z : ℤ) (a b : ℕ) → Turns (Imm op T0 T0 z ∷ []) a b (op_value (register_form op) a (modulo z)) b
on-first op z a b = λ s ea eb. (ap (λ (x : ℕ). op_value (register_form op) x (modulo z)) ea, eb, λ j n5 n6. written-other s.x 5 _ j n5)

on-second : (op : ImmOp) (z : ℤ) (a b : ℕ) → Turns (Imm op T1 T1 z ∷ []) a b a (op_value (register_form op) b (modulo z))
on-second op z a b = λ s ea eb. (ea, ap (λ (x : ℕ). op_value (register_form op) x (modulo z)) eb, λ j n5 n6. written-other s.x 6 _ j n6)

-- ---- one operator

abbrev value_of : Computed → Value
value_of (Gives v) = v
value_of NoMeaning = None

abbrev pub number : Value → ℕ
number None = 0
number (Some n) = n

pub given : (a b : Value) → Gives a ≡ Gives b → a ≡ b
given a b h = ap value_of h

-- a number that isn't poison
pub kept : (t : Bool) (n v : ℕ) → poison_if t n ≡ Some v → n ≡ v
kept true n v h = absurd (let bad : None ≡ Some v = h in cc)
kept false n v h = ap number h

-- a divisor, and an amount, with which an operator has a meaning
divisor : (f : ℕ → ℕ → Value) (a b v : ℕ) → unsigned_division f (Some a) (Some b) ≡ Gives (Some v) → (b ≢ 0) × (f a b ≡ Some v)
divisor f a zero v h = absurd (let bad : NoMeaning ≡ Gives (Some v) = h in cc)
divisor f a (suc b) v h = ((λ e. absurd (omega (arith, e))), given (f a (suc b)) (Some v) h)

signed-divisor : (w : ℕ) (f : ℕ → ℕ → Value) (a b v : ℕ) → signed_division w f (Some a) (Some b) ≡ Gives (Some v) → (b ≢ 0) × (f a b ≡ Some v)
signed-divisor w f a zero v h = absurd (let bad : NoMeaning ≡ Gives (Some v) = h in cc)
signed-divisor w f a (suc b) v h = ((λ e. absurd (omega (arith, e))), at (overflows_quotient w a (suc b)) h)
  where
    at : (t : Bool) → cond t NoMeaning (Gives (f a (suc b))) ≡ Gives (Some v) → f a (suc b) ≡ Some v
    at true e = absurd (let bad : NoMeaning ≡ Gives (Some v) = e in cc)
    at false e = given (f a (suc b)) (Some v) e

amount : (f : ℕ → ℕ → Value) (w a b v : ℕ) → Gives (shift f w a b) ≡ Gives (Some v) → (b < w) × (f a b ≡ Some v)
amount f w a b v h = at (nat_lt b w) refl (given (shift f w a b) (Some v) h)
  where
    at : (t : Bool) → nat_lt b w ≡ t → cond t (f a b) None ≡ Some v → (b < w) × (f a b ≡ Some v)
    at true t e = (ltb-true _ _ t, e)
    at false t e = absurd (let bad : None ≡ Some v = e in cc)

module _ (w : ℕ) (one : 1 ≤ w) (most : w ≤ 64) where
  pub is-width : IsWidth w (64 - w)
  is-width = (one, let e : w + (64 - w) ≡ 64 = omega (arith, most) in e)

  sum : w + (64 - w) ≡ 64
  sum = omega (arith, most)

  pub full : (w == 64) ≡ true → w ≡ 64
  full e = grind arith

  pub below-64 : (n : ℕ) → n < 2 ^ w → n < 2 ^ 64
  below-64 n lt = ⊎_elim (λ l. (let p = pow_below w 64 l in omega (arith, lt, p))) (λ l. (let e : w ≡ 64 = omega (arith, l, most) in subst (λ (j : ℕ). n < 2 ^ j) e lt)) (cases_lt w 64)

  -- the low bits by a mask
  pub mask-is : (n : ℕ) → op_value And n (modulo (pos (2 ^ w - 1))) ≡ n % 2 ^ w
  mask-is n =
      let p = pow_pos w in
      let wide : 2 ^ w ≤ 2 ^ 64 = pow_mono most in
      let small : (2 ^ w - 1) % 2 ^ 64 ≡ 2 ^ w - 1 = mod-eq_of_lt (let lt : 2 ^ w - 1 < 2 ^ 64 = omega (arith, p, wide) in lt) in
      ap (bit_and n) small ∙ and_mask n w

  pub cuts : (n b : ℕ) → n < 2 ^ 64 → Turns (zero_extended w T0) n b (n % 2 ^ w) b
  cuts n b lt =
      turns-if (w == 64) [] _ n b (n % 2 ^ w) b
      (λ e. turns-to [] n b n b (n % 2 ^ w) (sym (mod-eq_of_lt (subst (λ (j : ℕ). n < 2 ^ j) (sym (full e)) lt))) (turns-none n b))
      (λ e. turns-if (nat_le w 11) (Imm Andi T0 T0 (pos (2 ^ w - 1)) ∷ []) (Imm Slli T0 T0 (pos (64 - w)) ∷ Imm Srli T0 T0 (pos (64 - w)) ∷ []) n b (n % 2 ^ w) b
      (λ d. turns-to (Imm Andi T0 T0 (pos (2 ^ w - 1)) ∷ []) n b (op_value And n (modulo (pos (2 ^ w - 1)))) b (n % 2 ^ w) (mask-is n) (on-first Andi (pos (2 ^ w - 1)) n b))
      (λ d. turns-to (Imm Slli T0 T0 (pos (64 - w)) ∷ Imm Srli T0 T0 (pos (64 - w)) ∷ []) n b (op_value Srl (op_value Sll n (modulo (pos (64 - w)))) (modulo (pos (64 - w)))) b (n % 2 ^ w) (cut-by-shifts w (64 - w) n is-width)
      (turns-then (Imm Slli T0 T0 (pos (64 - w)) ∷ []) (Imm Srli T0 T0 (pos (64 - w)) ∷ []) n b (op_value Sll n (modulo (pos (64 - w)))) b _ b (on-first Slli (pos (64 - w)) n b) (on-first Srli (pos (64 - w)) _ b))))

  whole-sign : (n : ℕ) → w ≡ 64 → n < 2 ^ w → modulo (signed w n) ≡ n
  whole-sign n e lt = subst (λ (j : ℕ). n < 2 ^ j → modulo (signed j n) ≡ n) (sym e) (sign-whole n) lt

  -- the sign of a word by one instruction
  word-sign : (n : ℕ) → w ≡ 32 → n < 2 ^ w → op_value Addw n (modulo (pos 0)) ≡ modulo (signed w n)
  word-sign n e lt = subst (λ (j : ℕ). n < 2 ^ j → op_value Addw n (modulo (pos 0)) ≡ modulo (signed j n)) (sym e) (extended n) lt
    where
      extended : (n : ℕ) → n < 2 ^ 32 → op_value Addw n (modulo (pos 0)) ≡ modulo (signed 32 n)
      extended n lt =
          let low : (n + 0) % 2 ^ 32 ≡ n = omega (arith, lt) in
          ap (λ (x : ℕ). modulo (cast_signed w32 x)) low ∙ ap modulo (let same : cast_signed w32 n ≡ signed 32 n = grind (arith, ints) in same)

  a-word : (w == 32) ≡ true → w ≡ 32
  a-word e = grind arith

  pub signs-first : (n b : ℕ) → n < 2 ^ w → Turns (sign_extended w T0) n b (modulo (signed w n)) b
  signs-first n b lt =
      turns-if (w == 64) [] _ n b (modulo (signed w n)) b
      (λ e. turns-to [] n b n b (modulo (signed w n)) (sym (whole-sign n (full e) lt)) (turns-none n b))
      (λ e. turns-if (w == 32) (Imm Addiw T0 T0 (pos 0) ∷ []) (Imm Slli T0 T0 (pos (64 - w)) ∷ Imm Srai T0 T0 (pos (64 - w)) ∷ []) n b (modulo (signed w n)) b
      (λ d. turns-to (Imm Addiw T0 T0 (pos 0) ∷ []) n b (op_value Addw n (modulo (pos 0))) b (modulo (signed w n)) (word-sign n (a-word d) lt) (on-first Addiw (pos 0) n b))
      (λ d. turns-to (Imm Slli T0 T0 (pos (64 - w)) ∷ Imm Srai T0 T0 (pos (64 - w)) ∷ []) n b (op_value Sra (op_value Sll n (modulo (pos (64 - w)))) (modulo (pos (64 - w)))) b (modulo (signed w n)) (sign-by-shifts w (64 - w) n is-width lt)
      (turns-then (Imm Slli T0 T0 (pos (64 - w)) ∷ []) (Imm Srai T0 T0 (pos (64 - w)) ∷ []) n b (op_value Sll n (modulo (pos (64 - w)))) b _ b (on-first Slli (pos (64 - w)) n b) (on-first Srai (pos (64 - w)) _ b))))

  pub signs-second : (a n : ℕ) → n < 2 ^ w → Turns (sign_extended w T1) a n a (modulo (signed w n))
  signs-second a n lt =
      turns-if (w == 64) [] _ a n a (modulo (signed w n))
      (λ e. subst (λ (m : ℕ). Turns [] a n a m) (sym (whole-sign n (full e) lt)) (turns-none a n))
      (λ e. turns-if (w == 32) (Imm Addiw T1 T1 (pos 0) ∷ []) (Imm Slli T1 T1 (pos (64 - w)) ∷ Imm Srai T1 T1 (pos (64 - w)) ∷ []) a n a (modulo (signed w n))
      (λ d. subst (λ (m : ℕ). Turns (Imm Addiw T1 T1 (pos 0) ∷ []) a n a m) (word-sign n (a-word d) lt) (on-second Addiw (pos 0) a n))
      (λ d. subst (λ (m : ℕ). Turns (Imm Slli T1 T1 (pos (64 - w)) ∷ Imm Srai T1 T1 (pos (64 - w)) ∷ []) a n a m) (sign-by-shifts w (64 - w) n is-width lt)
      (turns-then (Imm Slli T1 T1 (pos (64 - w)) ∷ []) (Imm Srai T1 T1 (pos (64 - w)) ∷ []) a n a (op_value Sll n (modulo (pos (64 - w)))) a _ (on-second Slli (pos (64 - w)) a n) (on-second Srai (pos (64 - w)) a _))))

  -- an operation, and a cut
  cut-after : (op : RegOp) (a b v : ℕ) → op_value op a b < 2 ^ 64 → op_value op a b % 2 ^ w ≡ v → Turns (RegisterOp op T0 T0 T1 ∷ zero_extended w T0) a b v b
  cut-after op a b v lt e = turns-to (RegisterOp op T0 T0 T1 ∷ zero_extended w T0) a b (op_value op a b % 2 ^ w) b v e (turns-then (RegisterOp op T0 T0 T1 ∷ []) (zero_extended w T0) a b (op_value op a b) b _ b (on-both op a b) (cuts (op_value op a b) b lt))

  -- an operation on both numbers with their signs, and a cut
  signed-after : (op : RegOp) (a b v : ℕ) → a < 2 ^ w → b < 2 ^ w → op_value op (modulo (signed w a)) (modulo (signed w b)) < 2 ^ 64 → op_value op (modulo (signed w a)) (modulo (signed w b)) % 2 ^ w ≡ v
      → Turns (sign_extended w T0 ++ (sign_extended w T1 ++ RegisterOp op T0 T0 T1 ∷ zero_extended w T0)) a b v (modulo (signed w b))
  signed-after op a b v la lb lt e =
      turns-then (sign_extended w T0) (sign_extended w T1 ++ RegisterOp op T0 T0 T1 ∷ zero_extended w T0) a b (modulo (signed w a)) b v (modulo (signed w b)) (signs-first a b la)
      (turns-then (sign_extended w T1) (RegisterOp op T0 T0 T1 ∷ zero_extended w T0) (modulo (signed w a)) b (modulo (signed w a)) (modulo (signed w b)) v (modulo (signed w b)) (signs-second (modulo (signed w a)) b lb)
      (cut-after op (modulo (signed w a)) (modulo (signed w b)) v lt e))

  pub modulo-below : (z : ℤ) → modulo z < 2 ^ 64
  modulo-below (pos n) = omega arith
  modulo-below (negsuc n) = omega arith

  -- ---- operations on words

  word-below : (n : ℕ) → sign_extend_word n < 2 ^ 64
  word-below n = modulo-below (cast_signed w32 (n % 2 ^ 32))

  -- the low bits of a word
  word-cut : (n : ℕ) → sign_extend_word n % 2 ^ 32 ≡ n % 2 ^ 32
  word-cut n = ⊎_elim (λ s. let e = s.1 in omega (arith, e)) (λ s. let e = s.1 in let l = s.0 in omega (arith, e, l)) (sign-cases n)

  -- a word is read with its sign
  word-read : (n : ℕ) → w ≡ 32 → n < 2 ^ w → cast_signed w32 (n % 2 ^ 32) ≡ signed w n
  word-read n e lt = subst (λ (j : ℕ). n < 2 ^ j → cast_signed w32 (n % 2 ^ 32) ≡ signed j n) (sym e) (extended n) lt
    where
      extended : (n : ℕ) → n < 2 ^ 32 → cast_signed w32 (n % 2 ^ 32) ≡ signed 32 n
      extended n lt =
          let low : n % 2 ^ 32 ≡ n = omega (arith, lt) in
          ap (cast_signed w32) low ∙ (let same : cast_signed w32 n ≡ signed 32 n = grind (arith, ints) in same)

  word-result : (z : ℤ) → w ≡ 32 → sign_extend_word (modulo z) % 2 ^ w ≡ wrap w z
  word-result z e =
      ap (λ (j : ℕ). sign_extend_word (modulo z) % 2 ^ j) e ∙ word-cut (modulo z) ∙ ap (λ (j : ℕ). modulo z % 2 ^ j) (sym e) ∙ cut-modulo w (64 - w) z sum

  not-none : (b : ℕ) → w ≡ 32 → b < 2 ^ w → b ≢ 0 → (b % 2 ^ 32 == 0) ≡ false
  not-none b e lt some =
      let small : b < 2 ^ 32 = subst (λ (j : ℕ). b < 2 ^ j) e lt in
      let low : b % 2 ^ 32 ≡ b = omega (arith, small) in
      ap (λ (x : ℕ). x == 0) low ∙ ne_eqb b 0 some

  divides-words : w ≡ 32 → (a b : ℕ) → a < 2 ^ w → b < 2 ^ w → b ≢ 0 → op_value Divw a b % 2 ^ w ≡ wrap w (int_div (signed w a) (signed w b))
  divides-words e a b la lb some =
      ap (λ (t : Bool). sign_extend_word (modulo (cond t (negsuc 0) (int_div (cast_signed w32 (a % 2 ^ 32)) (cast_signed w32 (b % 2 ^ 32))))) % 2 ^ w) (not-none b e lb some)
      ∙ ap (λ (z : ℤ). sign_extend_word (modulo (int_div z (cast_signed w32 (b % 2 ^ 32)))) % 2 ^ w) (word-read a e la)
      ∙ ap (λ (z : ℤ). sign_extend_word (modulo (int_div (signed w a) z)) % 2 ^ w) (word-read b e lb)
      ∙ word-result (int_div (signed w a) (signed w b)) e

  leaves-words : w ≡ 32 → (a b : ℕ) → a < 2 ^ w → b < 2 ^ w → b ≢ 0 → op_value Remw a b % 2 ^ w ≡ wrap w (int_rem (signed w a) (signed w b))
  leaves-words e a b la lb some =
      ap (λ (t : Bool). sign_extend_word (modulo (cond t (cast_signed w32 (a % 2 ^ 32)) (int_rem (cast_signed w32 (a % 2 ^ 32)) (cast_signed w32 (b % 2 ^ 32))))) % 2 ^ w) (not-none b e lb some)
      ∙ ap (λ (z : ℤ). sign_extend_word (modulo (int_rem z (cast_signed w32 (b % 2 ^ 32)))) % 2 ^ w) (word-read a e la)
      ∙ ap (λ (z : ℤ). sign_extend_word (modulo (int_rem (signed w a) z)) % 2 ^ w) (word-read b e lb)
      ∙ word-result (int_rem (signed w a) (signed w b)) e

  shifts-words : w ≡ 32 → (a b : ℕ) → a < 2 ^ w → b < w → op_value Sraw a b ≡ op_value Sra (modulo (signed w a)) b
  shifts-words e a b la lt =
      let word : b % 32 ≡ b = omega (arith, lt, e) in
      let whole : b % 64 ≡ b = omega (arith, lt, e) in
      ap (λ (j : ℕ). modulo (int_shr (cast_signed w32 (a % 2 ^ 32)) j)) word
      ∙ ap (λ (z : ℤ). modulo (int_shr z b)) (word-read a e la ∙ sym (sign-read w (64 - w) a is-width la))
      ∙ ap (λ (j : ℕ). modulo (int_shr (cast_signed w64 (modulo (signed w a))) j)) (sym whole)

  -- an operation on both numbers with their signs, or that on words
  signed-or-word : (t : Bool) → (w == 32) ≡ t → (op word : RegOp) (a b v : ℕ) → a < 2 ^ w → b < 2 ^ w → op_value op (modulo (signed w a)) (modulo (signed w b)) < 2 ^ 64 → op_value op (modulo (signed w a)) (modulo (signed w b)) % 2 ^ w ≡ v
      → ((w == 32) ≡ true → op_value word a b < 2 ^ 64) → ((w == 32) ≡ true → op_value word a b % 2 ^ w ≡ v)
      → (d : ℕ) × Turns (cond t (RegisterOp word T0 T0 T1 ∷ zero_extended w T0) (sign_extended w T0 ++ (sign_extended w T1 ++ RegisterOp op T0 T0 T1 ∷ zero_extended w T0))) a b v d
  signed-or-word true e op word a b v la lb lt is below words = (b, cut-after word a b v (below e) (words e))
  signed-or-word false e op word a b v la lb lt is below words = (modulo (signed w b), signed-after op a b v la lb lt is)

  -- The code of an operator leaves its number, where it gives one.
  pub binary-computes : (op : BinOp) (flags : Flags) (a b v : ℕ) → a < 2 ^ w → b < 2 ^ w → binary op flags w (Some a) (Some b) ≡ Gives (Some v) → (d : ℕ) × Turns (binary_code op w) a b v d
  binary-computes ir.Add flags a b v la lb h = (b, cut-after Add a b v (omega arith) (cut-again w (64 - w) (a + b) sum ∙ kept _ _ v (given _ (Some v) h)))
  binary-computes ir.Sub flags a b v la lb h = (b, cut-after Sub a b v (omega arith) (sub-is w (64 - w) a b sum la lb ∙ kept _ _ v (given _ (Some v) h)))
  binary-computes ir.Mul flags a b v la lb h = (b, cut-after Mul a b v (omega arith) (cut-again w (64 - w) (a * b) sum ∙ kept _ _ v (given _ (Some v) h)))
  binary-computes ir.UDiv flags a b v la lb h =
      let r = divisor (unsigned_quotient flags w) a b v h in
      (b, turns-to (RegisterOp Divu T0 T0 T1 ∷ []) a b (op_value Divu a b) b v (ap (λ (t : Bool). cond t (2 ^ 64 - 1) (a / b)) (ne_eqb b 0 r.0) ∙ kept _ _ v r.1) (on-both Divu a b))
  binary-computes ir.URem flags a b v la lb h =
      let r = divisor (unsigned_remainder flags w) a b v h in
      (b, turns-to (RegisterOp Remu T0 T0 T1 ∷ []) a b (op_value Remu a b) b v (ap (λ (t : Bool). cond t a (a % b)) (ne_eqb b 0 r.0) ∙ ap number r.1) (on-both Remu a b))
  binary-computes ir.SDiv flags a b v la lb h =
      let r = signed-divisor w (signed_quotient flags w) a b v h in
      signed-or-word (w == 32) refl Div Divw a b v la lb (modulo-below _) (sdiv-is w (64 - w) a b is-width la lb r.0 ∙ kept _ _ v r.1)
      (λ e. word-below (modulo _)) (λ e. divides-words (a-word e) a b la lb r.0 ∙ kept _ _ v r.1)
  binary-computes ir.SRem flags a b v la lb h =
      let r = signed-divisor w (signed_remainder flags w) a b v h in
      signed-or-word (w == 32) refl Rem Remw a b v la lb (modulo-below _) (srem-is w (64 - w) a b is-width la lb r.0 ∙ ap number r.1)
      (λ e. word-below (modulo _)) (λ e. leaves-words (a-word e) a b la lb r.0 ∙ ap number r.1)
  binary-computes ir.Shl flags a b v la lb h =
      let r = amount (shl flags w) w a b v h in
      (b, cut-after Sll a b v (omega arith) (shl-is w (64 - w) a b is-width r.0 ∙ kept _ _ v r.1))
  binary-computes ir.LShr flags a b v la lb h =
      let r = amount (lshr flags w) w a b v h in
      (b, turns-to (RegisterOp Srl T0 T0 T1 ∷ []) a b (op_value Srl a b) b v (lshr-is w (64 - w) a b is-width r.0 ∙ kept _ _ v r.1) (on-both Srl a b))
  binary-computes ir.AShr flags a b v la lb h =
      let r = amount (ashr flags w) w a b v h in
      let is = ashr-is w (64 - w) a b is-width la r.0 ∙ kept _ _ v r.1 in (
        b,
        turns-if (w == 32) (RegisterOp Sraw T0 T0 T1 ∷ zero_extended w T0) (sign_extended w T0 ++ (RegisterOp Sra T0 T0 T1 ∷ zero_extended w T0)) a b v b
            (λ e. cut-after Sraw a b v (modulo-below _) (ap (λ (x : ℕ). x % 2 ^ w) (shifts-words (a-word e) a b la r.0) ∙ is))
            (λ e. turns-then (sign_extended w T0) (RegisterOp Sra T0 T0 T1 ∷ zero_extended w T0) a b (modulo (signed w a)) b v b (signs-first a b la) (cut-after Sra (modulo (signed w a)) b v (modulo-below _) is)),
      )
  binary-computes ir.And flags a b v la lb h = (b, turns-to (RegisterOp And T0 T0 T1 ∷ []) a b (op_value And a b) b v (ap number (given _ (Some v) h)) (on-both And a b))
  binary-computes ir.Or flags a b v la lb h = (b, turns-to (RegisterOp Or T0 T0 T1 ∷ []) a b (op_value Or a b) b v (kept _ _ v (given _ (Some v) h)) (on-both Or a b))
  binary-computes ir.Xor flags a b v la lb h = (b, turns-to (RegisterOp Xor T0 T0 T1 ∷ []) a b (op_value Xor a b) b v (ap number (given _ (Some v) h)) (on-both Xor a b))
