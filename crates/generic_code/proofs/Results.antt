-- What an instruction gives is what its generic operation gives, whatever the operands are.
use Rattle.std.proofs.Common.{◌≡◌, refl, sym, ap, subst, ◌∙◌, ℕ, zero, suc, ◌/◌, ◌%◌, ◌^◌, ◌<◌, ◌≤◌, Bool, true, false, Option, Some, None, arith}
use Rattle.std.specs.Prelude.{if◌then◌else◌, nat_lt, bit_and, bit_or, bit_xor, ◌&&◌, ◌==◌}
use Rattle.std.proofs.Math.Nat.{div-one}
use Rattle.ir_core.specs.declared.code.Flags.{Flags}
use Rattle.ir_core.specs.declared.code.BinOp.{BinOp}
use Rattle.ir_core.specs.declared.code.BinOp.TheVariants.{Add, Sub, Mul, UDiv, SDiv, URem, SRem, Shl, LShr, AShr, And, Or, Xor}
use Rattle.ir_core.specs.declared.code.Pred.{Pred}
use Rattle.ir_core.specs.declared.code.Pred.TheVariants.{Eq, Ne, Ugt, Uge, Ult, Ule, Sgt, Sge, Slt, Sle}
use Rattle.ir_meaning.specs.Value.{Value, Gives, NoMeaning, on_number, on_numbers}
use Rattle.ir_meaning.specs.Operators as op
use Rattle.ir_meaning.specs.Operators.{binary, compare, cast, width, select, holds, bit, overflows_quotient, unlike_signs}
use Rattle.ir_core.specs.declared.types.Ty.{Ty}
use Rattle.ir_core.specs.declared.types.Ty.TheVariants.{Void, Int, Ptr}
use Rattle.ir_core.specs.declared.code.CastOp.{CastOp}
use Rattle.ir_core.specs.declared.code.CastOp.TheVariants.{Trunc, ZExt, SExt, PtrToInt, IntToPtr, Same}
use Rattle.rj_num.specs.Width.{sign_extended}
use Rattle.ir_meaning.specs.Typed.{IsInteger, IsCast}
use Rattle.ir_meaning.specs.Ranges.{FitsWidth}
use Rattle.gmir.specs.declared.code.GOp.{GOp}
use Rattle.gmir.specs.declared.code.GOp.TheVariants as g
use Rattle.gmir.specs.Play.{value}
use Rattle.gmir.proofs.Values.{value_mono}
use Rattle.walks.specs.Walk.{Bits}
use Rattle.walks.specs.Refines.{RefinesBits}
use Rattle.walks.specs.Bits.{constant, cut, chosen, compared, divide_signed, rest_signed}
use Rattle.walks.specs.Functions.{bits_of}
use Rattle.walks.proofs.Compose.{bits_compose}
use Rattle.generic_code.specs.Code.{binary_op, predicate, cast_op}
use Rattle.generic_code.proofs.Rows.{poison_row, add_row, sub_row, mul_row, whole_row, and_row, or_row, xor_row}
use Rattle.generic_code.proofs.Moves.{shl_row, lshr_row}
use Rattle.generic_code.proofs.Extends.{ashr_row, trunc_row, zext_row, sext_row, reset_row}

-- poison asks nothing
pub nothing : (w : ℕ) (a : Bits) → RefinesBits (bits_of w None) a
nothing w a i b e = absurd (let bad : ⊥ = cc in bad)

-- from numbers to whatever refines them
module _ (o : GOp) (w v u n : ℕ) (a b c : Bits) where
  pub from_two : (x y : ℕ) (r : Bits) → RefinesBits (constant v x) a → RefinesBits (constant u y) b → RefinesBits r (value o w v u n (constant v x) (constant u y) c) → RefinesBits r (value o w v u n a b c)
  from_two x y r p q h = bits_compose r (value o w v u n (constant v x) (constant u y) c) (value o w v u n a b c) h (value_mono o w v u n (constant v x) a (constant u y) b c c p q (λ i z e. e))

-- ---- the operators of two values of one width

module _ (flags : Flags) (w : ℕ) (some : 1 ≤ w) (A B C : Bits) where
  -- what an operator gives is refined by what its generic operation gives
  abbrev Gives_as : BinOp → Value → Type 0
  Gives_as o v = RefinesBits (bits_of w v) (value (binary_op o) w w w 0 A B C)

  -- an operator that is defined on all numbers
  total : (o : BinOp) (f : ℕ → ℕ → Value) → ((x y : ℕ) → x < 2 ^ w → y < 2 ^ w → RefinesBits (bits_of w (f x y)) (value (binary_op o) w w w 0 (constant w x) (constant w y) C))
      → (a b : Value) → FitsWidth w a → FitsWidth w b → RefinesBits (bits_of w a) A → RefinesBits (bits_of w b) B → Gives_as o (on_numbers f a b)
  total o f h None b fits fits' p q = nothing w _
  total o f h (Some x) None fits fits' p q = nothing w _
  total o f h (Some x) (Some y) fits fits' p q = from_two (binary_op o) w w w 0 A B C x y (bits_of w (f x y)) p q (h x y fits fits')

  -- the value that is given, where one is
  of_gives : (o : BinOp) (v v' : Value) → Gives v ≡ Gives v' → Gives_as o v → Gives_as o v'
  of_gives o v v' e h = let same : v ≡ v' = cc in subst (Gives_as o) same h

  unsigned : (o : BinOp) (f : ℕ → ℕ → Value) → ((x y : ℕ) → x < 2 ^ w → y < 2 ^ w → RefinesBits (bits_of w (f x y)) (value (binary_op o) w w w 0 (constant w x) (constant w y) C))
      → (a b v : Value) → FitsWidth w a → FitsWidth w b → RefinesBits (bits_of w a) A → RefinesBits (bits_of w b) B → op.unsigned_division f a b ≡ Gives v → Gives_as o v
  unsigned o f h a None v fits fits' p q e = absurd (let bad : ⊥ = cc in bad)
  unsigned o f h a (Some zero) v fits fits' p q e = absurd (let bad : ⊥ = cc in bad)
  unsigned o f h None (Some (suc y)) v fits fits' p q e = of_gives o None v e (nothing w _)
  unsigned o f h (Some x) (Some (suc y)) v fits fits' p q e =
      of_gives o (f x (suc y)) v e (from_two (binary_op o) w w w 0 A B C x (suc y) (bits_of w (f x (suc y))) p q (h x (suc y) fits fits'))

  signed_by : (o : BinOp) (f : ℕ → ℕ → Value) (x y : ℕ) (v : Value) (overflows : Bool) → Gives_as o (f x y) → (if overflows then NoMeaning else Gives (f x y)) ≡ Gives v → Gives_as o v
  signed_by o f x y v true h e = absurd (let bad : ⊥ = cc in bad)
  signed_by o f x y v false h e = of_gives o (f x y) v e h

  signed : (o : BinOp) (f : ℕ → ℕ → Value) → ((x y : ℕ) → x < 2 ^ w → y < 2 ^ w → RefinesBits (bits_of w (f x y)) (value (binary_op o) w w w 0 (constant w x) (constant w y) C))
      → (a b v : Value) → FitsWidth w a → FitsWidth w b → RefinesBits (bits_of w a) A → RefinesBits (bits_of w b) B → op.signed_division w f a b ≡ Gives v → Gives_as o v
  signed o f h a None v fits fits' p q e = absurd (let bad : ⊥ = cc in bad)
  signed o f h a (Some zero) v fits fits' p q e = absurd (let bad : ⊥ = cc in bad)
  signed o f h None (Some (suc y)) v fits fits' p q e = of_gives o None v e (nothing w _)
  signed o f h (Some x) (Some (suc y)) v fits fits' p q e =
      signed_by o f x (suc y) v (overflows_quotient w x (suc y)) (from_two (binary_op o) w w w 0 A B C x (suc y) (bits_of w (f x (suc y))) p q (h x (suc y) fits fits')) e

  -- each operator
  pub binary_row : (o : BinOp) (a b v : Value) → FitsWidth w a → FitsWidth w b → RefinesBits (bits_of w a) A → RefinesBits (bits_of w b) B → binary o flags w a b ≡ Gives v → Gives_as o v
  binary_row Add a b v fits fits' p q e = of_gives Add _ v e (total Add (op.add flags w) (λ x y l l'. add_row flags w x y) a b fits fits' p q)
  binary_row Sub a b v fits fits' p q e = of_gives Sub _ v e (total Sub (op.sub flags w) (λ x y l l'. sub_row flags w x y l l') a b fits fits' p q)
  binary_row Mul a b v fits fits' p q e = of_gives Mul _ v e (total Mul (op.mul flags w) (λ x y l l'. mul_row flags w x y) a b fits fits' p q)
  binary_row UDiv a b v fits fits' p q e =
      unsigned UDiv (op.unsigned_quotient flags w) (λ x y l l'. poison_row w _ (x / y) _ (whole_row (λ m n. m / n) w w x y l l')) a b v fits fits' p q e
  binary_row URem a b v fits fits' p q e =
      unsigned URem (op.unsigned_remainder flags w) (λ x y l l'. whole_row (λ m n. m % n) w w x y l l') a b v fits fits' p q e
  binary_row SDiv a b v fits fits' p q e =
      signed SDiv (op.signed_quotient flags w) (λ x y l l'. poison_row w _ (divide_signed w x y) _ (whole_row (divide_signed w) w w x y l l')) a b v fits fits' p q e
  binary_row SRem a b v fits fits' p q e =
      signed SRem (op.signed_remainder flags w) (λ x y l l'. whole_row (rest_signed w) w w x y l l') a b v fits fits' p q e
  binary_row Shl a b v fits fits' p q e = of_gives Shl _ v e (total Shl (op.shift (op.shl flags w) w) (λ x y l l'. shl_row flags w x y l') a b fits fits' p q)
  binary_row LShr a b v fits fits' p q e = of_gives LShr _ v e (total LShr (op.shift (op.lshr flags w) w) (λ x y l l'. lshr_row flags w x y l l') a b fits fits' p q)
  binary_row AShr a b v fits fits' p q e = of_gives AShr _ v e (total AShr (op.shift (op.ashr flags w) w) (λ x y l l'. ashr_row flags w x y some l l') a b fits fits' p q)
  binary_row And a b v fits fits' p q e = of_gives And _ v e (total And (λ x y. Some (bit_and x y)) (λ x y l l'. and_row w x y) a b fits fits' p q)
  binary_row Or a b v fits fits' p q e = of_gives Or _ v e (total Or (op.or flags w) (λ x y l l'. poison_row w _ (bit_or x y) _ (or_row w x y)) a b fits fits' p q)
  binary_row Xor a b v fits fits' p q e = of_gives Xor _ v e (total Xor (λ x y. Some (bit_xor x y)) (λ x y l l'. xor_row w x y) a b fits fits' p q)

-- ---- comparisons

named : (pred : Pred) (w x y : ℕ) → compared w (predicate pred) x y ≡ bit (holds pred w x y)
named Eq w x y = refl
named Ne w x y = refl
named Ugt w x y = refl
named Uge w x y = refl
named Ult w x y = refl
named Ule w x y = refl
named Sgt w x y = refl
named Sge w x y = refl
named Slt w x y = refl
named Sle w x y = refl

pub compare_row : (pred : Pred) (flags : Flags) (w : ℕ) (a b : Value) (A B C : Bits) → FitsWidth w a → FitsWidth w b → RefinesBits (bits_of w a) A → RefinesBits (bits_of w b) B
    → RefinesBits (bits_of 1 (compare pred flags w a b)) (value g.Icmp 1 w w (predicate pred) A B C)
compare_row pred flags w None b A B C fits fits' p q = nothing 1 _
compare_row pred flags w (Some x) None A B C fits fits' p q = nothing 1 _
compare_row pred flags w (Some x) (Some y) A B C fits fits' p q =
    from_two g.Icmp 1 w w (predicate pred) A B C x y (bits_of 1 (compare pred flags w (Some x) (Some y))) p q
    (poison_row 1 (flags.samesign && unlike_signs w x y) (bit (holds pred w x y)) _
    (subst (λ (r : ℕ). RefinesBits (constant 1 r) (value g.Icmp 1 w w (predicate pred) (constant w x) (constant w y) C)) (named pred w x y)
    (whole_row (compared w (predicate pred)) w 1 x y fits fits')))

some_width : (ty : Ty) → IsInteger ty → 1 ≤ width ty
some_width Void h = absurd h
some_width (Int w) h = h.0
some_width Ptr h = absurd h

-- ---- choices and copies

-- a value's bits end at its width
pub cut_same : (w : ℕ) (v : Value) (a : Bits) → RefinesBits (bits_of w v) a → RefinesBits (bits_of w v) (cut w a)
cut_same w None a h = nothing w _
cut_same w (Some n) a h = λ i b e. by_place i b e (nat_lt i w) refl
  where
    by_place : (i : ℕ) (b : Bool) → constant w n i ≡ Some b → (below : Bool) → nat_lt i w ≡ below → (if below then a i else None) ≡ Some b
    by_place i b e true l = h i b e
    by_place i b e false l = let none : constant w n i ≡ None = rw l refl in absurd (let same : None ≡ Some b = sym none ∙ e in let bad : ⊥ = cc in bad)

pub copy_row : (w v u : ℕ) (a : Value) (A B C : Bits) → RefinesBits (bits_of w a) A → RefinesBits (bits_of w a) (value g.Copy w v u 0 A B C)
copy_row w v u a A B C h = cut_same w a A h

-- the lowest bit of a condition
condition_bit : (c : ℕ) (A : Bits) → RefinesBits (constant 1 c) A → A 0 ≡ Some (c % 2 == 1)
condition_bit c A h = h 0 (c % 2 == 1) (ap (λ (n : ℕ). Some (n % 2 == 1)) (let e : c / 2 ^ 0 ≡ c = div-one c in e))

pub select_row : (w v u : ℕ) (c a b : Value) (A B C : Bits) → FitsWidth 1 c → RefinesBits (bits_of 1 c) A → RefinesBits (bits_of w a) B → RefinesBits (bits_of w b) C
    → RefinesBits (bits_of w (select c a b)) (value g.Select w v u 0 A B C)
select_row w v u None a b A B C fits p q r = nothing w _
select_row w v u (Some zero) a b A B C fits p q r =
    subst (λ (o : Option Bool). RefinesBits (bits_of w b) (cut w (chosen o B C))) (sym (condition_bit 0 A p)) (cut_same w b C r)
select_row w v u (Some (suc zero)) a b A B C fits p q r =
    subst (λ (o : Option Bool). RefinesBits (bits_of w a) (cut w (chosen o B C))) (sym (condition_bit 1 A p)) (cut_same w a B q)
select_row w v u (Some (suc (suc c))) a b A B C fits p q r = absurd (let bad : ⊥ = omega (arith, fits) in bad)

-- ---- casts

module _ (flags : Flags) (u : ℕ) (A B C : Bits) where
  one_row : (o : GOp) (v w : ℕ) (f : ℕ → Value) → ((n : ℕ) → n < 2 ^ v → RefinesBits (bits_of w (f n)) (value o w v u 0 (constant v n) B C))
      → (a : Value) → FitsWidth v a → RefinesBits (bits_of v a) A → RefinesBits (bits_of w (on_number f a)) (value o w v u 0 A B C)
  one_row o v w f h None fits p = nothing w _
  one_row o v w f h (Some n) fits p =
      bits_compose (bits_of w (f n)) (value o w v u 0 (constant v n) B C) (value o w v u 0 A B C) (h n fits)
      (value_mono o w v u 0 (constant v n) A B B C C p (λ i z e. e) (λ i z e. e))

  pub cast_row : (o : CastOp) (from to : Ty) (a : Value) → IsCast o from to → FitsWidth (width from) a → RefinesBits (bits_of (width from) a) A
      → RefinesBits (bits_of (width to) (cast o flags (width from) (width to) a)) (value (cast_op o) (width to) (width from) u 0 A B C)
  cast_row Trunc from to a is fits p = one_row g.Trunc (width from) (width to) (op.truncate flags (width from) (width to)) (λ n l. trunc_row flags (width from) (width to) n is.2) a fits p
  cast_row ZExt from to a is fits p = one_row g.ZExt (width from) (width to) (op.zero_extend flags (width from)) (λ n l. zext_row flags (width from) (width to) n l) a fits p
  cast_row SExt from to a is fits p =
      one_row g.SExt (width from) (width to) (λ n. Some (sign_extended (width from) (width to) n)) (λ n l. sext_row (width from) (width to) n (some_width from is.0) is.2 l) a fits p
  cast_row PtrToInt from to a is fits p = one_row g.PtrToInt (width from) (width to) (λ n. Some (n % 2 ^ width to)) (λ n l. reset_row (width from) (width to) n l) a fits p
  cast_row IntToPtr from to a is fits p = one_row g.IntToPtr (width from) (width to) (λ n. Some (n % 2 ^ width to)) (λ n l. reset_row (width from) (width to) n l) a fits p
  cast_row Same from to a is fits p =
      let same : width from ≡ width to = ap width is.1 in
      subst (λ (w : ℕ). RefinesBits (bits_of w a) (cut w A)) same (cut_same (width from) a A p)
