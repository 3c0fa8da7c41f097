-- What stands in t0 behind the work of an operator, a comparison or a cast is what the instruction gives, where that is a number.
use Rattle.std.proofs.Common.{◌≡◌, ◌≢◌, refl, ap, ◌∙◌, ℕ, zero, suc, ◌-◌, ◌^◌, ◌≤◌, List, [], ◌∷◌, ◌++◌, Some, None, Bool, true, false, cond}
use Rattle.std.specs.Prelude.{◌==◌, nat_le, pos}
use Rattle.ir_core.specs.declared.types.Ty.{Ty}
use Rattle.ir_core.specs.declared.code.Flags.{Flags}
use Rattle.ir_core.specs.declared.code.BinOp.{BinOp}
use Rattle.ir_core.specs.declared.code.BinOp.TheVariants as ir
use Rattle.ir_core.specs.declared.code.Pred.{Pred}
use Rattle.ir_core.specs.declared.code.Pred.TheVariants as pred
use Rattle.ir_core.specs.declared.code.CastOp.{CastOp}
use Rattle.ir_core.specs.declared.code.CastOp.TheVariants as kind
use Rattle.rv_core.specs.declared.reg.Reg.TheVariants.{X0, T0, T1}
use Rattle.rv_core.specs.declared.instr.ImmOp.{ImmOp}
use Rattle.rv_core.specs.declared.instr.ImmOp.TheVariants.{Sltiu, Xori, Andi, Slli, Srli, Srai, Addiw}
use Rattle.rv_core.specs.declared.instr.RegOp.{RegOp}
use Rattle.rv_core.specs.declared.instr.RegOp.TheVariants.{Add, Sub, Sll, Slt, Sltu, Xor, Srl, Sra, Or, And, Mul, Div, Divw, Divu, Rem, Remw, Remu, Sraw}
use Rattle.rv_core.specs.declared.instr.Instr.{Instr}
use Rattle.rv_core.specs.declared.instr.Instr.TheVariants.{Imm, Op as RegisterOp}
use Rattle.rv_core.specs.Step.{Registers, after}
use Rattle.ir_meaning.specs.Value.{Value, Gives}
use Rattle.ir_meaning.specs.Operators.{width, binary, unsigned_division, signed_division, unsigned_quotient, unsigned_remainder, signed_quotient, signed_remainder, compare, cast}
use Rattle.ir_meaning.specs.Ranges.{FitsWidth}
use Rattle.ir_meaning.specs.Typed.{IsCast}
use Rattle.quick_code.specs.Narrow.{zero_extended, sign_extended, binary_code, compare_code, cast_code, after_all}
use Rattle.code_pieces.proofs.Frame.{Is}
use Rattle.quick_code.proofs.NarrowCode.{after-append, given, written-other, binary-computes}
use Rattle.quick_code.proofs.NarrowCompares.{compare-computes, cast-computes}

-- ---- poison gives no number

no-number : (k : ℕ) → None ≡ Some k → ⊥
no-number k e = let bad : ⊥ = cc in bad

unsigned-none : (f : ℕ → ℕ → Value) (b : Value) (k : ℕ) → unsigned_division f None b ≡ Gives (Some k) → ⊥
unsigned-none f None k e = let bad : ⊥ = cc in bad
unsigned-none f (Some zero) k e = let bad : ⊥ = cc in bad
unsigned-none f (Some (suc b)) k e = no-number k (given None (Some k) e)

signed-none : (w : ℕ) (f : ℕ → ℕ → Value) (b : Value) (k : ℕ) → signed_division w f None b ≡ Gives (Some k) → ⊥
signed-none w f None k e = let bad : ⊥ = cc in bad
signed-none w f (Some zero) k e = let bad : ⊥ = cc in bad
signed-none w f (Some (suc b)) k e = no-number k (given None (Some k) e)

first-none : (op : BinOp) (flags : Flags) (w : ℕ) (b : Value) (k : ℕ) → binary op flags w None b ≡ Gives (Some k) → ⊥
first-none ir.Add flags w b k e = no-number k (given None (Some k) e)
first-none ir.Sub flags w b k e = no-number k (given None (Some k) e)
first-none ir.Mul flags w b k e = no-number k (given None (Some k) e)
first-none ir.UDiv flags w b k e = unsigned-none (unsigned_quotient flags w) b k e
first-none ir.SDiv flags w b k e = signed-none w (signed_quotient flags w) b k e
first-none ir.URem flags w b k e = unsigned-none (unsigned_remainder flags w) b k e
first-none ir.SRem flags w b k e = signed-none w (signed_remainder flags w) b k e
first-none ir.Shl flags w b k e = no-number k (given None (Some k) e)
first-none ir.LShr flags w b k e = no-number k (given None (Some k) e)
first-none ir.AShr flags w b k e = no-number k (given None (Some k) e)
first-none ir.And flags w b k e = no-number k (given None (Some k) e)
first-none ir.Or flags w b k e = no-number k (given None (Some k) e)
first-none ir.Xor flags w b k e = no-number k (given None (Some k) e)

second-none : (op : BinOp) (flags : Flags) (w i k : ℕ) → binary op flags w (Some i) None ≡ Gives (Some k) → ⊥
second-none ir.Add flags w i k e = no-number k (given None (Some k) e)
second-none ir.Sub flags w i k e = no-number k (given None (Some k) e)
second-none ir.Mul flags w i k e = no-number k (given None (Some k) e)
second-none ir.UDiv flags w i k e = let bad : ⊥ = cc in bad
second-none ir.SDiv flags w i k e = let bad : ⊥ = cc in bad
second-none ir.URem flags w i k e = let bad : ⊥ = cc in bad
second-none ir.SRem flags w i k e = let bad : ⊥ = cc in bad
second-none ir.Shl flags w i k e = no-number k (given None (Some k) e)
second-none ir.LShr flags w i k e = no-number k (given None (Some k) e)
second-none ir.AShr flags w i k e = no-number k (given None (Some k) e)
second-none ir.And flags w i k e = no-number k (given None (Some k) e)
second-none ir.Or flags w i k e = no-number k (given None (Some k) e)
second-none ir.Xor flags w i k e = no-number k (given None (Some k) e)

-- ---- the work

pub binary-means : (op : BinOp) (flags : Flags) (w : ℕ) (a b value : Value) (r : Registers) → 1 ≤ w → w ≤ 64 → FitsWidth w a → FitsWidth w b → binary op flags w a b ≡ Gives value → Is a (r.x 5) → Is b (r.x 6)
    → Is value ((after_all (binary_code op w) r).x 5)
binary-means op flags w None b value r one most fa fb h ha hb = λ k e. absurd (first-none op flags w b k (h ∙ ap Gives e))
binary-means op flags w (Some i) None value r one most fa fb h ha hb = λ k e. absurd (second-none op flags w i k (h ∙ ap Gives e))
binary-means op flags w (Some i) (Some j) value r one most fa fb h ha hb = λ k e.
    let c = binary-computes w one most op flags i j k fa fb (h ∙ ap Gives e) in (c.1 r (ha i refl) (hb j refl)).0

pub compare-means : (p : Pred) (flags : Flags) (w : ℕ) (a b : Value) (r : Registers) → 1 ≤ w → w ≤ 64 → FitsWidth w a → FitsWidth w b → Is a (r.x 5) → Is b (r.x 6)
    → Is (compare p flags w a b) ((after_all (compare_code p w) r).x 5)
compare-means p flags w None b r one most fa fb ha hb = λ k e. absurd (no-number k e)
compare-means p flags w (Some i) None r one most fa fb ha hb = λ k e. absurd (no-number k e)
compare-means p flags w (Some i) (Some j) r one most fa fb ha hb = λ k e.
    let c = compare-computes w one most p flags i j k fa fb e in (c.1 r (ha i refl) (hb j refl)).0

cast-none : (op : CastOp) (flags : Flags) (from to k : ℕ) → cast op flags from to None ≡ Some k → ⊥
cast-none kind.Trunc flags from to k e = no-number k e
cast-none kind.ZExt flags from to k e = no-number k e
cast-none kind.SExt flags from to k e = no-number k e
cast-none kind.PtrToInt flags from to k e = no-number k e
cast-none kind.IntToPtr flags from to k e = no-number k e
cast-none kind.Same flags from to k e = no-number k e

pub cast-means : (op : CastOp) (flags : Flags) (from to : ℕ) (a : Value) (r : Registers) → 1 ≤ from → from ≤ 64 → 1 ≤ to → to ≤ 64 → (op ≡ kind.IntToPtr → to ≡ 64) → FitsWidth from a → Is a (r.x 5)
    → Is (cast op flags from to a) ((after_all (cast_code op from to) r).x 5)
cast-means op flags from to None r one most one' most' wide fa ha = λ k e. absurd (cast-none op flags from to k e)
cast-means op flags from to (Some i) r one most one' most' wide fa ha = λ k e. (cast-computes op flags from to i (r.x 6) k one most one' most' fa e wide r (ha i refl) refl).0

-- ---- the registers that it changes

-- no other registers than t0 and t1 change
abbrev pub Keeps : List Instr → Type 0
Keeps code = (s : Registers) (j : ℕ) → j ≢ 5 → j ≢ 6 → (after_all code s).x j ≡ s.x j

pub keeps-then : (xs ys : List Instr) → Keeps xs → Keeps ys → Keeps (xs ++ ys)
keeps-then xs ys h k = λ s j n5 n6. ap (λ (u : Registers). u.x j) (after-append xs ys s) ∙ k (after_all xs s) j n5 n6 ∙ h s j n5 n6

pub keeps-none : Keeps []
keeps-none = λ s j n5 n6. refl

keeps-if : (b : Bool) (xs ys : List Instr) → Keeps xs → Keeps ys → Keeps (cond b xs ys)
keeps-if true xs ys h k = h
keeps-if false xs ys h k = k

-- an operation that leaves its result in t0
abbrev OnFirst : Instr → Type 0
OnFirst i = (s : Registers) (j : ℕ) → j ≢ 5 → (after s i).x j ≡ s.x j

pub keeps-first : (i : Instr) (is : List Instr) → OnFirst i → Keeps is → Keeps (i ∷ is)
keeps-first i is h k = λ s j n5 n6. k (after s i) j n5 n6 ∙ h s j n5

on-registers : (op : RegOp) → OnFirst (RegisterOp op T0 T0 T1)
on-registers op = λ s j n5. written-other s.x 5 _ j n5

on-turned : (op : RegOp) → OnFirst (RegisterOp op T0 T1 T0)
on-turned op = λ s j n5. written-other s.x 5 _ j n5

on-immediate : (op : ImmOp) (z : ℕ) → OnFirst (Imm op T0 T0 (pos z))
on-immediate op z = λ s j n5. written-other s.x 5 _ j n5

keeps-on-first : (op : ImmOp) (z : ℕ) (is : List Instr) → Keeps is → Keeps (Imm op T0 T0 (pos z) ∷ is)
keeps-on-first op z is k = keeps-first (Imm op T0 T0 (pos z)) is (on-immediate op z) k

keeps-on-second : (op : ImmOp) (z : ℕ) (is : List Instr) → Keeps is → Keeps (Imm op T1 T1 (pos z) ∷ is)
keeps-on-second op z is k = λ s j n5 n6. k (after s (Imm op T1 T1 (pos z))) j n5 n6 ∙ written-other s.x 6 _ j n6

pub keeps-cut : (w : ℕ) → Keeps (zero_extended w T0)
keeps-cut w =
    keeps-if (w == 64) [] _ keeps-none
    (keeps-if (nat_le w 11) _ _ (keeps-on-first Andi (2 ^ w - 1) [] keeps-none) (keeps-on-first Slli (64 - w) (Imm Srli T0 T0 (pos (64 - w)) ∷ []) (keeps-on-first Srli (64 - w) [] keeps-none)))

pub keeps-sign : (w : ℕ) → Keeps (sign_extended w T0)
keeps-sign w =
    keeps-if (w == 64) [] _ keeps-none
    (keeps-if (w == 32) _ _ (keeps-on-first Addiw 0 [] keeps-none) (keeps-on-first Slli (64 - w) (Imm Srai T0 T0 (pos (64 - w)) ∷ []) (keeps-on-first Srai (64 - w) [] keeps-none)))

pub keeps-second-sign : (w : ℕ) → Keeps (sign_extended w T1)
keeps-second-sign w =
    keeps-if (w == 64) [] _ keeps-none
    (keeps-if (w == 32) _ _ (keeps-on-second Addiw 0 [] keeps-none) (keeps-on-second Slli (64 - w) (Imm Srai T1 T1 (pos (64 - w)) ∷ []) (keeps-on-second Srai (64 - w) [] keeps-none)))

keeps-op : (op : RegOp) (is : List Instr) → Keeps is → Keeps (RegisterOp op T0 T0 T1 ∷ is)
keeps-op op is k = keeps-first (RegisterOp op T0 T0 T1) is (on-registers op) k

keeps-signed : (w : ℕ) (is : List Instr) → Keeps is → Keeps (sign_extended w T0 ++ (sign_extended w T1 ++ is))
keeps-signed w is k = keeps-then (sign_extended w T0) (sign_extended w T1 ++ is) (keeps-sign w) (keeps-then (sign_extended w T1) is (keeps-second-sign w) k)

pub binary-keeps : (op : BinOp) (w : ℕ) → Keeps (binary_code op w)
binary-keeps ir.Add w = keeps-op Add (zero_extended w T0) (keeps-cut w)
binary-keeps ir.Sub w = keeps-op Sub (zero_extended w T0) (keeps-cut w)
binary-keeps ir.Mul w = keeps-op Mul (zero_extended w T0) (keeps-cut w)
binary-keeps ir.UDiv w = keeps-op Divu [] keeps-none
binary-keeps ir.URem w = keeps-op Remu [] keeps-none
binary-keeps ir.SDiv w = keeps-if (w == 32) (RegisterOp Divw T0 T0 T1 ∷ zero_extended w T0) (sign_extended w T0 ++ (sign_extended w T1 ++ RegisterOp Div T0 T0 T1 ∷ zero_extended w T0)) (keeps-op Divw (zero_extended w T0) (keeps-cut w)) (keeps-signed w (RegisterOp Div T0 T0 T1 ∷ zero_extended w T0) (keeps-op Div (zero_extended w T0) (keeps-cut w)))
binary-keeps ir.SRem w = keeps-if (w == 32) (RegisterOp Remw T0 T0 T1 ∷ zero_extended w T0) (sign_extended w T0 ++ (sign_extended w T1 ++ RegisterOp Rem T0 T0 T1 ∷ zero_extended w T0)) (keeps-op Remw (zero_extended w T0) (keeps-cut w)) (keeps-signed w (RegisterOp Rem T0 T0 T1 ∷ zero_extended w T0) (keeps-op Rem (zero_extended w T0) (keeps-cut w)))
binary-keeps ir.Shl w = keeps-op Sll (zero_extended w T0) (keeps-cut w)
binary-keeps ir.LShr w = keeps-op Srl [] keeps-none
binary-keeps ir.AShr w = keeps-if (w == 32) (RegisterOp Sraw T0 T0 T1 ∷ zero_extended w T0) (sign_extended w T0 ++ (RegisterOp Sra T0 T0 T1 ∷ zero_extended w T0)) (keeps-op Sraw (zero_extended w T0) (keeps-cut w)) (keeps-then (sign_extended w T0) (RegisterOp Sra T0 T0 T1 ∷ zero_extended w T0) (keeps-sign w) (keeps-op Sra (zero_extended w T0) (keeps-cut w)))
binary-keeps ir.And w = keeps-op And [] keeps-none
binary-keeps ir.Or w = keeps-op Or [] keeps-none
binary-keeps ir.Xor w = keeps-op Xor [] keeps-none

keeps-turned : (op : RegOp) (is : List Instr) → Keeps is → Keeps (RegisterOp op T0 T1 T0 ∷ is)
keeps-turned op is k = keeps-first (RegisterOp op T0 T1 T0) is (on-turned op) k

keeps-bit : Keeps (Imm Xori T0 T0 (pos 1) ∷ [])
keeps-bit = keeps-on-first Xori 1 [] keeps-none

keeps-both : (w : ℕ) (is : List Instr) → Keeps is → Keeps ((sign_extended w T0 ++ sign_extended w T1) ++ is)
keeps-both w is k = keeps-then (sign_extended w T0 ++ sign_extended w T1) is (keeps-then (sign_extended w T0) (sign_extended w T1) (keeps-sign w) (keeps-second-sign w)) k

pub compare-keeps : (p : Pred) (w : ℕ) → Keeps (compare_code p w)
compare-keeps pred.Eq w = keeps-op Xor (Imm Sltiu T0 T0 (pos 1) ∷ []) (keeps-on-first Sltiu 1 [] keeps-none)
compare-keeps pred.Ne w = keeps-op Xor (RegisterOp Sltu T0 X0 T0 ∷ []) (keeps-first (RegisterOp Sltu T0 X0 T0) [] (λ s j n5. written-other s.x 5 _ j n5) keeps-none)
compare-keeps pred.Ugt w = keeps-turned Sltu [] keeps-none
compare-keeps pred.Uge w = keeps-op Sltu (Imm Xori T0 T0 (pos 1) ∷ []) keeps-bit
compare-keeps pred.Ult w = keeps-op Sltu [] keeps-none
compare-keeps pred.Ule w = keeps-turned Sltu (Imm Xori T0 T0 (pos 1) ∷ []) keeps-bit
compare-keeps pred.Sgt w = keeps-both w (RegisterOp Slt T0 T1 T0 ∷ []) (keeps-turned Slt [] keeps-none)
compare-keeps pred.Sge w = keeps-both w (RegisterOp Slt T0 T0 T1 ∷ Imm Xori T0 T0 (pos 1) ∷ []) (keeps-op Slt (Imm Xori T0 T0 (pos 1) ∷ []) keeps-bit)
compare-keeps pred.Slt w = keeps-both w (RegisterOp Slt T0 T0 T1 ∷ []) (keeps-op Slt [] keeps-none)
compare-keeps pred.Sle w = keeps-both w (RegisterOp Slt T0 T1 T0 ∷ Imm Xori T0 T0 (pos 1) ∷ []) (keeps-turned Slt (Imm Xori T0 T0 (pos 1) ∷ []) keeps-bit)

pub cast-keeps : (op : CastOp) (from to : ℕ) → Keeps (cast_code op from to)
cast-keeps kind.Trunc from to = keeps-cut to
cast-keeps kind.ZExt from to = keeps-none
cast-keeps kind.SExt from to = keeps-then (sign_extended from T0) (zero_extended to T0) (keeps-sign from) (keeps-cut to)
cast-keeps kind.PtrToInt from to = keeps-cut to
cast-keeps kind.IntToPtr from to = keeps-none
cast-keeps kind.Same from to = keeps-none

-- a pointer has 64 bits
pub to-pointer : (op : CastOp) (from to : Ty) → IsCast op from to → op ≡ kind.IntToPtr → width to ≡ 64
to-pointer kind.IntToPtr from to h e = ap width h.1
to-pointer kind.Trunc from to h e = absurd (let bad : ⊥ = cc in bad)
to-pointer kind.ZExt from to h e = absurd (let bad : ⊥ = cc in bad)
to-pointer kind.SExt from to h e = absurd (let bad : ⊥ = cc in bad)
to-pointer kind.PtrToInt from to h e = absurd (let bad : ⊥ = cc in bad)
to-pointer kind.Same from to h e = absurd (let bad : ⊥ = cc in bad)
