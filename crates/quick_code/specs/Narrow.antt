-- Code for operators of a width up to 64. The operands stand in t0 and t1 as numbers below two to the width, and so does the
-- result in t0.
use Rattle.std.specs.Prelude.{◌≡◌, ◌≢◌, ℕ, ◌-◌, ◌^◌, ◌==◌, nat_le, if◌then◌else◌, pos, List, [], ◌∷◌, ◌++◌}
use Rattle.ir_core.specs.declared.code.BinOp.{BinOp}
use Rattle.ir_core.specs.declared.code.BinOp.TheVariants as ir
use Rattle.ir_core.specs.declared.code.Pred.{Pred}
use Rattle.ir_core.specs.declared.code.Pred.TheVariants as pred
use Rattle.ir_core.specs.declared.code.CastOp.{CastOp}
use Rattle.ir_core.specs.declared.code.CastOp.TheVariants as cast
use Rattle.ir_core.specs.declared.code.BuiltIn.{BuiltIn}
use Rattle.ir_core.specs.declared.code.BuiltIn.TheVariants as built
use Rattle.rv_core.specs.declared.reg.Reg.{Reg}
use Rattle.rv_core.specs.declared.reg.Reg.TheVariants.{X0, T0, T1}
use Rattle.rv_core.specs.declared.instr.BranchOp.TheVariants.{Bge, Bgeu}
use Rattle.rv_core.specs.declared.instr.ImmOp.TheVariants.{Addi, Sltiu, Xori, Andi, Slli, Srli, Srai, Addiw}
use Rattle.rv_core.specs.declared.instr.RegOp.{RegOp}
use Rattle.rv_core.specs.declared.instr.RegOp.TheVariants.{Add, Sub, Sll, Slt, Sltu, Xor, Srl, Sra, Or, And, Mul, Div, Divw, Divu, Rem, Remw, Remu, Sraw}
use Rattle.rv_core.specs.declared.instr.Instr.{Instr}
use Rattle.rv_core.specs.declared.instr.Instr.TheVariants.{Branch, Imm, Op as RegisterOp}
use Rattle.rv_core.specs.Step.{Registers, after}

-- cuts a register to a width, and extends its sign from a width
abbrev pub zero_extended : ℕ → Reg → List Instr
zero_extended w rd =
    if w == 64 then []
    else if nat_le w 11 then Imm Andi rd rd (pos (2 ^ w - 1)) ∷ []
    else Imm Slli rd rd (pos (64 - w)) ∷ Imm Srli rd rd (pos (64 - w)) ∷ []

abbrev pub sign_extended : ℕ → Reg → List Instr
sign_extended w rd =
    if w == 64 then []
    else if w == 32 then Imm Addiw rd rd (pos 0) ∷ []
    else Imm Slli rd rd (pos (64 - w)) ∷ Imm Srai rd rd (pos (64 - w)) ∷ []

abbrev on_both : RegOp → List Instr
on_both op = RegisterOp op T0 T0 T1 ∷ []

-- an operation on both numbers with their signs; that on words reads them by itself
abbrev on_signed : RegOp → RegOp → ℕ → List Instr
on_signed op word w =
    if w == 32 then on_both word ++ zero_extended w T0
    else sign_extended w T0 ++ (sign_extended w T1 ++ (on_both op ++ zero_extended w T0))

-- an operator of two numbers
abbrev pub binary_code : BinOp → ℕ → List Instr
binary_code ir.Add w = on_both Add ++ zero_extended w T0
binary_code ir.Sub w = on_both Sub ++ zero_extended w T0
binary_code ir.Mul w = on_both Mul ++ zero_extended w T0
binary_code ir.UDiv w = on_both Divu
binary_code ir.URem w = on_both Remu
binary_code ir.SDiv w = on_signed Div Divw w
binary_code ir.SRem w = on_signed Rem Remw w
binary_code ir.Shl w = on_both Sll ++ zero_extended w T0
binary_code ir.LShr w = on_both Srl
binary_code ir.AShr w = if w == 32 then on_both Sraw ++ zero_extended w T0 else sign_extended w T0 ++ (on_both Sra ++ zero_extended w T0)
binary_code ir.And w = on_both And
binary_code ir.Or w = on_both Or
binary_code ir.Xor w = on_both Xor

-- turns a bit around
abbrev turned : List Instr
turned = Imm Xori T0 T0 (pos 1) ∷ []

abbrev both_signed : ℕ → List Instr
both_signed w = sign_extended w T0 ++ sign_extended w T1

-- a comparison
abbrev pub compare_code : Pred → ℕ → List Instr
compare_code pred.Eq w = RegisterOp Xor T0 T0 T1 ∷ Imm Sltiu T0 T0 (pos 1) ∷ []
compare_code pred.Ne w = RegisterOp Xor T0 T0 T1 ∷ RegisterOp Sltu T0 X0 T0 ∷ []
compare_code pred.Ugt w = RegisterOp Sltu T0 T1 T0 ∷ []
compare_code pred.Uge w = RegisterOp Sltu T0 T0 T1 ∷ turned
compare_code pred.Ult w = RegisterOp Sltu T0 T0 T1 ∷ []
compare_code pred.Ule w = RegisterOp Sltu T0 T1 T0 ∷ turned
compare_code pred.Sgt w = both_signed w ++ RegisterOp Slt T0 T1 T0 ∷ []
compare_code pred.Sge w = both_signed w ++ RegisterOp Slt T0 T0 T1 ∷ turned
compare_code pred.Slt w = both_signed w ++ RegisterOp Slt T0 T0 T1 ∷ []
compare_code pred.Sle w = both_signed w ++ RegisterOp Slt T0 T1 T0 ∷ turned

-- a cast from one width to another
abbrev pub cast_code : CastOp → ℕ → ℕ → List Instr
cast_code cast.Trunc from to = zero_extended to T0
cast_code cast.ZExt from to = []
cast_code cast.SExt from to = sign_extended from T0 ++ zero_extended to T0
cast_code cast.PtrToInt from to = zero_extended to T0
cast_code cast.IntToPtr from to = []
cast_code cast.Same from to = []

-- takes the second number
abbrev pub taken_second : Instr
taken_second = Imm Addi T0 T1 (pos 0)

-- A built-in that gives a value: a branch leaves the first number where it is what is given.
abbrev pub built_in_code : BuiltIn → ℕ → List Instr
built_in_code built.SMax w = both_signed w ++ Branch Bge T0 T1 (pos 8) ∷ taken_second ∷ zero_extended w T0
built_in_code built.SMin w = both_signed w ++ Branch Bge T1 T0 (pos 8) ∷ taken_second ∷ zero_extended w T0
built_in_code built.UMax w = Branch Bgeu T0 T1 (pos 8) ∷ taken_second ∷ []
built_in_code built.UMin w = Branch Bgeu T1 T0 (pos 8) ∷ taken_second ∷ []
built_in_code built.Abs w = sign_extended w T0 ++ Branch Bge T0 X0 (pos 8) ∷ RegisterOp Sub T0 X0 T0 ∷ zero_extended w T0
built_in_code _ w = []

-- the registers after a list of instructions
abbrev pub after_all : List Instr → Registers → Registers
after_all [] s = s
after_all (i ∷ is) s = after_all is (after s i)

-- From registers with a in t0 and b in t1, the code leaves c in t0 and d in t1, and changes no other register.
abbrev pub Turns : List Instr → ℕ → ℕ → ℕ → ℕ → Type 0
Turns code a b c d = (s : Registers) → s.x 5 ≡ a → s.x 6 ≡ b → ((after_all code s).x 5 ≡ c) × ((after_all code s).x 6 ≡ d) × ((j : ℕ) → j ≢ 5 → j ≢ 6 → (after_all code s).x j ≡ s.x j)
