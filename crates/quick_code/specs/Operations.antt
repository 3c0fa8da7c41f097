-- The quick code of operators, comparisons, casts and choices of widths up to 64. A value stands in its slot as a number below two to its width. The
-- operands are loaded into t0, t1 and t2, and the result is left in t0.
use Rattle.std.specs.Prelude.{ℕ, ◌+◌, ◌^◌, ◌<◌, ◌==◌, if◌then◌else◌, pos, List, [], ◌∷◌, ◌++◌, map}
use Rattle.ir_core.specs.declared.types.Ty.{Ty}
use Rattle.ir_core.specs.declared.code.Operand.{Operand}
use Rattle.ir_core.specs.declared.code.Operand.TheVariants.{Value as Local, Num, Null, Place, Poison}
use Rattle.ir_core.specs.declared.code.Op.{Op}
use Rattle.ir_core.specs.declared.code.BuiltIn.{BuiltIn}
use Rattle.ir_core.specs.declared.code.BuiltIn.TheVariants.{Abs}
use Rattle.ir_core.specs.declared.code.Op.TheVariants.{Binary, Icmp, Cast, Select, Freeze, Load, Gep, BuiltIn as CallBuiltIn}
use Rattle.ir_core.specs.declared.program.Global.{Global}
use Rattle.rv_core.specs.Reg.{reg_at}
use Rattle.rv_core.specs.declared.reg.Reg.{Reg}
use Rattle.rv_core.specs.declared.reg.Reg.TheVariants.{X0, T0, T1, T2}
use Rattle.rv_core.specs.declared.instr.BranchOp.TheVariants.{Bne}
use Rattle.rv_core.specs.declared.instr.LoadOp.{LoadOp}
use Rattle.rv_core.specs.declared.instr.LoadOp.TheVariants.{Lbu, Lhu, Lwu, Ld}
use Rattle.rv_core.specs.declared.instr.StoreOp.{StoreOp}
use Rattle.rv_core.specs.declared.instr.StoreOp.TheVariants.{Sb, Sh, Sw, Sd}
use Rattle.rv_core.specs.declared.instr.ImmOp.TheVariants.{Addi}
use Rattle.rv_core.specs.declared.instr.Instr.{Instr}
use Rattle.rv_core.specs.declared.instr.Instr.TheVariants.{Branch, Load as LoadBytes, Store as StoreBytes, Imm}
use Rattle.ir_meaning.specs.Operators.{width}
use Rattle.ir_meaning.specs.Image.{place_address}
use Rattle.code_pieces.specs.Code.{load_value, store_value, const_code}
use Rattle.quick_code.specs.Narrow.{binary_code, compare_code, cast_code, built_in_code}
use Rattle.quick_code.specs.Parts.{parts_code}

-- a value below n, a number of 64 bits, an address, or poison
abbrev pub IsSlotOperand : ℕ → Operand → Type 0
IsSlotOperand n (Local number) = number < n
IsSlotOperand n (Num k) = k < 2 ^ 64
IsSlotOperand n _ = Unit {0}

abbrev pub AreSlotOperands : ℕ → List Operand → Type 0
AreSlotOperands n [] = Unit {0}
AreSlotOperands n (o ∷ os) = IsSlotOperand n o × AreSlotOperands n os

-- an operand in a register; for poison nothing is loaded
abbrev pub value_code : List Global → Reg → Operand → List Instr
value_code globals rd (Local number) = load_value rd number
value_code globals rd (Num n) = const_code 3 rd n
value_code globals rd Null = const_code 3 rd 0
value_code globals rd (Place global offset) = const_code 3 rd (place_address globals global offset)
value_code globals rd Poison = []

-- operands in registers, from that of a number on
abbrev pub values_code : List Global → ℕ → List Operand → List Instr
values_code globals r [] = []
values_code globals r (o ∷ os) = value_code globals (reg_at r) o ++ values_code globals (r + 1) os

-- what a built-in that gives a value works on: an absolute value has no use for what says whether the least one is poison
abbrev pub built_in_operands : BuiltIn → List (Ty × Operand) → List Operand
built_in_operands Abs (a ∷ arguments) = a.1 ∷ []
built_in_operands _ arguments = map (λ argument. argument.1) arguments

-- what an instruction works on; the condition of a choice comes behind the two values
abbrev pub operands : Op → List Operand
operands (Binary op flags a b) = a ∷ b ∷ []
operands (Icmp pred flags of a b) = a ∷ b ∷ []
operands (Cast op flags from a) = a ∷ []
operands (Select condition a b) = a ∷ b ∷ condition ∷ []
operands (Freeze a) = a ∷ []
operands (Load address) = address ∷ []
operands (Gep ty base indices) = base ∷ []
operands (CallBuiltIn which arguments) = built_in_operands which arguments
operands _ = []

-- leaves the number in t0 where t2 isn't 0, and else that in t1
abbrev pub choice_code : List Instr
choice_code = Branch Bne T2 X0 (pos 8) ∷ Imm Addi T0 T1 (pos 0) ∷ []

-- the accesses of a width that load without a sign, and store
abbrev pub load_op : ℕ → LoadOp
load_op w = if w == 8 then Lbu else if w == 16 then Lhu else if w == 32 then Lwu else Ld

abbrev pub store_op : ℕ → StoreOp
store_op w = if w == 8 then Sb else if w == 16 then Sh else if w == 32 then Sw else Sd

-- the work on operands that are loaded
abbrev pub work_code : Ty → Op → List Instr
work_code gives (Binary op flags a b) = binary_code op (width gives)
work_code gives (Icmp pred flags of a b) = compare_code pred (width of)
work_code gives (Cast op flags from a) = cast_code op (width from) (width gives)
work_code gives (Select condition a b) = choice_code
work_code gives (Load address) = LoadBytes (load_op (width gives)) T0 T0 (pos 0) ∷ []
work_code gives (Gep ty base indices) = parts_code ty indices
work_code gives (CallBuiltIn which arguments) = built_in_code which (width gives)
work_code gives _ = []

-- an instruction that gives the value of that number
abbrev pub operation_code : List Global → Ty → Op → ℕ → List Instr
operation_code globals gives op number = values_code globals 5 (operands op) ++ (work_code gives op ++ store_value T0 number)

-- a store, which gives none
abbrev pub keeping_code : List Global → Ty → Operand → Operand → List Instr
keeping_code globals ty a address = values_code globals 5 (a ∷ address ∷ []) ++ StoreBytes (store_op (width ty)) T0 T1 (pos 0) ∷ []
