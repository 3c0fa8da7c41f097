-- The quick code of allocas and of the built-ins that move bytes. s11 is the data top; a function with an alloca saves it, and restores it at each return.
use Rattle.std.specs.Prelude.{[], ℕ, ◌+◌, ◌*◌, Bool, true, false, ◌||◌, pos, List, ◌∷◌, ◌++◌}
use Rattle.ir_core.specs.declared.types.Ty.{Ty}
use Rattle.ir_core.specs.declared.types.MemTy.{MemTy}
use Rattle.ir_core.specs.declared.code.Operand.{Operand}
use Rattle.ir_core.specs.declared.code.BuiltIn.{BuiltIn}
use Rattle.ir_core.specs.declared.code.BuiltIn.TheVariants.{MemSet}
use Rattle.ir_core.specs.declared.program.Global.{Global}
use Rattle.ir_core.specs.declared.code.Op.{Op}
use Rattle.ir_core.specs.declared.code.Op.TheVariants.{Alloca}
use Rattle.ir_core.specs.declared.code.Inst.{Inst}
use Rattle.ir_core.specs.declared.code.Block.{Block}
use Rattle.ir_core.specs.declared.program.Function.{Function}
use Rattle.ir_core.specs.Layout.{size, aligned}
use Rattle.rv_core.specs.declared.reg.Reg.TheVariants.{X0, T0, T1, S11}
use Rattle.rv_core.specs.declared.instr.BranchOp.TheVariants.{Bgeu}
use Rattle.rv_core.specs.declared.instr.ImmOp.TheVariants.{Addi}
use Rattle.rv_core.specs.declared.instr.RegOp.TheVariants.{Add}
use Rattle.rv_core.specs.declared.instr.Instr.{Instr}
use Rattle.rv_core.specs.declared.instr.Instr.TheVariants.{Branch, Imm, Op as RegisterOp, Ecall}
use Rattle.ir_meaning.specs.Memory.{data_start}
use Rattle.code_pieces.specs.Code.{store_value, const_code}
use Rattle.quick_code.specs.Operations.{values_code}
use Rattle.code_pieces.specs.Bytes.{taken_bytes, move_code, fill_code}

-- ---- the data top

abbrev pub is_alloca : Op → Bool
is_alloca (Alloca ty count) = true
is_alloca _ = false

abbrev pub insts_take : List Inst → Bool
insts_take [] = false
insts_take (inst ∷ insts) = is_alloca inst.op || insts_take insts

abbrev pub blocks_take : List Block → Bool
blocks_take [] = false
blocks_take (block ∷ blocks) = insts_take block.insts || blocks_take blocks

-- an instruction of the function is an alloca
abbrev pub takes_data : Function → Bool
takes_data function = blocks_take function.blocks

-- ---- an alloca

-- the new data top stands in t0; where it passes the end of a data memory of so many bytes, the call ends for want of stack; else the old one is the value
abbrev pub alloca_code : ℕ → MemTy → ℕ → ℕ → List Instr
alloca_code room ty count number =
    const_code 3 T0 (taken_bytes (aligned (size ty * count) 16))
    ++ (RegisterOp Add T0 S11 T0
    ∷ (const_code 3 T1 (data_start + room)
    ++ (Branch Bgeu T1 T0 (pos 12)
    ∷ Imm Addi T0 X0 (pos 2)
    ∷ Ecall
    ∷ (store_value S11 number ++ Imm Addi S11 T0 (pos 0) ∷ []))))

-- ---- bytes that are moved

abbrev pub moving_code : BuiltIn → List Instr
moving_code MemSet = fill_code
moving_code _ = move_code

-- a built-in that moves bytes: addresses, or an address and a byte, and how many
abbrev pub moved_code : List Global → BuiltIn → List (Ty × Operand) → List Instr
moved_code globals which (to ∷ from ∷ count ∷ more) = values_code globals 5 (to.1 ∷ from.1 ∷ count.1 ∷ []) ++ moving_code which
moved_code globals which _ = []
