-- What stands in an instruction: the places of its operands, the blocks that it names, and the types of values.
use Rattle.std.specs.Prelude.{◌≡◌, ℕ, zero, suc, ◌+◌, ◌-◌, Bool, true, false, ◌==◌, List, [], ◌∷◌, ◌++◌, length, map, slice_get, Option, Some, None, if◌then◌else◌}
use Rattle.ir_core.specs.declared.types.Ty.{Ty}
use Rattle.ir_core.specs.declared.types.Ty.TheVariants.{Void, Int, Ptr}
use Rattle.ir_core.specs.declared.code.Operand.{Operand}
use Rattle.ir_core.specs.declared.code.Op.{Op}
use Rattle.ir_core.specs.declared.code.Op.TheVariants.{Binary, Icmp, Cast, Select, Freeze, Phi, Alloca, Load, Store, Gep, Call, BuiltIn, Ret, Br, CondBr, Switch, Unreachable}
use Rattle.ir_core.specs.declared.code.Inst.{Inst}
use Rattle.ir_core.specs.declared.code.Block.{Block}
use Rattle.ir_core.specs.declared.program.Function.{Function}
use Rattle.ir_core.specs.Units.{instructions, has_result}

abbrev pub typed_pairs : Ty → List (Operand × ℕ) → List (Ty × Operand)
typed_pairs ty = map (λ pair. (ty, pair.0))

abbrev pub returned : Ty → Option Operand → List (Ty × Operand)
returned ty None = []
returned ty (Some a) = (ty, a) ∷ []

-- the operands of an instruction, each with the type of its place. The function's result and the instruction's are given
abbrev pub places : Ty → Ty → Op → List (Ty × Operand)
places ret ty (Binary op flags a b) = (ty, a) ∷ (ty, b) ∷ []
places ret ty (Icmp pred flags of a b) = (of, a) ∷ (of, b) ∷ []
places ret ty (Cast op flags from a) = (from, a) ∷ []
places ret ty (Select condition a b) = (Int 1, condition) ∷ (ty, a) ∷ (ty, b) ∷ []
places ret ty (Freeze a) = (ty, a) ∷ []
places ret ty (Phi pairs) = typed_pairs ty pairs
places ret ty (Alloca of count) = []
places ret ty (Load address) = (Ptr, address) ∷ []
places ret ty (Store of a address) = (of, a) ∷ (Ptr, address) ∷ []
places ret ty (Gep of base indices) = (Ptr, base) ∷ indices
places ret ty (Call callee arguments) = arguments
places ret ty (BuiltIn which arguments) = arguments
places ret ty (Ret a) = returned ret a
places ret ty (Br to) = []
places ret ty (CondBr condition if_true if_false) = (Int 1, condition) ∷ []
places ret ty (Switch of a otherwise cases) = (of, a) ∷ []
places ret ty Unreachable = []

abbrev pub case_blocks : List (ℕ × ℕ) → List ℕ
case_blocks = map (λ one. one.1)

-- the blocks that an instruction jumps to, one for each edge
abbrev pub targets : Op → List ℕ
targets (Br to) = to ∷ []
targets (CondBr condition if_true if_false) = if_true ∷ if_false ∷ []
targets (Switch of a otherwise cases) = otherwise ∷ case_blocks cases
targets _ = []

abbrev pub pair_blocks : List (Operand × ℕ) → List ℕ
pair_blocks = map (λ pair. pair.1)

-- the blocks that an instruction names
abbrev pub blocks_named : Op → List ℕ
blocks_named (Phi pairs) = pair_blocks pairs
blocks_named op = targets op

abbrev pub is_terminator : Op → Bool
is_terminator (Ret a) = true
is_terminator (Br to) = true
is_terminator (CondBr condition if_true if_false) = true
is_terminator (Switch of a otherwise cases) = true
is_terminator Unreachable = true
is_terminator _ = false

abbrev pub is_phi : Op → Bool
is_phi (Phi pairs) = true
is_phi _ = false

abbrev pub is_alloca : Op → Bool
is_alloca (Alloca of count) = true
is_alloca _ = false

abbrev pub targets_of_last : Option Inst → List ℕ
targets_of_last None = []
targets_of_last (Some inst) = targets inst.op

-- the edges of a block: those of its last instruction
abbrev pub edges : Block → List ℕ
edges block = targets_of_last (slice_get block.insts (length block.insts - 1))

-- the edges of each block of a function
abbrev pub edges_of : Function → List (List ℕ)
edges_of function = map edges function.blocks
