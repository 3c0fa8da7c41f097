-- What is printed is read as its tree, wherever it stands before something else than a byte of a name or a colon.
use Rattle.std.specs.Prelude.{◌≡◌, ◌≤◌, ℕ, false, List, [], ◌∷◌, ◌++◌}
use Rattle.ir_text.specs.Token.{is_name_byte, begins, begins_with, token_at}
use Rattle.ir_text.specs.Words.{is_mark}
use Rattle.ir_core.specs.declared.types.Ty.{Ty}
use Rattle.ir_core.specs.declared.types.MemTy.{MemTy}
use Rattle.ir_core.specs.declared.code.Operand.{Operand}
use Rattle.ir_core.specs.declared.program.Global.{Global}
use Rattle.ir_core.specs.Layout.{measure}
use Rattle.ir_grammar.specs.declared.type_tree.TypeNode.{TypeNode}
use Rattle.ir_grammar.specs.Types.{type_form}
use Rattle.ir_value_trees.specs.declared.value_tree.Value.{Value}
use Rattle.ir_value_trees.specs.declared.value_tree.Typed.{Typed}
use Rattle.ir_value_trees.specs.Values.{operand, typed}
use Rattle.ir_core.specs.declared.code.Op.{Op}
use Rattle.ir_core.specs.declared.program.Module.{Module}
use Rattle.ir_instruction_trees.specs.declared.tree.Operation.{Operation}
use Rattle.ir_print.specs.Instructions.{op_text}
use Rattle.ir_print_laws.specs.Instructions.{IsOperationTree, IsPlainOperation, IsLongOperation, operation_form}
use Rattle.ir_print.specs.Types.{ty_text, memory_text}
use Rattle.ir_print.specs.Values.{operand_text, typed_text}
use Rattle.ir_print_laws.specs.FormTrees.{IsTyTree, IsMemoryTree, IsOperandTree, IsTypedTree}

-- the printed type of a value is a text of its tree
abbrev pub TypesReadBack : Type 0
TypesReadBack =
    (ty : Ty) (rest : List ℕ) → begins is_name_byte rest ≡ false → begins_with 58 rest ≡ false
    → (parts : List TypeNode) × type_form.Is (ty_text ty ++ rest) parts rest × IsTyTree ty parts

-- the printed type of memory is a text of its tree, where it has no more parts than a module's type may
abbrev pub MemoryReadsBack : Type 0
MemoryReadsBack =
    (ty : MemTy) (rest : List ℕ) → begins is_name_byte rest ≡ false → begins_with 58 rest ≡ false → (measure ty).nodes ≤ 4096
    → (parts : List TypeNode) × type_form.Is (memory_text ty ++ rest) parts rest × IsMemoryTree parts ty []

-- a printed operand, behind a blank, is a text of its tree
abbrev pub OperandsReadBack : Type 0
OperandsReadBack =
    (globals : List Global) (ty : Ty) (one : Operand) (rest : List ℕ) → begins is_name_byte rest ≡ false → begins_with 58 rest ≡ false
    → (value : Value) × operand.Is (32 ∷ operand_text globals ty one ++ rest) value rest × IsOperandTree globals ty one value

-- a printed operand behind its type is a text of its tree
abbrev pub TypedReadBack : Type 0
TypedReadBack =
    (globals : List Global) (ty : Ty) (one : Operand) (rest : List ℕ) → begins is_name_byte rest ≡ false → begins_with 58 rest ≡ false
    → (given : Typed) × typed.Is (typed_text globals ty one ++ rest) given rest × IsTypedTree globals ty one given

-- a printed operation of a fixed number of operands is a text of its tree
abbrev pub OperationsReadBack : Type 0
OperationsReadBack =
    (m : Module) (ret gives : Ty) (op : Op) (rest : List ℕ) → IsPlainOperation ret op → begins is_name_byte rest ≡ false → begins_with 58 rest ≡ false
    → (operation : Operation) × (operation_form op).Is (op_text m ret gives op ++ rest) operation rest × IsOperationTree m ret gives op operation

-- a printed `phi`, `alloca` or `switch` is a text of its tree, where no comma stands behind
abbrev pub LongOperationsReadBack : Type 0
LongOperationsReadBack =
    (m : Module) (ret gives : Ty) (op : Op) (rest : List ℕ) → IsLongOperation op → begins is_name_byte rest ≡ false → begins_with 58 rest ≡ false → is_mark 44 (token_at rest).0 ≡ false
    → (operation : Operation) × (operation_form op).Is (op_text m ret gives op ++ rest) operation rest × IsOperationTree m ret gives op operation
