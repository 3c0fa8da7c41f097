-- The trees of printed operations, whatever the places in them, and which operations have a text.
use Rattle.std.specs.Prelude.{◌≡◌, ◌<◌, ◌≤◌, ℕ, false, ◌==◌, MatchBool, slice_get, length, List, [], ◌∷◌, Option, Some, None, codes}
use Rattle.ir_text.specs.declared.name.Name.{Name}
use Rattle.ir_text.specs.declared.name.Number.{Number}
use Rattle.ir_text.specs.Form.{Form, most_turns}
use Rattle.ir_core.specs.declared.types.Ty.{Ty}
use Rattle.ir_core.specs.declared.types.Ty.TheVariants as values
use Rattle.ir_core.specs.declared.code.Operand.{Operand}
use Rattle.ir_core.specs.declared.code.Op.{Op}
use Rattle.ir_core.specs.declared.code.Op.TheVariants as ops
use Rattle.ir_core.specs.declared.program.Global.{Global}
use Rattle.ir_core.specs.declared.program.Module.{Module}
use Rattle.ir_core.specs.Layout.{measure}
use Rattle.ir_grammar.specs.declared.type_tree.TypeNode.{TypeNode}
use Rattle.ir_grammar.specs.declared.type_tree.TypeNode.TheVariants as nodes
use Rattle.ir_grammar.specs.Operators.{samesign_flag}
use Rattle.ir_value_trees.specs.declared.value_tree.Value.{Value}
use Rattle.ir_value_trees.specs.declared.value_tree.Value.TheVariants as written
use Rattle.ir_value_trees.specs.declared.value_tree.Typed.{Typed}
use Rattle.ir_instruction_trees.specs.declared.tree.Incoming.{Incoming}
use Rattle.ir_instruction_trees.specs.declared.tree.Case.{Case}
use Rattle.ir_instruction_trees.specs.declared.tree.Operation.{Operation}
use Rattle.ir_instruction_trees.specs.declared.tree.Operation.TheVariants as operations
use Rattle.ir_instruction_trees.specs.Instructions.{valued, effect}
use Rattle.ir_print.specs.Values.{width_of}
use Rattle.ir_print.specs.Instructions.{built_in_text, function_of}
use Rattle.ir_print_laws.specs.Operators.{allowed_of, allowed_of_cast, masked}
use Rattle.ir_print_laws.specs.FormTrees.{IsNameOf, IsBlockName, IsCount, IsTyTree, IsMemoryTree, IsNumberTree, IsOperandTree, IsTypedTree}

-- two lists, item by item
abbrev pub AreTrees : {X Y : Type 0} → (X → Y → Type 0) → List X → List Y → Type 0
AreTrees Is [] [] = Unit {0}
AreTrees Is [] (y ∷ ys) = ⊥
AreTrees Is (x ∷ xs) [] = ⊥
AreTrees Is (x ∷ xs) (y ∷ ys) = Is x y × AreTrees Is xs ys

abbrev pub IsIncomingTree : List Global → Ty → Operand × ℕ → Incoming → Type 0
IsIncomingTree globals ty one given = IsOperandTree globals ty one.0 given.value × IsBlockName one.1 given.block

abbrev pub IsArgumentTree : List Global → Ty × Operand → Typed → Type 0
IsArgumentTree globals one given = IsTypedTree globals one.0 one.1 given

abbrev pub IsCaseTree : Ty → ℕ × ℕ → Case → Type 0
IsCaseTree ty one given = IsTyTree ty given.ty × IsNumberTree (width_of ty) one.0 given.value × IsBlockName one.1 given.block

-- `i64 COUNT`
abbrev pub IsWideCount : ℕ → Typed → Type 0
IsWideCount count one = ((left : ℕ) × (one.ty ≡ nodes.Int (codes "64") left ∷ [])) × ((number : Number) × (one.value ≡ written.Number number) × IsCount count number)

-- how many items an `alloca` takes: written where it isn't one
abbrev pub IsCountTree : ℕ → Option Typed → Type 0
IsCountTree count given = MatchBool (count == 1) (given ≡ None) ((one : Typed) × (given ≡ Some one) × IsWideCount count one)

-- what `ret` gives, by the function's result
abbrev pub IsReturnTree : List Global → Ty → Option Operand → Operation → Type 0
IsReturnTree globals ret None operation = (left : ℕ) × (operation ≡ operations.Ret (nodes.Void left ∷ []) None)
IsReturnTree globals ret (Some value) operation = (given : Typed) × (operation ≡ operations.Ret given.ty (Some given.value)) × IsTypedTree globals ret value given

-- an operation in a function of this result, by the type that it gives
abbrev pub IsOperationTree : Module → Ty → Ty → Op → Operation → Type 0
IsOperationTree m ret gives (ops.Binary op flags a b) operation =
    (left : Typed) × (right : Value) × (operation ≡ operations.Binary op flags left right) × IsTypedTree m.globals gives a left × IsOperandTree m.globals gives b right
IsOperationTree m ret gives (ops.Icmp predicate flags ty a b) operation =
    (left : Typed) × (right : Value) × (operation ≡ operations.Icmp flags predicate left right) × IsTypedTree m.globals ty a left × IsOperandTree m.globals ty b right
IsOperationTree m ret gives (ops.Cast op flags from a) operation =
    (value : Typed) × (ty : List TypeNode) × (operation ≡ operations.Cast op flags value ty) × IsTypedTree m.globals from a value × IsTyTree gives ty
IsOperationTree m ret gives (ops.Select condition a b) operation =
    (test left right : Typed) × (operation ≡ operations.Select test left right) × IsTypedTree m.globals (values.Int 1) condition test × IsTypedTree m.globals gives a left × IsTypedTree m.globals gives b right
IsOperationTree m ret gives (ops.Freeze a) operation = (value : Typed) × (operation ≡ operations.Freeze value) × IsTypedTree m.globals gives a value
IsOperationTree m ret gives (ops.Phi incoming) operation =
    (ty : List TypeNode) × (all : List Incoming) × (operation ≡ operations.Phi ty all) × IsTyTree gives ty × AreTrees (IsIncomingTree m.globals gives) incoming all
IsOperationTree m ret gives (ops.Alloca ty count) operation =
    (left : ℕ) × (parts : List TypeNode) × (number : Option Typed) × (operation ≡ operations.Alloca left parts number) × IsMemoryTree parts ty [] × IsCountTree count number
IsOperationTree m ret gives (ops.Load address) operation =
    (ty : List TypeNode) × (from : Typed) × (operation ≡ operations.Load ty from) × IsTyTree gives ty × IsTypedTree m.globals values.Ptr address from
IsOperationTree m ret gives (ops.Store ty value address) operation =
    (given into : Typed) × (operation ≡ operations.Store given into) × IsTypedTree m.globals ty value given × IsTypedTree m.globals values.Ptr address into
IsOperationTree m ret gives (ops.Gep ty base offsets) operation =
    (parts : List TypeNode) × (from : Typed) × (given : List Typed) × (operation ≡ operations.Gep parts from given) × IsMemoryTree parts ty [] × IsTypedTree m.globals values.Ptr base from
    × AreTrees (IsArgumentTree m.globals) offsets given
IsOperationTree m ret gives (ops.Call callee arguments) operation =
    (ty : List TypeNode) × (name : Name) × (given : List Typed) × (operation ≡ operations.Call ty false name given) × IsTyTree gives ty × IsNameOf (function_of (slice_get m.functions callee)) name
    × AreTrees (IsArgumentTree m.globals) arguments given
IsOperationTree m ret gives (ops.BuiltIn which arguments) operation =
    (ty : List TypeNode) × (name : Name) × (given : List Typed) × (operation ≡ operations.Call ty false name given) × IsTyTree gives ty × IsNameOf (built_in_text which arguments) name
    × AreTrees (IsArgumentTree m.globals) arguments given
IsOperationTree m ret gives (ops.Ret value) operation = IsReturnTree m.globals ret value operation
IsOperationTree m ret gives (ops.Br block) operation = (name : Name) × (operation ≡ operations.Br name) × IsBlockName block name
IsOperationTree m ret gives (ops.CondBr condition first second) operation =
    (test : Typed) × (one other : Name) × (operation ≡ operations.CondBr test one other) × IsTypedTree m.globals (values.Int 1) condition test × IsBlockName first one × IsBlockName second other
IsOperationTree m ret gives (ops.Switch ty value otherwise cases) operation =
    (given : Typed) × (block : Name) × (all : List Case) × (operation ≡ operations.Switch given block all) × IsTypedTree m.globals ty value given × IsBlockName otherwise block
    × AreTrees (IsCaseTree ty) cases all
IsOperationTree m ret gives ops.Unreachable operation = operation ≡ operations.Unreachable

-- a type that isn't `void`
abbrev pub HasValues : Ty → Type 0
HasValues values.Void = ⊥
HasValues (values.Int width) = Unit {0}
HasValues values.Ptr = Unit {0}

abbrev pub IsPlainReturn : Ty → Option Operand → Type 0
IsPlainReturn ret None = Unit {0}
IsPlainReturn ret (Some value) = HasValues ret

-- an operation of a fixed number of operands that has a text: its flags are those of its operator, and a value is returned of no `void`
abbrev pub IsPlainOperation : Ty → Op → Type 0
IsPlainOperation ret (ops.Binary op flags a b) = masked (allowed_of op) flags ≡ flags
IsPlainOperation ret (ops.Icmp predicate flags ty a b) = masked samesign_flag flags ≡ flags
IsPlainOperation ret (ops.Cast op flags from a) = masked (allowed_of_cast op) flags ≡ flags
IsPlainOperation ret (ops.Select condition a b) = Unit {0}
IsPlainOperation ret (ops.Freeze a) = Unit {0}
IsPlainOperation ret (ops.Phi incoming) = ⊥
IsPlainOperation ret (ops.Alloca ty count) = ⊥
IsPlainOperation ret (ops.Load address) = Unit {0}
IsPlainOperation ret (ops.Store ty value address) = Unit {0}
IsPlainOperation ret (ops.Gep ty base offsets) = ⊥
IsPlainOperation ret (ops.Call callee arguments) = ⊥
IsPlainOperation ret (ops.BuiltIn which arguments) = ⊥
IsPlainOperation ret (ops.Ret value) = IsPlainReturn ret value
IsPlainOperation ret (ops.Br block) = Unit {0}
IsPlainOperation ret (ops.CondBr condition first second) = Unit {0}
IsPlainOperation ret (ops.Switch ty value otherwise cases) = ⊥
IsPlainOperation ret ops.Unreachable = Unit {0}

-- a `phi` has something that comes in
abbrev pub HasIncoming : List (Operand × ℕ) → Type 0
HasIncoming [] = ⊥
HasIncoming (one ∷ others) = length others < most_turns

-- an operation with a list or a type of memory that has a text, but for addresses and calls
abbrev pub IsLongOperation : Op → Type 0
IsLongOperation (ops.Phi incoming) = HasIncoming incoming
IsLongOperation (ops.Alloca ty count) = (measure ty).nodes ≤ 4096
IsLongOperation (ops.Switch ty value otherwise cases) = length cases < most_turns
IsLongOperation _ = ⊥

-- the form of an operation but for a call: one with a result, or one without
abbrev pub operation_form : Op → Form Operation
operation_form (ops.Store ty value address) = effect
operation_form (ops.Ret value) = effect
operation_form (ops.Br block) = effect
operation_form (ops.CondBr condition first second) = effect
operation_form (ops.Switch ty value otherwise cases) = effect
operation_form ops.Unreachable = effect
operation_form _ = valued
