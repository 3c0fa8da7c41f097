-- What instructions say.
use Rattle.std.specs.Prelude.{ℕ, Bool, not, ◌&&◌, nat_eq, List, [], ◌∷◌, ◌++◌, codes, Option, Some, None, Result, Ok, Err, if◌then◌else◌, true, false}
use Rattle.std.specs.List.{starts_with}
use Rattle.ir_text.specs.declared.name.Name.{Name}
use Rattle.ir_grammar.specs.declared.type_tree.TypeNode.{TypeNode}
use Rattle.ir_value_trees.specs.declared.value_tree.Value.{Value}
use Rattle.ir_value_trees.specs.declared.value_tree.Typed.{Typed}
use Rattle.ir_instruction_trees.specs.declared.tree.Incoming.{Incoming}
use Rattle.ir_instruction_trees.specs.declared.tree.Case.{Case}
use Rattle.ir_instruction_trees.specs.declared.tree.Operation.{Operation}
use Rattle.ir_instruction_trees.specs.declared.tree.Operation.TheVariants as operations
use Rattle.ir_core.specs.declared.types.Ty.{Ty}
use Rattle.ir_core.specs.declared.types.Ty.TheVariants as values
use Rattle.ir_core.specs.declared.code.Operand.{Operand}
use Rattle.ir_core.specs.declared.code.Operand.TheVariants as operands
use Rattle.ir_core.specs.declared.code.BinOp.{BinOp}
use Rattle.ir_core.specs.declared.code.CastOp.{CastOp}
use Rattle.ir_core.specs.declared.code.Pred.{Pred}
use Rattle.ir_core.specs.declared.code.Flags.{Flags}
use Rattle.ir_core.specs.declared.code.Op.{Op}
use Rattle.ir_core.specs.declared.code.Op.TheVariants as core
use Rattle.ir_types.specs.Types.{type_of, memory}
use Rattle.ir_grammar.specs.declared.type_tree.Align.{Align}
use Rattle.ir_instructions.specs.Counts.{item_count, small_aligns}
use Rattle.ir_types.specs.declared.table.Types.{Types}
use Rattle.ir_types.specs.declared.fault.Fault.{Fault}
use Rattle.ir_types.specs.declared.fault.Fault.TheVariants as faults
use Rattle.ir_types.specs.declared.tables.Target.{Target}
use Rattle.ir_types.specs.declared.tables.Target.TheVariants as targets
use Rattle.ir_types.specs.Walk.{◌>>=◌, walk, or_fault}
use Rattle.ir_types.specs.Tables.{target_named}
use Rattle.ir_types.specs.declared.names.Table.{Table}
use Rattle.ir_instructions.specs.declared.built_ins.NamedBuiltIn.{NamedBuiltIn}
use Rattle.ir_instructions.specs.BuiltIns.{built_in_of, quiet, fitting}
use Rattle.ir_instructions.specs.declared.lists.TypedList.{TypedList}
use Rattle.ir_instructions.specs.declared.lists.IncomingList.{IncomingList}
use Rattle.ir_instructions.specs.declared.lists.CaseList.{CaseList}
use Rattle.ir_types.specs.Names.{Symbols, bytes_of}
use Rattle.ir_resolve.specs.Operands.{is_ty, operand, typed, typed_as, block_of, place_of_value, place_of_type}

-- the type of an instruction's result; `void` where it has none
unfoldable pub result_type : Types → Operation → Result Ty Fault
result_type types (operations.Binary operator flags left right) = type_of types left.ty
result_type types (operations.Icmp flags predicate left right) = Ok (values.Int 1)
result_type types (operations.Cast operator flags value target) = type_of types target
result_type types (operations.Select condition left right) = type_of types left.ty
result_type types (operations.Freeze value) = type_of types value.ty
result_type types (operations.Phi given incoming) = type_of types given
result_type types (operations.Alloca place given count) = Ok values.Ptr
result_type types (operations.Load given from) = type_of types given
result_type types (operations.Store value into) = Ok values.Void
result_type types (operations.Gep given base offsets) = Ok values.Ptr
result_type types (operations.Call given is_local callee arguments) = type_of types given
result_type types (operations.Ret given value) = Ok values.Void
result_type types (operations.Br block) = Ok values.Void
result_type types (operations.CondBr condition left right) = Ok values.Void
result_type types (operations.Switch value otherwise cases) = Ok values.Void
result_type types operations.Unreachable = Ok values.Void

-- one more of typed operands
abbrev pub typed_step : Types → Symbols → Table → TypedList → Typed → Result TypedList Fault
typed_step types symbols table before given = typed types symbols table given.ty given.value >>= λ one. Ok (record { all = before.all ++ one ∷ [] })

-- typed operands one by one
unfoldable pub typed_list : Types → Symbols → Table → List Typed → Result (List (Ty × Operand)) Fault
typed_list types symbols table given = walk (typed_step types symbols table) (record { all = [] }) given >>= λ list. Ok list.all

-- one more operand of a phi, with its block
abbrev pub incoming_step : Types → Symbols → Table → IncomingList → Incoming → Result IncomingList Fault
incoming_step types symbols table before given = do
  value ← operand types symbols table before.ty given.value
  block ← block_of table given.block
  Ok (record { ty = before.ty; all = before.all ++ (value, block) ∷ [] })

unfoldable pub incoming_list : Types → Symbols → Table → Ty → List Incoming → Result (List (Operand × ℕ)) Fault
incoming_list types symbols table ty given = walk (incoming_step types symbols table) (record { ty = ty; all = [] }) given >>= λ list. Ok list.all

-- the number of an operand that is one
abbrev pub case_number : ℕ → Operand → Result ℕ Fault
case_number left (operands.Num n) = Ok n
case_number left (operands.Value n) = Err (faults.Syntax left)
case_number left operands.Null = Err (faults.Syntax left)
case_number left (operands.Place global offset) = Err (faults.Syntax left)
case_number left operands.Poison = Err (faults.Syntax left)

-- `T NUMBER` of a case
unfoldable pub case_value : Types → Symbols → Table → Ty → Case → Result ℕ Fault
case_value types symbols table ty given = do
  value ← typed_as types symbols table ty given.ty given.value
  case_number (place_of_value given.value) value

abbrev pub case_step : Types → Symbols → Table → CaseList → Case → Result CaseList Fault
case_step types symbols table before given = do
  number ← case_value types symbols table before.ty given
  block ← block_of table given.block
  Ok (record { ty = before.ty; all = before.all ++ (number, block) ∷ [] })

unfoldable pub case_list : Types → Symbols → Table → Ty → List Case → Result (List (ℕ × ℕ)) Fault
case_list types symbols table ty given = walk (case_step types symbols table) (record { ty = ty; all = [] }) given >>= λ list. Ok list.all

unfoldable pub binary : Types → Symbols → Table → BinOp → Flags → Typed → Value → Result Op Fault
binary types symbols table operator flags left right = do
  a ← typed types symbols table left.ty left.value
  b ← operand types symbols table a.0 right
  Ok (core.Binary operator flags a.1 b)

unfoldable pub comparison : Types → Symbols → Table → Pred → Flags → Typed → Value → Result Op Fault
comparison types symbols table predicate flags left right = do
  a ← typed types symbols table left.ty left.value
  b ← operand types symbols table a.0 right
  Ok (core.Icmp predicate flags a.0 a.1 b)

unfoldable pub cast : Types → Symbols → Table → CastOp → Flags → Typed → Result Op Fault
cast types symbols table operator flags value = typed types symbols table value.ty value.value >>= λ a. Ok (core.Cast operator flags a.0 a.1)

unfoldable pub selection : Types → Symbols → Table → Typed → Typed → Typed → Result Op Fault
selection types symbols table condition left right = do
  c ← typed_as types symbols table (values.Int 1) condition.ty condition.value
  a ← typed types symbols table left.ty left.value
  b ← typed_as types symbols table a.0 right.ty right.value
  Ok (core.Select c a.1 b)

unfoldable pub freezing : Types → Symbols → Table → Typed → Result Op Fault
freezing types symbols table value = typed types symbols table value.ty value.value >>= λ a. Ok (core.Freeze a.1)

unfoldable pub phi : Types → Symbols → Table → List TypeNode → List Incoming → Result Op Fault
phi types symbols table given incoming = do
  ty ← type_of types given
  all ← incoming_list types symbols table ty incoming
  Ok (core.Phi all)

unfoldable pub loading : Types → Symbols → Table → Typed → Result Op Fault
loading types symbols table from = typed_as types symbols table values.Ptr from.ty from.value >>= λ a. Ok (core.Load a)

unfoldable pub storing : Types → Symbols → Table → Typed → Typed → Result Op Fault
storing types symbols table value into = do
  a ← typed types symbols table value.ty value.value
  b ← typed_as types symbols table values.Ptr into.ty into.value
  Ok (core.Store a.0 a.1 b)

-- a function; a global's name is an indirect callee
abbrev pub callee_number : ℕ → Target → Result ℕ Fault
callee_number left (targets.Function n) = Ok n
callee_number left (targets.Global n) = Err (faults.LeftOut left)
callee_number left (targets.Value n) = Err (faults.Name left)
callee_number left (targets.Block n) = Err (faults.Name left)
callee_number left (targets.Type n) = Err (faults.Name left)

-- what these bytes of a name stand for among globals and functions
abbrev pub symbol_of : Symbols → ℕ → List ℕ → Result Target Fault
symbol_of symbols left bytes = or_fault (faults.Name left) (target_named bytes symbols)

unfoldable pub direct_call : Types → Symbols → Table → Name → List Typed → List ℕ → Result Op Fault
direct_call types symbols table callee arguments bytes = do
  target ← symbol_of symbols callee.left bytes
  n ← callee_number callee.left target
  all ← typed_list types symbols table arguments
  Ok (core.Call n all)

-- a call of a built-in
unfoldable pub built_in_call : Types → Symbols → Table → Name → List Typed → NamedBuiltIn → Result Op Fault
built_in_call types symbols table callee arguments named = do
  all ← typed_list types symbols table arguments
  _ ← quiet callee.left named.which arguments
  _ ← fitting callee.left named all
  Ok (core.BuiltIn named.which all)

-- a call of a name of LLVM's own: a built-in, or left out
abbrev pub own_call : Types → Symbols → Table → Name → List Typed → Option NamedBuiltIn → Result Op Fault
own_call types symbols table callee arguments None = Err (faults.LeftOut callee.left)
own_call types symbols table callee arguments (Some named) = built_in_call types symbols table callee arguments named

-- a call by the bytes of a name: those that begin with `llvm.` are LLVM's own, however they are written
unfoldable pub named_call : Types → Symbols → Table → Name → List Typed → List ℕ → Result Op Fault
named_call types symbols table callee arguments bytes =
    if starts_with nat_eq bytes (codes "llvm.") then own_call types symbols table callee arguments (built_in_of bytes)
    else direct_call types symbols table callee arguments bytes

-- an indirect callee is left out
unfoldable pub call : Types → Symbols → Table → Bool → Name → List Typed → Result Op Fault
call types symbols table is_local callee arguments =
    if is_local then Err (faults.LeftOut callee.left)
    else bytes_of callee >>= named_call types symbols table callee arguments

abbrev pub returned_type : Types → Ty → List TypeNode → Result Bool Fault
returned_type types ret given = type_of types given >>= λ ty. Ok (is_ty ty ret && not (is_ty ty values.Void))

unfoldable pub returning : Types → Symbols → Table → Ty → List TypeNode → Value → Result Op Fault
returning types symbols table ret given value = do
  fits ← returned_type types ret given
  if fits then (operand types symbols table ret value >>= λ a. Ok (core.Ret (Some a))) else Err (faults.Syntax (place_of_type given))

abbrev pub ret : Types → Symbols → Table → Ty → List TypeNode → Option Value → Result Op Fault
ret types symbols table ty given (Some value) = returning types symbols table ty given value
ret types symbols table ty given None = Ok (core.Ret None)

abbrev pub jump : Table → Name → Result Op Fault
jump table name = block_of table name >>= λ n. Ok (core.Br n)

unfoldable pub fork : Types → Symbols → Table → Typed → Name → Name → Result Op Fault
fork types symbols table condition left right = do
  c ← typed_as types symbols table (values.Int 1) condition.ty condition.value
  a ← block_of table left
  b ← block_of table right
  Ok (core.CondBr c a b)

unfoldable pub switching : Types → Symbols → Table → Typed → Name → List Case → Result Op Fault
switching types symbols table value otherwise cases = do
  a ← typed types symbols table value.ty value.value
  block ← block_of table otherwise
  all ← case_list types symbols table a.0 cases
  Ok (core.Switch a.0 a.1 block all)

-- an `alloca` stands in the entry block, else it is left out
abbrev pub in_entry : Bool → ℕ → Result (Unit {0}) Fault
in_entry true place = Ok tt
in_entry false place = Err (faults.LeftOut place)

unfoldable pub alloca : Types → Bool → ℕ → List TypeNode → Option Typed → List Align → Result Op Fault
alloca types entry place given count aligns = do
  _ ← in_entry entry place
  ty ← memory types given
  items ← item_count types place count
  _ ← small_aligns aligns
  Ok (core.Alloca ty items)

unfoldable pub gep : Types → Symbols → Table → List TypeNode → Typed → List Typed → Result Op Fault
gep types symbols table given base offsets = do
  ty ← memory types given
  a ← typed_as types symbols table values.Ptr base.ty base.value
  all ← typed_list types symbols table offsets
  Ok (core.Gep ty a all)

-- what an operation says, in a function with this result; whether it stands in the entry block, and what `align` says behind it
unfoldable pub operation : Types → Symbols → Table → Ty → Bool → List Align → Operation → Result Op Fault
operation types symbols table ty entry aligns (operations.Binary operator flags a b) = binary types symbols table operator flags a b
operation types symbols table ty entry aligns (operations.Icmp flags predicate a b) = comparison types symbols table predicate flags a b
operation types symbols table ty entry aligns (operations.Cast operator flags value target) = cast types symbols table operator flags value
operation types symbols table ty entry aligns (operations.Select condition a b) = selection types symbols table condition a b
operation types symbols table ty entry aligns (operations.Freeze value) = freezing types symbols table value
operation types symbols table ty entry aligns (operations.Phi given incoming) = phi types symbols table given incoming
operation types symbols table ty entry aligns (operations.Alloca place given count) = alloca types entry place given count aligns
operation types symbols table ty entry aligns (operations.Load given from) = loading types symbols table from
operation types symbols table ty entry aligns (operations.Store value into) = storing types symbols table value into
operation types symbols table ty entry aligns (operations.Gep given base offsets) = gep types symbols table given base offsets
operation types symbols table ty entry aligns (operations.Call given is_local callee arguments) = call types symbols table is_local callee arguments
operation types symbols table ty entry aligns (operations.Ret given value) = ret types symbols table ty given value
operation types symbols table ty entry aligns (operations.Br block) = jump table block
operation types symbols table ty entry aligns (operations.CondBr condition a b) = fork types symbols table condition a b
operation types symbols table ty entry aligns (operations.Switch value otherwise cases) = switching types symbols table value otherwise cases
operation types symbols table ty entry aligns operations.Unreachable = Ok core.Unreachable
