-- What an instruction asks of its parts, and why a part doesn't answer.
use Rattle.std.specs.Prelude.{◌≡◌, ◌⊎◌, ℕ, Bool, true, false, ◌&&◌, not, nat_eq, ◌-◌, length, slice_get, List, [], ◌∷◌, ◌++◌, codes, Some, None, Result, Ok, Option, Err}
use Rattle.std.specs.List.{starts_with}
use Rattle.ir_text.specs.declared.name.Name.{Name}
use Rattle.ir_grammar.specs.declared.type_tree.TypeNode.{TypeNode}
use Rattle.ir_value_trees.specs.declared.value_tree.Value.{Value}
use Rattle.ir_value_trees.specs.declared.value_tree.Value.TheVariants as written
use Rattle.ir_value_trees.specs.declared.value_tree.Typed.{Typed}
use Rattle.ir_instruction_trees.specs.declared.tree.Incoming.{Incoming}
use Rattle.ir_instruction_trees.specs.declared.tree.Case.{Case}
use Rattle.ir_instruction_trees.specs.declared.tree.Operation.{Operation}
use Rattle.ir_instruction_trees.specs.declared.tree.Operation.TheVariants as operations
use Rattle.ir_core.specs.declared.code.Operand.{Operand}
use Rattle.ir_core.specs.declared.types.Ty.{Ty}
use Rattle.ir_core.specs.declared.types.Ty.TheVariants as values
use Rattle.ir_types.specs.Types.{type_of, memory}
use Rattle.ir_grammar.specs.declared.type_tree.Align.{Align}
use Rattle.ir_instructions.specs.Counts.{item_count, small_align}
use Rattle.ir_types.specs.declared.table.Types.{Types}
use Rattle.ir_types.specs.declared.fault.Fault.{Fault}
use Rattle.ir_types.specs.declared.fault.Fault.TheVariants as faults
use Rattle.ir_types.specs.declared.names.Table.{Table}
use Rattle.ir_types.specs.Names.{Symbols, bytes_of}
use Rattle.ir_resolve.specs.Operands.{is_ty}
use Rattle.ir_resolve.specs.Causes.{TypeFault, ValueFault, BlockFault, Misfits, IsNoType, IsMisspelt, IsMisspeltLocal, IsNoSymbol, NamesGlobal}
use Rattle.ir_instructions.specs.declared.built_ins.NamedBuiltIn.{NamedBuiltIn}
use Rattle.ir_instructions.specs.BuiltIns.{built_in_of, is_of_memory, measured, has_width}
use Rattle.ir_instructions.specs.Instructions.{typed_list}

-- what is asked
pub data Ask : Type 0 where
  -- this is the type of a value
  some_type : List TypeNode → Ask
  -- this is a value of the type
  some_value : List TypeNode → Value → Ask
  -- the type is this one
  this_type : Ty → List TypeNode → Ask
  -- both types are the same
  same_type : List TypeNode → List TypeNode → Ask
  -- the value is a number
  some_number : Value → Ask
  -- a block has the name
  some_block : Name → Ask
  -- a function has the name, which isn't a local one
  some_callee : Bool → Name → Ask
  -- a built-in of memory moves its bytes plainly
  some_quiet : Name → List Typed → Ask
  -- the width in a built-in's name is that of its operands
  some_width : Name → List Typed → Ask
  -- a function with this result returns a value of the type
  returned : List TypeNode → List TypeNode → Ask
  -- this is a type of memory
  some_memory : List TypeNode → Ask
  -- an `alloca`, whose word stands at the place, has so many items
  some_count : ℕ → Option Typed → Ask
  -- each `align` is small
  some_aligns : List Align → Ask
  -- an `alloca` stands in the entry block
  some_entry : ℕ → Ask

abbrev pub typed_asks : Typed → List Ask
typed_asks given = some_type given.ty ∷ some_value given.ty given.value ∷ []

unfoldable pub list_asks : List Typed → List Ask
list_asks [] = []
list_asks (one ∷ given) = typed_asks one ++ list_asks given

unfoldable pub incoming_asks : List TypeNode → List Incoming → List Ask
incoming_asks ty [] = []
incoming_asks ty (one ∷ given) = (some_value ty one.value ∷ some_block one.block ∷ []) ++ incoming_asks ty given

unfoldable pub case_asks : List TypeNode → List Case → List Ask
case_asks ty [] = []
case_asks ty (one ∷ given) = (some_type one.ty ∷ some_value one.ty one.value ∷ same_type ty one.ty ∷ some_number one.value ∷ some_block one.block ∷ []) ++ case_asks ty given

abbrev pub call_asks : Bool → Name → List Typed → List Ask
call_asks true callee arguments = some_callee true callee ∷ list_asks arguments
call_asks false callee arguments = some_callee false callee ∷ some_quiet callee arguments ∷ some_width callee arguments ∷ list_asks arguments

-- what is asked of an `alloca` where it stands
abbrev pub entry_asks : Bool → ℕ → List Ask
entry_asks true place = []
entry_asks false place = some_entry place ∷ []

-- what an operation asks, in a function with this result
unfoldable pub asks : List TypeNode → Bool → List Align → Operation → List Ask
asks ret entry aligns (operations.Binary operator flags left right) = typed_asks left ++ some_value left.ty right ∷ []
asks ret entry aligns (operations.Icmp flags predicate left right) = typed_asks left ++ some_value left.ty right ∷ []
asks ret entry aligns (operations.Cast operator flags value target) = some_type target ∷ typed_asks value
asks ret entry aligns (operations.Select condition left right) = (typed_asks condition ++ this_type (values.Int 1) condition.ty ∷ []) ++ typed_asks left ++ typed_asks right ++ same_type left.ty right.ty ∷ []
asks ret entry aligns (operations.Freeze value) = typed_asks value
asks ret entry aligns (operations.Phi given incoming) = some_type given ∷ incoming_asks given incoming
asks ret entry aligns (operations.Alloca place given count) = entry_asks entry place ++ some_memory given ∷ some_count place count ∷ some_aligns aligns ∷ []
asks ret entry aligns (operations.Load given from) = some_type given ∷ typed_asks from ++ this_type values.Ptr from.ty ∷ []
asks ret entry aligns (operations.Store value into) = typed_asks value ++ typed_asks into ++ this_type values.Ptr into.ty ∷ []
asks ret entry aligns (operations.Gep given base offsets) = some_memory given ∷ (typed_asks base ++ this_type values.Ptr base.ty ∷ []) ++ list_asks offsets
asks ret entry aligns (operations.Call given is_local callee arguments) = some_type given ∷ call_asks is_local callee arguments
asks ret entry aligns (operations.Ret given (Some value)) = some_type given ∷ returned ret given ∷ some_value given value ∷ []
asks ret entry aligns (operations.Ret given None) = []
asks ret entry aligns (operations.Br block) = some_block block ∷ []
asks ret entry aligns (operations.CondBr condition left right) = (typed_asks condition ++ this_type (values.Int 1) condition.ty ∷ []) ++ some_block left ∷ some_block right ∷ []
asks ret entry aligns (operations.Switch value otherwise cases) = typed_asks value ++ some_block otherwise ∷ case_asks value.ty cases
asks ret entry aligns operations.Unreachable = []

-- the value is no number
abbrev pub IsNoNumber : Value → Type 0
IsNoNumber (written.Number number) = ⊥
IsNoNumber (written.True left) = ⊥
IsNoNumber (written.False left) = ⊥
IsNoNumber (written.Local name) = Unit {0}
IsNoNumber (written.Null left) = Unit {0}
IsNoNumber (written.Poison left) = Unit {0}
IsNoNumber (written.Address address) = Unit {0}

-- a name of LLVM's own that is no built-in, by its bytes
abbrev pub IsOtherOwn : Name → Type 0
IsOtherOwn name = (bytes : List ℕ) × (bytes_of name ≡ Ok bytes) × (starts_with nat_eq bytes (codes "llvm.") ≡ true) × (built_in_of bytes ≡ None)

-- a name of this built-in, by its bytes
abbrev pub NamesBuiltIn : Name → NamedBuiltIn → Type 0
NamesBuiltIn name named = (bytes : List ℕ) × (bytes_of name ≡ Ok bytes) × (built_in_of bytes ≡ Some named)

-- a callee that is left out: a local name, a global's name, or a name of LLVM's own that is no built-in
abbrev pub IsLeftOutCallee : Symbols → Bool → Name → Type 0
IsLeftOutCallee symbols is_local name = (is_local ≡ true) ⊎ (IsOtherOwn name ⊎ NamesGlobal symbols name)

-- a built-in of memory
abbrev pub IsMemoryCallee : Name → Type 0
IsMemoryCallee name = (named : NamedBuiltIn) × NamesBuiltIn name named × (is_of_memory named.which ≡ true)

-- the last argument is written `true`, at the place
abbrev pub EndsByTrue : List Typed → ℕ → Type 0
EndsByTrue arguments left = (last : Typed) × (slice_get arguments (length arguments - 1) ≡ Some last) × (last.value ≡ written.True left)

-- the last argument is written `false`, at the place
abbrev pub EndsByFalse : List Typed → ℕ → Type 0
EndsByFalse arguments left = (last : Typed) × (slice_get arguments (length arguments - 1) ≡ Some last) × (last.value ≡ written.False left)

-- the last argument is written neither `false` nor `true`
abbrev pub EndsOtherwise : List Typed → Type 0
EndsOtherwise arguments = ((left : ℕ) → EndsByFalse arguments left → ⊥) × ((left : ℕ) → EndsByTrue arguments left → ⊥)

abbrev pub QuietFault : Name → List Typed → Fault → Type 0
QuietFault name arguments faults.NoMemory = ⊥
QuietFault name arguments (faults.Syntax left) = IsMemoryCallee name × EndsOtherwise arguments
QuietFault name arguments (faults.LeftOut left) = IsMemoryCallee name × EndsByTrue arguments left
QuietFault name arguments (faults.Name left) = ⊥
QuietFault name arguments (faults.Limit what count) = ⊥

-- a built-in of the name isn't defined for the operands: they have another width
abbrev pub HasOtherWidth : Types → Symbols → Table → Name → List Typed → Type 0
HasOtherWidth types symbols table name arguments = (named : NamedBuiltIn) × NamesBuiltIn name named × (all : List (Ty × Operand)) × (typed_list types symbols table arguments ≡ Ok all) × (has_width named.width (slice_get all (measured named.which)) ≡ false)

abbrev pub WidthFault : Types → Symbols → Table → Name → List Typed → Fault → Type 0
WidthFault types symbols table name arguments faults.NoMemory = ⊥
WidthFault types symbols table name arguments (faults.Syntax left) = ⊥
WidthFault types symbols table name arguments (faults.LeftOut left) = ⊥
WidthFault types symbols table name arguments (faults.Name left) = (left ≡ name.left) × HasOtherWidth types symbols table name arguments
WidthFault types symbols table name arguments (faults.Limit what count) = ⊥

abbrev pub CalleeFault : Symbols → Bool → Name → Fault → Type 0
CalleeFault symbols is_local name faults.NoMemory = ⊥
CalleeFault symbols is_local name (faults.Syntax left) = IsMisspelt name
CalleeFault symbols is_local name (faults.LeftOut left) = (left ≡ name.left) × IsLeftOutCallee symbols is_local name
CalleeFault symbols is_local name (faults.Name left) = (left ≡ name.left) × IsNoSymbol symbols name
CalleeFault symbols is_local name (faults.Limit what count) = ⊥

-- a fault that is one of syntax alone, where this holds
abbrev pub SyntaxWhere : Type 0 → Fault → Type 0
SyntaxWhere p faults.NoMemory = ⊥
SyntaxWhere p (faults.Syntax left) = p
SyntaxWhere p (faults.LeftOut left) = ⊥
SyntaxWhere p (faults.Name left) = ⊥
SyntaxWhere p (faults.Limit what count) = ⊥

-- types that are known and differ
abbrev pub Differ : Types → List TypeNode → List TypeNode → Type 0
Differ types given other = (ty : Ty) × (type_of types given ≡ Ok ty) × (an : Ty) × (type_of types other ≡ Ok an) × (is_ty an ty ≡ false)

-- a type that is known and isn't the function's result, or is `void`
abbrev pub ReturnsOther : Types → List TypeNode → List TypeNode → Type 0
ReturnsOther types ret given = (ty : Ty) × (type_of types ret ≡ Ok ty) × (an : Ty) × (type_of types given ≡ Ok an) × ((is_ty an ty && not (is_ty an values.Void)) ≡ false)

-- an item stands in a list
unfoldable pub Among : {A : Type 0} → List A → A → Type 0
Among [] x = ⊥
Among (y ∷ ys) x = (y ≡ x) ⊎ Among ys x

-- why a part doesn't answer what is asked
abbrev pub AskFault : Types → Symbols → Table → Ask → Fault → Type 0
AskFault types symbols table (some_type given) e = TypeFault types given e
AskFault types symbols table (some_value given value) e = (ty : Ty) × (type_of types given ≡ Ok ty) × ValueFault types symbols table ty value e
AskFault types symbols table (this_type ty given) e = SyntaxWhere ((an : Ty) × (type_of types given ≡ Ok an) × (is_ty an ty ≡ false)) e
AskFault types symbols table (same_type given other) e = SyntaxWhere (Differ types given other) e
AskFault types symbols table (some_number value) e = SyntaxWhere (IsNoNumber value) e
AskFault types symbols table (some_block name) e = BlockFault table name e
AskFault types symbols table (some_callee is_local name) e = CalleeFault symbols is_local name e
AskFault types symbols table (some_quiet name arguments) e = QuietFault name arguments e
AskFault types symbols table (some_width name arguments) e = WidthFault types symbols table name arguments e
AskFault types symbols table (returned ret given) e = SyntaxWhere (ReturnsOther types ret given) e
AskFault types symbols table (some_memory given) e = memory types given ≡ Err e
AskFault types symbols table (some_count place count) e = item_count types place count ≡ Err e
AskFault types symbols table (some_aligns aligns) e = (given : Align) × Among aligns given × (small_align given ≡ Err e)
AskFault types symbols table (some_entry place) e = e ≡ faults.LeftOut place

-- a part that fits, whatever its names stand for; a type that isn't known fits anything
abbrev pub Fits : Types → Ask → Type 0
Fits types (some_type given) = IsNoType types given → ⊥
Fits types (some_value given value) = (ty : Ty) → type_of types given ≡ Ok ty → Misfits types ty value → ⊥
Fits types (this_type ty given) = (an : Ty) → type_of types given ≡ Ok an → is_ty an ty ≡ true
Fits types (same_type given other) = Differ types given other → ⊥
Fits types (some_number value) = IsNoNumber value → ⊥
Fits types (some_block name) = IsMisspeltLocal name → ⊥
Fits types (some_callee is_local name) = IsMisspelt name → ⊥
Fits types (some_quiet name arguments) = IsMemoryCallee name → EndsOtherwise arguments → ⊥
Fits types (some_width name arguments) = Unit {0}
Fits types (returned ret given) = ReturnsOther types ret given → ⊥
Fits types (some_memory given) = (left : ℕ) → memory types given ≡ Err (faults.Syntax left) → ⊥
Fits types (some_count place count) = (left : ℕ) → item_count types place count ≡ Err (faults.Syntax left) → ⊥
Fits types (some_aligns aligns) = (given : Align) (left : ℕ) → Among aligns given → small_align given ≡ Err (faults.Syntax left) → ⊥
Fits types (some_entry place) = Unit {0}

-- one of the asks isn't answered
abbrev pub Unanswered : Types → Symbols → Table → List Ask → Fault → Type 0
Unanswered types symbols table all e = (ask : Ask) × Among all ask × AskFault types symbols table ask e

-- what walks over a list came to before an item
unfoldable pub Reached : {S T : Type 0} → (S → T → Result S Fault) → S → List T → S → T → Type 0
Reached step state [] before y = ⊥
Reached {S = S} step state (x ∷ xs) before y = ((state ≡ before) × (x ≡ y)) ⊎ ((next : S) × (step state x ≡ Ok next) × Reached step next xs before y)

-- why the type of an operation's result isn't known: a type that is asked isn't one
abbrev pub ResultFault : Types → List TypeNode → Bool → List Align → Operation → Fault → Type 0
ResultFault types ret entry aligns given e = (nodes : List TypeNode) × Among (asks ret entry aligns given) (some_type nodes) × TypeFault types nodes e
