-- Why a type, a name or an operand has no meaning.
use Rattle.std.specs.Prelude.{◌≡◌, ◌⊎◌, ℕ, ◌<◌, Bool, true, false, slice_get, length, List, [], ◌∷◌, Option, Some, None, Result, Ok, Err}
use Rattle.ir_text.specs.declared.name.Name.{Name}
use Rattle.ir_text.specs.declared.name.Number.{Number}
use Rattle.ir_text.specs.Quoted.{said}
use Rattle.ir_grammar.specs.declared.type_tree.TypeNode.{TypeNode}
use Rattle.ir_grammar.specs.declared.type_tree.TypeNode.TheVariants as nodes
use Rattle.ir_value_trees.specs.declared.value_tree.Address.{Address}
use Rattle.ir_value_trees.specs.declared.value_tree.Value.{Value}
use Rattle.ir_value_trees.specs.declared.value_tree.Value.TheVariants as written
use Rattle.ir_core.specs.declared.types.TheConstants.{MAX_WIDTH}
use Rattle.ir_core.specs.declared.types.Ty.{Ty}
use Rattle.ir_core.specs.declared.types.Ty.TheVariants as values
use Rattle.ir_types.specs.declared.table.Types.{Types}
use Rattle.ir_types.specs.declared.fault.Fault.{Fault}
use Rattle.ir_types.specs.declared.fault.Fault.TheVariants as faults
use Rattle.ir_types.specs.declared.tables.Target.TheVariants as targets
use Rattle.ir_types.specs.Numbers.{natural, decimal}
use Rattle.ir_types.specs.Walk.{◌>>=◌, walk}
use Rattle.ir_types.specs.declared.names.Table.{Table}
use Rattle.ir_types.specs.declared.parts.Part.{Part}
use Rattle.ir_types.specs.declared.parts.Part.TheVariants as parts
use Rattle.ir_types.specs.declared.summary.Summary.{Summary}
use Rattle.ir_types.specs.declared.summary.Entry.TheVariants as entries
use Rattle.ir_types.specs.Parts.{named_type}
use Rattle.ir_types.specs.Replaced.{definition}
use Rattle.ir_types.specs.Types.{first_part}
use Rattle.ir_types.specs.Names.{Symbols, is_numbered, small_number, named_target, target_of}
use Rattle.ir_resolve.specs.declared.address.Way.{Way}
use Rattle.ir_resolve.specs.Literals.{literal_from}
use Rattle.ir_resolve.specs.Addresses.{way_step, no_head_left}
use Rattle.ir_resolve.specs.Operands.{is_ty}

-- an integer type wider than the greatest stands at the place
abbrev pub IsTooWide : List TypeNode → ℕ → Type 0
IsTooWide [] left = ⊥
IsTooWide (nodes.Int digits at ∷ rest) left = (left ≡ at) × (MAX_WIDTH < decimal digits)
IsTooWide (nodes.Void at ∷ rest) left = ⊥
IsTooWide (nodes.Ptr at ∷ rest) left = ⊥
IsTooWide (nodes.Array count at ∷ rest) left = ⊥
IsTooWide (nodes.Struct at ∷ rest) left = ⊥
IsTooWide (nodes.Packed at ∷ rest) left = ⊥
IsTooWide (nodes.Close ∷ rest) left = ⊥
IsTooWide (nodes.Named name ∷ rest) left = ⊥

-- a name whose escapes don't read
abbrev pub IsMisspelt : Name → Type 0
IsMisspelt name = said name.spelling name.bytes ≡ None

-- a local whose escapes don't read, or whose number is 2^32 or above
abbrev pub IsMisspeltLocal : Name → Type 0
IsMisspeltLocal name = ((is_numbered name.spelling ≡ true) × (small_number (natural name.bytes) ≡ None)) ⊎ ((is_numbered name.spelling ≡ false) × IsMisspelt name)

-- a name of an array or a struct
abbrev pub IsNoScalar : Option Part → Type 0
IsNoScalar (Some (parts.Int w left)) = ⊥
IsNoScalar (Some parts.Ptr) = ⊥
IsNoScalar (Some (parts.Array count)) = Unit {0}
IsNoScalar (Some parts.Struct) = Unit {0}
IsNoScalar (Some parts.Packed) = Unit {0}
IsNoScalar (Some parts.Close) = Unit {0}
IsNoScalar (Some (parts.Named n left)) = Unit {0}
IsNoScalar None = Unit {0}

-- the named type of a name, which is known, and the type that stands for it
abbrev pub IsKnownType : Types → Name → Summary → ℕ → Type 0
IsKnownType types name summary root = (n : ℕ) × (named_type types.names name ≡ Ok n) × (slice_get types.entries n ≡ Some (entries.Known summary root))

abbrev pub NamesNoScalar : Types → Name → Type 0
NamesNoScalar types name = (summary : Summary) × (root : ℕ) × IsKnownType types name summary root × IsNoScalar (first_part (definition types.bodies root))

-- a name that no type has, or that of an `opaque` one
abbrev pub IsUnknownType : Types → List TypeNode → ℕ → Type 0
IsUnknownType types [] left = ⊥
IsUnknownType types (nodes.Named name ∷ rest) left = (left ≡ name.left) × ((summary : Summary) (root : ℕ) → IsKnownType types name summary root → ⊥)
IsUnknownType types (nodes.Int digits at ∷ rest) left = ⊥
IsUnknownType types (nodes.Void at ∷ rest) left = ⊥
IsUnknownType types (nodes.Ptr at ∷ rest) left = ⊥
IsUnknownType types (nodes.Array count at ∷ rest) left = ⊥
IsUnknownType types (nodes.Struct at ∷ rest) left = ⊥
IsUnknownType types (nodes.Packed at ∷ rest) left = ⊥
IsUnknownType types (nodes.Close ∷ rest) left = ⊥

-- what is no type of a value: an integer of no bits, an array or a struct, by its name or not
abbrev pub IsNoType : Types → List TypeNode → Type 0
IsNoType types [] = Unit {0}
IsNoType types (nodes.Int digits at ∷ rest) = decimal digits ≡ 0
IsNoType types (nodes.Void at ∷ rest) = ⊥
IsNoType types (nodes.Ptr at ∷ rest) = ⊥
IsNoType types (nodes.Array count at ∷ rest) = Unit {0}
IsNoType types (nodes.Struct at ∷ rest) = Unit {0}
IsNoType types (nodes.Packed at ∷ rest) = Unit {0}
IsNoType types (nodes.Close ∷ rest) = Unit {0}
IsNoType types (nodes.Named name ∷ rest) = IsMisspeltLocal name ⊎ NamesNoScalar types name

-- why a written type is no type of a value
abbrev pub TypeFault : Types → List TypeNode → Fault → Type 0
TypeFault types given faults.NoMemory = ⊥
TypeFault types given (faults.Syntax left) = IsNoType types given
TypeFault types given (faults.LeftOut left) = IsTooWide given left
TypeFault types given (faults.Name left) = IsUnknownType types given left
TypeFault types given (faults.Limit what count) = ⊥

-- a number that a type has no value for
abbrev pub MisfitsNumber : Ty → Number → Type 0
MisfitsNumber (values.Int w) number = literal_from w number.is_negative (natural number.digits) ≡ None
MisfitsNumber values.Void number = Unit {0}
MisfitsNumber values.Ptr number = Unit {0}

-- how far the types and indices of a constant place lead, or why they lead nowhere
abbrev pub way_of : Types → Address → Result ℕ Fault
way_of types given = walk (way_step types given.heads) (record { heads = length given.heads; offset = 0 }) given.tails >>= no_head_left given.left

-- a constant place whose types or indices lead nowhere
abbrev pub LeadsNowhere : Types → Value → Fault → Type 0
LeadsNowhere types (written.Address given) e = way_of types given ≡ Err e
LeadsNowhere types (written.Local name) e = ⊥
LeadsNowhere types (written.Number number) e = ⊥
LeadsNowhere types (written.True left) e = ⊥
LeadsNowhere types (written.False left) e = ⊥
LeadsNowhere types (written.Null left) e = ⊥
LeadsNowhere types (written.Poison left) e = ⊥

-- an operand that doesn't fit its type, whatever its names stand for
abbrev pub Misfits : Types → Ty → Value → Type 0
Misfits types ty (written.Local name) = IsMisspeltLocal name
Misfits types ty (written.Number number) = MisfitsNumber ty number
Misfits types ty (written.True left) = is_ty ty (values.Int 1) ≡ false
Misfits types ty (written.False left) = is_ty ty (values.Int 1) ≡ false
Misfits types ty (written.Null left) = is_ty ty values.Ptr ≡ false
Misfits types ty (written.Poison left) = is_ty ty values.Void ≡ true
Misfits types ty (written.Address given) = (is_ty ty values.Ptr ≡ false) ⊎ (IsMisspelt given.name ⊎ ((left : ℕ) × (way_of types given ≡ Err (faults.Syntax left))))

-- a name that no value has
abbrev pub IsNoValue : Table → Name → Type 0
IsNoValue table name = (n : ℕ) → target_of table name ≡ Ok (targets.Value n) → ⊥

-- a name that no block has
abbrev pub IsNoBlock : Table → Name → Type 0
IsNoBlock table name = (n : ℕ) → target_of table name ≡ Ok (targets.Block n) → ⊥

-- a name that a function has
abbrev pub NamesFunction : Symbols → Name → Type 0
NamesFunction symbols name = (n : ℕ) × (named_target symbols name ≡ Ok (targets.Function n))

-- a name that a global has
abbrev pub NamesGlobal : Symbols → Name → Type 0
NamesGlobal symbols name = (n : ℕ) × (named_target symbols name ≡ Ok (targets.Global n))

-- a name that neither a global nor a function has
abbrev pub IsNoSymbol : Symbols → Name → Type 0
IsNoSymbol symbols name = (NamesGlobal symbols name → ⊥) × (NamesFunction symbols name → ⊥)

-- an operand that is left out at the place: a function's name
abbrev pub IsFunctionOperand : Symbols → Value → ℕ → Type 0
IsFunctionOperand symbols (written.Address address) left = (left ≡ address.name.left) × NamesFunction symbols address.name
IsFunctionOperand symbols (written.Local name) left = ⊥
IsFunctionOperand symbols (written.Number number) left = ⊥
IsFunctionOperand symbols (written.True at) left = ⊥
IsFunctionOperand symbols (written.False at) left = ⊥
IsFunctionOperand symbols (written.Null at) left = ⊥
IsFunctionOperand symbols (written.Poison at) left = ⊥

-- an operand whose name at the place isn't defined
abbrev pub IsUndefined : Types → Symbols → Table → Value → ℕ → Type 0
IsUndefined types symbols table (written.Address address) left = (left ≡ address.name.left) × IsNoSymbol symbols address.name
IsUndefined types symbols table (written.Local name) left = (left ≡ name.left) × IsNoValue table name
IsUndefined types symbols table (written.Number number) left = ⊥
IsUndefined types symbols table (written.True at) left = ⊥
IsUndefined types symbols table (written.False at) left = ⊥
IsUndefined types symbols table (written.Null at) left = ⊥
IsUndefined types symbols table (written.Poison at) left = ⊥

-- why an operand of a type has no meaning
abbrev pub ValueFault : Types → Symbols → Table → Ty → Value → Fault → Type 0
ValueFault types symbols table ty value faults.NoMemory = LeadsNowhere types value faults.NoMemory
ValueFault types symbols table ty value (faults.Syntax left) = Misfits types ty value
ValueFault types symbols table ty value (faults.LeftOut left) = IsFunctionOperand symbols value left ⊎ LeadsNowhere types value (faults.LeftOut left)
ValueFault types symbols table ty value (faults.Name left) = IsUndefined types symbols table value left ⊎ LeadsNowhere types value (faults.Name left)
ValueFault types symbols table ty value (faults.Limit what count) = LeadsNowhere types value (faults.Limit what count)

-- why a block's name has no meaning
abbrev pub BlockFault : Table → Name → Fault → Type 0
BlockFault table name faults.NoMemory = ⊥
BlockFault table name (faults.Syntax left) = IsMisspeltLocal name
BlockFault table name (faults.LeftOut left) = ⊥
BlockFault table name (faults.Name left) = (left ≡ name.left) × IsNoBlock table name
BlockFault table name (faults.Limit what count) = ⊥
