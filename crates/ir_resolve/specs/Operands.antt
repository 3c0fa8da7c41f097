-- What types of values, numbers and operands say.
use Rattle.std.specs.Prelude.{ℕ, Bool, true, false, not, nat_eq, nat_le, List, [], ◌∷◌, Option, Some, None, Result, Ok, Err, if◌then◌else◌}
use Rattle.ir_text.specs.declared.name.Name.{Name}
use Rattle.ir_text.specs.declared.name.Number.{Number}
use Rattle.ir_grammar.specs.declared.type_tree.TypeNode.{TypeNode}
use Rattle.ir_grammar.specs.declared.type_tree.TypeNode.TheVariants as nodes
use Rattle.ir_value_trees.specs.declared.value_tree.Value.{Value}
use Rattle.ir_value_trees.specs.declared.value_tree.Value.TheVariants as written
use Rattle.ir_value_trees.specs.declared.value_tree.Address.{Address}
use Rattle.ir_core.specs.declared.types.TheConstants.{MAX_WIDTH}
use Rattle.ir_core.specs.declared.types.Ty.{Ty}
use Rattle.ir_core.specs.declared.types.Ty.TheVariants as values
use Rattle.ir_core.specs.declared.code.Operand.{Operand}
use Rattle.ir_core.specs.declared.code.Operand.TheVariants as operands
use Rattle.ir_types.specs.declared.table.Types.{Types}
use Rattle.ir_types.specs.Types.{type_of}
use Rattle.ir_types.specs.declared.fault.Fault.{Fault}
use Rattle.ir_types.specs.declared.fault.Fault.TheVariants as faults
use Rattle.ir_types.specs.declared.tables.Target.{Target}
use Rattle.ir_types.specs.declared.tables.Target.TheVariants as targets
use Rattle.ir_types.specs.Walk.{◌>>=◌}
use Rattle.ir_resolve.specs.Literals.{literal_of}
use Rattle.ir_resolve.specs.Addresses.{address}
use Rattle.ir_types.specs.declared.names.Table.{Table}
use Rattle.ir_types.specs.Names.{Symbols, target_of}

abbrev pub is_ty : Ty → Ty → Bool
is_ty values.Void values.Void = true
is_ty values.Ptr values.Ptr = true
is_ty (values.Int w) (values.Int v) = nat_eq w v
is_ty values.Void values.Ptr = false
is_ty values.Void (values.Int v) = false
is_ty values.Ptr values.Void = false
is_ty values.Ptr (values.Int v) = false
is_ty (values.Int w) values.Void = false
is_ty (values.Int w) values.Ptr = false

abbrev pub number_operand : Ty → Number → Result Operand Fault
number_operand (values.Int w) number = literal_of number w >>= λ n. Ok (operands.Num n)
number_operand values.Void number = Err (faults.Syntax number.left)
number_operand values.Ptr number = Err (faults.Syntax number.left)

-- a value where its type is this one
abbrev pub where_ty : Bool → ℕ → Operand → Result Operand Fault
where_ty true left operand = Ok operand
where_ty false left operand = Err (faults.Syntax left)

abbrev pub value_number : ℕ → Target → Result ℕ Fault
value_number left (targets.Value n) = Ok n
value_number left (targets.Block n) = Err (faults.Name left)
value_number left (targets.Global n) = Err (faults.Name left)
value_number left (targets.Function n) = Err (faults.Name left)
value_number left (targets.Type n) = Err (faults.Name left)

abbrev pub block_number : ℕ → Target → Result ℕ Fault
block_number left (targets.Block n) = Ok n
block_number left (targets.Value n) = Err (faults.Name left)
block_number left (targets.Global n) = Err (faults.Name left)
block_number left (targets.Function n) = Err (faults.Name left)
block_number left (targets.Type n) = Err (faults.Name left)

-- a local value
unfoldable pub local_operand : Table → Name → Result Operand Fault
local_operand table name = do
  target ← target_of table name
  n ← value_number name.left target
  Ok (operands.Value n)

-- a block
unfoldable pub block_of : Table → Name → Result ℕ Fault
block_of table name = do
  target ← target_of table name
  block_number name.left target

-- a constant place: a global, and how far from its first byte
abbrev pub place_operand : Types → Symbols → Address → Result Operand Fault
place_operand types symbols given = address types symbols given >>= λ place. Ok (operands.Place place.0 place.1)

abbrev pub address_operand : Types → Symbols → Ty → Address → Result Operand Fault
address_operand types symbols values.Ptr given = place_operand types symbols given
address_operand types symbols values.Void given = Err (faults.Syntax given.left)
address_operand types symbols (values.Int w) given = Err (faults.Syntax given.left)

-- an operand of a type
unfoldable pub operand : Types → Symbols → Table → Ty → Value → Result Operand Fault
operand types symbols table ty (written.Local name) = local_operand table name
operand types symbols table ty (written.Number number) = number_operand ty number
operand types symbols table ty (written.True left) = where_ty (is_ty ty (values.Int 1)) left (operands.Num 1)
operand types symbols table ty (written.False left) = where_ty (is_ty ty (values.Int 1)) left (operands.Num 0)
operand types symbols table ty (written.Null left) = where_ty (is_ty ty values.Ptr) left operands.Null
operand types symbols table ty (written.Poison left) = where_ty (not (is_ty ty values.Void)) left operands.Poison
operand types symbols table ty (written.Address given) = address_operand types symbols ty given

-- `T V`
unfoldable pub typed : Types → Symbols → Table → List TypeNode → Value → Result (Ty × Operand) Fault
typed types symbols table nodes given = do
  ty ← type_of types nodes
  value ← operand types symbols table ty given
  Ok (ty, value)

-- where something of a type begins, by how much is left
abbrev pub place_of_value : Value → ℕ
place_of_value (written.Local name) = name.left
place_of_value (written.Number number) = number.left
place_of_value (written.True left) = left
place_of_value (written.False left) = left
place_of_value (written.Null left) = left
place_of_value (written.Poison left) = left
place_of_value (written.Address address) = address.left

-- where a type begins, by how much is left
abbrev pub place_of_node : TypeNode → ℕ
place_of_node (nodes.Void left) = left
place_of_node (nodes.Int digits left) = left
place_of_node (nodes.Ptr left) = left
place_of_node (nodes.Array count left) = left
place_of_node (nodes.Struct left) = left
place_of_node (nodes.Packed left) = left
place_of_node nodes.Close = 0
place_of_node (nodes.Named name) = name.left

abbrev pub place_of_type : List TypeNode → ℕ
place_of_type [] = 0
place_of_type (node ∷ rest) = place_of_node node

-- `T V` where T is known
unfoldable pub typed_as : Types → Symbols → Table → Ty → List TypeNode → Value → Result Operand Fault
typed_as types symbols table ty nodes given = do
  value ← typed types symbols table nodes given
  where_ty (is_ty value.0 ty) (place_of_type nodes) value.1
