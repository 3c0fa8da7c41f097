-- The parts of a type: widths and counts as numbers, names as the types that they stand for.
use Rattle.std.specs.Prelude.{ℕ, ◌^◌, nat_eq, nat_le, nat_lt, List, [], ◌∷◌, ◌++◌, Option, Some, None, Result, Ok, Err, if◌then◌else◌}
use Rattle.ir_text.specs.declared.name.Name.{Name}
use Rattle.ir_text.specs.declared.name.Number.{Number}
use Rattle.ir_grammar.specs.declared.type_tree.TypeNode.{TypeNode}
use Rattle.ir_grammar.specs.declared.type_tree.TypeNode.TheVariants as nodes
use Rattle.ir_core.specs.declared.types.TheConstants.{MAX_WIDTH}
use Rattle.ir_types.specs.declared.fault.Fault.{Fault}
use Rattle.ir_types.specs.declared.fault.Fault.TheVariants as faults
use Rattle.ir_types.specs.declared.tables.Target.{Target}
use Rattle.ir_types.specs.declared.tables.Target.TheVariants as targets
use Rattle.ir_types.specs.Walk.{◌>>=◌, or_fault, walk}
use Rattle.ir_types.specs.Numbers.{natural}
use Rattle.ir_types.specs.declared.names.Table.{Table}
use Rattle.ir_types.specs.declared.parts.Part.{Part}
use Rattle.ir_types.specs.declared.parts.Part.TheVariants as parts
use Rattle.ir_types.specs.declared.parts.PartList.{PartList}
use Rattle.ir_types.specs.Names.{target_of}

-- the width of an integer: 0 is none, and one that is too wide is left out
abbrev pub width_of : ℕ → Option ℕ → Result ℕ Fault
width_of left None = Err (faults.LeftOut left)
width_of left (Some w) = if nat_eq w 0 then Err (faults.Syntax left) else if nat_le w MAX_WIDTH then Ok w else Err (faults.LeftOut left)

abbrev pub small_count : Option ℕ → Option ℕ
small_count None = None
small_count (Some n) = if nat_lt n (2 ^ 64) then Some n else None

-- the count of an array: a number without a sign, below 2^64
unfoldable pub count_of : Number → Result ℕ Fault
count_of number = if number.is_negative then Err (faults.Syntax number.left) else or_fault (faults.Syntax number.left) (small_count (natural number.digits))

abbrev pub type_number : ℕ → Target → Result ℕ Fault
type_number left (targets.Type n) = Ok n
type_number left (targets.Value n) = Err (faults.Name left)
type_number left (targets.Block n) = Err (faults.Name left)
type_number left (targets.Global n) = Err (faults.Name left)
type_number left (targets.Function n) = Err (faults.Name left)

-- the named type that a name stands for, by its number in order of text
unfoldable pub named_type : Table → Name → Result ℕ Fault
named_type names name = target_of names name >>= type_number name.left

abbrev pub int_part : ℕ → Option ℕ → Result Part Fault
int_part left width = width_of left width >>= λ w. Ok (parts.Int w left)

abbrev pub array_part : Number → Result Part Fault
array_part count = count_of count >>= λ n. Ok (parts.Array n)

abbrev pub named_part : Table → Name → Result Part Fault
named_part names name = named_type names name >>= λ n. Ok (parts.Named n name.left)

-- a part of a type; `void` is the type of a result alone
unfoldable pub part_of : Table → TypeNode → Result Part Fault
part_of names (nodes.Void left) = Err (faults.Syntax left)
part_of names (nodes.Int digits left) = int_part left (natural digits)
part_of names (nodes.Ptr left) = Ok parts.Ptr
part_of names (nodes.Array count left) = array_part count
part_of names (nodes.Struct left) = Ok parts.Struct
part_of names (nodes.Packed left) = Ok parts.Packed
part_of names nodes.Close = Ok parts.Close
part_of names (nodes.Named name) = named_part names name

abbrev pub part_step : Table → PartList → TypeNode → Result PartList Fault
part_step names before node = part_of names node >>= λ part. Ok (record { all = before.all ++ part ∷ [] })

-- the parts of a type, in order of text
unfoldable pub parts_of : Table → List TypeNode → Result (List Part) Fault
parts_of names given = walk (part_step names) (record { all = [] }) given >>= λ list. Ok list.all
