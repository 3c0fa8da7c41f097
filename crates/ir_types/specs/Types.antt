-- The types that the text of a module says.
use Rattle.std.specs.Prelude.{ℕ, nat_lt, List, [], ◌∷◌, Option, Some, None, Result, Ok, Err, slice_get, if◌then◌else◌}
use Rattle.ir_text.specs.declared.name.Name.{Name}
use Rattle.ir_grammar.specs.declared.type_tree.TypeNode.{TypeNode}
use Rattle.ir_grammar.specs.declared.type_tree.TypeNode.TheVariants as nodes
use Rattle.ir_core.specs.declared.types.Ty.{Ty}
use Rattle.ir_core.specs.declared.types.Ty.TheVariants as values
use Rattle.ir_core.specs.declared.types.MemTy.{MemTy}
use Rattle.ir_core.specs.declared.program.What.TheVariants as what
use Rattle.ir_flow.specs.Limits.{measured, capped_passing}
use Rattle.ir_types.specs.declared.fault.Fault.{Fault}
use Rattle.ir_types.specs.declared.fault.Fault.TheVariants as faults
use Rattle.ir_types.specs.Walk.{◌>>=◌}
use Rattle.ir_types.specs.Numbers.{natural}
use Rattle.ir_types.specs.declared.parts.Part.{Part}
use Rattle.ir_types.specs.declared.parts.Part.TheVariants as parts
use Rattle.ir_types.specs.declared.table.Types.{Types}
use Rattle.ir_types.specs.Parts.{width_of, named_type, parts_of}
use Rattle.ir_types.specs.Replaced.{definition}
use Rattle.ir_types.specs.Summaries.{known_of, summary_of}
use Rattle.ir_types.specs.Build.{built}

-- ---- types of values

abbrev pub first_part : Option (List Part) → Option Part
first_part None = None
first_part (Some []) = None
first_part (Some (part ∷ more)) = Some part

-- an integer or a pointer
abbrev pub scalar_at : ℕ → Option Part → Result Ty Fault
scalar_at left (Some (parts.Int w at)) = Ok (values.Int w)
scalar_at left (Some parts.Ptr) = Ok values.Ptr
scalar_at left (Some (parts.Array count)) = Err (faults.Syntax left)
scalar_at left (Some parts.Struct) = Err (faults.Syntax left)
scalar_at left (Some parts.Packed) = Err (faults.Syntax left)
scalar_at left (Some parts.Close) = Err (faults.Syntax left)
scalar_at left (Some (parts.Named n at)) = Err (faults.Syntax left)
scalar_at left None = Err (faults.Syntax left)

-- a named type as a value's
abbrev pub named_scalar : Types → ℕ → ℕ → Result Ty Fault
named_scalar types left n = known_of left (slice_get types.entries n) >>= λ found. scalar_at left (first_part (definition types.bodies found.1))

abbrev pub int_type : ℕ → Option ℕ → Result Ty Fault
int_type left width = width_of left width >>= λ w. Ok (values.Int w)

abbrev pub named_value : Types → Name → Result Ty Fault
named_value types name = named_type types.names name >>= named_scalar types name.left

unfoldable pub value_part : Types → TypeNode → Result Ty Fault
value_part types (nodes.Void left) = Ok values.Void
value_part types (nodes.Int digits left) = int_type left (natural digits)
value_part types (nodes.Ptr left) = Ok values.Ptr
value_part types (nodes.Named name) = named_value types name
value_part types (nodes.Array count left) = Err (faults.Syntax left)
value_part types (nodes.Struct left) = Err (faults.Syntax left)
value_part types (nodes.Packed left) = Err (faults.Syntax left)
value_part types nodes.Close = Err (faults.Syntax 0)

-- the type of a value: its one part, or what the first of more parts is
unfoldable pub type_of : Types → List TypeNode → Result Ty Fault
type_of types [] = Err (faults.Syntax 0)
type_of types (node ∷ more) = value_part types node

-- ---- types of memory

-- at most 4,096 types in one
abbrev pub few_nodes : ℕ → Result (Unit {0}) Fault
few_nodes count = if nat_lt 4096 count then Err (faults.Limit what.Nodes count) else Ok tt

-- each integer can stand in memory
abbrev pub all_stand : Option ℕ → Result (Unit {0}) Fault
all_stand None = Ok tt
all_stand (Some left) = Err (faults.LeftOut left)

-- no type, nor one inside it, takes more than 2^32 bytes; the size of the outermost that does is shown
abbrev pub few_bytes : Option ℕ → Result (Unit {0}) Fault
few_bytes None = Ok tt
few_bytes (Some size) = Err (faults.Limit what.Size size)

-- the type of memory that a written type says, named types replaced by their definitions
unfoldable pub memory : Types → List TypeNode → Result MemTy Fault
memory types given = do
  all ← parts_of types.names given
  summary ← summary_of types.entries all
  _ ← few_nodes summary.nodes
  _ ← all_stand summary.odd
  ty ← built summary.rank types.bodies types.entries all
  _ ← few_bytes (capped_passing (measured ty).passing)
  Ok ty
