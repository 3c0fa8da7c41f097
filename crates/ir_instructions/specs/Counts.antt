-- How many items are made, and what `align` says.
use Rattle.std.specs.Prelude.{◌≡◌, ℕ, ◌^◌, Bool, true, false, nat_le, nat_lt, List, Option, Some, None, Result, Ok, Err, if◌then◌else◌}
use Rattle.ir_text.specs.declared.name.Number.{Number}
use Rattle.ir_grammar.specs.declared.type_tree.Align.{Align}
use Rattle.ir_value_trees.specs.declared.value_tree.Value.{Value}
use Rattle.ir_value_trees.specs.declared.value_tree.Value.TheVariants as written
use Rattle.ir_value_trees.specs.declared.value_tree.Typed.{Typed}
use Rattle.ir_core.specs.declared.types.Ty.{Ty}
use Rattle.ir_core.specs.declared.types.Ty.TheVariants as values
use Rattle.ir_types.specs.declared.table.Types.{Types}
use Rattle.ir_types.specs.Types.{type_of}
use Rattle.ir_types.specs.declared.fault.Fault.{Fault}
use Rattle.ir_types.specs.declared.fault.Fault.TheVariants as faults
use Rattle.ir_types.specs.Walk.{◌>>=◌, walk}
use Rattle.ir_types.specs.Numbers.{natural}
use Rattle.ir_resolve.specs.Literals.{literal_of}
use Rattle.ir_resolve.specs.Operands.{place_of_value}
use Rattle.ir_instructions.specs.declared.counts.Looked.{Looked}

abbrev pub small_number : Option ℕ → Bool
small_number None = false
small_number (Some n) = nat_le n 16

-- what `align` says: at most 16, or it is left out
abbrev pub small_align : Align → Result (Unit {0}) Fault
small_align given =
    if given.number.is_negative then Err (faults.Syntax given.number.left)
    else if small_number (natural given.number.digits) then Ok tt
    else Err (faults.LeftOut given.left)

abbrev pub align_step : Looked → Align → Result Looked Fault
align_step before given = small_align given >>= λ _. Ok before

unfoldable pub small_aligns : List Align → Result (Unit {0}) Fault
small_aligns given = walk align_step (record { aligns = 0 }) given >>= λ _. Ok tt

-- a number below 2^64
abbrev pub below_size : ℕ → ℕ → Result ℕ Fault
below_size left n = if nat_lt n (2 ^ 64) then Ok n else Err (faults.Syntax left)

abbrev pub number_count : Ty → Number → Result ℕ Fault
number_count (values.Int w) number = literal_of number w >>= below_size number.left
number_count values.Void number = Err (faults.Syntax number.left)
number_count values.Ptr number = Err (faults.Syntax number.left)

-- a count is a number; a value that isn't constant is left out, at the place of the instruction's word
abbrev pub value_count : ℕ → Ty → Value → Result ℕ Fault
value_count place ty (written.Number number) = number_count ty number
value_count place ty (written.Local name) = Err (faults.LeftOut place)
value_count place ty (written.True left) = Err (faults.Syntax left)
value_count place ty (written.False left) = Err (faults.Syntax left)
value_count place ty (written.Null left) = Err (faults.Syntax left)
value_count place ty (written.Poison left) = Err (faults.Syntax left)
value_count place ty (written.Address address) = Err (faults.Syntax address.left)

-- how many items are made: one, or so many
abbrev pub item_count : Types → ℕ → Option Typed → Result ℕ Fault
item_count types place None = Ok 1
item_count types place (Some given) = type_of types given.ty >>= λ ty. value_count place ty given.value
