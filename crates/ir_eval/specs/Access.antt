-- Instructions that read or change data memory, apart from their operands.
use Rattle.std.specs.Prelude.{ℕ, ◌+◌, nat_le, Bool, true, false, ◌++◌, length, replicate, Option, Some, None, if◌then◌else◌}
use Rattle.ir_core.specs.declared.types.Ty.{Ty}
use Rattle.ir_meaning.specs.Value.{Value, Computed, Gives, NoMeaning}
use Rattle.ir_meaning.specs.Memory.{Memory, is_inside, bytes_at, with_bytes, from_bytes, to_bytes, byte_count}

-- what a load gives: undefined through poison, or where a byte isn't inside
abbrev pub load_of : Memory → Value → Ty → Computed
load_of memory None ty = NoMeaning
load_of memory (Some address) ty =
    if is_inside memory address (byte_count ty) then Gives (from_bytes (bytes_at memory address (byte_count ty))) else NoMeaning

-- the memory behind a store, or none where it is undefined
abbrev pub store_of : Memory → Value → Ty → Value → Option Memory
store_of memory None ty value = None
store_of memory (Some address) ty value =
    if is_inside memory address (byte_count ty) then Some (with_bytes memory address (to_bytes (byte_count ty) value)) else None

-- the memory with fresh bytes behind the data top, or none where they pass the end of data memory
abbrev pub fresh_of : ℕ → Memory → ℕ → Option Memory
fresh_of room memory count = if nat_le (length memory + count) room then Some (memory ++ replicate count None) else None

-- a memory that was changed, or none
abbrev pub changed : Bool → Memory → Option Memory
changed true memory = Some memory
changed false memory = None
