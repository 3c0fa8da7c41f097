-- Memory that stands at an address, as bytes by address, and what a load or store finds there.
use Rattle.std.specs.Prelude.{ℕ, ◌+◌, ◌-◌, ◌*◌, ◌/◌, ◌%◌, ◌==◌, ◌&&◌, Bool, if◌then◌else◌, nat_lt, nat_le, List, slice_index, Option, Some, None}
use Rattle.rv_core.specs.declared.instr.LoadOp.{LoadOp}
use Rattle.rv_core.specs.declared.instr.LoadOp.TheVariants.{Ld}
use Rattle.rv_play.specs.Machine.{data_base, control_base, cell_base}
use Rattle.hart.specs.declared.map.Found.{Found}
use Rattle.hart.specs.declared.map.Found.TheVariants.{Bytes, Control, Nowhere}

-- the bytes by address where a list of them stands at a base; 0 elsewhere
abbrev pub bytes_from : ℕ → List ℕ → ℕ → ℕ
bytes_from base items a = if nat_le base a then slice_index items (a - base) else 0

-- so many bytes from an address on are wholly in a region of a length
abbrev pub is_within : ℕ → ℕ → ℕ → ℕ → Bool
is_within base length a n = (nat_le base a) && (nat_le (a + n) (base + length))

-- where so many bytes from an address on stand, in a data memory and a control stack of these lengths
abbrev pub found_at : ℕ → ℕ → ℕ → ℕ → Found
found_at bytes control a n =
    if is_within data_base bytes a n then Bytes (a - data_base)
    else if is_within control_base control a n then Control (a - control_base)
    else Nowhere

-- the symbol whose cell a load of an address reads: aligned loads of eight bytes alone do
abbrev pub symbol_of_cell : LoadOp → ℕ → ℕ → Option ℕ
symbol_of_cell Ld functions a = if (nat_le cell_base a) && ((nat_lt a (cell_base + 8 * functions)) && (a % 8 == 0)) then Some ((a - cell_base) / 8) else None
symbol_of_cell _ functions a = None
