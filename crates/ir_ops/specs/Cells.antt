-- Cells that hold a byte or poison.
use Rattle.std.specs.Prelude.{ℕ, nat_lt, List, map, Some, None, if◌then◌else◌}
use Rattle.ir_meaning.specs.Value.{Byte}
use Rattle.ir_meaning.specs.Memory.{Memory}

-- a number below 256 is that byte; any other is poison
abbrev pub byte_of : ℕ → Byte
byte_of cell = if nat_lt cell 256 then Some cell else None

abbrev pub bytes_of : List ℕ → Memory
bytes_of cells = map byte_of cells
