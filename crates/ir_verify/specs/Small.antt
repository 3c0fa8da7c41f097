-- What the earlier rows say of how large a function is.
use Rattle.std.specs.Prelude.{ℕ, ◌≤◌, ◌<◌, length}
use Rattle.ir_core.specs.declared.program.Function.{Function}
use Rattle.ir_core.specs.Units.{instructions, values}

-- a function that passes the limits
abbrev pub IsSmall : Function → Type 0
IsSmall function = (length function.params ≤ 8) × (length (instructions function.blocks) ≤ 16384) × (values function ≤ 16392)

-- a function whose blocks have an instruction each
abbrev pub HasFewBlocks : Function → Type 0
HasFewBlocks function = (0 < length function.blocks) × (length function.blocks ≤ 16384)
