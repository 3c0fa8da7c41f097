-- What the rows are given, and how their answers are read.
use Rattle.std.specs.Prelude.{ℕ, ◌<◌, ◌≤◌, ◌^◌, Option, Some, None}
use Rattle.ir_core.specs.declared.types.TheConstants.{MAX_WIDTH}
use Rattle.ir_meaning.specs.Value.{Value, Computed as Meant, Gives, NoMeaning}
use Rattle.ir_ops.specs.declared.value.Computed.{Computed}
use Rattle.ir_ops.specs.declared.value.Computed.TheVariants.{Gives as Given, NoMeaning as Undefined}

-- a width that an integer may have
abbrev pub IsWidth : ℕ → Type 0
IsWidth w = (1 ≤ w) × (w ≤ MAX_WIDTH)

-- an answer, in the words of the meaning
abbrev pub meant : Computed → Meant
meant (Given value) = Gives value
meant Undefined = NoMeaning

-- one of two values is poison
abbrev pub IsPoison : Value → Value → Type 0
IsPoison None b = Unit {0}
IsPoison (Some a) None = Unit {0}
IsPoison (Some a) (Some b) = ⊥
