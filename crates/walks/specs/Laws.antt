-- What holds of the walks of functions.
use Rattle.std.specs.Prelude.{ℕ}
use Rattle.ir_core.specs.Program.{Program}
use Rattle.ir_meaning.specs.Meaning.{meaning}
use Rattle.ir_meaning.specs.Typed.{IsTyped}
use Rattle.walks.specs.Walk.{play_of}
use Rattle.walks.specs.Functions.{IsPlayOf, function_walk}
use Rattle.walks.specs.Face.{HasOneEnd}

-- the walk of a function of a well typed module is its play
abbrev pub WalksArePlays : Type 0
WalksArePlays = (program : Program) (symbol : ℕ) → IsTyped program → IsPlayOf (meaning program) symbol (play_of (function_walk program symbol))

-- the play of a function of a module has one end
abbrev pub FunctionsHaveOneEnd : Type 0
FunctionsHaveOneEnd = (program : Program) (symbol : ℕ) → HasOneEnd (play_of (function_walk program symbol))
