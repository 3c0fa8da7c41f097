-- What holds of all functions of target code.
use Rattle.std.specs.Prelude.{ℕ}
use Rattle.ir_core.specs.Program.{Program}
use Rattle.mir.specs.declared.code.MFunction.{MFunction}
use Rattle.walks.specs.Walk.{play_of}
use Rattle.walks.specs.Face.{HasOneEnd}
use Rattle.mir_play.specs.Play.{walk}
use Rattle.mir_play.specs.Refines.{Refines, IsCompiled}

-- a function refines itself: where more is known of what it is given, no less is known of what it gives
abbrev pub FunctionsRefineThemselves : Type 0
FunctionsRefineThemselves = (f : MFunction) → Refines f f

-- refinement composes
abbrev pub RefinementComposes : Type 0
RefinementComposes = (f g h : MFunction) → Refines f g → Refines g h → Refines f h

-- what refines a compiled function is compiled
abbrev pub CompiledMayBeRefined : Type 0
CompiledMayBeRefined = (program : Program) (symbol : ℕ) (f g : MFunction) → IsCompiled program symbol f → Refines f g → IsCompiled program symbol g

-- the play of a function has one end
abbrev pub PlaysHaveOneEnd : Type 0
PlaysHaveOneEnd = (f : MFunction) → HasOneEnd (play_of (walk f))
