-- What holds of all functions of generic machine code.
use Rattle.std.specs.Prelude.{ℕ}
use Rattle.ir_core.specs.Program.{Program}
use Rattle.ir_core.specs.declared.program.Function.{Function}
use Rattle.gmir.specs.declared.code.GFunction.{GFunction}
use Rattle.walks.specs.Walk.{play_of}
use Rattle.walks.specs.Face.{HasOneEnd}
use Rattle.gmir.specs.Play.{walk}
use Rattle.gmir.specs.Refines.{Refines, RefinesFunction}

-- a function refines itself: where more is known of what it is given, no less is known of what it gives
abbrev pub FunctionsRefineThemselves : Type 0
FunctionsRefineThemselves = (f : GFunction) → Refines f f

-- refinement composes
abbrev pub RefinementComposes : Type 0
RefinementComposes = (f g h : GFunction) → Refines f g → Refines g h → Refines f h

-- what refines a translation refines the function that was translated
abbrev pub TranslationsMayBeRefined : Type 0
TranslationsMayBeRefined = (program : Program) (symbol : ℕ) (function : Function) (f g : GFunction)
    → RefinesFunction program symbol function f → Refines f g → RefinesFunction program symbol function g

-- the play of a function has one end
abbrev pub PlaysHaveOneEnd : Type 0
PlaysHaveOneEnd = (f : GFunction) → HasOneEnd (play_of (walk f))
