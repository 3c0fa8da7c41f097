-- What holds of words that run as a function of target code does.
use Rattle.std.specs.Prelude.{◌≡◌, ℕ, ◌≤◌, List, length, Some}
use Rattle.ir_core.specs.declared.program.Function.{Function}
use Rattle.ir_core.specs.Program.{Program}
use Rattle.ir_meaning.specs.Step.{function_at}
use Rattle.ir_meaning.specs.Meaning.{meaning}
use Rattle.ir_meaning.specs.Typed.{IsTyped}
use Rattle.rv_play.specs.Good.{Good}
use Rattle.walks.specs.Walk.{play_of}
use Rattle.mir.specs.declared.code.MFunction.{MFunction}
use Rattle.mir_play.specs.Play.{walk}
use Rattle.mir_play.specs.Refines.{static_weight, IsCompiled}
use Rattle.good_code.specs.Runs.{RunsAs}
use Rattle.good_code.specs.Narrow.{HasNarrowTypes, IsNarrow}

-- words that run as a function of target code does, and are no more than its static weight, are a good version of the function that it is compiled from
abbrev pub CompiledIsGood : Type 0
CompiledIsGood =
    (program : Program) (symbol : ℕ) (words : List ℕ) (f : MFunction)
    → IsTyped program → IsNarrow (meaning program) symbol → IsCompiled program symbol f
    → RunsAs (meaning program) symbol words (play_of (walk f)) → length words ≤ static_weight f
    → Good (meaning program) symbol words

-- a function of a typed module is narrow by its text
abbrev pub NarrowTypesAreNarrow : Type 0
NarrowTypesAreNarrow =
    (program : Program) (symbol : ℕ) (function : Function) → IsTyped program → function_at program symbol ≡ Some function → HasNarrowTypes function
    → IsNarrow (meaning program) symbol

-- a function of a typed module with at most eight parameters is narrow
abbrev pub TypedIsNarrow : Type 0
TypedIsNarrow =
    (program : Program) (symbol : ℕ) (function : Function) → IsTyped program → function_at program symbol ≡ Some function → length function.params ≤ 8
    → IsNarrow (meaning program) symbol
