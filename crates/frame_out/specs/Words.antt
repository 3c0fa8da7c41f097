-- What words of a function of target code are good for.
use Rattle.std.specs.Prelude.{◌≡◌, ℕ, ◌≤◌, List, length, Some}
use Rattle.ir_core.specs.Program.{Program}
use Rattle.ir_core.specs.declared.program.Function.{Function}
use Rattle.ir_meaning.specs.Step.{function_at}
use Rattle.ir_meaning.specs.Meaning.{meaning}
use Rattle.ir_meaning.specs.Typed.{IsTyped}
use Rattle.rv_play.specs.Good.{Good}
use Rattle.mir.specs.declared.code.MFunction.{MFunction}
use Rattle.mir_play.specs.Refines.{IsCompiled}

-- where the function is compiled from one of a typed module with at most eight parameters, the words are a good version of that
abbrev pub AreGood : MFunction → List ℕ → Type 0
AreGood f words =
    (program : Program) (function : Function) → IsTyped program → function_at program f.symbol ≡ Some function → length function.params ≤ 8 → IsCompiled program f.symbol f
    → Good (meaning program) f.symbol words
