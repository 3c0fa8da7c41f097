-- What words of a function of generic machine code are good for.
use Rattle.std.specs.Prelude.{◌≡◌, ℕ, ◌+◌, ◌*◌, ◌<◌, ◌≤◌, List, length, Some}
use Rattle.ir_core.specs.Program.{Program}
use Rattle.ir_core.specs.declared.program.Function.{Function}
use Rattle.ir_meaning.specs.Step.{function_at}
use Rattle.ir_meaning.specs.Meaning.{meaning}
use Rattle.ir_meaning.specs.Typed.{IsTyped}
use Rattle.rv_play.specs.Good.{Good}
use Rattle.rv_play.specs.declared.version.MakeRefusal.{MakeRefusal}
use Rattle.rv_play.specs.declared.version.MakeRefusal.TheVariants.{Crowded, NoMemory}
use Rattle.gmir.specs.declared.code.GFunction.{GFunction}
use Rattle.gmir.specs.Refines.{RefinesFunction}

-- where it refines a function of a typed module with at most eight parameters, the words are a good version of that
abbrev pub AreGoodFor : GFunction → List ℕ → Type 0
AreGoodFor g words =
    (program : Program) (function : Function) → IsTyped program → function_at program g.symbol ≡ Some function → length function.params ≤ 8
    → RefinesFunction program g.symbol function g → Good (meaning program) g.symbol words

-- registers are refused as crowded only where more of them are live at the shown point than s0 to s10 and the slots of a frame of so many values hold
abbrev pub IsCrowded : ℕ → MakeRefusal → Type 0
IsCrowded values (Crowded point overlap) = 15 + 4 * values < overlap
IsCrowded values NoMemory = Unit {0}
