-- What holds of the quick code.
use Rattle.std.specs.Prelude.{◌≡◌, ℕ, ◌+◌, ◌*◌, ◌^◌, ◌≤◌, List, length, Some}
use Rattle.ir_core.specs.declared.program.Function.{Function}
use Rattle.ir_meaning.specs.Step.{Program, function_at}
use Rattle.ir_meaning.specs.Meaning.{meaning}
use Rattle.ir_meaning.specs.Typed.{IsTyped}
use Rattle.rv_play.specs.Good.{Good}
use Rattle.ir_core.specs.Units.{frame}
use Rattle.quick_code.specs.Blocks.{function_items}
use Rattle.code_pieces.specs.Labels.{StandEverywhere}
use Rattle.quick_code.specs.Forms.{IsFlow}
use Rattle.rv_asm.specs.Layout.{IsAssembly}
use Rattle.rv_asm.specs.Runs.{RunsAs}
use Rattle.quick_code.specs.Assembly.{code_of}

-- in a well typed module words that stand as the code of a function of several blocks are good, where they are few enough
abbrev pub FlowCodeIsGood : Type 0
FlowCodeIsGood =
    (program : Program) (symbol : ℕ) (function : Function) (words : List ℕ) → IsTyped program → IsFlow function → function_at program symbol ≡ Some function
    → StandEverywhere (meaning program) words (function_items program.module_.globals symbol function program.room (frame function))
    → length words ≤ 256 * ((meaning program).units symbol + (meaning program).phi_operands symbol)
    → Good (meaning program) symbol words

-- in a well typed module the words of quick code are good, which the assembler makes
abbrev pub QuickCodeIsGood : Type 0
QuickCodeIsGood =
    (program : Program) (symbol : ℕ) (function : Function) (words : List ℕ) → IsTyped program → IsFlow function → function_at program symbol ≡ Some function
    → IsAssembly (code_of program.module_.globals symbol function program.room) words
    → (length words ≤ 2 ^ 22 → RunsAs (code_of program.module_.globals symbol function program.room) words)
    → Good (meaning program) symbol words
