-- The words of a function's quick code are one list.
use Rattle.std.proofs.Common.{◌≡◌, ℕ, List, Option, Some, None}
use Rattle.ir_core.specs.declared.program.Function.{Function}
use Rattle.ir_core.specs.declared.program.Global.{Global}
use Rattle.ir_meaning.specs.Step.{function_at}
use Rattle.rv_asm.proofs.Least.{one-assembly}
use Rattle.quick_code.specs.Assembly.{code_of}
use Rattle.fast_isel.specs.Written.{AreWordsOf}
use Rattle.fast_isel.specs.BlockLaws.{QuickWordsAreOne}

same-words : (globals : List Global) (room symbol : ℕ) (v w : List ℕ) (f : Option Function) → AreWordsOf globals room symbol v f → AreWordsOf globals room symbol w f → v ≡ w
same-words globals room symbol v w None h k = absurd h
same-words globals room symbol v w (Some function) h k = one-assembly (code_of globals symbol function room) v w h k

pub words-are-one : QuickWordsAreOne
words-are-one program symbol v w h k = same-words program.module_.globals program.room symbol v w (function_at program symbol) h k
