-- The quick code of a function as the assembler holds it.
use Rattle.std.specs.Prelude.{ℕ, List}
use Rattle.ir_core.specs.declared.program.Function.{Function}
use Rattle.ir_core.specs.declared.program.Global.{Global}
use Rattle.ir_core.specs.Units.{frame}
use Rattle.rv_asm.specs.Code.{Code}
use Rattle.quick_code.specs.Blocks.{label_count, function_items}
use Rattle.code_pieces.specs.Assembly.{put, labelled}

-- a function's quick code: a label for each block and each edge that has one
abbrev pub code_of : List Global → ℕ → Function → ℕ → Code
code_of globals symbol function room = put (labelled (label_count function)) (function_items globals symbol function room (frame function))
