-- Blocks with their heads: parameters and phis, and the code behind them.
use Rattle.std.specs.Prelude.{ℕ, ◌+◌, ◌==◌, List, [], ◌∷◌, ◌++◌, if◌then◌else◌}
use Rattle.ir_core.specs.declared.code.Block.{Block}
use Rattle.ir_core.specs.declared.program.Function.{Function}
use Rattle.ir_core.specs.declared.program.Global.{Global}
use Rattle.ir_core.specs.Units.{results}
use Rattle.ir_meaning.specs.Step.{phis}
use Rattle.gmir.specs.declared.code.GInst.{GInst}
use Rattle.generic_code.specs.Edges.{Edge}
use Rattle.generic_code.specs.Whole.{params_code, phis_code, edges_to}

-- blocks from a number on, whose first value has a number, with the code of each behind its phis
abbrev pub joined : List Global → Function → List Edge → ℕ → ℕ → List Block → List (List GInst) → List (List GInst)
joined globals function edges number value [] codes = []
joined globals function edges number value (block ∷ blocks) [] = []
joined globals function edges number value (block ∷ blocks) (code ∷ codes) =
    ((if number == 0 then params_code 0 function.params else [])
    ++ (phis_code globals function value 0 (edges_to globals function number edges) (phis block.insts) ++ code))
    ∷ joined globals function edges (number + 1) (value + results block.insts) blocks codes
