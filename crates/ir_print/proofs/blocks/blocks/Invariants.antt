use Rattle.std.proofs.Common.{◌≡◌, ◌++◌, drop}
use Rattle.ir_print.specs.Modules.{blocks_text}
use Rattle.ir_print.proofs.blocks.blocks.Given as goal

abbrev pub invariant-loop-number : goal.invariant-loop-number
invariant-loop-number l = l.page ++ blocks_text l.program l.result_ty l.number l.value (drop l.number l.blocks) ≡ l.fn.page ++ blocks_text l.program l.result_ty 0 l.params l.blocks
