use Rattle.std.proofs.Common.{◌≡◌, ◌+◌, ◌++◌, drop, length}
use Rattle.ir_core.specs.Units.{results, instructions}
use Rattle.ir_eval.specs.Fits.{rows_from}
use Rattle.ir_eval.proofs.numbers.function_numbers.Given as goal

abbrev pub invariant-loop-block : goal.invariant-loop-block
invariant-loop-block l = record {
  rows : l.rows ++ rows_from l.next (drop l.block-index l.function.blocks) ≡ rows_from (length l.function.params) l.function.blocks;
  next : l.next + results (instructions (drop l.block-index l.function.blocks)) ≡ length l.function.params + results (instructions l.function.blocks);
}
