use Rattle.std.proofs.Common.{◌≡◌, ◌+◌, ◌++◌, drop}
use Rattle.ir_core.specs.Units.{results}
use Rattle.ir_eval.specs.Fits.{numbers_from}
use Rattle.ir_eval.proofs.numbers.block_numbers.Given as goal

abbrev pub invariant-loop-inst : goal.invariant-loop-inst
invariant-loop-inst l = record {
  row : l.row ++ numbers_from l.next (drop l.inst-index l.insts) ≡ numbers_from l.first l.insts;
  next : l.next + results (drop l.inst-index l.insts) ≡ l.first + results l.insts;
}
