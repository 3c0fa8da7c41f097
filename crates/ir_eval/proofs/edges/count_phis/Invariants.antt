use Rattle.std.proofs.Common.{◌≡◌, ◌+◌, length, drop}
use Rattle.ir_meaning.specs.Step.{phis}
use Rattle.ir_eval.proofs.edges.count_phis.Given as goal

abbrev pub invariant-loop-inst : goal.invariant-loop-inst
invariant-loop-inst l = record {
  value : l.count + length (phis (drop l.inst-index l.insts)) ≡ length (phis l.insts);
  same : l.count ≡ l.inst-index;
}
