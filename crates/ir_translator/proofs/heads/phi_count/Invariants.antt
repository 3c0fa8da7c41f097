use Rattle.std.proofs.Common.{◌≡◌, ◌+◌, drop, length}
use Rattle.ir_meaning.specs.Step.{phis}
use Rattle.ir_translator.proofs.heads.phi_count.Given as goal

abbrev pub invariant-loop-inst : goal.invariant-loop-inst
invariant-loop-inst l = record {
  count : l.count ≡ l.inst-index;
  many : l.count + length (phis (drop l.inst-index l.insts)) ≡ length (phis l.insts);
}
