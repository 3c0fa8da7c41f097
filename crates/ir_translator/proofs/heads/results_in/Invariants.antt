use Rattle.std.proofs.Common.{◌≡◌, ◌+◌, drop}
use Rattle.ir_core.specs.Units.{results}
use Rattle.ir_translator.proofs.heads.results_in.Given as goal

abbrev pub invariant-loop-inst : goal.invariant-loop-inst
invariant-loop-inst l = l.count + results (drop l.inst-index l.insts) ≡ results l.insts
