use Rattle.std.proofs.Common.{◌≡◌, drop}
use Rattle.phi_out.specs.Lowering.{some_phi}
use Rattle.phi_out.proofs.lowering.block_has_phi.Given as goal

abbrev pub invariant-loop-inst : goal.invariant-loop-inst
invariant-loop-inst l = some_phi l.insts ≡ some_phi (drop l.inst-index l.insts)
