use Rattle.std.proofs.Common.{◌≡◌, drop}
use Rattle.phi_out.specs.Lowering.{any_phi}
use Rattle.phi_out.proofs.lowering.has_phi.Given as goal

abbrev pub invariant-loop-block : goal.invariant-loop-block
invariant-loop-block l = any_phi l.blocks ≡ any_phi (drop l.block-index l.blocks)
