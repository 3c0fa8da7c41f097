use Rattle.std.proofs.Common.{◌≡◌, drop}
use Rattle.mir_play.specs.Play.{behind_phis}
use Rattle.phi_out.proofs.lowering.behind.Given as goal

abbrev pub invariant-loop-i : goal.invariant-loop-i
invariant-loop-i l = behind_phis (drop l.i l.insts) ≡ behind_phis l.insts
