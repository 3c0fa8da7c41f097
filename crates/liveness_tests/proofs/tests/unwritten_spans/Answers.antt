use Rattle.std.proofs.Common.{refl}
use Rattle.liveness_tests.specs.Samples.{unwritten}
use Rattle.liveness_tests.proofs.Deciding.{well_formed, without_phi}
use Rattle.liveness_tests.proofs.tests.unwritten_spans.Goals as goal

pub intervals-requires-clause-well_formed : goal.intervals-requires-clause-well_formed
intervals-requires-clause-well_formed c = rw c.in-Ok.ensures (well_formed unwritten refl)

pub intervals-requires-clause-no_phi : goal.intervals-requires-clause-no_phi
intervals-requires-clause-no_phi c = rw c.in-Ok.ensures (without_phi unwritten refl)
