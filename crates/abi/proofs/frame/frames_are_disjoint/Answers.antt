use Rattle.abi.proofs.Disjoint.{disjoint}
use Rattle.abi.proofs.frame.frames_are_disjoint.Goals as goal

pub returns : goal.returns
returns c = disjoint
