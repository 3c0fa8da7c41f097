use Rattle.mir_play.proofs.Itself.{refinement_composes}
use Rattle.mir_play.proofs.laws.refinement_composes.Goals as goal

pub returns : goal.returns
returns c = refinement_composes
