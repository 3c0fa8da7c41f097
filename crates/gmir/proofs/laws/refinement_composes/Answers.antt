use Rattle.gmir.proofs.Itself.{refinement_composes}
use Rattle.gmir.proofs.laws.refinement_composes.Goals as goal

pub returns : goal.returns
returns c = refinement_composes
