use Rattle.hart.proofs.Laid.{fixed_backed}
use Rattle.hart.proofs.laws.fixed_passes_are_backed.Goals as goal

pub returns : goal.returns
returns c = fixed_backed
