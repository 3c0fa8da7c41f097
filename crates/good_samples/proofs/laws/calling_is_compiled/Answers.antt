use Rattle.good_samples.proofs.Refining.{calling_is_compiled}
use Rattle.good_samples.proofs.laws.calling_is_compiled.Goals as goal

pub returns : goal.returns
returns c = calling_is_compiled
