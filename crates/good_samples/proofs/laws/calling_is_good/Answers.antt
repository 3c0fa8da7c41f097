use Rattle.good_samples.proofs.Refining.{calling_is_good}
use Rattle.good_samples.proofs.laws.calling_is_good.Goals as goal

pub returns : goal.returns
returns c = calling_is_good
