use Rattle.good_samples.proofs.Calling.{calling_runs}
use Rattle.good_samples.proofs.laws.calling_runs.Goals as goal

pub returns : goal.returns
returns c = calling_runs
