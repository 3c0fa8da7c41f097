use Rattle.frame_code.proofs.Runs.{code-runs}
use Rattle.frame_code.proofs.laws.laid_out_code_runs.Goals as goal

pub returns : goal.returns
returns c = code-runs
