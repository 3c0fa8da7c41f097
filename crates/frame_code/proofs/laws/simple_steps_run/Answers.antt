use Rattle.frame_code.proofs.Simple.{simple-steps-run}
use Rattle.frame_code.proofs.laws.simple_steps_run.Goals as goal

pub returns : goal.returns
returns c = simple-steps-run
