use Rattle.frame_code.proofs.Whole.{laid-out-is-good}
use Rattle.frame_code.proofs.laws.laid_out_code_is_good.Goals as goal

pub returns : goal.returns
returns c = laid-out-is-good
