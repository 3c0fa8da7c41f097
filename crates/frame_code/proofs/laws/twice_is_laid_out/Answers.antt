use Rattle.frame_code.proofs.Samples.{twice_is_laid_out}
use Rattle.frame_code.proofs.laws.twice_is_laid_out.Goals as goal

pub returns : goal.returns
returns c = twice_is_laid_out
