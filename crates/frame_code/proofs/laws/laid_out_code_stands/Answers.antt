use Rattle.frame_code.proofs.Labelled.{laid-out-stands}
use Rattle.frame_code.proofs.laws.laid_out_code_stands.Goals as goal

pub returns : goal.returns
returns c = laid-out-stands
