use Rattle.mir_play.proofs.Itself.{functions_refine_themselves}
use Rattle.mir_play.proofs.laws.functions_refine_themselves.Goals as goal

pub returns : goal.returns
returns c = functions_refine_themselves
