use Rattle.gmir.proofs.Itself.{functions_refine_themselves}
use Rattle.gmir.proofs.laws.functions_refine_themselves.Goals as goal

pub returns : goal.returns
returns c = functions_refine_themselves
