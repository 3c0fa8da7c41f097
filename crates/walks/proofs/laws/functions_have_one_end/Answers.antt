use Rattle.walks.proofs.OneEnd.{functions_have_one_end}
use Rattle.walks.proofs.laws.functions_have_one_end.Goals as goal

pub returns : goal.returns
returns c = functions_have_one_end
