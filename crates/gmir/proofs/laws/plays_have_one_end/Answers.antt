use Rattle.gmir.proofs.Itself.{plays_have_one_end}
use Rattle.gmir.proofs.laws.plays_have_one_end.Goals as goal

pub returns : goal.returns
returns c = plays_have_one_end
