use Rattle.mir_play.proofs.Holding.{values_hold}
use Rattle.mir_play.proofs.laws.values_hold.Goals as goal

pub returns : goal.returns
returns c = values_hold
