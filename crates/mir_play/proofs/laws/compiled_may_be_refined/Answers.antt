use Rattle.mir_play.proofs.Itself.{compiled_may_be_refined}
use Rattle.mir_play.proofs.laws.compiled_may_be_refined.Goals as goal

pub returns : goal.returns
returns c = compiled_may_be_refined
