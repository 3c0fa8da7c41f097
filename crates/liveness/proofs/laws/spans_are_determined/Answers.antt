use Rattle.liveness.proofs.Determined.{same_spans}
use Rattle.liveness.proofs.laws.spans_are_determined.Goals as goal

pub returns : goal.returns
returns c = λ f one other covers tight covers' tight' long. same_spans f one other covers tight covers' tight' long
