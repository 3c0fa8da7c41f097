use Rattle.quick_code.proofs.FlowWhole.{flow-is-good}
use Rattle.quick_code.proofs.laws.flow_code_is_good.Goals as goal

pub returns : goal.returns
returns c = flow-is-good
