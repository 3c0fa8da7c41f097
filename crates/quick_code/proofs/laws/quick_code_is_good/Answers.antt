use Rattle.quick_code.proofs.Words.{quick-code-is-good}
use Rattle.quick_code.proofs.laws.quick_code_is_good.Goals as goal

pub returns : goal.returns
returns c = quick-code-is-good
