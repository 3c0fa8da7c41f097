use Rattle.good_code.proofs.Compiled.{compiled_is_good}
use Rattle.good_code.proofs.laws.compiled_is_good.Goals as goal

pub returns : goal.returns
returns c = compiled_is_good
