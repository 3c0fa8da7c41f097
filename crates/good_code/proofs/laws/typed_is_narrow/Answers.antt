use Rattle.good_code.proofs.Narrow.{typed_is_narrow}
use Rattle.good_code.proofs.laws.typed_is_narrow.Goals as goal

pub returns : goal.returns
returns c = typed_is_narrow
