use Rattle.good_code.proofs.Narrow.{narrow_types_are_narrow}
use Rattle.good_code.proofs.laws.narrow_types_are_narrow.Goals as goal

pub returns : goal.returns
returns c = narrow_types_are_narrow
