use Rattle.ir_verify.proofs.WellFormed.{well_formed}
use Rattle.ir_verify.proofs.laws.checked_is_well_formed.Goals as goal

pub returns : goal.returns
returns c = well_formed
