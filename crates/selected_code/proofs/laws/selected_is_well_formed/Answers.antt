use Rattle.selected_code.proofs.Placing.{selected_is_well_formed}
use Rattle.selected_code.proofs.laws.selected_is_well_formed.Goals as goal

pub returns : goal.returns
returns c = selected_is_well_formed
