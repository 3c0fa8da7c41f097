use Rattle.selected_code.proofs.Whole.{selected_refines}
use Rattle.selected_code.proofs.laws.selected_refines.Goals as goal

pub returns : goal.returns
returns c = selected_refines
