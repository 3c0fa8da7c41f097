use Rattle.legal_code.proofs.Formed.{legal_forms_are_formed}
use Rattle.legal_code.proofs.laws.legal_forms_are_formed.Goals as goal

pub returns : goal.returns
returns c = legal_forms_are_formed
