use Rattle.legal_code.proofs.Refining.{legal_forms_refine}
use Rattle.legal_code.proofs.laws.legal_forms_refine.Goals as goal

pub returns : goal.returns
returns c = legal_forms_refine
