use Rattle.legal_code.proofs.Registers.{legal_forms_are_legal}
use Rattle.legal_code.proofs.laws.legal_forms_are_legal.Goals as goal

pub returns : goal.returns
returns c = legal_forms_are_legal
