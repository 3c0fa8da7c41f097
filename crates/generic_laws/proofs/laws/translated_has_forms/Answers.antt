use Rattle.generic_laws.proofs.Heads.{translated_has_forms}
use Rattle.generic_laws.proofs.laws.translated_has_forms.Goals as goal

pub returns : goal.returns
returns c = translated_has_forms
