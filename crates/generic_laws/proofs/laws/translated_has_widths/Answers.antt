use Rattle.generic_laws.proofs.Widths.{translated_has_widths}
use Rattle.generic_laws.proofs.laws.translated_has_widths.Goals as goal

pub returns : goal.returns
returns c = translated_has_widths
