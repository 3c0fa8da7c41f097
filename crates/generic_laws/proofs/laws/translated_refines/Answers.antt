use Rattle.generic_laws.proofs.Static.{translated_refines}
use Rattle.generic_laws.proofs.laws.translated_refines.Goals as goal

pub returns : goal.returns
returns c = translated_refines
