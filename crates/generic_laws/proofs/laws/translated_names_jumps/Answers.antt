use Rattle.generic_laws.proofs.Joined.{translated_names_jumps}
use Rattle.generic_laws.proofs.laws.translated_names_jumps.Goals as goal

pub returns : goal.returns
returns c = translated_names_jumps
