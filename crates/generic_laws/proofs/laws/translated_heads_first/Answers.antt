use Rattle.generic_laws.proofs.Firsts.{translated_heads_first}
use Rattle.generic_laws.proofs.laws.translated_heads_first.Goals as goal

pub returns : goal.returns
returns c = translated_heads_first
