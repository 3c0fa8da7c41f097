use Rattle.generic_laws.proofs.Ended.{translated_ends_blocks}
use Rattle.generic_laws.proofs.laws.translated_ends_blocks.Goals as goal

pub returns : goal.returns
returns c = translated_ends_blocks
