use Rattle.generic_laws.proofs.Blocks.{translated_has_wide_addresses}
use Rattle.generic_laws.proofs.laws.translated_has_wide_addresses.Goals as goal

pub returns : goal.returns
returns c = translated_has_wide_addresses
