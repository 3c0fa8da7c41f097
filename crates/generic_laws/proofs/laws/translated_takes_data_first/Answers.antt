use Rattle.generic_laws.proofs.Data.{translated_takes_data_first}
use Rattle.generic_laws.proofs.laws.translated_takes_data_first.Goals as goal

pub returns : goal.returns
returns c = translated_takes_data_first
