use Rattle.generic_laws.proofs.Written.{translated_writes_once}
use Rattle.generic_laws.proofs.laws.translated_writes_once.Goals as goal

pub returns : goal.returns
returns c = translated_writes_once
