use Rattle.gmir.proofs.Itself.{translations_may_be_refined}
use Rattle.gmir.proofs.laws.translations_may_be_refined.Goals as goal

pub returns : goal.returns
returns c = translations_may_be_refined
