use Rattle.generic_code.proofs.Results.{select_row}
use Rattle.generic_code.proofs.laws.choices_agree.Goals as goal

pub returns : goal.returns
returns c = λ w v u c a b A B C h p q. select_row w v u c a b A B C h.0 h.1 p q
