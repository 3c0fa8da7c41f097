use Rattle.generic_code.proofs.Results.{compare_row}
use Rattle.generic_code.proofs.laws.comparisons_agree.Goals as goal

pub returns : goal.returns
returns c = λ pred flags w a b A B C h h'. compare_row pred flags w a b A B C h.0 h'.0 h.1 h'.1
