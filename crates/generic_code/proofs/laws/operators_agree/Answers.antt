use Rattle.generic_code.proofs.Results.{binary_row}
use Rattle.generic_code.proofs.laws.operators_agree.Goals as goal

pub returns : goal.returns
returns c = λ o flags w a b v A B C some h h' e. binary_row flags w some A B C o a b v h.0 h'.0 h.1 h'.1 e
