use Rattle.generic_code.proofs.Results.{cast_row}
use Rattle.generic_code.proofs.laws.casts_agree.Goals as goal

pub returns : goal.returns
returns c = λ o flags from to u a A B C is h. cast_row flags u A B C o from to a is h.0 h.1
