use Rattle.frame_code.proofs.Few.{few-words}
use Rattle.frame_code.proofs.laws.words_are_few.Goals as goal

pub returns : goal.returns
returns c = few-words
