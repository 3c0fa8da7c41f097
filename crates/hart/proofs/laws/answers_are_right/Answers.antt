use Rattle.hart.proofs.Answering.{right_answers}
use Rattle.hart.proofs.laws.answers_are_right.Goals as goal

pub returns : goal.returns
returns c = right_answers
