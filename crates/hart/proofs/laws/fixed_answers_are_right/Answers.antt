use Rattle.hart.proofs.Answering.{right_fixed_answers}
use Rattle.hart.proofs.laws.fixed_answers_are_right.Goals as goal

pub returns : goal.returns
returns c = right_fixed_answers
