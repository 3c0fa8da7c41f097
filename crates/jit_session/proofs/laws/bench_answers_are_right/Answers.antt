use Rattle.jit_session.proofs.Answers.{right_over}
use Rattle.jit_session.proofs.laws.bench_answers_are_right.Goals as goal

pub returns : goal.returns
returns c = right_over
