use Rattle.jit_core.proofs.Kept.{ended_backed, ended_right}
use Rattle.jit_core.proofs.laws.passes_answer_right.Goals as goal

pub returns-clause-backed : goal.returns-clause-backed
returns-clause-backed c = ended_backed

pub returns-clause-right : goal.returns-clause-right
returns-clause-right c = ended_right
