use Rattle.jit_core.proofs.OneStep.{one_word, own}
use Rattle.jit_core.proofs.laws.events_make_one_step.Goals as goal

pub returns-clause-word : goal.returns-clause-word
returns-clause-word c = one_word

pub returns-clause-own : goal.returns-clause-own
returns-clause-own c = own
