use Rattle.std.proofs.Common.{◌≡◌, drop}
use Rattle.jit_calls.specs.Answers.{any_no_answer}
use Rattle.jit_calls.proofs.answers.any_no_answer.Given as goal

abbrev pub invariant-loop-outcome : goal.invariant-loop-outcome
invariant-loop-outcome l = any_no_answer (drop l.outcome-index l.outcomes) ≡ any_no_answer l.outcomes
