use Rattle.std.proofs.Common.{◌≡◌, drop}
use Rattle.jit_calls.specs.Answers.{any_unanswered}
use Rattle.jit_calls.proofs.answers.any_unanswered.Given as goal

abbrev pub invariant-loop-end : goal.invariant-loop-end
invariant-loop-end l = any_unanswered (drop l.end-index l.ends) ≡ any_unanswered l.ends
