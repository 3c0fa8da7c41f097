use Rattle.std.proofs.Common.{◌≡◌, ◌++◌, drop}
use Rattle.jit_calls.specs.Answers.{outcome_lines}
use Rattle.jit_calls.proofs.answers.outcome_text.Given as goal

abbrev pub invariant-loop-i : goal.invariant-loop-i
invariant-loop-i l = l.page ++ outcome_lines l.functions (drop l.i l.calls) (drop l.i l.outcomes) ≡ outcome_lines l.functions l.calls l.outcomes
