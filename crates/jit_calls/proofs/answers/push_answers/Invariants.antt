use Rattle.std.proofs.Common.{◌≡◌, ◌++◌, drop}
use Rattle.jit_calls.specs.Answers.{answer_lines}
use Rattle.jit_calls.proofs.answers.push_answers.Given as goal

abbrev pub invariant-loop-i : goal.invariant-loop-i
invariant-loop-i l = l.page ++ answer_lines l.functions (drop l.i l.calls) (drop l.i l.ends) ≡ l.fn.page ++ answer_lines l.functions l.calls l.ends
