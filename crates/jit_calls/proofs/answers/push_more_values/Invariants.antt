use Rattle.std.proofs.Common.{◌≡◌, ◌++◌, drop}
use Rattle.jit_calls.specs.Answers.{more_values}
use Rattle.jit_calls.proofs.answers.push_more_values.Given as goal

abbrev pub invariant-loop-i : goal.invariant-loop-i
invariant-loop-i l = l.page ++ more_values (drop l.i l.tys) (drop l.i l.values) ≡ l.fn.page ++ more_values l.tys l.values
