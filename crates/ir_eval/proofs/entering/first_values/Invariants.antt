use Rattle.std.proofs.Common.{◌≡◌, ◌++◌, replicate, None}
use Rattle.ir_eval.proofs.entering.first_values.Given as goal

abbrev pub invariant-loop : goal.invariant-loop
invariant-loop l = l.values ≡ l.fn.given ++ replicate l.counter None
