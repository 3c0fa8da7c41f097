use Rattle.std.proofs.Common.{◌≡◌, replicate}
use Rattle.ir_eval.proofs.evaluating.zeros.Given as goal

abbrev pub invariant-loop : goal.invariant-loop
invariant-loop l = l.counts ≡ replicate l.counter 0
