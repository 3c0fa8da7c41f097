use Rattle.std.proofs.Common.{◌≡◌, length}
use Rattle.ir_tests.proofs.layouts.with_parameters.Given as goal

abbrev pub invariant-loop : goal.invariant-loop
invariant-loop l = length l.params.items ≡ l.counter
