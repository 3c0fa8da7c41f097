use Rattle.std.proofs.Common.{◌≤◌}
use Rattle.jit_core.specs.Cores.{IsKept, IsSameCore}
use Rattle.jit_tests.proofs.event_tests.keeper_steps.Given as goal

abbrev pub invariant-loop : goal.invariant-loop
invariant-loop l = record {
  kept : IsKept l.core;
  same : IsSameCore l.initial.core l.core;
  most : l.steps ≤ l.counter;
}
