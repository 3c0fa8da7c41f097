use Rattle.std.proofs.Common.{◌≡◌, ◌++◌, ◌-◌, List, map}
use Rattle.jit_core.specs.Events.{Told}
use Rattle.jit_core.specs.Cores.{IsKept, IsSameCore}
use Rattle.jit_core.specs.Simulated.{MakesAll, event_of}
use Rattle.jit_core.specs.Drawn.{drawn}
use Rattle.jit_core.proofs.run.go.Given as goal

abbrev pub invariant-loop : goal.invariant-loop
invariant-loop l = record {
  kept : IsKept l.core;
  same : IsSameCore l.initial.core l.core;
  makes : (told : List Told) × (map event_of told ++ drawn l.versions l.plan.harts l.draw (l.plan.steps - l.counter) ≡ drawn l.versions l.plan.harts l.plan.draw l.plan.steps) × MakesAll l.initial.core told l.core;
}
