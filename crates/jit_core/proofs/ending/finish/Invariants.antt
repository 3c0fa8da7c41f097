use Rattle.std.proofs.Common.{◌≡◌, ℕ, List, length, map}
use Rattle.jit_core.specs.Events.{Told}
use Rattle.jit_core.specs.Left.{all_left}
use Rattle.jit_core.specs.Cores.{IsKept, IsSameCore}
use Rattle.jit_core.specs.Simulated.{MakesAll, event_of}
use Rattle.jit_core.specs.Finished.{rounds}
use Rattle.jit_core.proofs.ending.finish.Given as goal

abbrev pub invariant-loop : goal.invariant-loop
invariant-loop l = record {
  kept : IsKept l.core;
  same : IsSameCore l.initial.core l.core;
  makes : (told : List Told) × (n : ℕ) × (map event_of told ≡ rounds n (length l.initial.core.seats.items)) × MakesAll l.initial.core told l.core;
}

abbrev pub decreases-loop : goal.decreases-loop
decreases-loop l = all_left l.core.work l.core.seats.items
