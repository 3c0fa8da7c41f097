use Rattle.std.proofs.Common.{◌≡◌, ◌++◌, List, length, map}
use Rattle.std.specs.Vec.Iter.{into_iter_items, into_iter_len}
use Rattle.jit_core.specs.Events.{Told}
use Rattle.jit_core.specs.Cores.{IsKept, IsSameCore}
use Rattle.jit_core.specs.Simulated.{MakesAll, event_of}
use Rattle.jit_core.proofs.simulation.simulate.Given as goal

abbrev pub invariant-loop-event : goal.invariant-loop-event
invariant-loop-event l = record {
  order : l.yielded ++ into_iter_items l.event-iterator ≡ l.fn.events.items;
  left : into_iter_len l.event-iterator ≡ length (into_iter_items l.event-iterator);
  kept : IsKept l.core;
  same : IsSameCore l.initial.core l.core;
  makes : (told : List Told) × (map event_of told ≡ l.yielded) × MakesAll l.initial.core told l.core;
}
