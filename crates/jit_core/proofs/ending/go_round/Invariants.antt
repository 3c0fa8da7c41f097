use Rattle.std.proofs.Common.{◌≡◌, ◌<◌, ◌≤◌, ℕ, List, map, true, false}
use Rattle.jit_core.specs.Events.{Told}
use Rattle.jit_core.specs.Harts.{IsOver}
use Rattle.jit_core.specs.Left.{all_left}
use Rattle.jit_core.specs.Cores.{IsKept, IsSameCore}
use Rattle.jit_core.specs.Simulated.{MakesAll, event_of}
use Rattle.jit_core.specs.Finished.{one_round}
use Rattle.jit_core.proofs.ending.go_round.Given as goal

abbrev pub invariant-loop-number : goal.invariant-loop-number
invariant-loop-number l = record {
  kept : IsKept l.core;
  same : IsSameCore l.initial.core l.core;
  makes : (told : List Told) × (map event_of told ≡ one_round l.number) × MakesAll l.initial.core told l.core;
  most : all_left l.core.work l.core.seats.items ≤ all_left l.initial.core.work l.initial.core.seats.items;
  fewer : l.moved ≡ true → all_left l.core.work l.core.seats.items < all_left l.initial.core.work l.initial.core.seats.items;
  still : l.moved ≡ false → (l.core.work ≡ l.initial.core.work) × (l.core.seats.items ≡ l.initial.core.seats.items) × ((k : ℕ) → k < l.number → IsOver l.initial.core.seats.items l.initial.core.work k);
}
