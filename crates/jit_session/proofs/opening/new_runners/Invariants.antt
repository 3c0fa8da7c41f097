use Rattle.std.proofs.Common.{◌≡◌, ◌+◌, ◌++◌, length, All, sum_by}
use Rattle.std.specs.Prelude.{vec_capacity}
use Rattle.std.specs.Vec.Iter.{into_iter_items, into_iter_len}
use Rattle.entry_counts.specs.Seats as counts
use Rattle.jit_session.specs.OpenedHarts.{IsNew, parts_of}
use Rattle.jit_session.specs.Runs.{Each}
use Rattle.jit_session.proofs.opening.new_runners.Given as goal

abbrev pub invariant-loop-seat : goal.invariant-loop-seat
invariant-loop-seat g l = record {
  order : l.yielded ++ into_iter_items l.seat-iterator ≡ into_iter_items l.initial.seat-iterator;
  left : into_iter_len l.seat-iterator ≡ length (into_iter_items l.seat-iterator);
  count : length l.runners.items ≡ length l.yielded;
  new : Each (IsNew l.checked l.table l.tally l.harts l.calls) l.runners.items;
  remaining : length l.runners.items + length l.left.items ≡ length l.initial.left.items;
  spare : All (counts.IsNewSeat l.tally) l.left.items;
  parts : sum_by parts_of l.runners.items + sum_by counts.parts_of l.left.items ≡ sum_by counts.parts_of l.initial.left.items;
  room : vec_capacity l.runners ≡ l.harts;
}
