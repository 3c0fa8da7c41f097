use Rattle.std.proofs.Common.{◌≡◌, ℕ, ◌<◌, ◌+◌, ◌++◌, length, All, sum_by}
use Rattle.std.specs.Prelude.{vec_capacity}
use Rattle.std.specs.Vec.Iter.{into_iter_items, into_iter_len}
use Rattle.entry_counts.specs.Tally.{times}
use Rattle.jit_session.specs.OpenedHarts.{parts_of}
use Rattle.jit_session.specs.Settling.{AreRows, column, seats_of}
use Rattle.jit_session.proofs.outcome.part.Given as goal

abbrev pub invariant-loop-runner : goal.invariant-loop-runner
invariant-loop-runner g l = record {
  order : l.yielded ++ into_iter_items l.runner-iterator ≡ into_iter_items l.initial.runner-iterator;
  left : into_iter_len l.runner-iterator ≡ length (into_iter_items l.runner-iterator);
  seats : l.seats.items ≡ seats_of l.yielded;
  count : length l.by_hart.items ≡ length l.yielded;
  rows : All (λ row. length row ≡ l.symbols) l.by_hart.items;
  each_row : AreRows l.symbols l.yielded l.by_hart.items;
  joined : (k : ℕ) → k < l.symbols → times k l.all.seat.me.0.joined ≡ column k l.by_hart.items;
  parts : l.all.seat.me.0.parts ≡ l.fn.all.seat.me.0.parts + sum_by parts_of l.yielded;
  counts : l.all.counts ≡ l.fn.all.counts;
  own : l.all.seat.me.0.own ≡ l.fn.all.seat.me.0.own;
  seats_room : vec_capacity l.seats ≡ vec_capacity l.fn.seats;
  rows_room : vec_capacity l.by_hart ≡ vec_capacity l.fn.by_hart;
}
