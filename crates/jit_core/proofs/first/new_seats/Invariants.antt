use Rattle.std.proofs.Common.{◌≡◌, length, vec_capacity}
use Rattle.ir_meaning.specs.Meaning.{meaning}
use Rattle.jit_core.specs.First.{AreNewSeats}
use Rattle.jit_core.proofs.first.new_seats.Given as goal

abbrev pub invariant-loop : goal.invariant-loop
invariant-loop l = record {
  count : length l.seats.items ≡ l.counter;
  seats : AreNewSeats (meaning l.all) l.harts l.calls l.seats.items;
  room : vec_capacity l.seats ≡ l.harts;
}
