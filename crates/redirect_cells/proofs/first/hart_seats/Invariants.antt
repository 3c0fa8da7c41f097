use Rattle.std.proofs.Common.{◌≡◌, ◌+◌, ◌<◌, length, vec_len, vec_capacity}
use Rattle.redirect_cells.specs.Kept.{book_of}
use Rattle.redirect_cells.specs.Opened.{AreNewSeats}
use Rattle.redirect_cells.proofs.first.hart_seats.Given as goal

abbrev pub invariant-loop-number : goal.invariant-loop-number
invariant-loop-number l = record {
  table : l.desk.seat.table ≡ l.initial.desk.seat.table;
  shelf : l.desk.shelf ≡ l.initial.desk.shelf;
  seated : (book_of l.desk.seat.seat.me.0).seated ≡ l.number;
  gone : (book_of l.desk.seat.seat.me.0).gone ≡ (book_of l.initial.desk.seat.seat.me.0).gone;
  joined : (book_of l.desk.seat.seat.me.0).joined ≡ (book_of l.initial.desk.seat.seat.me.0).joined;
  seats : AreNewSeats l.initial.desk.seat.table.now l.number l.seats.items;
  room : vec_capacity l.seats ≡ l.harts;
}
