use Rattle.std.proofs.Common.{◌≡◌, ◌<◌, ◌++◌, length}
use Rattle.std.specs.Vec.Iter.{into_iter_items, into_iter_len}
use Rattle.redirect_cells.specs.Kept.{book_of, JoinedBacked}
use Rattle.redirect_cells.specs.Gathered.{numbers_of, parts_of}
use Rattle.redirect_cells.proofs.keeper.Keeper.gather.Given as goal

abbrev pub invariant-loop-seat : goal.invariant-loop-seat
invariant-loop-seat l = record {
  order : l.yielded ++ into_iter_items l.seat-iterator ≡ into_iter_items l.initial.seat-iterator;
  left : into_iter_len l.seat-iterator ≡ length (into_iter_items l.seat-iterator);
  table : l.self.desk.seat.table ≡ l.initial.self.desk.seat.table;
  shelf : l.self.desk.shelf ≡ l.initial.self.desk.shelf;
  gone : (book_of l.self.desk.seat.seat.me.0).gone ≡ (book_of l.initial.self.desk.seat.seat.me.0).gone ++ numbers_of l.yielded;
  joined : (book_of l.self.desk.seat.seat.me.0).joined ≡ (book_of l.initial.self.desk.seat.seat.me.0).joined ++ parts_of l.yielded;
  backed : 0 < length l.yielded → JoinedBacked l.self.desk.seat.seat.me.0;
}
