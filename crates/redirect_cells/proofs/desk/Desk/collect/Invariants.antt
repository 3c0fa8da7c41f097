use Rattle.std.proofs.Common.{◌≡◌, ◌≤◌}
use Rattle.redirect_cells.specs.Kept.{book_of}
use Rattle.redirect_cells.specs.Keeping.{Collected}
use Rattle.redirect_cells.proofs.desk.Desk.collect.Given as goal

abbrev pub invariant-loop-number : goal.invariant-loop-number
invariant-loop-number l = record {
  table : l.self.seat.table ≡ l.initial.self.seat.table;
  collected : Collected (book_of l.initial.self.seat.seat.me.0) (book_of l.self.seat.seat.me.0) l.initial.self.shelf l.self.shelf l.initial.self.seat.table.now.harts l.number l.given_up;
  few : l.given_up ≤ l.number;
}
