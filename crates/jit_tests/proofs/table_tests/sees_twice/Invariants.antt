use Rattle.std.proofs.Common.{◌≡◌}
use Rattle.redirect_cells.specs.Kept.{IsBegun}
use Rattle.jit_tests.proofs.table_tests.sees_twice.Given as goal

abbrev pub invariant-loop-place : goal.invariant-loop-place
invariant-loop-place l = record {
  table : l.seat.table ≡ l.initial.seat.table;
  begun : IsBegun l.seat.seat.me.0;
  number : l.seat.number ≡ l.initial.seat.number;
}
