use Rattle.std.proofs.Common.{◌≡◌}
use Rattle.jit_tests.proofs.table_tests.Fetching.go.Given as goal

abbrev pub invariant-loop-pass : goal.invariant-loop-pass
invariant-loop-pass l = record {
  table : l.self.seat.table ≡ l.fn.self.seat.table;
  number : l.self.seat.number ≡ l.fn.self.seat.number;
}
