use Rattle.std.proofs.Common.{◌≡◌}
use Rattle.jit_tests.proofs.table_tests.Keeping.go.Given as goal

abbrev pub invariant-loop-version : goal.invariant-loop-version
invariant-loop-version l = l.self.keeper.desk.seat.table ≡ l.fn.self.keeper.desk.seat.table
