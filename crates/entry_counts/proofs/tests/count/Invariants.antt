use Rattle.std.proofs.Common.{◌≡◌}
use Rattle.entry_counts.proofs.tests.count.Given as goal

abbrev pub invariant-loop-entry : goal.invariant-loop-entry
invariant-loop-entry l = record { same : l.seat.counts ≡ l.initial.seat.counts }
