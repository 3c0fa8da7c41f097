use Rattle.std.proofs.Common.{◌≡◌, length}
use Rattle.std.specs.Prelude.{vec_capacity}
use Rattle.entry_counts.specs.Tally.{times}
use Rattle.jit_session.specs.Runs.{Each}
use Rattle.jit_session.proofs.outcome.row.Given as goal

abbrev pub invariant-loop-symbol : goal.invariant-loop-symbol
invariant-loop-symbol l = record {
  len : length l.entries.items ≡ l.symbol;
  row : Each (λ k n. n ≡ times k l.counts.seat.me.0.own) l.entries.items;
  room : vec_capacity l.entries ≡ vec_capacity l.initial.entries;
}
