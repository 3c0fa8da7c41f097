use Rattle.std.proofs.Common.{◌≡◌, length}
use Rattle.std.specs.Prelude.{vec_capacity}
use Rattle.jit_session.specs.Runs.{Each}
use Rattle.jit_session.specs.Rows.{IsRowOf}
use Rattle.jit_session.proofs.rows.fill_rows.Given as goal

abbrev pub invariant-loop-symbol : goal.invariant-loop-symbol
invariant-loop-symbol l = record {
  len : length l.rows.items ≡ l.symbol;
  rows : Each (IsRowOf l.keeper.desk.shelf l.fn.all.seat.me.0.joined) l.rows.items;
  room : vec_capacity l.rows ≡ vec_capacity l.fn.rows;
  counts : l.all.counts ≡ l.fn.all.counts;
  parts : l.all.seat.me.0.parts ≡ l.fn.all.seat.me.0.parts;
  own : l.all.seat.me.0.own ≡ l.fn.all.seat.me.0.own;
  joined : l.all.seat.me.0.joined ≡ l.fn.all.seat.me.0.joined;
}
