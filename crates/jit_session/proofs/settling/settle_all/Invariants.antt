use Rattle.std.proofs.Common.{◌≡◌, ℕ, ◌+◌, ◌<◌, ◌≤◌, length}
use Rattle.std.specs.Prelude.{vec_capacity}
use Rattle.entry_counts.specs.Tally.{times}
use Rattle.redirect_cells.specs.Kept.{book_of}
use Rattle.reopt_policy.specs.Marks.{level_for}
use Rattle.jit_session.specs.Levels.{IsLevelled, IsSameTally, AreRefused, AreShown}
use Rattle.jit_session.proofs.settling.settle_all.Given as goal

abbrev pub invariant-loop-symbol : goal.invariant-loop-symbol
invariant-loop-symbol g l = record {
  table : l.keeper.desk.seat.table ≡ l.fn.keeper.desk.seat.table;
  gone : (book_of l.keeper.desk.seat.seat.me.0).gone ≡ (book_of l.fn.keeper.desk.seat.seat.me.0).gone;
  joined : (book_of l.keeper.desk.seat.seat.me.0).joined ≡ (book_of l.fn.keeper.desk.seat.seat.me.0).joined;
  shown : AreShown (book_of l.fn.keeper.desk.seat.seat.me.0) l.fn.keeper.desk.seat.table.now.harts (g.M.Maker.may_crowd l.fn.maker l.checked) l.checked l.fn.keeper.desk.seat.table.now.code_words (λ k. level_for (g.P.ReoptPolicy.marks l.fn.policy) (times k l.fn.all.seat.me.0.joined)) l.keeper.desk.shelf l.refused.items;
  count : length l.keeper.desk.shelf.versions.items ≤ length l.fn.keeper.desk.shelf.versions.items + l.symbol;
  all : IsSameTally l.fn.all l.all;
  levels : (k : ℕ) → k < l.symbol → IsLevelled l.keeper.desk.shelf l.refused.items k (level_for (g.P.ReoptPolicy.marks l.fn.policy) (times k l.fn.all.seat.me.0.joined));
  refused : AreRefused (g.M.Maker.may_crowd l.fn.maker l.checked) l.symbol l.refused.items;
  few : length l.refused.items ≤ l.symbol;
  room : vec_capacity l.refused ≡ vec_capacity l.fn.refused;
  marks : g.P.ReoptPolicy.marks l.policy ≡ g.P.ReoptPolicy.marks l.fn.policy;
  test : g.M.Maker.may_crowd l.maker ≡ g.M.Maker.may_crowd l.fn.maker;
}
