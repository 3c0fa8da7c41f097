use Rattle.std.proofs.Common.{◌≡◌, ◌+◌, ◌<◌, ◌≤◌, ◌++◌, ℕ, length, drop}
use Rattle.code_epochs.specs.declared.state.VersionState.{VersionState}
use Rattle.code_epochs.specs.Sound.{At}
use Rattle.redirect_cells.specs.Kept.{book_of, AllBelow}
use Rattle.redirect_cells.specs.Keeping.{AreSameHarts}
use Rattle.redirect_cells.specs.Opened.{words_of, laid}
use Rattle.redirect_cells.proofs.first.place_all.Given as goal

abbrev pub invariant-loop-version : goal.invariant-loop-version
invariant-loop-version l = record {
  table : l.desk.seat.table ≡ l.initial.desk.seat.table;
  harts : AreSameHarts (book_of l.initial.desk.seat.seat.me.0) (book_of l.desk.seat.seat.me.0);
  laid : l.desk.shelf.versions.items ++ laid (drop l.version-index l.quick) l.place l.version-index ≡ laid l.quick l.first 0;
  count : length l.desk.shelf.versions.items ≡ l.version-index;
  symbols : (k : ℕ) (v : VersionState) → At l.desk.shelf.versions.items k v → v.symbol ≡ k;
  below : AllBelow l.desk.shelf.versions.items l.place;
  place : l.place + words_of (drop l.version-index l.quick) ≡ l.first + words_of l.quick;
  least : l.first ≤ l.place;
  current : (k : ℕ) → k < l.version-index → At l.desk.shelf.current.items k (k + 1);
  size : l.desk.shelf.space.size ≡ l.initial.desk.shelf.space.size;
  ranges : l.desk.shelf.space.ranges ≡ l.initial.desk.shelf.space.ranges;
}
