use Rattle.std.proofs.Common.{◌≡◌, ◌≤◌, ℕ, length, false}
use Rattle.code_epochs.specs.declared.state.VersionState.{VersionState}
use Rattle.code_epochs.specs.declared.state.Status.TheVariants.{Pending}
use Rattle.code_epochs.specs.Sound.{At}
use Rattle.redirect_cells.specs.Kept.{book_of}
use Rattle.redirect_cells.specs.Keeping.{LookedAt, is_pending}
use Rattle.redirect_cells.proofs.desk.Desk.look_at_harts.Given as goal

abbrev pub invariant-loop-hart : goal.invariant-loop-hart
invariant-loop-hart l = record {
  other : (v : VersionState) → At l.initial.self.shelf.versions.items l.number v → is_pending v.status ≡ false → l.self ≡ l.initial.self;
  table : l.self.seat.table ≡ l.initial.self.seat.table;
  looked : (v : VersionState) (tag passed : ℕ) → At (book_of l.initial.self.seat.seat.me.0).versions l.number v → v.status ≡ Pending tag passed → LookedAt (book_of l.initial.self.seat.seat.me.0) (book_of l.self.seat.seat.me.0) l.number v tag passed l.hart;
  current : l.self.shelf.current ≡ l.initial.self.shelf.current;
  space : l.self.shelf.space ≡ l.initial.self.shelf.space;
  count : length l.self.shelf.versions.items ≡ length l.initial.self.shelf.versions.items;
}
