-- The rows of symbols.
use Rattle.std.specs.Prelude.{◌≡◌, ℕ, List}
use Rattle.code_epochs.specs.declared.state.VersionState.{VersionState}
use Rattle.entry_counts.specs.Tally.{times}
use Rattle.code_epochs.specs.declared.shelf.Shelf.{Shelf}
use Rattle.redirect_cells.specs.Keeping.{IsCurrent}
use Rattle.session_types.specs.declared.settled.SymbolRow.{SymbolRow}

-- the row of a symbol: how often it stands in the list of entries, and the level and the words of its linked version
pub record IsRowOf (shelf : Shelf) (entries : List ℕ) (k : ℕ) (row : SymbolRow) : Type 0 where
  pub counted : row.entries ≡ times k entries
  pub version : VersionState
  pub current : IsCurrent shelf k version
  pub level : row.level ≡ version.level
  pub words : row.words ≡ version.words
