-- What a publication leaves to the symbols.
use Rattle.std.specs.Prelude.{◌≡◌, ◌≢◌, ℕ, ◌<◌, length}
use Rattle.code_epochs.specs.declared.state.VersionState.{VersionState}
use Rattle.rv_play.specs.declared.version.Version.{Version}
use Rattle.code_epochs.specs.declared.shelf.Shelf.{Shelf}
use Rattle.redirect_cells.specs.Keeping.{IsCurrent}

-- each symbol has its linked version still
abbrev pub KeepsAll : Shelf → Shelf → Type 0
KeepsAll old new = (k : ℕ) (v : VersionState) → IsCurrent old k v → IsCurrent new k v

-- each other symbol has its linked version still
abbrev pub KeepsOthers : Shelf → Shelf → ℕ → Type 0
KeepsOthers old new symbol = (k : ℕ) (v : VersionState) → k ≢ symbol → IsCurrent old k v → IsCurrent new k v

-- the linked version of its symbol has the level and the length of this one
pub record HasVersion (shelf : Shelf) (version : Version) : Type 0 where
  pub state : VersionState
  pub current : IsCurrent shelf version.symbol state
  pub level : state.level ≡ version.level
  pub words : state.words ≡ length version.words

-- this version is the linked one of its symbol, at this base and a higher level than before, and each other symbol has its own still
pub record IsRenewed (old new : Shelf) (version : Version) (base : ℕ) : Type 0 where
  pub linked : HasVersion new version
  pub at_base : linked.state.base ≡ base
  pub higher : (v : VersionState) → IsCurrent old version.symbol v → v.level < version.level
  pub others : KeepsOthers old new version.symbol
