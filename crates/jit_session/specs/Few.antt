-- How many versions there can be.
use Rattle.std.specs.Prelude.{ℕ, ◌+◌, ◌-◌, ◌≤◌, List, [], ◌∷◌, length}
use mathlib.Core.Option.{Option, some, none}
use lib.ListN.{get_elem?}
use Rattle.code_epochs.specs.declared.state.VersionState.{VersionState}
use Rattle.code_epochs.specs.declared.shelf.Shelf.{Shelf}

abbrev pub level_in : Option VersionState → ℕ
level_in none = 0
level_in (some v) = v.level

-- the level of the version whose number is one less than n
abbrev pub level_of : List VersionState → ℕ → ℕ
level_of versions n = level_in (get_elem? versions (n - 1))

-- how often the levels of these linked versions can rise, up to 3
abbrev pub rises_left : List VersionState → List ℕ → ℕ
rises_left versions [] = 0
rises_left versions (n ∷ ns) = (3 - level_of versions n) + rises_left versions ns

-- the versions, with one more for each rise of a level that is left, are at most four for each of 1,024 functions
abbrev pub HasFew : Shelf → Type 0
HasFew shelf = length shelf.versions.items + rises_left shelf.versions.items shelf.current.items ≤ 4096
