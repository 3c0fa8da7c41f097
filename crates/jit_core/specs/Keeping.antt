-- Which pending versions all harts have passed, and at which hart the keeper looks next.
use Rattle.std.specs.Prelude.{◌≡◌, ◌⊎◌, ℕ, ◌+◌, ◌<◌, List, Option, Some, None}
use Rattle.code_epochs.specs.declared.state.Status.TheVariants.{Pending}
use Rattle.code_epochs.specs.declared.state.VersionState.{VersionState}
use Rattle.code_epochs.specs.Sound.{At, HasPassed}
use Rattle.jit_core.specs.declared.publishing.Pair.{Pair}

-- the version is pending, and this one of so many harts hasn't passed it
abbrev pub IsOpenPair : ℕ → VersionState → ℕ → Type 0
IsOpenPair harts v h = (tag : ℕ) × (passed : ℕ) × (v.status ≡ Pending tag passed) × (h < harts) × ¬ HasPassed passed h

-- the version is pending, and all harts have passed it
abbrev pub IsPassed : ℕ → VersionState → Type 0
IsPassed harts v = (tag : ℕ) × (passed : ℕ) × (v.status ≡ Pending tag passed) × ((h : ℕ) → h < harts → HasPassed passed h)

-- this is the first version in order of number that is pending and that all harts have passed
abbrev pub IsFirstPassed : ℕ → List VersionState → ℕ → Type 0
IsFirstPassed harts versions n = (v : VersionState) × At versions n v × IsPassed harts v × ((j : ℕ) (u : VersionState) → j < n → At versions j u → ¬ IsPassed harts u)

-- the version with this number is pending, and the hart hasn't passed it
abbrev pub IsOpen : ℕ → List VersionState → ℕ → ℕ → Type 0
IsOpen harts versions i h = (v : VersionState) × At versions i v × IsOpenPair harts v h

-- the pair of i and h comes before that of j and k, in order of version and then of hart
abbrev pub ComesBefore : ℕ → ℕ → ℕ → ℕ → Type 0
ComesBefore i h j k = (i < j) ⊎ ((i ≡ j) × (h < k))

-- the first open pair of those that don't come before this one
abbrev pub IsFirstFrom : ℕ → List VersionState → ℕ → ℕ → ℕ → ℕ → Type 0
IsFirstFrom harts versions j k i h = IsOpen harts versions i h × ¬ ComesBefore i h j k × ((p q : ℕ) → IsOpen harts versions p q → ¬ ComesBefore p q j k → ¬ ComesBefore p q i h)

-- each open pair comes before this one
abbrev pub NoneFrom : ℕ → List VersionState → ℕ → ℕ → Type 0
NoneFrom harts versions j k = (p q : ℕ) → IsOpen harts versions p q → ComesBefore p q j k

-- there is no open pair
abbrev pub NothingOpen : ℕ → List VersionState → Type 0
NothingOpen harts versions = (p q : ℕ) → ¬ IsOpen harts versions p q

-- the first open pair behind the one that was looked at last, or the first of all where none is behind it or none was looked at
abbrev pub IsNextLook : ℕ → List VersionState → Option Pair → ℕ → ℕ → Type 0
IsNextLook harts versions None i h = IsFirstFrom harts versions 0 0 i h
IsNextLook harts versions (Some last) i h =
    IsFirstFrom harts versions last.version (last.hart + 1) i h
    ⊎ (NoneFrom harts versions last.version (last.hart + 1) × IsFirstFrom harts versions 0 0 i h)

-- no version is pending
abbrev pub NonePending : List VersionState → Type 0
NonePending versions = (i : ℕ) (v : VersionState) (tag passed : ℕ) → At versions i v → v.status ≡ Pending tag passed → ⊥
