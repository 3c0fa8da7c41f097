-- Which code words are free.
use Rattle.std.specs.Prelude.{◌≡◌, ℕ, ◌+◌, ◌<◌, ◌≤◌, List, length, Option, Some, None}
use Rattle.code_epochs.specs.declared.state.VersionState.{VersionState}
use Rattle.code_epochs.specs.Sound.{At, Stays, start_of}
use Rattle.code_space.specs.Space.{Space, IsFree}
use Rattle.code_epochs.specs.Shelf.{count_staying}
use Rattle.jit_core.specs.declared.publishing.Publishing.{Publishing}
use Rattle.jit_core.specs.declared.publishing.Publishing.TheVariants.{Storing, Raising}

-- the word lies in the range from this place on, of so many words and a header
abbrev pub InRange : ℕ → ℕ → ℕ → Type 0
InRange place words w = (place ≤ w) × (w ≤ place + words)

-- the word lies in the range of no version that isn't given up
abbrev pub IsOutside : List VersionState → ℕ → Type 0
IsOutside versions w = (i : ℕ) (v : VersionState) → At versions i v → Stays v.status → ¬ InRange (start_of v.base) v.words w

-- the word doesn't lie in the range of a version that is being stored
abbrev pub IsOutsideOf : Option Publishing → ℕ → Type 0
IsOutsideOf None w = Unit {0}
IsOutsideOf (Some (Storing d)) w = ¬ InRange (start_of d.base) (length d.version.words) w
IsOutsideOf (Some (Raising n)) w = Unit {0}

-- the free ones of so many words are those that lie in no range of a version that isn't given up, and not in that of the version that is being stored
pub record SpaceIs (versions : List VersionState) (code : ℕ) (p : Option Publishing) (s : Space) : Type 0 where
  pub size : s.size ≡ code
  pub free : (w : ℕ) → IsFree s.ranges w → (w < code) × IsOutside versions w × IsOutsideOf p w
  pub all : (w : ℕ) → w < code → IsOutside versions w → IsOutsideOf p w → IsFree s.ranges w

-- how many versions hold a range: those that aren't given up, and the one that is being stored
abbrev pub count_held : List VersionState → Option Publishing → ℕ
count_held versions None = count_staying versions
count_held versions (Some (Storing d)) = count_staying versions + 1
count_held versions (Some (Raising n)) = count_staying versions
