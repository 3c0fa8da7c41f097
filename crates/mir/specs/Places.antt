-- Spans of registers, and places that fit them.
use Rattle.std.specs.Prelude.{◌≡◌, ℕ, ◌<◌, ◌≤◌, slice_index_or, Option, Some, None}
use Rattle.mir.specs.declared.places.Intervals.{Intervals}
use Rattle.mir.specs.declared.places.Place.{Place}
use Rattle.mir.specs.declared.places.Place.TheVariants.{Saved, Slot}
use Rattle.mir.specs.declared.places.Places.{Places}

-- the register's span
abbrev pub span_of : Intervals → ℕ → Option (ℕ × ℕ)
span_of intervals r = slice_index_or intervals.spans r None

-- the register's place
abbrev pub place_of : Places → ℕ → Option Place
place_of places r = slice_index_or places.at r None

-- the register's span contains the point; both its ends belong to it
abbrev pub Holds : Intervals → ℕ → ℕ → Type 0
Holds intervals r point = (first : ℕ) × (last : ℕ) × (span_of intervals r ≡ Some (first, last)) × (first ≤ point) × (point ≤ last)

-- one of s0 to s10, or one of so many slots
abbrev pub IsPlace : ℕ → Place → Type 0
IsPlace slots (Saved k) = k < 11
IsPlace slots (Slot k) = k < slots

-- each register with a span has a place, and registers whose spans share a point have different places
pub record Fits (intervals : Intervals) (slots : ℕ) (places : Places) : Type 0 where
  pub placed : (r first last : ℕ) → span_of intervals r ≡ Some (first, last)
      → (place : Place) × (place_of places r ≡ Some place) × IsPlace slots place
  pub apart : (q r point : ℕ) (place : Place) → Holds intervals q point → Holds intervals r point
      → place_of places q ≡ Some place → place_of places r ≡ Some place → q ≡ r
