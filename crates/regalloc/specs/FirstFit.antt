-- The assignment in which each register takes the first free place, in order of where spans start.
use Rattle.std.specs.Prelude.{◌≡◌, ℕ, ◌+◌, ◌-◌, ◌<◌, ◌⊎◌, nat_lt, length, Some, None, if◌then◌else◌}
use Rattle.mir.specs.declared.places.Intervals.{Intervals}
use Rattle.mir.specs.declared.places.Place.{Place}
use Rattle.mir.specs.declared.places.Place.TheVariants.{Saved, Slot}
use Rattle.mir.specs.declared.places.Places.{Places}
use Rattle.mir.specs.Places.{span_of, place_of, Holds}

-- the places in their order: s0 to s10, then the slots from 0 on
abbrev pub place_at : ℕ → Place
place_at k = if nat_lt k 11 then Saved k else Slot (k - 11)

-- the span of the one register starts earlier, or at the same point and its number is less
abbrev pub IsBefore : Intervals → ℕ → ℕ → Type 0
IsBefore intervals q r =
    (span : ℕ × ℕ) × (other : ℕ × ℕ) × (span_of intervals q ≡ Some span) × (span_of intervals r ≡ Some other)
    × ((span.0 < other.0) ⊎ ((span.0 ≡ other.0) × (q < r)))

-- some point is in the spans of both registers
abbrev pub Meets : Intervals → ℕ → ℕ → Type 0
Meets intervals q r = (point : ℕ) × Holds intervals q point × Holds intervals r point

-- a register before this one, whose span shares a point with its span, has the place
pub record IsTaken (intervals : Intervals) (places : Places) (r : ℕ) (place : Place) : Type 0 where
  pub by : ℕ
  pub before : IsBefore intervals by r
  pub meets : Meets intervals by r
  pub stands : place_of places by ≡ Some place

-- the register has this place, which isn't taken, and each place ahead of it is
pub record TakesFirst (intervals : Intervals) (places : Places) (r k : ℕ) : Type 0 where
  pub stands : place_of places r ≡ Some (place_at k)
  pub free : IsTaken intervals places r (place_at k) → ⊥
  pub taken : (j : ℕ) → j < k → IsTaken intervals places r (place_at j)

-- each register with a span takes the first free one of s0 to s10 and so many slots, in order of starts and then of numbers;
-- a register without a span has no place
pub record IsFirstFit (intervals : Intervals) (slots : ℕ) (places : Places) : Type 0 where
  pub size : length places.at ≡ length intervals.spans
  pub without : (r : ℕ) → span_of intervals r ≡ None → place_of places r ≡ None
  pub first : (r : ℕ) (span : ℕ × ℕ) → span_of intervals r ≡ Some span → (k : ℕ) × (k < 11 + slots) × TakesFirst intervals places r k

-- no register stands in a slot
abbrev pub UsesNoSlot : Places → Type 0
UsesNoSlot places = (r slot : ℕ) → place_of places r ≡ Some (Slot slot) → ⊥
