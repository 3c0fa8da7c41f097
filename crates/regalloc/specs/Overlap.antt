-- How many spans contain a point, and the refusal where they are too many.
use Rattle.std.specs.Prelude.{◌≡◌, ℕ, ◌+◌, ◌<◌, ◌≤◌, Bool, false, ◌&&◌, nat_le, count_by, Option, Some, None}
use Rattle.mir.specs.declared.places.Intervals.{Intervals}
use Rattle.regalloc.specs.declared.place.PlaceRefusal.{PlaceRefusal}
use Rattle.regalloc.specs.declared.place.PlaceRefusal.TheVariants.{Crowded, NoMemory}

-- the span contains the point; both its ends belong to it
abbrev pub contains : ℕ → Option (ℕ × ℕ) → Bool
contains point None = false
contains point (Some span) = nat_le span.0 point && nat_le point span.1

-- how many spans contain the point
abbrev pub overlap : Intervals → ℕ → ℕ
overlap intervals point = count_by (contains point) intervals.spans

-- with so many slots there are places enough at each point
abbrev pub HasRoom : Intervals → ℕ → Type 0
HasRoom intervals slots = (point : ℕ) → overlap intervals point ≤ 11 + slots

-- more spans contain the point than there are places, it is the least such point, and this is their number
abbrev pub Refuses : Intervals → ℕ → PlaceRefusal → Type 0
Refuses intervals slots (Crowded point number) =
    (number ≡ overlap intervals point) × (11 + slots < number) × ((earlier : ℕ) → earlier < point → overlap intervals earlier ≤ 11 + slots)
Refuses intervals slots NoMemory = Unit {0}
