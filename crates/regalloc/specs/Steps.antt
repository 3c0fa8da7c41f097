-- What one step of the assignment does.
use Rattle.std.specs.Prelude.{◌≡◌, ℕ, ◌+◌, ◌/◌, ◌<◌, ◌≤◌, ◌⊎◌, nat_le, List, [], ◌∷◌, ◌++◌, length, slice_index, slice_index_or, slice_set, Option, Some, None, if◌then◌else◌}
use Rattle.mir.specs.declared.places.Place.{Place}
use Rattle.mir.specs.declared.places.Place.TheVariants.{Saved}
use Rattle.regalloc.specs.declared.starts.Start.{Start}
use Rattle.regalloc.specs.FirstFit.{place_at}

-- a register whose span has a point
abbrev pub start_of : ℕ → Option (ℕ × ℕ) → List Start
start_of register None = []
start_of register (Some span) = if nat_le span.0 span.1 then record { first = span.0; register = register; last = span.1 } ∷ [] else []

-- the registers from a number on whose spans have a point
abbrev pub starts_from : ℕ → List (Option (ℕ × ℕ)) → List Start
starts_from register [] = []
starts_from register (span ∷ spans) = start_of register span ++ starts_from (register + 1) spans

-- a span without a point shares none, so its register takes the first place; the others have none yet
abbrev pub place_without_points : Option (ℕ × ℕ) → Option Place
place_without_points None = None
place_without_points (Some span) = if nat_le span.0 span.1 then None else Some (Saved 0)

-- the place at k is the first of these whose last point stands before this one, or a new one behind them
pub record IsFree (point : ℕ) (ends : List ℕ) (k : ℕ) : Type 0 where
  pub within : k ≤ length ends
  pub busy : (j : ℕ) → j < k → point ≤ slice_index ends j
  pub over : k < length ends → slice_index ends k < point

-- as many places as may be are taken at the point
pub record IsFull (point limit : ℕ) (ends : List ℕ) : Type 0 where
  pub many : limit ≤ length ends
  pub busy : (j : ℕ) → j < limit → point ≤ slice_index ends j

-- the first free place, below the limit, is taken up to a last point
pub record Takes (point last limit : ℕ) (ends : List ℕ) (k : ℕ) (after : List ℕ) : Type 0 where
  pub free : IsFree point ends k
  pub below : k < limit
  pub after_is : ((k < length ends) × (after ≡ slice_set ends k last)) ⊎ ((k ≡ length ends) × (after ≡ ends ++ last ∷ []))

-- the register takes the first free place below the limit, up to the last point of its span
pub record Assigns (start : Start) (limit : ℕ) (ends : List ℕ) (at : List (Option Place)) (after : List ℕ) (placed : List (Option Place)) : Type 0 where
  pub rank : ℕ
  pub takes : Takes start.first start.last limit ends rank after
  pub stands : placed ≡ slice_set at start.register (Some (place_at rank))

-- its span starts earlier, or at the same point and its number is less
abbrev pub ComesBefore : Start → Start → Type 0
ComesBefore one other = (one.first < other.first) ⊎ ((one.first ≡ other.first) × (one.register < other.register))

-- in order of starts and then of numbers
abbrev pub Rises : List Start → Type 0
Rises starts = (i j : ℕ) (d : Start) → i < j → j < length starts → ComesBefore (slice_index_or starts i d) (slice_index_or starts j d)

-- for each place its group of 64 has a number, and no greater one
abbrev pub AreLeast : List ℕ → List ℕ → Type 0
AreLeast ends least = (j : ℕ) → j < length ends → (j / 64 < length least) × (slice_index least (j / 64) ≤ slice_index ends j)

-- the list has a number at the place, and it isn't greater
abbrev pub HasAtMost : List ℕ → ℕ → ℕ → Type 0
HasAtMost numbers place most = (place < length numbers) × (slice_index numbers place ≤ most)

-- no number has become greater, and none is gone
abbrev pub IsLowered : List ℕ → List ℕ → Type 0
IsLowered old new = (j : ℕ) → j < length old → HasAtMost new j (slice_index old j)
