-- The search for where registers are live: what its steps keep.
use Rattle.std.specs.Prelude.{◌≡◌, ℕ, ◌+◌, ◌<◌, ◌⊎◌, min, max, Bool, true, false, List, [], length, replicate, sum_by, slice_index_or, Option, Some, None, if◌then◌else◌}
use Rattle.std.specs.List.{Contains}
use Rattle.rj_num.specs.Sets.{has}
use Rattle.mir.specs.Places.{Holds}
use Rattle.liveness.specs.declared.search.Search.{Search}

-- the least span with a point more
abbrev pub hull_of : Option (ℕ × ℕ) → ℕ → ℕ × ℕ
hull_of None point = (point, point)
hull_of (Some span) point = (min span.0 point, max span.1 point)

-- the register's span contains the point
abbrev pub HasPoint : Search → ℕ → ℕ → Type 0
HasPoint search r point = Holds (record { spans = search.spans.items }) r point

-- the register was found live where the block begins
abbrev pub IsFound : Search → ℕ → ℕ → Type 0
IsFound search block r = has (slice_index_or search.live.items block []) r ≡ true

-- the point is the first or the last of the register's span
abbrev pub IsEnd : Search → ℕ → ℕ → Type 0
IsEnd search r point = (first : ℕ) × (last : ℕ) × (slice_index_or search.spans.items r None ≡ Some (first, last)) × ((point ≡ first) ⊎ (point ≡ last))

-- how many numbers a set doesn't have
abbrev pub missing : List Bool → ℕ
missing set = sum_by (λ flag. if flag then 0 else 1) set

-- how often the search looks back from here on at most: once for each pair on the list of work, and once for each that it may yet find
abbrev pub looks_left : Search → ℕ
looks_left search = length search.work.items + sum_by missing search.live.items

-- spans and sets have only grown
pub record Grows (old new : Search) : Type 0 where
  pub registers : length new.spans.items ≡ length old.spans.items
  pub blocks : length new.live.items ≡ length old.live.items
  pub sizes : (b : ℕ) → length (slice_index_or new.live.items b []) ≡ length (slice_index_or old.live.items b [])
  pub points : (r point : ℕ) → HasPoint old r point → HasPoint new r point
  pub found : (b r : ℕ) → IsFound old b r → IsFound new b r

-- so has the list of work, which has what was found anew, once, and nothing that wasn't
pub record Extends (old new : Search) : Type 0 where
  pub grows : Grows old new
  pub work : (x : ℕ × ℕ) → Contains old.work.items x → Contains new.work.items x
  pub listed : (b r : ℕ) → IsFound new b r → IsFound old b r ⊎ Contains new.work.items (r, b)
  pub real : (x : ℕ × ℕ) → Contains new.work.items x → Contains old.work.items x ⊎ IsFound new x.1 x.0
  pub once : looks_left new ≡ looks_left old

-- what is new lies within bounds: each end that a span didn't have is such a point of its register, and each pair of a block and a
-- register that wasn't found is such a pair
pub record Adds (points pairs : ℕ → ℕ → Type 0) (old new : Search) : Type 0 where
  pub ends : (r point : ℕ) → IsEnd new r point → IsEnd old r point ⊎ points r point
  pub finds : (b r : ℕ) → IsFound new b r → IsFound old b r ⊎ pairs b r

-- there is a span for each register, and for each block a set of registers
pub record IsSized (search : Search) (blocks regs : ℕ) : Type 0 where
  pub registers : length search.spans.items ≡ regs
  pub blocks_sized : length search.live.items ≡ blocks
  pub sizes : (b : ℕ) → b < blocks → length (slice_index_or search.live.items b []) ≡ regs

-- no register has a span, none was found, and no work is left
pub record StartsEmpty (search : Search) (blocks regs : ℕ) : Type 0 where
  pub spans : search.spans.items ≡ replicate regs None
  pub live : search.live.items ≡ replicate blocks (replicate regs false)
  pub work : search.work.items ≡ []
