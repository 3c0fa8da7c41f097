-- Named types, each replaced by its definition.
use Rattle.std.specs.Prelude.{◌≡◌, ℕ, zero, suc, ◌+◌, ◌⊎◌, List, [], ◌∷◌, ◌++◌, Option, Some, None, slice_get, if◌then◌else◌}
use Rattle.ir_core.specs.Layout.{is_memory_width}
use Rattle.ir_flow.specs.First.{or_then}
use Rattle.ir_types.specs.declared.parts.Part.{Part}
use Rattle.ir_types.specs.declared.parts.Part.TheVariants as parts

-- the named types of a text in order, each with the parts of its definition; an `opaque` one has none
abbrev pub Definitions : Type 0
Definitions = List (Option (List Part))

abbrev pub flat_option : {A : Type 0} → Option (Option A) → Option A
flat_option None = None
flat_option (Some found) = found

abbrev pub definition : Definitions → ℕ → Option (List Part)
definition bodies n = flat_option (slice_get bodies n)

-- the one and then the other, where both are there
abbrev pub both : Option (List Part) → Option (List Part) → Option (List Part)
both None later = None
both (Some first) None = None
both (Some first) (Some later) = Some (first ++ later)

-- what stands for each part, one after another
unfoldable pub joined : (Part → Option (List Part)) → List Part → Option (List Part)
joined f [] = Some []
joined f (part ∷ more) = both (f part) (joined f more)

-- a name by what it stands for; any other part by itself
abbrev pub one_with : (ℕ → Option (List Part)) → Part → Option (List Part)
one_with named (parts.Named n left) = named n
one_with named (parts.Int w left) = Some (parts.Int w left ∷ [])
one_with named parts.Ptr = Some (parts.Ptr ∷ [])
one_with named (parts.Array count) = Some (parts.Array count ∷ [])
one_with named parts.Struct = Some (parts.Struct ∷ [])
one_with named parts.Packed = Some (parts.Packed ∷ [])
one_with named parts.Close = Some (parts.Close ∷ [])

abbrev pub over : (List Part → Option (List Part)) → Option (List Part) → Option (List Part)
over f None = None
over f (Some body) = f body

-- the definition of a named type, where names stand inside one another at most so deep, and each is replaced by its definition
unfoldable pub expansion : ℕ → Definitions → ℕ → Option (List Part)
expansion zero bodies n = None
expansion (suc depth) bodies n = over (joined (one_with (expansion depth bodies))) (definition bodies n)

-- parts, each name replaced by its definition
abbrev pub replaced : ℕ → Definitions → List Part → Option (List Part)
replaced depth bodies given = joined (one_with (expansion depth bodies)) given

-- how many types parts are made of: the end of a struct is none
abbrev pub nodes_of : Part → ℕ
nodes_of (parts.Int w left) = 1
nodes_of parts.Ptr = 1
nodes_of (parts.Array count) = 1
nodes_of parts.Struct = 1
nodes_of parts.Packed = 1
nodes_of parts.Close = 0
nodes_of (parts.Named n left) = 0

unfoldable pub node_count : List Part → ℕ
node_count [] = 0
node_count (part ∷ more) = nodes_of part + node_count more

-- the place of an integer that can't stand in memory
abbrev pub odd_of : Part → Option ℕ
odd_of (parts.Int w left) = if is_memory_width w then None else Some left
odd_of parts.Ptr = None
odd_of (parts.Array count) = None
odd_of parts.Struct = None
odd_of parts.Packed = None
odd_of parts.Close = None
odd_of (parts.Named n left) = None

-- the first of these places
unfoldable pub first_odd : List Part → Option ℕ
first_odd [] = None
first_odd (part ∷ more) = or_then (odd_of part) (first_odd more)

-- the name of a type stands in a definition
abbrev pub NamesAt : Definitions → ℕ → ℕ → ℕ → Type 0
NamesAt bodies within n left = (body : List Part) × (at : ℕ) × (definition bodies within ≡ Some body) × (slice_get body at ≡ Some (parts.Named n left))

abbrev pub Mentions : Definitions → ℕ → ℕ → Type 0
Mentions bodies within n = (left : ℕ) × NamesAt bodies within n left

-- a type is inside another, by names in definitions
pub data Holds (bodies : Definitions) : ℕ → ℕ → Type 0 where
  directly : {outer inner : ℕ} → Mentions bodies outer inner → Holds bodies outer inner
  further : {outer middle inner : ℕ} → Holds bodies outer middle → Mentions bodies middle inner → Holds bodies outer inner

-- a name in a definition is that of a type that isn't defined, or that holds itself
abbrev pub IsBadName : Definitions → ℕ → Type 0
IsBadName bodies left = (within : ℕ) × (n : ℕ) × NamesAt bodies within n left × ((definition bodies n ≡ None) ⊎ Holds bodies n n)
