-- What is known of types without writing them out.
use Rattle.std.specs.Prelude.{◌≡◌, ℕ, ◌+◌, max, nat_eq, nat_le, List, length, Option, Some, None, Result, Ok, Err, slice_get, if◌then◌else◌}
use Rattle.ir_flow.specs.First.{or_then}
use Rattle.ir_flow.specs.Limits.{capped}
use Rattle.ir_types.specs.declared.fault.Fault.{Fault}
use Rattle.ir_types.specs.declared.fault.Fault.TheVariants as faults
use Rattle.ir_types.specs.Walk.{◌>>=◌, walk}
use Rattle.ir_types.specs.declared.parts.Part.{Part}
use Rattle.ir_types.specs.declared.parts.Part.TheVariants as parts
use Rattle.ir_types.specs.declared.summary.Summary.{Summary}
use Rattle.ir_types.specs.declared.summary.Entry.{Entry}
use Rattle.ir_types.specs.declared.summary.Entry.TheVariants as entries
use Rattle.ir_types.specs.Replaced.{Definitions, definition, expansion, replaced, node_count, nodes_of, odd_of, first_odd, IsBadName}

-- what is known of the type of a name that stands here
abbrev pub known_of : ℕ → Option Entry → Result (Summary × ℕ) Fault
known_of left (Some (entries.Known summary root)) = Ok (summary, root)
known_of left (Some entries.Fresh) = Err (faults.Name left)
known_of left (Some entries.Open) = Err (faults.Name left)
known_of left None = Err (faults.Name left)

abbrev pub with_named : Summary → Summary → Summary
with_named before named = record { nodes = capped (before.nodes + named.nodes); odd = or_then before.odd named.odd; rank = max before.rank named.rank }

abbrev pub with_part : Summary → Part → Summary
with_part before part = record { nodes = capped (before.nodes + nodes_of part); odd = or_then before.odd (odd_of part); rank = before.rank }

-- one more part, by what is known of named types
unfoldable pub summary_step : List Entry → Summary → Part → Result Summary Fault
summary_step known before (parts.Named n left) = known_of left (slice_get known n) >>= λ named. Ok (with_named before named.0)
summary_step known before (parts.Int w left) = Ok (with_part before (parts.Int w left))
summary_step known before parts.Ptr = Ok (with_part before parts.Ptr)
summary_step known before (parts.Array count) = Ok (with_part before (parts.Array count))
summary_step known before parts.Struct = Ok (with_part before parts.Struct)
summary_step known before parts.Packed = Ok (with_part before parts.Packed)
summary_step known before parts.Close = Ok (with_part before parts.Close)

abbrev pub no_parts : Summary
no_parts = record { nodes = 0; odd = None; rank = 0 }

-- the summary of parts
unfoldable pub summary_of : List Entry → List Part → Result Summary Fault
summary_of known given = walk (summary_step known) no_parts given

-- the type that stands for one whose definition is this name alone
abbrev pub root_in : ℕ → ℕ → Option Entry → ℕ
root_in own rank (Some (entries.Known summary root)) = if nat_le summary.rank rank then root else own
root_in own rank (Some entries.Fresh) = own
root_in own rank (Some entries.Open) = own
root_in own rank None = own

abbrev pub root_at : List Entry → ℕ → ℕ → Option Part → ℕ
root_at known own rank (Some (parts.Named n left)) = root_in own rank (slice_get known n)
root_at known own rank (Some (parts.Int w left)) = own
root_at known own rank (Some parts.Ptr) = own
root_at known own rank (Some (parts.Array count)) = own
root_at known own rank (Some parts.Struct) = own
root_at known own rank (Some parts.Packed) = own
root_at known own rank (Some parts.Close) = own
root_at known own rank None = own

-- the type that stands for this one
abbrev pub root_of : List Entry → ℕ → ℕ → List Part → ℕ
root_of known own rank body = if nat_eq (length body) 1 then root_at known own rank (slice_get body 0) else own

-- what is known of a named type follows from its definition, by what is known of the types that this names
abbrev pub Follows : Definitions → List Entry → ℕ → Summary → ℕ → Type 0
Follows bodies known n summary root =
    (body : List Part) × (sum : Summary) × (definition bodies n ≡ Some body) × (summary_of known body ≡ Ok sum)
    × (summary ≡ record { nodes = sum.nodes; odd = sum.odd; rank = sum.rank + 1 }) × (root ≡ root_of known n sum.rank body)

-- a summary tells of parts with names replaced: how many types there are, up to the greatest number of 64 bits, the first
-- integer that can't stand in memory, and how deep names stand inside one another
abbrev pub Tells : Summary → List Part → Type 0
Tells summary flat = (summary.nodes ≡ capped (node_count flat)) × (summary.odd ≡ first_odd flat)

abbrev pub IsSummary : Definitions → List Part → Summary → Type 0
IsSummary bodies given summary = (flat : List Part) × (replaced summary.rank bodies given ≡ Some flat) × Tells summary flat

-- what is known of a named type: its summary, and a type whose definition says the same
abbrev pub IsKnown : Definitions → ℕ → Summary → ℕ → Type 0
IsKnown bodies n summary root =
    (flat : List Part) × (expansion summary.rank bodies n ≡ Some flat) × (expansion summary.rank bodies root ≡ Some flat) × Tells summary flat

-- every named type with a definition is known, as it follows from the definitions, and no other
pub record AreResolved (bodies : Definitions) (known : List Entry) : Type 0 where
  pub size : length known ≡ length bodies
  pub right : (n : ℕ) (summary : Summary) (root : ℕ) → slice_get known n ≡ Some (entries.Known summary root) → IsKnown bodies n summary root
  pub follows : (n : ℕ) (summary : Summary) (root : ℕ) → slice_get known n ≡ Some (entries.Known summary root) → Follows bodies known n summary root
  pub idle : (n : ℕ) (entry : Entry) → definition bodies n ≡ None → slice_get known n ≡ Some entry → entry ≡ entries.Fresh
  pub whole : (n : ℕ) (body : List Part) → definition bodies n ≡ Some body → (summary : Summary) × (root : ℕ) × (slice_get known n ≡ Some (entries.Known summary root))

-- why named types can't be resolved
abbrev pub IsUnresolved : Definitions → Fault → Type 0
IsUnresolved bodies faults.NoMemory = Unit {0}
IsUnresolved bodies (faults.Name left) = IsBadName bodies left
IsUnresolved bodies (faults.Syntax left) = ⊥
IsUnresolved bodies (faults.LeftOut left) = ⊥
IsUnresolved bodies (faults.Limit what count) = ⊥

abbrev pub IsResolution : Definitions → Result (List Entry) Fault → Type 0
IsResolution bodies (Ok known) = AreResolved bodies known
IsResolution bodies (Err fault) = IsUnresolved bodies fault
