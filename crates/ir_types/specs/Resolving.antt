-- Named types while they are resolved: a walk through definitions, the innermost one last.
use Rattle.std.specs.Prelude.{◌≡◌, ◌≤◌, ℕ, suc, Bool, false, nat_eq, nat_le, List, [], length, take, Option, Some, None, Result, Ok, Err, slice_get, if◌then◌else◌}
use Rattle.ir_types.specs.declared.fault.Fault.{Fault}
use Rattle.ir_types.specs.declared.parts.Part.{Part}
use Rattle.ir_types.specs.declared.parts.Part.TheVariants as parts
use Rattle.ir_types.specs.declared.summary.Summary.{Summary}
use Rattle.ir_types.specs.declared.summary.Entry.{Entry}
use Rattle.ir_types.specs.declared.summary.Entry.TheVariants as entries
use Rattle.ir_types.specs.declared.resolve.Frame.{Frame}
use Rattle.ir_types.specs.declared.resolve.Resolver.{Resolver}
use Rattle.ir_types.specs.Replaced.{Definitions, definition, Mentions}
use Rattle.ir_types.specs.Summaries.{summary_of, IsSummary, IsKnown, Follows, IsUnresolved}

-- a definition is gone through up to a position, and the summary is that of what stands before it
abbrev pub IsRun : Definitions → Frame → Type 0
IsRun bodies frame = (body : List Part) × (definition bodies frame.ty ≡ Some body) × IsSummary bodies (take frame.position body) frame.summary

-- the summary is what is known of the parts before the position
abbrev pub IsCounted : Definitions → List Entry → Frame → Type 0
IsCounted bodies known frame = (body : List Part) × (definition bodies frame.ty ≡ Some body) × (summary_of known (take frame.position body) ≡ Ok frame.summary)

-- what is known is right and follows from definitions; what is open is being gone through; each definition that is gone through names the next
pub record Sound (bodies : Definitions) (known : List Entry) (frames : List Frame) : Type 0 where
  pub size : length known ≡ length bodies
  pub right : (n : ℕ) (summary : Summary) (root : ℕ) → slice_get known n ≡ Some (entries.Known summary root) → IsKnown bodies n summary root
  pub follows : (n : ℕ) (summary : Summary) (root : ℕ) → slice_get known n ≡ Some (entries.Known summary root) → Follows bodies known n summary root
  pub idle : (n : ℕ) (entry : Entry) → definition bodies n ≡ None → slice_get known n ≡ Some entry → entry ≡ entries.Fresh
  pub opened : (n : ℕ) → slice_get known n ≡ Some entries.Open → (at : ℕ) × (frame : Frame) × (slice_get frames at ≡ Some frame) × (frame.ty ≡ n)
  pub runs : (at : ℕ) (frame : Frame) → slice_get frames at ≡ Some frame → IsRun bodies frame
  pub counted : (at : ℕ) (frame : Frame) → slice_get frames at ≡ Some frame → IsCounted bodies known frame
  pub linked : (at : ℕ) (lower upper : Frame) → slice_get frames at ≡ Some lower → slice_get frames (suc at) ≡ Some upper → Mentions bodies lower.ty upper.ty

-- a part stands at the position to which a definition is gone through
abbrev pub IsAt : Definitions → Frame → Part → Type 0
IsAt bodies frame part = (body : List Part) × (definition bodies frame.ty ≡ Some body) × (slice_get body frame.position ≡ Some part)

-- what isn't touched now wasn't before
abbrev pub Touches : List Entry → List Entry → Type 0
Touches before after = (n : ℕ) → slice_get after n ≡ Some entries.Fresh → slice_get before n ≡ Some entries.Fresh

abbrev pub Moved : {A : Type 0} → Definitions → List Entry → Resolver → Result A Fault → Type 0
Moved bodies before after (Ok done) = Sound bodies after.entries after.frames × Touches before after.entries
Moved bodies before after (Err fault) = IsUnresolved bodies fault

-- whether something is left to be gone through
abbrev pub Turned : Definitions → List Entry → Resolver → Result Bool Fault → Type 0
Turned bodies before after (Ok more) = Sound bodies after.entries after.frames × Touches before after.entries × (more ≡ false → after.frames ≡ [])
Turned bodies before after (Err fault) = IsUnresolved bodies fault

-- nothing is left to be gone through
abbrev pub Settled : Definitions → List Entry → Resolver → Result (Unit {0}) Fault → Type 0
Settled bodies before after (Ok done) = Sound bodies after.entries after.frames × Touches before after.entries × (after.frames ≡ [])
Settled bodies before after (Err fault) = IsUnresolved bodies fault

-- a type was touched, if it has a definition
abbrev pub IsTouched : Definitions → List Entry → ℕ → Type 0
IsTouched bodies known n = (body : List Part) → definition bodies n ≡ Some body → slice_get known n ≡ Some entries.Fresh → ⊥

-- nothing is left to be gone through, and this type was touched
abbrev pub Started : Definitions → ℕ → List Entry → Resolver → Result (Unit {0}) Fault → Type 0
Started bodies n before after (Ok done) = Sound bodies after.entries after.frames × Touches before after.entries × (after.frames ≡ []) × IsTouched bodies after.entries n
Started bodies n before after (Err fault) = IsUnresolved bodies fault

-- the first so many types were touched
abbrev pub AreTouched : Definitions → List Entry → ℕ → Type 0
AreTouched bodies known count = (n : ℕ) (body : List Part) → suc n ≤ count → definition bodies n ≡ Some body → slice_get known n ≡ Some entries.Fresh → ⊥
