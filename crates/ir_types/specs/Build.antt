-- The type of memory that parts say, and the types that are open while it is made.
use Rattle.std.specs.Prelude.{ℕ, zero, suc, true, false, List, [], ◌∷◌, ◌++◌, reverse, Some, None, is_some, Result, Ok, Err, slice_get, if◌then◌else◌}
use Rattle.ir_core.specs.declared.types.MemTy.{MemTy}
use Rattle.ir_core.specs.declared.types.MemTy as types
use Rattle.ir_types.specs.declared.fault.Fault.{Fault}
use Rattle.ir_types.specs.declared.fault.Fault.TheVariants as faults
use Rattle.ir_types.specs.Walk.{◌>>=◌, or_fault, walk}
use Rattle.ir_types.specs.declared.parts.Part.{Part}
use Rattle.ir_types.specs.declared.parts.Part.TheVariants as parts
use Rattle.ir_types.specs.declared.summary.Entry.{Entry}
use Rattle.ir_types.specs.declared.build.OpenType.{OpenType}
use Rattle.ir_types.specs.declared.build.OpenType.TheVariants as opens
use Rattle.ir_types.specs.declared.build.Builder.{Builder}
use Rattle.ir_types.specs.Replaced.{Definitions, definition}
use Rattle.ir_types.specs.Summaries.{known_of}

-- a type that is whole, in the open ones around it, the innermost one first: an array is whole with its element, a struct goes on
unfoldable pub completed : MemTy → List OpenType → Builder
completed ty [] = record { outer = []; done = Some ty }
completed ty (opens.Array count ∷ around) = completed (types.Array count ty) around
completed ty (opens.Struct fields packed ∷ around) = record { outer = reverse around ++ opens.Struct (fields ++ ty ∷ []) packed ∷ []; done = None }

-- where a struct ends
abbrev pub closed : List OpenType → Result Builder Fault
closed [] = Err (faults.Syntax 0)
closed (opens.Array count ∷ around) = Err (faults.Syntax 0)
closed (opens.Struct fields packed ∷ around) = Ok (completed (types.Struct fields packed) around)

abbrev pub begun : List OpenType → OpenType → Builder
begun outer one = record { outer = outer ++ one ∷ []; done = None }

-- a part that is no name
unfoldable pub plain_part : List OpenType → Part → Result Builder Fault
plain_part outer (parts.Int w left) = Ok (completed (types.Int w) (reverse outer))
plain_part outer parts.Ptr = Ok (completed types.Ptr (reverse outer))
plain_part outer (parts.Array count) = Ok (begun outer (opens.Array count))
plain_part outer parts.Struct = Ok (begun outer (opens.Struct [] false))
plain_part outer parts.Packed = Ok (begun outer (opens.Struct [] true))
plain_part outer parts.Close = closed (reverse outer)
plain_part outer (parts.Named n left) = Err (faults.Name left)

-- one more part; nothing comes behind a whole type
unfoldable pub build_step : Builder → Part → Result Builder Fault
build_step before part = if is_some before.done then Err (faults.Syntax 0) else plain_part before.outer part

-- one more part, a name by what it stands for
abbrev pub place_with : (Builder → ℕ → ℕ → Result Builder Fault) → Builder → Part → Result Builder Fault
place_with named before (parts.Named n left) = named before n left
place_with named before (parts.Int w left) = build_step before (parts.Int w left)
place_with named before parts.Ptr = build_step before parts.Ptr
place_with named before (parts.Array count) = build_step before (parts.Array count)
place_with named before parts.Struct = build_step before parts.Struct
place_with named before parts.Packed = build_step before parts.Packed
place_with named before parts.Close = build_step before parts.Close

-- a name as the parts of its definition, where names stand inside one another at most so deep
unfoldable pub place_named : ℕ → Definitions → List Entry → Builder → ℕ → ℕ → Result Builder Fault
place_named zero bodies known before n left = Err (faults.Name left)
place_named (suc depth) bodies known before n left =
    known_of left (slice_get known n) >>= λ found. or_fault (faults.Name left) (definition bodies found.1) >>= λ body. walk (place_with (place_named depth bodies known)) before body

abbrev pub place : ℕ → Definitions → List Entry → Builder → List Part → Result Builder Fault
place depth bodies known before given = walk (place_with (place_named depth bodies known)) before given

-- the type of memory that parts say
unfoldable pub built : ℕ → Definitions → List Entry → List Part → Result MemTy Fault
built depth bodies known given = place depth bodies known (record { outer = []; done = None }) given >>= λ whole. or_fault (faults.Syntax 0) whole.done
