-- Where registers are live, and spans that cover it.
use Rattle.std.specs.Prelude.{◌≡◌, ℕ, ◌+◌, ◌*◌, ◌⊎◌, Some}
use Rattle.std.specs.List.{Contains}
use Rattle.mir.specs.declared.code.MInst.{MInst}
use Rattle.mir.specs.declared.code.MFunction.{MFunction}
use Rattle.mir.specs.declared.places.Intervals.{Intervals}
use Rattle.mir.specs.Code.{reads, writes, inst_at, number_of, Follows}
use Rattle.mir.specs.Places.{Holds, span_of}

-- a walk of instructions from a place of a block reaches a read of the register before a write of it
pub data ReadFrom (f : MFunction) (r : ℕ) : ℕ → ℕ → Type 0 where
  reads_here : {block place : ℕ} (inst : MInst) → inst_at f block place ≡ Some inst → Contains (reads inst) r → ReadFrom f r block place
  goes_on : {block place block' place' : ℕ} (inst : MInst) → inst_at f block place ≡ Some inst → (Contains (writes inst) r → ⊥)
      → Follows f block place block' place' → ReadFrom f r block' place' → ReadFrom f r block place

-- instruction number i reads at point 2i and writes at point 2i + 1. A register is live at the point of reading where a walk from the
-- instruction reaches a read before a write, and at the point of writing where a walk from an instruction that may follow does
pub data IsLiveAt (f : MFunction) (r : ℕ) : ℕ → Type 0 where
  before : (block place : ℕ) → ReadFrom f r block place → IsLiveAt f r (2 * number_of f block place)
  behind : (block place block' place' : ℕ) → Follows f block place block' place' → ReadFrom f r block' place'
      → IsLiveAt f r (2 * number_of f block place + 1)

-- the register is written at the point
pub data IsWrittenAt (f : MFunction) (r : ℕ) : ℕ → Type 0 where
  writes_there : (block place : ℕ) (inst : MInst) → inst_at f block place ≡ Some inst → Contains (writes inst) r
      → IsWrittenAt f r (2 * number_of f block place + 1)

-- each register's span contains each point where it is live and each point where it is written
pub record Covers (f : MFunction) (intervals : Intervals) : Type 0 where
  pub live : (r point : ℕ) → IsLiveAt f r point → Holds intervals r point
  pub written : (r point : ℕ) → IsWrittenAt f r point → Holds intervals r point

-- the register is live or written at the point
abbrev pub IsInUse : MFunction → ℕ → ℕ → Type 0
IsInUse f r point = IsLiveAt f r point ⊎ IsWrittenAt f r point

-- no span is longer than it must be: at its first and at its last point its register is live or written, so that a register that never
-- is has no span
abbrev pub IsTight : MFunction → Intervals → Type 0
IsTight f intervals = (r first last : ℕ) → span_of intervals r ≡ Some (first, last) → IsInUse f r first × IsInUse f r last
