-- What is known once blocks were read, and once the search is done.
use Rattle.std.specs.Prelude.{◌≡◌, ℕ, ◌+◌, ◌-◌, ◌*◌, ◌<◌, ◌≤◌, ◌⊎◌, Bool, true, false, List, [], length, slice_get, slice_index, slice_index_or, Option, Some, None}
use Rattle.std.specs.List.{Contains}
use Rattle.rj_num.specs.Sets.{has}
use Rattle.mir.specs.declared.code.MInst.{MInst}
use Rattle.mir.specs.Code.{reads, writes, targets, count_before}
use Rattle.liveness.specs.declared.search.Search.{Search}
use Rattle.liveness.specs.Search.{HasPoint, IsFound, IsEnd, Extends, Adds}

-- for each of the first so many blocks and behind them how many instructions come before, which points can count
pub record IsNumbering (blocks : List (List MInst)) (count : ℕ) (numbers : List ℕ) : Type 0 where
  pub size : length numbers ≡ count + 1
  pub each : (b : ℕ) → b ≤ count → slice_index numbers b ≡ count_before blocks b
  pub most : (b : ℕ) → b ≤ count → count_before blocks b < 2147483648

abbrev pub targets_of : Option MInst → List ℕ
targets_of None = []
targets_of (Some inst) = targets inst

-- where the last instruction of a block goes
abbrev pub last_targets : List MInst → List ℕ
last_targets block = targets_of (slice_get block (length block - 1))

-- each target is one of so many blocks
abbrev pub HasTargets : List (List MInst) → Type 0
HasTargets blocks = (b to : ℕ) → Contains (last_targets (slice_index_or blocks b [])) to → to < length blocks

-- each of these lists has the block, and nothing else was added to any list
pub record AddsSource (old : List (List ℕ)) (targets : List ℕ) (from : ℕ) (new : List (List ℕ)) : Type 0 where
  pub size : length new ≡ length old
  pub kept : (to x : ℕ) → Contains (slice_index_or old to []) x → Contains (slice_index_or new to []) x
  pub added : (to : ℕ) → Contains targets to → Contains (slice_index_or new to []) from
  pub only : (to x : ℕ) → Contains (slice_index_or new to []) x → Contains (slice_index_or old to []) x ⊎ ((x ≡ from) × Contains targets to)

-- for each block exactly those of the first so many blocks that go there
pub record AreSources (blocks : List (List MInst)) (count : ℕ) (sources : List (List ℕ)) : Type 0 where
  pub size : length sources ≡ length blocks
  pub all : (from to : ℕ) → from < count → Contains (last_targets (slice_index_or blocks from [])) to → Contains (slice_index_or sources to []) from
  pub only : (from to : ℕ) → Contains (slice_index_or sources to []) from → (from < count) × Contains (last_targets (slice_index_or blocks from [])) to

-- one of the first so many instructions of the block writes the register
abbrev pub IsWrittenBefore : List MInst → ℕ → ℕ → Type 0
IsWrittenBefore block place r = (j : ℕ) × (inst : MInst) × (j < place) × (slice_get block j ≡ Some inst) × Contains (writes inst) r

-- one of the first so many instructions of the block reads the register, and none before it writes it
abbrev pub IsReadFirst : List MInst → ℕ → ℕ → Type 0
IsReadFirst block count r = (j : ℕ) × (inst : MInst) × (j < count) × (slice_get block j ≡ Some inst) × Contains (reads inst) r × (IsWrittenBefore block j r → ⊥)

-- one of the first so many instructions of the block, whose first has a number, reads or writes the register at the point
abbrev pub IsUsedIn : List MInst → ℕ → ℕ → ℕ → ℕ → Type 0
IsUsedIn block count first r point = (j : ℕ) × (inst : MInst) × (j < count) × (slice_get block j ≡ Some inst)
    × ((Contains (reads inst) r × (point ≡ 2 * (first + j))) ⊎ (Contains (writes inst) r × (point ≡ 2 * (first + j) + 1)))

-- from where the block begins on the register is read before it is written, in the block or in one that comes behind it
pub data IsNeeded (blocks : List (List MInst)) (r : ℕ) : ℕ → Type 0 where
  read_within : (b : ℕ) → IsReadFirst (slice_index_or blocks b []) (length (slice_index_or blocks b [])) r → IsNeeded blocks r b
  read_behind : (b to : ℕ) → Contains (last_targets (slice_index_or blocks b [])) to
      → (IsWrittenBefore (slice_index_or blocks b []) (length (slice_index_or blocks b [])) r → ⊥) → IsNeeded blocks r to → IsNeeded blocks r b

-- points that a register's span has to have: of reads and writes, the first of a block where it is needed, and the last of one that
-- goes to such a block
pub data IsUse (blocks : List (List MInst)) (r : ℕ) : ℕ → Type 0 where
  used : (b point : ℕ) → IsUsedIn (slice_index_or blocks b []) (length (slice_index_or blocks b [])) (count_before blocks b) r point → IsUse blocks r point
  entered : (b : ℕ) → IsNeeded blocks r b → IsUse blocks r (2 * count_before blocks b)
  departed : (b to : ℕ) → Contains (last_targets (slice_index_or blocks b [])) to → IsNeeded blocks r to → IsUse blocks r (2 * count_before blocks (b + 1) - 1)

-- the first so many instructions of a block were read: each read and write is in its register's span, each register that is read before
-- it is written was found live where the block begins, and those that were written are known
pub record IsRead (search : Search) (written : List Bool) (block : List MInst) (number count : ℕ) (first : ℕ) : Type 0 where
  pub reads_held : (j : ℕ) (inst : MInst) (r : ℕ) → j < count → slice_get block j ≡ Some inst → Contains (reads inst) r → HasPoint search r (2 * (first + j))
  pub reads_found : (j : ℕ) (inst : MInst) (r : ℕ) → j < count → slice_get block j ≡ Some inst → Contains (reads inst) r
      → IsWrittenBefore block j r ⊎ IsFound search number r
  pub writes_held : (j : ℕ) (inst : MInst) (r : ℕ) → j < count → slice_get block j ≡ Some inst → Contains (writes inst) r → HasPoint search r (2 * (first + j) + 1)
  pub exact : (r : ℕ) → has written r ≡ true → IsWrittenBefore block count r
  pub all : (r : ℕ) → IsWrittenBefore block count r → has written r ≡ true

-- the first so many blocks were read
abbrev pub AreRead : Search → List (List Bool) → List (List MInst) → ℕ → Type 0
AreRead search written blocks count = (b : ℕ) → b < count
    → IsRead search (slice_index_or written b []) (slice_index_or blocks b []) b (length (slice_index_or blocks b [])) (count_before blocks b)

-- the sets have what each block writes
abbrev pub KnowsWritten : List (List MInst) → List (List Bool) → Type 0
KnowsWritten blocks written = (b r : ℕ) → b < length blocks → IsWrittenBefore (slice_index_or blocks b []) (length (slice_index_or blocks b [])) r
    → has (slice_index_or written b []) r ≡ true

-- what comes before a register that is live where a block begins: the span has the block's first point and the last of each block that
-- goes there, and the register is written in that block or live where it begins
pub record IsDone (blocks : List (List MInst)) (sources : List (List ℕ)) (written : List (List Bool)) (search : Search) (b r : ℕ) : Type 0 where
  pub start : HasPoint search r (2 * count_before blocks b)
  pub back : (from : ℕ) → Contains (slice_index_or sources b []) from → HasPoint search r (2 * count_before blocks (from + 1) - 1)
  pub source : (from : ℕ) → Contains (slice_index_or sources b []) from → (has (slice_index_or written from []) r ≡ true) ⊎ IsFound search from r

-- all that was found is done or on the list of work, which has nothing else; no register was found live where it isn't needed, and no
-- span ends where it need not
pub record Searches (blocks : List (List MInst)) (sources : List (List ℕ)) (written : List (List Bool)) (search : Search) : Type 0 where
  pub done_or_listed : (b r : ℕ) → IsFound search b r → Contains search.work.items (r, b) ⊎ IsDone blocks sources written search b r
  pub real : (x : ℕ × ℕ) → Contains search.work.items x → IsFound search x.1 x.0
  pub needed : (b r : ℕ) → IsFound search b r → IsNeeded blocks r b
  pub ends : (r point : ℕ) → IsEnd search r point → IsUse blocks r point

-- registers were read at a point: each has it in its span, and is written before or was found live where the block begins
pub record NotesReads (old : Search) (written : List Bool) (registers : List ℕ) (block point : ℕ) (new : Search) : Type 0 where
  pub extends : Extends old new
  pub held : (r : ℕ) → Contains registers r → HasPoint new r point
  pub found : (r : ℕ) → Contains registers r → (has written r ≡ true) ⊎ IsFound new block r
  pub adds : Adds (λ r at. Contains registers r × (at ≡ point)) (λ b r. (b ≡ block) × Contains registers r × (has written r ≡ false)) old new

-- registers were written at a point: each has it in its span, and these alone were added to those that are written
pub record NotesWrites (old : Search) (written : List Bool) (registers : List ℕ) (point : ℕ) (new : Search) (after : List Bool) : Type 0 where
  pub extends : Extends old new
  pub size : length after ≡ length written
  pub held : (r : ℕ) → Contains registers r → HasPoint new r point
  pub only : (r : ℕ) → has after r ≡ true → (has written r ≡ true) ⊎ Contains registers r
  pub all : (r : ℕ) → (has written r ≡ true) ⊎ Contains registers r → has after r ≡ true
  pub adds : Adds (λ r at. Contains registers r × (at ≡ point)) (λ b r. ⊥) old new

-- an instruction was read: first what it reads at a point, then what it writes at the next
pub record ReadsInst (old : Search) (written : List Bool) (inst : MInst) (block point : ℕ) (new : Search) (after : List Bool) : Type 0 where
  pub between : Search
  pub noted : NotesReads old written (reads inst) block point between
  pub wrote : NotesWrites between written (writes inst) (point + 1) new after

-- the registers that the block's instructions name are below a number
abbrev pub HasRegisters : ℕ → List MInst → Type 0
HasRegisters regs block = (j : ℕ) (inst : MInst) → slice_get block j ≡ Some inst
    → ((r : ℕ) → Contains (reads inst) r → r < regs) × ((r : ℕ) → Contains (writes inst) r → r < regs)

-- there is a set for each block, with room for each register
pub record HaveSizes (blocks regs : ℕ) (sets : List (List Bool)) : Type 0 where
  pub size : length sets ≡ blocks
  pub each : (b : ℕ) → b < blocks → length (slice_index_or sets b []) ≡ regs

-- the last points of these blocks, for one register
abbrev pub IsLastOf : List ℕ → List ℕ → ℕ → ℕ → ℕ → Type 0
IsLastOf sources numbers r q point = (q ≡ r) × (from : ℕ) × Contains sources from × (point ≡ 2 * slice_index numbers (from + 1) - 1)

-- those of these blocks that don't write it
abbrev pub IsUnwritten : List (List Bool) → List ℕ → ℕ → ℕ → ℕ → Type 0
IsUnwritten written sources r b q = (q ≡ r) × Contains sources b × (has (slice_index_or written b []) r ≡ false)

-- these blocks were looked at: the span has the last point of each, in which the register is written or where it was found live
pub record LooksAt (old : Search) (written : List (List Bool)) (sources numbers : List ℕ) (r : ℕ) (new : Search) : Type 0 where
  pub extends : Extends old new
  pub back : (from : ℕ) → Contains sources from → HasPoint new r (2 * slice_index numbers (from + 1) - 1)
  pub source : (from : ℕ) → Contains sources from → (has (slice_index_or written from []) r ≡ true) ⊎ IsFound new from r
  pub adds : Adds (IsLastOf sources numbers r) (IsUnwritten written sources r) old new

-- the same for the blocks that go to one, and the span has the point too
pub record LooksBack (old : Search) (written : List (List Bool)) (sources numbers : List ℕ) (r point : ℕ) (new : Search) : Type 0 where
  pub extends : Extends old new
  pub start : HasPoint new r point
  pub back : (from : ℕ) → Contains sources from → HasPoint new r (2 * slice_index numbers (from + 1) - 1)
  pub source : (from : ℕ) → Contains sources from → (has (slice_index_or written from []) r ≡ true) ⊎ IsFound new from r
  pub adds : Adds (λ q at. ((q ≡ r) × (at ≡ point)) ⊎ IsLastOf sources numbers r q at) (IsUnwritten written sources r) old new

-- all blocks were read, what comes before each register that is live where a block begins is done, and spans end where they must
pub record IsFinished (blocks : List (List MInst)) (search : Search) : Type 0 where
  pub written : List (List Bool)
  pub sources : List (List ℕ)
  pub are : AreSources blocks (length blocks) sources
  pub read : AreRead search written blocks (length blocks)
  pub done : (b r : ℕ) → IsFound search b r → IsDone blocks sources written search b r
  pub ends : (r point : ℕ) → IsEnd search r point → IsUse blocks r point
