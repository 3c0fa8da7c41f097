-- What events on the code state lead to: each makes at most one step on a shared word.
use Rattle.std.specs.Prelude.{◌≡◌, ◌≢◌, ℕ, ◌++◌, ◌∷◌, List, [], ◌⊎◌, slice_set}
use Rattle.ir_meaning.specs.Plays.{Meaning}
use Rattle.rv_play.specs.declared.version.Version.{Version}
use Rattle.code_epochs.specs.declared.parts.HartPart.{HartPart}
use Rattle.code_epochs.specs.declared.parts.Draft.{Draft}
use Rattle.code_epochs.specs.declared.state.VersionState.{VersionState}
use Rattle.code_epochs.specs.Sound.{At, Whole}
use Rattle.code_epochs.specs.Steps.{IsActive, IsIdle, IsHere, cell_held, word_seen, epoch_loaded, epoch_announced, gone_idle, CanBegin, draft_begun, IsNext, word_stored, IsComplete, cell_swapped, IsUnlinked, epoch_raised, IsPending, marked_by, hart_looked, AllPassed, header_cleared}
use Rattle.jit_core.specs.declared.event.Event.{Event}
use Rattle.jit_core.specs.declared.event.Event.TheVariants.{Hart, Keeper, Order}
use Rattle.jit_core.specs.declared.event.Stepped.{Stepped}
use Rattle.jit_core.specs.declared.event.Stepped.TheVariants.{Moved, Taken, Nothing, Busy, Refused}

-- one step of the hart with this number: it changes one shared word at most, and what this hart knows
pub data HartStep (x : Whole) (h : ℕ) : Whole → Type 0 where
  loads_epoch : (p : HartPart) → IsIdle x h p → IsHere x h → HartStep x h (epoch_loaded x h p x.epoch)
  announces : (p : HartPart) → IsIdle x h p → IsHere x h → HartStep x h (epoch_announced x h p)
  loads_cell : (p : HartPart) (word symbol base : ℕ) → IsActive x h p word → At x.cells symbol base → HartStep x h (cell_held x h p symbol base)
  loads_word : (p : HartPart) (word place found : ℕ) → IsActive x h p word → At x.code place found → HartStep x h (word_seen x h p place found)
  goes_idle : (p : HartPart) (word : ℕ) → IsActive x h p word → HartStep x h (gone_idle x h p)

-- what the keeper's step is for: the version that is being stored, or the version with this number; a look is at a hart
pub data Task : Type 0 where
  lay_draft : Task
  raise_for : ℕ → Task
  clear_of : ℕ → Task
  look_at : ℕ → ℕ → Task

-- One step of the keeper: the header of a good version begins a draft, a word of the draft is stored, or the complete draft is linked;
-- the epoch is raised for an unlinked version, a hart's word is looked at for a pending one, or the header of a pending one that all harts have passed is cleared.
pub data KeeperStep (m : Meaning) (x : Whole) : Task → Whole → Type 0 where
  stores_header : (v : Version) (base : ℕ) → CanBegin m x v.symbol base v.words → KeeperStep m x lay_draft (draft_begun x v.symbol v.level base v.words)
  stores_next : (d : Draft) (word : ℕ) → IsNext x d word → KeeperStep m x lay_draft (word_stored x d word)
  swaps_cell : (d : Draft) → IsComplete x d → KeeperStep m x lay_draft (cell_swapped x d)
  raises_epoch : (i : ℕ) (v : VersionState) → IsUnlinked x i v → KeeperStep m x (raise_for i) (epoch_raised x i v)
  looks_at : (i : ℕ) (v : VersionState) (tag passed h found : ℕ) → IsPending x i v tag passed → At x.announced h found → KeeperStep m x (look_at i h) (hart_looked x i v tag (marked_by tag passed h found) h found)
  clears_header : (i : ℕ) (v : VersionState) (tag passed : ℕ) → IsPending x i v tag passed → AllPassed x passed → KeeperStep m x (clear_of i) (header_cleared x i v)

-- what the event has led to, where it was answered so. An order alone changes nothing that is shared
abbrev pub Leads : Meaning → Whole → Event → Stepped → Whole → Type 0
Leads m x (Hart h) Moved y = HartStep x h y
Leads m x (Hart h) Nothing y = y ≡ x
Leads m x Keeper Moved y = (task : Task) × KeeperStep m x task y
Leads m x Keeper Nothing y = y ≡ x
Leads m x (Order v) Taken y = y ≡ x
Leads m x (Order v) (Busy w) y = (w ≡ v) × (y ≡ x)
Leads m x (Order v) (Refused w cause) y = (w ≡ v) × (y ≡ x)
Leads m x _ _ y = ⊥

-- an event with its answer
pub record Told : Type 0 where
  pub event : Event
  pub answer : Stepped

-- what a list of events, each with its answer, leads to
abbrev pub Runs : Meaning → Whole → List Told → Whole → Type 0
Runs m x [] z = z ≡ x
Runs m x (t ∷ told) z = (y : Whole) × Leads m x t.event t.answer y × Runs m y told z

-- the shared words: the epoch, the cells, the harts' words and the code
abbrev pub shared_words : Whole → List ℕ
shared_words x = x.epoch ∷ (x.cells ++ (x.announced ++ x.code))

-- at most one of these numbers has changed
abbrev pub OneChanged : List ℕ → List ℕ → Type 0
OneChanged old new = (new ≡ old) ⊎ ((i : ℕ) × (n : ℕ) × (new ≡ slice_set old i n))

-- at most one shared word has changed
abbrev pub OneWord : Whole → Whole → Type 0
OneWord x y = OneChanged (shared_words x) (shared_words y)

-- no other hart knows anything else than before or has another word, and cells, code and what the keeper knows are the same
pub record IsOwn (x y : Whole) (h : ℕ) : Type 0 where
  pub others : (k : ℕ) (p : HartPart) → k ≢ h → At x.harts k p → At y.harts k p
  pub words : (k word : ℕ) → k ≢ h → At x.announced k word → At y.announced k word
  pub rest : (y.cells ≡ x.cells) × (y.epoch ≡ x.epoch) × (y.code ≡ x.code) × (y.book ≡ x.book)
