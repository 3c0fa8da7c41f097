-- The core: what it keeps between events, and the list of events that it stands for.
use Rattle.std.specs.Prelude.{◌≡◌, ◌≢◌, ◌%◌, ◌/◌, ℕ, ◌+◌, ◌*◌, ◌<◌, ◌≤◌, ◌++◌, ◌∷◌, List, [], length, Option, Some, None}
use Rattle.ir_meaning.specs.Plays.{Meaning}
use Rattle.ir_meaning.specs.Meaning.{meaning}
use Rattle.rv_play.specs.declared.version.Version.{Version}
use Rattle.ir_meaning.specs.declared.calls.Ended.{Ended}
use Rattle.ir_meaning.specs.declared.calls.ListedCall.{ListedCall}
use Rattle.ir_meaning.specs.Memory.{Memory}
use Rattle.ir_meaning.specs.Ranges.{IsInvocation}
use Rattle.ir_meaning.specs.Right.{RightFrom}
use Rattle.ir_meaning.specs.Typed.{IsTyped}
use Rattle.rv_play.specs.Link.{top_invocation}
use Rattle.hart.specs.Right.{IsImageOf}
use Rattle.code_epochs.specs.declared.parts.Look.{Look}
use Rattle.code_epochs.specs.declared.state.CodeState.{CodeState}
use Rattle.code_epochs.specs.declared.state.VersionState.{VersionState}
use Rattle.code_epochs.specs.declared.state.Status.TheVariants.{Unlinked}
use Rattle.code_epochs.specs.declared.refusals.PublishRefusal.{PublishRefusal}
use Rattle.code_epochs.specs.declared.refusals.PublishRefusal.TheVariants.{NoRoom, ManyVersions, NoMemory}
use Rattle.code_epochs.specs.Sound.{At, Whole, Sound, IsStateOf}
use Rattle.code_epochs.specs.Steps.{IsUnlinked}
use Rattle.code_space.specs.Space.{Space, HasRoom, IsFirstRoom}
use Rattle.jit_core.specs.declared.state_machine.Core.{Core}
use Rattle.jit_core.specs.declared.event.Event.{Event}
use Rattle.jit_core.specs.declared.event.Event.TheVariants as event
use Rattle.rv_play.specs.Good.{Good}
use Rattle.jit_core.specs.declared.event.Stepped.{Stepped}
use Rattle.jit_core.specs.declared.event.Stepped.TheVariants.{Moved, Taken, Nothing, Busy, Refused}
use Rattle.jit_core.specs.declared.seat.Seat.{Seat}
use Rattle.jit_core.specs.declared.laying.Laying.{Laying}
use Rattle.jit_core.specs.declared.publishing.Publishing.{Publishing}
use Rattle.jit_core.specs.declared.publishing.Publishing.TheVariants.{Storing, Raising}
use Rattle.jit_core.specs.declared.publishing.Pair.{Pair}
use Rattle.jit_core.specs.Events.{Told, Runs, Task, lay_draft, raise_for, clear_of, look_at, KeeperStep}
use Rattle.jit_core.specs.Laying.{LaysAs, CanLay}
use Rattle.jit_core.specs.Harts.{AreReady, AllStand, IsOver}
use Rattle.jit_core.specs.Keeping.{IsPassed, IsFirstPassed, IsNextLook, NonePending}
use Rattle.jit_core.specs.Spaces.{SpaceIs, count_held}

-- what the core's module means
abbrev pub meaning_of : Core → Meaning
meaning_of c = meaning c.all.now

-- what the keeper knows of the version that is being published
abbrev pub PublishesAs : Meaning → Whole → Option Publishing → Type 0
PublishesAs m x None = x.book.draft ≡ None
PublishesAs m x (Some (Storing d)) = LaysAs m x d
PublishesAs m x (Some (Raising n)) = (x.book.draft ≡ None) × ((v : VersionState) × IsUnlinked x n v)

-- what its next step needs
abbrev pub CanPublish : CodeState → Option Publishing → Type 0
CanPublish state None = Unit {0}
CanPublish state (Some (Storing d)) = CanLay d state
CanPublish state (Some (Raising n)) = Unit {0}

-- this pair is that of the last look
abbrev pub IsLastLook : List Look → Option Pair → Type 0
IsLastLook looks None = looks ≡ []
IsLastLook looks (Some p) = (front : List Look) × (found : ℕ) × (looks ≡ front ++ record { version = p.version; hart = p.hart; found = found } ∷ []) × (p.hart < 16)

-- The core stands for this list of events, each with its answer: from a sound state they lead to a sound state, of which the core
-- has the stored part, and each hart's seat stands for what the hart knows.
pub record Stands (c : Core) (told : List Told) : Type 0 where
  pub first : Whole
  pub whole : Whole
  pub sound_first : Sound (meaning_of c) first
  pub runs : Runs (meaning_of c) first told whole
  pub sound : Sound (meaning_of c) whole
  pub state : IsStateOf c.state whole
  pub gone : whole.book.gone ≡ []
  pub seats : AllStand (meaning_of c) c.work whole c.seats.items
  pub publishing : PublishesAs (meaning_of c) whole c.publishing
  pub unlinked : (i : ℕ) (v : VersionState) → At whole.book.versions i v → v.status ≡ Unlinked → c.publishing ≡ Some (Raising i)
  pub space : SpaceIs whole.book.versions (length whole.code) c.publishing c.space
  pub looked : IsLastLook whole.book.looks c.looked

-- the core stands for some list of events, and has what it needs for its steps
pub record IsKept (c : Core) : Type 0 where
  pub ready : AreReady c.seats.items c.state c.work
  pub can : CanPublish c.state c.publishing
  pub code : length c.state.code.items ≤ 4194304
  pub functions : length c.state.cells.items ≡ (meaning_of c).functions
  pub harts : (0 < length c.seats.items) × (c.work.harts ≡ length c.seats.items)
  pub room : count_held c.state.versions.items c.publishing ≤ c.space.spare
  pub stands : (told : List Told) × Stands c told

-- the core with this version being published
abbrev pub publishing_as : Core → Option Publishing → Core
publishing_as c p = record { all = c.all; work = c.work; state = c.state; seats = c.seats; space = c.space; publishing = p; looked = c.looked }

-- the same module, image and list of calls, with as many harts and code words
abbrev pub IsSameCore : Core → Core → Type 0
IsSameCore c d = (d.all ≡ c.all) × (d.work ≡ c.work) × (length d.seats.items ≡ length c.seats.items) × (length d.state.code.items ≡ length c.state.code.items)

-- nothing of the core has changed
abbrev pub IsStill : Core → Core → Type 0
IsStill c d = (d.all ≡ c.all) × (d.work ≡ c.work) × (d.state ≡ c.state) × (d.seats.items ≡ c.seats.items) × (d.space ≡ c.space) × (d.publishing ≡ c.publishing) × (d.looked ≡ c.looked)

-- an event that the core can be given: a hart that there is, and a good version
abbrev pub IsEvent : Core → Event → Type 0
IsEvent c (event.Hart h) = h < length c.seats.items
IsEvent c event.Keeper = Unit {0}
IsEvent c (event.Order v) = (v.symbol < (meaning_of c).functions) × Good (meaning_of c) v.symbol v.words

-- so many words are free in a row, and nowhere one more
abbrev pub IsLargest : Space → ℕ → Type 0
IsLargest s n = (0 < n → (b : ℕ) × HasRoom s.ranges b n) × ((b : ℕ) → ¬ HasRoom s.ranges b (n + 1))

-- why an ordered version was refused
abbrev pub IsRefusal : Core → Version → PublishRefusal → Type 0
IsRefusal c v (NoRoom needed largest) = (length c.state.versions.items < 1048576) × (needed ≡ length v.words + 1) × IsLargest c.space largest × (largest < needed)
IsRefusal c v (ManyVersions count) = (count ≡ 1048576) × (length c.state.versions.items ≡ 1048576)
IsRefusal c v NoMemory = Unit {0}

-- the version as it is before a word of it is stored, its header at this place
abbrev pub at_place : Version → ℕ → Publishing
at_place v place = Storing (record { version = v; base = 16777220 + 4 * place; stored = 0 })

-- What an order leads to. Busy exactly where a version is being published; Taken, in the first range that is free, where there is one, and else refused with the cause.
abbrev pub IsOrderAnswer : Core → Version → Stepped → Core → Type 0
IsOrderAnswer c v Moved d = ⊥
IsOrderAnswer c v Nothing d = ⊥
IsOrderAnswer c v Taken d = (c.publishing ≡ None) × (length c.state.versions.items < 1048576) × ((b : ℕ) × IsFirstRoom c.space.ranges b (length v.words + 1) × (d.publishing ≡ Some (at_place v b)))
IsOrderAnswer c v (Busy w) d = (w ≡ v) × (c.publishing ≢ None) × IsStill c d
IsOrderAnswer c v (Refused w cause) d = (w ≡ v) × (c.publishing ≡ None) × (d.publishing ≡ None) × IsRefusal c v cause

-- What the keeper does next: what is left to do for the version that is being published; else it clears the header of the first
-- version that all harts have passed; else it looks at the next pair.
abbrev pub IsTask : Core → Task → Type 0
IsTask c lay_draft = (d : Laying) × (c.publishing ≡ Some (Storing d))
IsTask c (raise_for n) = c.publishing ≡ Some (Raising n)
IsTask c (clear_of n) = (c.publishing ≡ None) × IsFirstPassed (length c.state.harts.items) c.state.versions.items n
IsTask c (look_at n h) = (c.publishing ≡ None) × ((i : ℕ) (v : VersionState) → At c.state.versions.items i v → ¬ IsPassed (length c.state.harts.items) v) × IsNextLook (length c.state.harts.items) c.state.versions.items c.looked n h

-- no version is being published, and none is pending
abbrev pub HasNoTask : Core → Type 0
HasNoTask c = (c.publishing ≡ None) × NonePending c.state.versions.items

-- an event with its answer is added to the events that the core stands for
abbrev pub StandsMore : Core → Core → Told → Type 0
StandsMore c d t = (told : List Told) → Stands c told → Stands d (told ++ t ∷ [])

-- this core is that one after one step of the keeper, which is for this task
abbrev pub Does : Core → Task → Core → Type 0
Does c task d = (told : List Told) (s : Stands c told) → (t : Stands d (told ++ record { event = event.Keeper; answer = Moved } ∷ [])) × KeeperStep (meaning_of c) s.whole task t.whole

-- What an event is answered, by what the core was before and is then.
abbrev pub IsAnswer : Core → Event → Stepped → Core → Type 0
IsAnswer c (event.Hart h) Moved d = ¬ IsOver c.seats.items c.work h
IsAnswer c (event.Hart h) Nothing d = IsOver c.seats.items c.work h × IsStill c d
IsAnswer c (event.Hart h) Taken d = ⊥
IsAnswer c (event.Hart h) (Busy w) d = ⊥
IsAnswer c (event.Hart h) (Refused w cause) d = ⊥
IsAnswer c event.Keeper Moved d = (task : Task) × IsTask c task × Does c task d
IsAnswer c event.Keeper Nothing d = HasNoTask c × IsStill c d
IsAnswer c event.Keeper Taken d = ⊥
IsAnswer c event.Keeper (Busy w) d = ⊥
IsAnswer c event.Keeper (Refused w cause) d = ⊥
IsAnswer c (event.Order v) answer d = IsOrderAnswer c v answer d

-- the answer of the call at this place is right, whichever first data memory the image is of
abbrev pub IsRightAnswer : Core → ℕ → Ended → Type 0
IsRightAnswer c place e =
    (call : ListedCall) × At c.work.calls.now place call
    × ((memory : Memory) → IsTyped c.all.now → IsInvocation (meaning_of c) (top_invocation call.symbol call.args memory) → IsImageOf memory c.work.image.now → RightFrom c.all.now call memory e)

-- this is the answer to the call at this place that the seat of its hart has
abbrev pub IsSeatAnswer : Core → ℕ → Ended → Type 0
IsSeatAnswer c place e = (s : Seat) × At c.seats.items (place % length c.seats.items) s × At s.answers.items (place / length c.seats.items) e

-- the hart that makes the call at this place has not as many answers
abbrev pub HasNotEnded : Core → ℕ → Type 0
HasNotEnded c place = (s : Seat) → At c.seats.items (place % length c.seats.items) s → length s.answers.items ≤ place / length c.seats.items
