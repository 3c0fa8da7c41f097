-- The level of each symbol once a session has settled.
use Rattle.std.specs.Prelude.{◌≡◌, ◌≢◌, ◌⊎◌, ℕ, ◌+◌, ◌<◌, ◌≤◌, List, [], ◌∷◌, ◌++◌, length, Bool, true}
use Rattle.ir_core.specs.Program.{Program}
use Rattle.code_epochs.specs.Sound.{At}
use Rattle.code_epochs.specs.declared.refusals.PublishRefusal.{PublishRefusal}
use Rattle.code_epochs.specs.declared.refusals.PublishRefusal.TheVariants as publish
use Rattle.code_epochs.specs.declared.state.VersionState.{VersionState}
use Rattle.rv_play.specs.declared.version.MakeRefusal.{MakeRefusal}
use Rattle.rv_play.specs.declared.version.MakeRefusal.TheVariants as make
use Rattle.rv_play.specs.declared.version.Version.{Version}
use Rattle.rv_play.specs.Versions.{IsVersion}
use Rattle.entry_counts.specs.declared.seat.CountSeat.{CountSeat}
use Rattle.code_epochs.specs.declared.shelf.Shelf.{Shelf}
use Rattle.code_epochs.specs.declared.parts.Book.{Book}
use Rattle.redirect_cells.specs.Keeping.{IsCause, IsCurrent, AreStill, AllGone, HasSpace, NonePending, NoneUnlinked}
use Rattle.session_types.specs.declared.settled.JobRefusal.{JobRefusal}
use Rattle.session_types.specs.declared.settled.JobRefusal.TheVariants.{Crowded, NoRoom, NoMemory}
use Rattle.session_types.specs.declared.settled.RefusedJob.{RefusedJob}
use Rattle.jit_session.specs.Shelves.{KeepsOthers}

-- the linked version of the symbol has this level
abbrev pub HasLevel : Shelf → ℕ → ℕ → Type 0
HasLevel shelf symbol level = (v : VersionState) × IsCurrent shelf symbol v × (v.level ≡ level)

-- the linked version of the symbol has another level
abbrev pub HasOtherLevel : Shelf → ℕ → ℕ → Type 0
HasOtherLevel shelf symbol level = (v : VersionState) × IsCurrent shelf symbol v × (v.level ≢ level)

-- why a version of this level wasn't made, where `test` says that it may be refused as crowded, or wasn't published on this shelf
abbrev pub IsJobCause : Bool → Shelf → Program → ℕ → ℕ → JobRefusal → Type 0
IsJobCause test shelf program symbol level (Crowded point overlap) = test ≡ true
IsJobCause test shelf program symbol level (NoRoom needed largest) = (version : Version) × IsVersion program symbol level version × IsCause shelf version (publish.NoRoom needed largest)
IsJobCause test shelf program symbol level NoMemory = Unit {0}

-- why a version wasn't published, as the cause of a job
abbrev pub IsSameCause : PublishRefusal → JobRefusal → Type 0
IsSameCause (publish.NoRoom needed largest) cause = cause ≡ NoRoom needed largest
IsSameCause (publish.ManyVersions count) cause = ⊥
IsSameCause publish.NoMemory cause = cause ≡ NoMemory

-- why a version wasn't made, as the cause of a job
abbrev pub IsSameMake : MakeRefusal → JobRefusal → Type 0
IsSameMake (make.Crowded point overlap) cause = cause ≡ Crowded point overlap
IsSameMake make.NoMemory cause = cause ≡ NoMemory

-- there were not too many versions
abbrev pub IsForRoom : PublishRefusal → Type 0
IsForRoom (publish.NoRoom needed largest) = Unit {0}
IsForRoom (publish.ManyVersions count) = ⊥
IsForRoom publish.NoMemory = Unit {0}

-- the job of giving the symbol this level was refused
pub record IsRefusedJob (test : Bool) (shelf : Shelf) (program : Program) (symbol level : ℕ) (job : RefusedJob) : Type 0 where
  pub symbol_is : job.symbol ≡ symbol
  pub level_is : job.level ≡ level
  pub cause : IsJobCause test shelf program symbol level job.cause

-- the symbol has this level, the others keep their versions, and there is at most one version more
pub record IsRaised (old new : Shelf) (symbol level : ℕ) : Type 0 where
  pub has : HasLevel new symbol level
  pub others : KeepsOthers old new symbol
  pub count : length new.versions.items ≤ length old.versions.items + 1
  pub still : AreStill old.versions.items new.versions.items

-- the job of giving the symbol this level is among these
abbrev pub IsAmong : List RefusedJob → ℕ → ℕ → Type 0
IsAmong jobs symbol level = (i : ℕ) × (job : RefusedJob) × At jobs i job × (job.symbol ≡ symbol) × (job.level ≡ level)

-- the symbol has this level, or the job of giving it this level is among those that were refused
abbrev pub IsLevelled : Shelf → List RefusedJob → ℕ → ℕ → Type 0
IsLevelled shelf jobs symbol level = HasLevel shelf symbol level ⊎ IsAmong jobs symbol level

-- jobs of symbols below n, in order of symbol and one for each at most, which were refused as crowded only where that may be
pub record AreRefused (test : ℕ → ℕ → Bool) (n : ℕ) (jobs : List RefusedJob) : Type 0 where
  pub exist : (i : ℕ) (job : RefusedJob) → At jobs i job → job.symbol < n
  pub order : (i j : ℕ) (a b : RefusedJob) → At jobs i a → At jobs j b → i < j → a.symbol < b.symbol
  pub cause : (i : ℕ) (job : RefusedJob) (point overlap : ℕ) → At jobs i job → job.cause ≡ Crowded point overlap → test job.symbol job.level ≡ true

-- a seat of the same counts, which has counted no more and taken in no other
pub record IsSameTally (a a' : CountSeat) : Type 0 where
  pub counts : a'.counts ≡ a.counts
  pub parts : a'.seat.me.0.parts ≡ a.seat.me.0.parts
  pub own : a'.seat.me.0.own ≡ a.seat.me.0.own
  pub joined : a'.seat.me.0.joined ≡ a.seat.me.0.joined

-- one more job may have been refused, of this symbol at this level
abbrev pub MayAdd : (ℕ → ℕ → Bool) → List RefusedJob → List RefusedJob → ℕ → ℕ → Type 0
MayAdd test old new symbol level =
    (new ≡ old)
    ⊎ ((job : RefusedJob) × (new ≡ old ++ job ∷ []) × (job.symbol ≡ symbol) × (job.level ≡ level) × ((point overlap : ℕ) → job.cause ≡ Crowded point overlap → test symbol level ≡ true))

-- the symbol has this level or its job was refused, and the other symbols keep their versions
pub record IsSettledSymbol (test : ℕ → ℕ → Bool) (old new : Shelf) (before after : List RefusedJob) (symbol level : ℕ) : Type 0 where
  pub levelled : IsLevelled new after symbol level
  pub others : KeepsOthers old new symbol
  pub count : length new.versions.items ≤ length old.versions.items + 1
  pub still : AreStill old.versions.items new.versions.items
  pub refused : MayAdd test before after symbol level

-- The job of giving the symbol this level was refused, when the versions were these, or some of them and as they stood then: the linked
-- one had another level, none was pending or unlinked, so that of so many code words all others were free, and this was why.
pub record IsRefusedOver (test : Bool) (program : Program) (code_words : ℕ) (versions : List VersionState) (symbol level : ℕ) (cause : JobRefusal) : Type 0 where
  pub shelf : Shelf
  pub still : AreStill shelf.versions.items versions
  pub other : HasOtherLevel shelf symbol level
  pub none_pending : NonePending shelf.versions.items
  pub none_unlinked : NoneUnlinked shelf.versions.items
  pub space : HasSpace code_words shelf
  pub caused : IsJobCause test shelf program symbol level cause

-- No job more was refused, or this one: the symbol hasn't its level, and where all of so many harts were gone before, that is why.
abbrev pub MayShow : Book → ℕ → Bool → Program → ℕ → Shelf → List RefusedJob → List RefusedJob → ℕ → ℕ → Type 0
MayShow book harts test program code_words shelf before after symbol level =
    (after ≡ before)
    ⊎ ((job : RefusedJob) × (after ≡ before ++ job ∷ []) × (job.symbol ≡ symbol) × (job.level ≡ level) × HasOtherLevel shelf symbol level
    × (AllGone harts book → IsRefusedOver test program code_words shelf.versions.items symbol level job.cause))

-- The job of giving its symbol the level that is wanted was refused: the symbol hasn't it, and where all of so many harts were gone before, that is why.
pub record IsShown (book : Book) (harts : ℕ) (test : ℕ → ℕ → Bool) (program : Program) (code_words : ℕ) (wanted : ℕ → ℕ) (shelf : Shelf) (job : RefusedJob) : Type 0 where
  pub level : job.level ≡ wanted job.symbol
  pub other : HasOtherLevel shelf job.symbol job.level
  pub refused : AllGone harts book → IsRefusedOver (test job.symbol job.level) program code_words shelf.versions.items job.symbol job.level job.cause

-- each job was so refused
abbrev pub AreShown : Book → ℕ → (ℕ → ℕ → Bool) → Program → ℕ → (ℕ → ℕ) → Shelf → List RefusedJob → Type 0
AreShown book harts test program code_words wanted shelf jobs = (i : ℕ) (job : RefusedJob) → At jobs i job → IsShown book harts test program code_words wanted shelf job
