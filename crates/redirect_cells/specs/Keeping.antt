-- What a keeper's calls change.
use Rattle.std.specs.Prelude.{◌≡◌, ◌≢◌, ◌⊎◌, ℕ, ◌+◌, ◌-◌, ◌*◌, ◌<◌, ◌≤◌, List, [], ◌∷◌, length, slice_set, Bool, true, false}
use Rattle.code_epochs.specs.declared.state.Status.{Status}
use Rattle.code_epochs.specs.declared.state.Status.TheVariants.{Linked, Unlinked, Pending, GivenUp}
use Rattle.code_epochs.specs.declared.state.VersionState.{VersionState}
use Rattle.rv_play.specs.declared.version.Version.{Version}
use Rattle.code_epochs.specs.declared.parts.Look.{Look}
use Rattle.code_epochs.specs.Sound.{At, Has, HasPassed, AreMade}
use Rattle.code_epochs.specs.Steps.{with_status, linked_of, with_look, restatus, marked_by}
use Rattle.code_epochs.specs.declared.parts.Book.{Book}
use Rattle.code_space.specs.Space.{count_free, HasRoom}
use Rattle.code_epochs.specs.declared.refusals.PublishRefusal.{PublishRefusal}
use Rattle.code_epochs.specs.declared.refusals.PublishRefusal.TheVariants.{NoRoom, ManyVersions, NoMemory}
use Rattle.code_epochs.specs.declared.shelf.Shelf.{Shelf}
use Rattle.code_epochs.specs.Shelf.{is_linked}
use Rattle.redirect_cells.specs.declared.view.View.{View}
use Rattle.redirect_cells.specs.Kept.{draft_at, meaning_of, book_of, keeper_view, JoinedBacked}

-- the version was published with the number n: it is the linked one of its symbol, the one that was is pending, and all others stay
pub record Published (old new : Shelf) (version : Version) (n : ℕ) : Type 0 where
  pub number : n ≡ length old.versions.items
  pub count : length new.versions.items ≡ length old.versions.items + 1
  pub linked : (place : ℕ) × At new.versions.items n (linked_of (draft_at version place 1) n)
  pub current : new.current.items ≡ slice_set old.current.items version.symbol (n + 1)
  pub others : (i : ℕ) (v : VersionState) → At old.versions.items i v → v.symbol ≢ version.symbol → At new.versions.items i v
  pub earlier : (i : ℕ) (v : VersionState) → At old.versions.items i v → is_linked v.status ≡ false → At new.versions.items i v
  pub replaced : (i : ℕ) (v : VersionState) → At old.versions.items i v → v.symbol ≡ version.symbol → is_linked v.status ≡ true → (tag : ℕ) × At new.versions.items i (with_status v (Pending tag 0))

-- the range of the version isn't free any more
abbrev pub IsUsed : Shelf → Shelf → Version → Type 0
IsUsed old new version = (count_free new.space.ranges + (length version.words + 1) ≡ count_free old.space.ranges) × (new.space.size ≡ old.space.size)

-- the versions and the free words are the same. The memory for more of them may differ
abbrev pub IsSameShelf : Shelf → Shelf → Type 0
IsSameShelf old new = (new.versions.items ≡ old.versions.items) × (new.current.items ≡ old.current.items) × (new.space.ranges ≡ old.space.ranges) × (new.space.size ≡ old.space.size)

-- there is a free range for the version and its header
abbrev pub HasRange : Shelf → Version → Type 0
HasRange shelf version = (length shelf.versions.items < 1048576) × (b : ℕ) × HasRoom shelf.space.ranges b (length version.words + 1)

-- why the version was refused
abbrev pub IsCause : Shelf → Version → PublishRefusal → Type 0
IsCause shelf version (NoRoom needed largest) = (length shelf.versions.items < 1048576) × (needed ≡ length version.words + 1) × (largest < needed) × ((b : ℕ) → ¬ HasRoom shelf.space.ranges b (largest + 1)) × (0 < largest → (b : ℕ) × HasRoom shelf.space.ranges b largest)
IsCause shelf version (ManyVersions count) = (count ≡ 1048576) × (length shelf.versions.items ≡ 1048576)
IsCause shelf version NoMemory = Unit {0}

-- the hart has passed the version already, or it was looked at
abbrev pub IsLook : Book → Book → ℕ → ℕ → VersionState → ℕ → ℕ → Type 0
IsLook old new number hart v tag passed =
    (HasPassed passed hart × (new ≡ old))
    ⊎ ((found : ℕ) × ¬ HasPassed passed hart × (new ≡ with_look (restatus old number v (Pending tag (marked_by tag passed hart found))) record { version = number; hart = hart; found = found }) × (Has old.gone hart → found ≡ 0))

-- from `start` on, a look at this hart for this version found a word that isn't 0 and is below the tag
abbrev pub IsBehind : List Look → ℕ → ℕ → ℕ → ℕ → Type 0
IsBehind looks start number hart tag = (q : ℕ) × (l : Look) × At looks q l × (start ≤ q) × (l.version ≡ number) × (l.hart ≡ hart) × (0 < l.found) × (l.found < tag)

-- from `start` on, a look at this hart for this version found 0, or a word that isn't below the tag
abbrev pub IsAhead : List Look → ℕ → ℕ → ℕ → ℕ → Type 0
IsAhead looks start number hart tag = (q : ℕ) × (l : Look) × At looks q l × (start ≤ q) × (l.version ≡ number) × (l.hart ≡ hart) × ((l.found ≡ 0) ⊎ (tag ≤ l.found))

-- the hart has passed the version: these marks have it, or a look from `start` on found it ahead
abbrev pub HasGonePast : List Look → ℕ → ℕ → ℕ → ℕ → ℕ → Type 0
HasGonePast looks start number hart tag passed = HasPassed passed hart ⊎ IsAhead looks start number hart tag

-- the earlier looks stay
abbrev pub IsLonger : List Look → List Look → Type 0
IsLonger old new = (length old ≤ length new) × ((q : ℕ) (l : Look) → At old q l → At new q l)

-- each look from `start` on at a hart that is gone found 0
abbrev pub AreTrue : List ℕ → List Look → ℕ → Type 0
AreTrue gone looks start = (q : ℕ) (l : Look) → At looks q l → start ≤ q → Has gone l.hart → l.found ≡ 0

-- the harts below n were looked at for the version, where they had not passed it: each is marked, or was found behind
pub record LookedAt (old new : Book) (number : ℕ) (v : VersionState) (tag passed n : ℕ) : Type 0 where
  pub marked : ℕ
  pub versions : new.versions ≡ slice_set old.versions number (with_status v (Pending tag marked))
  pub harts : (h : ℕ) → h < n → (HasPassed marked h × HasGonePast new.looks (length old.looks) number h tag passed) ⊎ (¬ HasPassed marked h × IsBehind new.looks (length old.looks) number h tag)
  pub rest : (h : ℕ) → n ≤ h → HasPassed marked h → HasPassed passed h
  pub longer : IsLonger old.looks new.looks
  pub gone : new.gone ≡ old.gone
  pub joined : new.joined ≡ old.joined
  pub truth : AreTrue old.gone new.looks (length old.looks)

abbrev pub is_pending : Status → Bool
is_pending Linked = false
is_pending Unlinked = false
is_pending (Pending tag passed) = true
is_pending GivenUp = false

-- how many words a version keeps from being free, its header with them
abbrev pub kept_by : Status → ℕ → ℕ
kept_by Linked n = n + 1
kept_by Unlinked n = n + 1
kept_by (Pending tag passed) n = n + 1
kept_by GivenUp n = 0

-- the words of all versions that aren't given up, their headers with them
abbrev pub held_words : List VersionState → ℕ
held_words [] = 0
held_words (v ∷ vs) = kept_by v.status v.words + held_words vs

abbrev pub one_if_given : Status → ℕ
one_if_given Linked = 0
one_if_given Unlinked = 0
one_if_given (Pending tag passed) = 0
one_if_given GivenUp = 1

-- the number of versions that are given up
abbrev pub count_given : List VersionState → ℕ
count_given [] = 0
count_given (v ∷ vs) = one_if_given v.status + count_given vs

-- what came of a version: it wasn't pending and stays; or each hart has passed it, and it is given up; or a hart was found behind, and it is still pending
abbrev pub IsSettled : List Look → ℕ → ℕ → ℕ → VersionState → VersionState → Type 0
IsSettled looks start harts number v w =
    ((is_pending v.status ≡ false) × (w ≡ v))
    ⊎ ((tag : ℕ) × (passed : ℕ) × (v.status ≡ Pending tag passed)
    × (((w ≡ with_status v GivenUp) × ((h : ℕ) → h < harts → HasGonePast looks start number h tag passed))
    ⊎ ((marked : ℕ) × (w ≡ with_status v (Pending tag marked)) × (h : ℕ) × (h < harts) × IsBehind looks start number h tag)))

-- the version with this number was settled, and nothing else changed. `given` is 1 where it was given up
pub record Settled (old new : Book) (was is : Shelf) (harts number given : ℕ) : Type 0 where
  pub version : (v : VersionState) → At was.versions.items number v → (w : VersionState) × (is.versions.items ≡ slice_set was.versions.items number w) × IsSettled new.looks (length old.looks) harts number v w
  pub given_up : count_given is.versions.items ≡ count_given was.versions.items + given
  pub words : count_free is.space.ranges + held_words is.versions.items ≡ count_free was.space.ranges + held_words was.versions.items
  pub size : is.space.size ≡ was.space.size
  pub current : is.current ≡ was.current
  pub longer : IsLonger old.looks new.looks
  pub gone : new.gone ≡ old.gone
  pub joined : new.joined ≡ old.joined
  pub truth : AreTrue old.gone new.looks (length old.looks)

-- the versions below n were settled in order, of which so many were given up
pub record Collected (before after : Book) (old new : Shelf) (harts n given : ℕ) : Type 0 where
  pub settled : (i : ℕ) (v : VersionState) → i < n → At old.versions.items i v → (w : VersionState) × At new.versions.items i w × IsSettled after.looks (length before.looks) harts i v w
  pub later : (i : ℕ) (v : VersionState) → n ≤ i → At old.versions.items i v → At new.versions.items i v
  pub count : length new.versions.items ≡ length old.versions.items
  pub given_up : count_given new.versions.items ≡ count_given old.versions.items + given
  pub words : count_free new.space.ranges + held_words new.versions.items ≡ count_free old.space.ranges + held_words old.versions.items
  pub size : new.space.size ≡ old.space.size
  pub current : new.current ≡ old.current
  pub longer : IsLonger before.looks after.looks
  pub gone : after.gone ≡ before.gone
  pub joined : after.joined ≡ before.joined
  pub truth : AreTrue before.gone after.looks (length before.looks)

-- each of so many harts is gone
abbrev pub AllGone : ℕ → Book → Type 0
AllGone harts book = (h : ℕ) → h < harts → Has book.gone h

abbrev pub NonePending : List VersionState → Type 0
NonePending versions = (i : ℕ) (v : VersionState) → At versions i v → is_pending v.status ≡ false

abbrev pub NoneUnlinked : List VersionState → Type 0
NoneUnlinked versions = (i : ℕ) (v : VersionState) → At versions i v → ¬ (v.status ≡ Unlinked)

-- each symbol has a linked version
abbrev pub AllCurrent : List ℕ → Type 0
AllCurrent current = (k : ℕ) → ¬ At current k 0

-- each linked version is the current one of its symbol
abbrev pub LinkedAreCurrent : List VersionState → List ℕ → Type 0
LinkedAreCurrent versions current = (i : ℕ) (v : VersionState) → At versions i v → is_linked v.status ≡ true → At current v.symbol (i + 1)

-- the linked version of a symbol
abbrev pub IsCurrent : Shelf → ℕ → VersionState → Type 0
IsCurrent shelf symbol v = (n : ℕ) × At shelf.current.items symbol (n + 1) × At shelf.versions.items n v × (is_linked v.status ≡ true) × (v.symbol ≡ symbol)

-- the same harts have seats, and the same are gone
abbrev pub AreSameHarts : Book → Book → Type 0
AreSameHarts old new = (new.seated ≡ old.seated) × (new.gone ≡ old.gone) × (new.joined ≡ old.joined)

-- each earlier version is there still, but for its status
abbrev pub AreStill : List VersionState → List VersionState → Type 0
AreStill old new = (i : ℕ) (v : VersionState) → At old i v → (status : Status) × At new i (with_status v status)

-- of so many code words those of the versions that aren't given up are taken, a header for each with them, and the others are free
abbrev pub HasSpace : ℕ → Shelf → Type 0
HasSpace code_words shelf = (shelf.space.size ≡ code_words) × (count_free shelf.space.ranges + held_words shelf.versions.items ≡ code_words)

-- What a keeper comes to that closes: once its versions were collected again, it has these, each with words that are good for its symbol,
-- and none is pending or unlinked. The ended passes of the harts that it took in are backed by them. So many code words are in use.
pub record IsClosed (view : View) (old : Shelf) (harts used : ℕ) : Type 0 where
  pub shelf : Shelf
  pub book : Book
  pub given : ℕ
  pub collected : Collected (book_of view) book old shelf harts (length old.versions.items) given
  pub versions : book.versions ≡ shelf.versions.items
  pub made : AreMade (meaning_of view.plan) book
  pub backed : JoinedBacked (keeper_view view book)
  pub none_pending : NonePending shelf.versions.items
  pub none_unlinked : NoneUnlinked shelf.versions.items
  pub used_are : used ≡ held_words shelf.versions.items
  pub fits : used ≤ view.plan.code_words
