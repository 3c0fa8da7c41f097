-- The first versions of a core, and its harts before their first call.
use Rattle.std.specs.Prelude.{◌≡◌, ℕ, ◌+◌, ◌*◌, ◌<◌, ◌≤◌, List, [], ◌∷◌, ◌++◌, map, length, min, sum_by, None, vec_capacity}
use Rattle.ir_meaning.specs.Plays.{Meaning}
use Rattle.rv_play.specs.declared.version.Version.{Version}
use Rattle.rv_play.specs.Good.{Good}
use Rattle.hart.specs.Standing.{IsFor}
use Rattle.code_epochs.specs.declared.parts.Draft.{Draft}
use Rattle.code_epochs.specs.declared.state.CodeState.{CodeState}
use Rattle.code_epochs.specs.declared.state.VersionState.{VersionState}
use Rattle.code_epochs.specs.declared.refusals.OpenRefusal.{OpenRefusal}
use Rattle.code_epochs.specs.declared.refusals.OpenRefusal.TheVariants.{NoRoom, NoMemory}
use Rattle.code_epochs.specs.Sound.{At, Whole, Sound, IsStateOf, Stays, start_of}
use Rattle.code_space.specs.Space.{Space, IsFree}
use Rattle.code_epochs.specs.Steps.{CanBegin, draft_of, unlinked, linked_of}
use Rattle.jit_core.specs.declared.seat.Seat.{Seat}
use Rattle.jit_core.specs.declared.seat.Stage.TheVariants as stage
use Rattle.jit_core.specs.Laying.{IsFrame}

-- the code words that versions need, one more for the header of each
abbrev pub words_of : List Version → ℕ
words_of versions = sum_by (λ (v : Version). length v.words + 1) versions

-- a good version of each symbol, in order
abbrev pub AreQuick : Meaning → List Version → Type 0
AreQuick m versions = (length versions ≡ m.functions) × ((k : ℕ) (v : Version) → At versions k v → (v.symbol ≡ k) × Good m k v.words)

-- the version as a draft whose header stands at this place
abbrev pub draft_at : Version → ℕ → Draft
draft_at v place = draft_of v.symbol v.level (16777220 + 4 * place) v.words 1

-- the versions one after another from a place on, numbered from n, each linked
abbrev pub laid : List Version → ℕ → ℕ → List VersionState
laid [] place n = []
laid (v ∷ vs) place n = linked_of (draft_at v place) n ∷ laid vs (place + (length v.words + 1)) (n + 1)

-- The version is stored from this place on and linked, whatever is known beside the state: the one that its symbol had is unlinked.
abbrev pub Publishes : CodeState → CodeState → Version → ℕ → Type 0
Publishes old new v place =
    (m : Meaning) (x : Whole) → Sound m x → IsStateOf old x → CanBegin m x v.symbol (16777220 + 4 * place) v.words
    → (y : Whole) × Sound m y × IsStateOf new y × (y.book.draft ≡ None) × IsFrame x y
    × (y.book.versions ≡ map (unlinked v.symbol) x.book.versions ++ linked_of (draft_at v place) (length x.book.versions) ∷ [])

-- The first of all versions are stored one after another from the first code word on and linked, where there was no version.
abbrev pub Opens : CodeState → CodeState → List Version → List Version → Type 0
Opens old new all first =
    (m : Meaning) (x : Whole) → Sound m x → IsStateOf old x → x.book.draft ≡ None → x.book.versions ≡ [] → AreQuick m all
    → (y : Whole) × Sound m y × IsStateOf new y × (y.book.draft ≡ None) × IsFrame x y × (y.book.versions ≡ laid first 0 0)

-- a hart of this meaning that makes no call yet and has answered none, with room for its answers to so many calls of so many harts
pub record IsNewSeat (m : Meaning) (harts calls : ℕ) (s : Seat) : Type 0 where
  pub known : IsFor m s.hart
  pub stage : s.stage ≡ stage.Idle
  pub answers : s.answers.items ≡ []
  pub enough : (n : ℕ) → harts * n < calls → n < vec_capacity s.answers

-- the ranges of versions that aren't given up end below this place
abbrev pub AllBelow : List VersionState → ℕ → Type 0
AllBelow versions place = (i : ℕ) (v : VersionState) → At versions i v → Stays v.status → start_of v.base + v.words < place

-- a space of so many words of which the first are taken, and the others free, with room for so many gives
pub record IsBehind (words taken gives : ℕ) (s : Space) : Type 0 where
  pub size : s.size ≡ words
  pub free : (w : ℕ) → IsFree s.ranges w → (taken ≤ w) × (w < words)
  pub all : (w : ℕ) → taken ≤ w → w < words → IsFree s.ranges w
  pub spare : gives ≤ s.spare

-- each of these harts is new
abbrev pub AreNewSeats : Meaning → ℕ → ℕ → List Seat → Type 0
AreNewSeats m harts calls seats = (h : ℕ) (s : Seat) → At seats h s → IsNewSeat m harts calls s

-- the versions are linked, the word of each of so many harts is 0, and there is no hart yet
pub record IsOpened (m : Meaning) (count size : ℕ) (first : List Version) (s : CodeState) : Type 0 where
  pub whole : Whole
  pub sound : Sound m whole
  pub state : IsStateOf s whole
  pub draft : whole.book.draft ≡ None
  pub gone : whole.book.gone ≡ []
  pub looks : whole.book.looks ≡ []
  pub harts : whole.harts ≡ []
  pub words : (length whole.announced ≡ count) × ((h w : ℕ) → At whole.announced h w → w ≡ 0)
  pub code : length whole.code ≡ size
  pub versions : whole.book.versions ≡ laid first 0 0

-- why the first versions were refused
abbrev pub IsOpenCause : ℕ → List Version → OpenRefusal → Type 0
IsOpenCause code_words versions (NoRoom needed room) = (needed ≡ min (words_of versions) 18446744073709551615) × (room ≡ code_words) × (code_words < words_of versions)
IsOpenCause code_words versions NoMemory = Unit {0}
