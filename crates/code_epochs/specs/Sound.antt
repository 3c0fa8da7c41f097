-- When a code state is sound: what stands in the table is what the versions say, and no hart can hold what was given up.
use Rattle.std.specs.Prelude.{◌≡◌, ◌≢◌, ◌⊎◌, ℕ, ◌+◌, ◌-◌, ◌*◌, ◌/◌, ◌%◌, ◌^◌, ◌<◌, ◌≤◌, List, [], ◌∷◌, length, Option, Some, None}
use mathlib.Core.Option.{some}
use lib.ListN.{get_elem?}
use Rattle.code_epochs.specs.declared.state.Status.{Status}
use Rattle.code_epochs.specs.declared.state.Status.TheVariants.{Linked, Unlinked, Pending, GivenUp}
use Rattle.code_epochs.specs.declared.state.VersionState.{VersionState}
use Rattle.code_epochs.specs.declared.state.CodeState.{CodeState}
use Rattle.ir_meaning.specs.Plays.{Meaning}
use Rattle.code_epochs.specs.declared.parts.Item.{Item}
use Rattle.code_epochs.specs.declared.parts.Item.TheVariants.{Held, Saw}
use Rattle.code_epochs.specs.declared.parts.HartPart.{HartPart}
use Rattle.code_epochs.specs.declared.parts.Draft.{Draft}
use Rattle.code_epochs.specs.declared.parts.Book.{Book}
use Rattle.rv_play.specs.Good.{Good}

-- the element at this place
abbrev pub At : {A : Type 0} → List A → ℕ → A → Type 0
At xs i x = get_elem? xs i ≡ some x

-- the element stands at some place
abbrev pub Has : {A : Type 0} → List A → A → Type 0
Has xs x = (i : ℕ) × At xs i x

-- All of the code state: what is stored, what each hart knows and what the keeper knows.
pub record Whole : Type 0 where
  pub cells : List ℕ
  pub epoch : ℕ
  pub announced : List ℕ
  pub code : List ℕ
  pub harts : List HartPart
  pub book : Book

-- the place of the header of the version with this base
abbrev pub start_of : ℕ → ℕ
start_of base = (base - 16777220) / 4

-- a version of this many words with this base lies in a code region of n words
abbrev pub IsBase : ℕ → ℕ → ℕ → Type 0
IsBase n base words = (base ≡ 16777220 + 4 * start_of base) × (start_of base + words < n)

-- the ranges of two versions, headers with them, share no word
abbrev pub Apart : ℕ → ℕ → ℕ → ℕ → Type 0
Apart b m c n = (start_of b + m < start_of c) ⊎ (start_of c + n < start_of b)

-- the version isn't given up
abbrev pub Stays : Status → Type 0
Stays Linked = Unit {0}
Stays Unlinked = Unit {0}
Stays (Pending tag passed) = Unit {0}
Stays GivenUp = ⊥

-- the hart was seen to have passed
abbrev pub HasPassed : ℕ → ℕ → Type 0
HasPassed passed hart = (passed / 2 ^ hart) % 2 ≡ 1

-- a hart with this word may still hold the version
abbrev pub MayHold : ℕ → ℕ → Status → Type 0
MayHold hart word Linked = Unit {0}
MayHold hart word Unlinked = Unit {0}
MayHold hart word (Pending tag passed) = (word < tag) × ¬ HasPassed passed hart
MayHold hart word GivenUp = ⊥

-- the tag of a pending version isn't above the epoch
abbrev pub TagFits : ℕ → Status → Type 0
TagFits epoch Linked = Unit {0}
TagFits epoch Unlinked = Unit {0}
TagFits epoch (Pending tag passed) = tag ≤ epoch
TagFits epoch GivenUp = Unit {0}

abbrev pub left : Status → ℕ
left Linked = 0
left Unlinked = 0
left (Pending tag passed) = 1
left GivenUp = 1

-- how many versions are pending or given up
abbrev pub count_left : List VersionState → ℕ
count_left [] = 0
count_left (v ∷ vs) = left v.status + count_left vs

-- the first words of the text stand from this place on, as many as n
abbrev pub Stored : List ℕ → ℕ → List ℕ → ℕ → Type 0
Stored code place text n = (j w : ℕ) → j < n → At text j w → At code (place + j) w

-- the header and the words of the version with this number stand in the code
pub record Stand (m : Meaning) (code : List ℕ) (number : ℕ) (v : VersionState) (text : List ℕ) : Type 0 where
  pub good : Good m v.symbol text
  pub size : length text ≡ v.words
  pub base : IsBase (length code) v.base v.words
  pub header : At code (start_of v.base) (number + 1)
  pub words : Stored code (start_of v.base + 1) text v.words

-- the part of the draft that was stored stands in the code, and nothing else is in its range
pub record DraftStands (m : Meaning) (functions : ℕ) (code : List ℕ) (versions : List VersionState) (d : Draft) : Type 0 where
  pub good : Good m d.symbol d.words
  pub symbol : d.symbol < functions
  pub room : length versions < 1048576
  pub base : IsBase (length code) d.base (length d.words)
  pub stored : (0 < d.stored) × (d.stored ≤ length d.words + 1)
  pub header : At code (start_of d.base) (length versions + 1)
  pub words : Stored code (start_of d.base + 1) d.words (d.stored - 1)
  pub apart : (i : ℕ) (v : VersionState) → At versions i v → Stays v.status → Apart v.base v.words d.base (length d.words)

abbrev pub DraftFits : Meaning → ℕ → List ℕ → List VersionState → Option Draft → Type 0
DraftFits m functions code versions None = Unit {0}
DraftFits m functions code versions (Some d) = DraftStands m functions code versions d

-- no version is of this symbol
abbrev pub NeverPublished : List VersionState → ℕ → Type 0
NeverPublished versions k = (i : ℕ) (v : VersionState) → At versions i v → v.symbol ≢ k

-- the words of the version, also of one that was given up: as many as it has, and good for its symbol
abbrev pub IsText : Meaning → VersionState → List ℕ → Type 0
IsText m v text = Good m v.symbol text × (length text ≡ v.words)

-- each version of the book, also one that was given up, has such words
pub record AreMade (m : Meaning) (book : Book) : Type 0 where
  pub texts : length book.texts ≡ length book.versions
  pub made : (i : ℕ) (v : VersionState) (t : List ℕ) → At book.versions i v → At book.texts i t → IsText m v t

-- each base that the pass holds is that of a version of the book with its symbol, which isn't given up
abbrev pub HoldsStaying : Book → List Item → Type 0
HoldsStaying book pass = (q k b : ℕ) → At pass q (Held k b) → (i : ℕ) × (v : VersionState) × At book.versions i v × (v.symbol ≡ k) × (v.base ≡ b) × Stays v.status

-- the cells, the code and the keeper's versions agree
pub record BookSound (m : Meaning) (cells : List ℕ) (harts : ℕ) (code : List ℕ) (epoch : ℕ) (book : Book) : Type 0 where
  pub cell_is : (i : ℕ) (v : VersionState) → At book.versions i v → v.status ≡ Linked → At cells v.symbol v.base
  pub one_linked : (i j : ℕ) (v w : VersionState) → At book.versions i v → At book.versions j w → v.status ≡ Linked → w.status ≡ Linked → v.symbol ≡ w.symbol → i ≡ j
  pub linked : (k b : ℕ) → At cells k b → ((i : ℕ) × (v : VersionState) × At book.versions i v × (v.status ≡ Linked) × (v.symbol ≡ k)) ⊎ ((b ≡ 0) × (harts ≡ 0) × NeverPublished book.versions k)
  pub symbols : (i : ℕ) (v : VersionState) → At book.versions i v → v.symbol < length cells
  pub functions : length cells ≡ m.functions
  pub code_size : length code ≤ 4194304
  pub count : length book.versions ≤ 1048576
  pub seated : harts ≡ book.seated
  pub gone : (h : ℕ) → Has book.gone h → h < harts
  pub texts : length book.texts ≡ length book.versions
  pub numbers : (i : ℕ) (v : VersionState) → At book.versions i v → v.number ≡ i
  pub made : (i : ℕ) (v : VersionState) (t : List ℕ) → At book.versions i v → At book.texts i t → IsText m v t
  pub stands : (i : ℕ) (v : VersionState) (t : List ℕ) → At book.versions i v → Stays v.status → At book.texts i t → Stand m code i v t
  pub apart : (i j : ℕ) (v w : VersionState) → At book.versions i v → At book.versions j w → Stays v.status → Stays w.status → i ≢ j → Apart v.base v.words w.base w.words
  pub draft : DraftFits m (length cells) code book.versions book.draft
  pub epoch_is : epoch ≡ 1 + count_left book.versions
  pub tags : (i : ℕ) (v : VersionState) → At book.versions i v → TagFits epoch v.status

-- Each base that the pass holds is that of a version picked for it, with its symbol, and the words that were seen later in its range are that version's
pub record Backed (m : Meaning) (n : ℕ) (book : Book) (pass : List Item) : Type 0 where
  pub pick : ℕ → ℕ
  pub held : (q k b : ℕ) → At pass q (Held k b) → (v : VersionState) × (t : List ℕ) × At book.versions (pick b) v × At book.texts (pick b) t × (v.symbol ≡ k) × (v.base ≡ b) × (length t ≡ v.words) × Good m k t × IsBase n b v.words
  pub saw : (q r k b a w j u : ℕ) (t : List ℕ) → At pass q (Held k b) → At pass r (Saw a w) → q < r → At book.texts (pick b) t → a ≡ b + 4 * j → At t j u → w ≡ u
  pub apart : (q r k l b c : ℕ) (v w : VersionState) → At pass q (Held k b) → At pass r (Held l c) → b ≢ c → At book.versions (pick b) v → At book.versions (pick c) w → Apart b v.words c w.words

-- what one hart knows agrees with the table
pub record HartSound (m : Meaning) (code : List ℕ) (epoch : ℕ) (book : Book) (hart : ℕ) (p : HartPart) (word : ℕ) : Type 0 where
  pub loaded : p.epoch ≤ epoch
  pub announced : (word ≡ 0) ⊎ (word ≡ p.epoch)
  pub idle : word ≡ 0 → p.pass ≡ []
  pub gone : Has book.gone hart → word ≡ 0
  pub held : (q k b : ℕ) → At p.pass q (Held k b) → (i : ℕ) × (v : VersionState) × At book.versions i v × (v.symbol ≡ k) × (v.base ≡ b) × MayHold hart word v.status
  pub saw : (q r k b a w i j : ℕ) (v : VersionState) → At p.pass q (Held k b) → At p.pass r (Saw a w) → q < r → At book.versions i v → Stays v.status → v.base ≡ b → a ≡ b + 4 * j → j < v.words → At code (start_of b + 1 + j) w
  pub ended : (e : ℕ) (pass : List Item) → At p.ended e pass → Backed m (length code) book pass

pub record Sound (m : Meaning) (x : Whole) : Type 0 where
  pub book : BookSound m x.cells (length x.harts) x.code x.epoch x.book
  pub places : (length x.harts ≤ length x.announced) × (length x.announced ≤ 16) × ((h word : ℕ) → length x.harts ≤ h → At x.announced h word → word ≡ 0)
  pub joined : (length x.book.joined ≡ length x.book.gone) × ((i h : ℕ) (p : HartPart) → At x.book.gone i h → At x.book.joined i p → At x.harts h p)
  pub harts : (h : ℕ) (p : HartPart) (word : ℕ) → At x.harts h p → At x.announced h word → HartSound m x.code x.epoch x.book h p word

-- the stored part of the whole
abbrev pub IsStateOf : CodeState → Whole → Type 0
IsStateOf s x = (s.cells.items ≡ x.cells) × (s.epoch ≡ x.epoch) × (s.harts.items ≡ x.announced) × (s.code.items ≡ x.code) × (s.versions.items ≡ x.book.versions)
