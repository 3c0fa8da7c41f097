-- The kinds of step on the code state: where each may be made, and what it changes.
use Rattle.std.specs.Prelude.{replicate, ◌≡◌, ◌≢◌, ◌⊎◌, ℕ, ◌+◌, ◌-◌, ◌*◌, ◌<◌, ◌≤◌, List, [], ◌∷◌, ◌++◌, length, slice_set, map, Option, Some, None, Bool, true, false, ◌↔◌, ◌==◌, bit_or, nat_lt, ◌^◌, ◌%◌, if◌then◌else◌}
use Rattle.code_epochs.specs.declared.state.Status.{Status}
use Rattle.code_epochs.specs.declared.state.Status.TheVariants.{Linked, Unlinked, Pending, GivenUp}
use Rattle.code_epochs.specs.declared.state.VersionState.{VersionState}
use Rattle.code_epochs.specs.declared.state.CodeState.{CodeState}
use Rattle.rv_play.specs.declared.version.Version.{Version}
use Rattle.ir_meaning.specs.Plays.{Meaning}
use Rattle.code_epochs.specs.declared.parts.Item.{Item}
use Rattle.code_epochs.specs.declared.parts.Item.TheVariants.{Held, Saw}
use Rattle.code_epochs.specs.declared.parts.HartPart.{HartPart}
use Rattle.code_epochs.specs.declared.parts.Draft.{Draft}
use Rattle.code_epochs.specs.declared.parts.Look.{Look}
use Rattle.code_epochs.specs.declared.parts.Book.{Book}
use Rattle.rv_play.specs.Good.{Good}
use Rattle.code_epochs.specs.Sound.{At, Has, Whole, Sound, Backed, HasPassed, Stays, IsBase, Apart, start_of, IsStateOf}

-- one more item in the pass
abbrev pub with_item : HartPart → Item → HartPart
with_item p item = record { epoch = p.epoch; pass = p.pass ++ item ∷ []; ended = p.ended }

-- the hart knows this now
abbrev pub with_hart : Whole → ℕ → HartPart → Whole
with_hart x h p = record { cells = x.cells; epoch = x.epoch; announced = x.announced; code = x.code; harts = slice_set x.harts h p; book = x.book }

-- the hart knows p and has announced a word that isn't 0
abbrev pub IsActive : Whole → ℕ → HartPart → ℕ → Type 0
IsActive x h p word = At x.harts h p × At x.announced h word × (0 < word)

-- the address of the code word at this place
abbrev pub address_of : ℕ → ℕ
address_of place = 16777216 + 4 * place

abbrev pub cell_held : Whole → ℕ → HartPart → ℕ → ℕ → Whole
cell_held x h p symbol base = with_hart x h (with_item p (Held symbol base))

abbrev pub word_seen : Whole → ℕ → HartPart → ℕ → ℕ → Whole
word_seen x h p place word = with_hart x h (with_item p (Saw (address_of place) word))

-- loading the cell keeps the state sound, whatever is known beside it
abbrev pub LoadsCell : CodeState → CodeState → ℕ → ℕ → ℕ → Type 0
LoadsCell old new h symbol base =
    (m : Meaning) (x : Whole) (p : HartPart) (word : ℕ) → IsStateOf old x → Sound m x → IsActive x h p word → Sound m (cell_held x h p symbol base) × IsStateOf new (cell_held x h p symbol base)

-- loading the code word keeps the state sound, whatever is known beside it
abbrev pub LoadsWord : CodeState → CodeState → ℕ → ℕ → ℕ → Type 0
LoadsWord old new h place found =
    (m : Meaning) (x : Whole) (p : HartPart) (word : ℕ) → IsStateOf old x → Sound m x → IsActive x h p word → Sound m (word_seen x h p place found) × IsStateOf new (word_seen x h p place found)

-- the hart knows and has announced this now
abbrev pub with_hart_word : Whole → ℕ → HartPart → ℕ → Whole
with_hart_word x h p word = record { cells = x.cells; epoch = x.epoch; announced = slice_set x.announced h word; code = x.code; harts = slice_set x.harts h p; book = x.book }

-- the hart knows p and is idle
abbrev pub IsIdle : Whole → ℕ → HartPart → Type 0
IsIdle x h p = At x.harts h p × At x.announced h 0

abbrev pub loaded_part : HartPart → ℕ → HartPart
loaded_part p epoch = record { epoch = epoch; pass = p.pass; ended = p.ended }

abbrev pub epoch_loaded : Whole → ℕ → HartPart → ℕ → Whole
epoch_loaded x h p epoch = with_hart x h (loaded_part p epoch)

abbrev pub epoch_announced : Whole → ℕ → HartPart → Whole
epoch_announced x h p = with_hart_word x h p p.epoch

-- the pass becomes an ended one
abbrev pub ended_part : HartPart → HartPart
ended_part p = record { epoch = p.epoch; pass = []; ended = p.ended ++ p.pass ∷ [] }

abbrev pub gone_idle : Whole → ℕ → HartPart → Whole
gone_idle x h p = with_hart_word x h (ended_part p) 0

-- loading the epoch keeps the state sound, whatever is known beside it
abbrev pub LoadsEpoch : CodeState → CodeState → ℕ → ℕ → Type 0
LoadsEpoch old new h found =
    (m : Meaning) (x : Whole) (p : HartPart) → IsStateOf old x → Sound m x → IsIdle x h p → ¬ Has x.book.gone h → Sound m (epoch_loaded x h p found) × IsStateOf new (epoch_loaded x h p found)

-- announcing the epoch that was loaded keeps the state sound, whatever is known beside it
abbrev pub Announces : CodeState → CodeState → ℕ → ℕ → Type 0
Announces old new h epoch =
    (m : Meaning) (x : Whole) (p : HartPart) → IsStateOf old x → Sound m x → IsIdle x h p → p.epoch ≡ epoch → 0 < epoch → ¬ Has x.book.gone h → Sound m (epoch_announced x h p) × IsStateOf new (epoch_announced x h p)

-- going idle keeps the state sound, whatever is known beside it, and the pass that ends is backed by the versions
abbrev pub GoesIdle : CodeState → CodeState → ℕ → Type 0
GoesIdle old new h =
    (m : Meaning) (x : Whole) (p : HartPart) (word : ℕ) → IsStateOf old x → Sound m x → IsActive x h p word → Sound m (gone_idle x h p) × IsStateOf new (gone_idle x h p) × Backed m (length x.code) x.book p.pass

abbrev pub with_draft : Book → Option Draft → Book
with_draft book d = record { versions = book.versions; texts = book.texts; draft = d; seated = book.seated; gone = book.gone; joined = book.joined; looks = book.looks }

abbrev pub draft_of : ℕ → ℕ → ℕ → List ℕ → ℕ → Draft
draft_of symbol level base words stored = record { symbol = symbol; level = level; base = base; words = words; stored = stored }

-- a draft of this version may begin
pub record CanBegin (m : Meaning) (x : Whole) (symbol base : ℕ) (words : List ℕ) : Type 0 where
  pub free : x.book.draft ≡ None
  pub room : length x.book.versions < 1048576
  pub good : Good m symbol words
  pub has_cell : symbol < length x.cells
  pub fits : IsBase (length x.code) base (length words)
  pub apart : (i : ℕ) (v : VersionState) → At x.book.versions i v → Stays v.status → Apart v.base v.words base (length words)

-- the header is stored, which begins the draft
abbrev pub draft_begun : Whole → ℕ → ℕ → ℕ → List ℕ → Whole
draft_begun x symbol level base words = record {
  cells = x.cells;
  epoch = x.epoch;
  announced = x.announced;
  code = slice_set x.code (start_of base) (length x.book.versions + 1);
  harts = x.harts;
  book = with_draft x.book (Some (draft_of symbol level base words 1));
}

abbrev pub one_more : Draft → Draft
one_more d = draft_of d.symbol d.level d.base d.words (d.stored + 1)

-- this draft stands, and this word is its next one
abbrev pub IsNext : Whole → Draft → ℕ → Type 0
IsNext x d word = (x.book.draft ≡ Some d) × At d.words (d.stored - 1) word

-- the next word of the draft is stored
abbrev pub word_stored : Whole → Draft → ℕ → Whole
word_stored x d word = record {
  cells = x.cells;
  epoch = x.epoch;
  announced = x.announced;
  code = slice_set x.code (start_of d.base + d.stored) word;
  harts = x.harts;
  book = with_draft x.book (Some (one_more d));
}

-- a linked version of this symbol isn't linked any more
abbrev pub unlink : Bool → Status → Status
unlink true Linked = Unlinked
unlink true Unlinked = Unlinked
unlink true (Pending tag passed) = Pending tag passed
unlink true GivenUp = GivenUp
unlink false s = s

abbrev pub with_status : VersionState → Status → VersionState
with_status v s = record { number = v.number; symbol = v.symbol; level = v.level; base = v.base; words = v.words; status = s }

abbrev pub unlinked : ℕ → VersionState → VersionState
unlinked symbol v = with_status v (unlink (v.symbol == symbol) v.status)

abbrev pub linked_of : Draft → ℕ → VersionState
linked_of d number = record { number = number; symbol = d.symbol; level = d.level; base = d.base; words = length d.words; status = Linked }

-- the draft is complete
abbrev pub IsComplete : Whole → Draft → Type 0
IsComplete x d = (x.book.draft ≡ Some d) × (d.stored ≡ length d.words + 1)

-- the draft becomes the linked version of its symbol
abbrev pub book_swapped : Book → Draft → Book
book_swapped book d = record {
  versions = map (unlinked d.symbol) book.versions ++ linked_of d (length book.versions) ∷ [];
  texts = book.texts ++ d.words ∷ [];
  draft = None;
  seated = book.seated;
  gone = book.gone;
  joined = book.joined;
  looks = book.looks;
}

abbrev pub cell_swapped : Whole → Draft → Whole
cell_swapped x d = record {
  cells = slice_set x.cells d.symbol d.base;
  epoch = x.epoch;
  announced = x.announced;
  code = x.code;
  harts = x.harts;
  book = book_swapped x.book d;
}

abbrev pub new_part : HartPart
new_part = record { epoch = 0; pass = []; ended = [] }

abbrev pub book_split : Book → Book
book_split book = record { versions = book.versions; texts = book.texts; draft = book.draft; seated = book.seated + 1; gone = book.gone; joined = book.joined; looks = book.looks }

-- each symbol has a linked version
abbrev pub AllLinked : ℕ → Book → Type 0
AllLinked functions book = (k : ℕ) → k < functions → (i : ℕ) × (v : VersionState) × At book.versions i v × (v.status ≡ Linked) × (v.symbol ≡ k)

-- one more hart, which is idle
abbrev pub hart_split : Whole → Whole
hart_split x = record { cells = x.cells; epoch = x.epoch; announced = x.announced; code = x.code; harts = x.harts ++ new_part ∷ []; book = book_split x.book }

-- the version at this place has another status
abbrev pub restatus : Book → ℕ → VersionState → Status → Book
restatus book i v s = record { versions = slice_set book.versions i (with_status v s); texts = book.texts; draft = book.draft; seated = book.seated; gone = book.gone; joined = book.joined; looks = book.looks }

-- this version is unlinked
abbrev pub IsUnlinked : Whole → ℕ → VersionState → Type 0
IsUnlinked x i v = At x.book.versions i v × (v.status ≡ Unlinked)

-- the epoch is one more, and the version is pending with it
abbrev pub epoch_raised : Whole → ℕ → VersionState → Whole
epoch_raised x i v = record { cells = x.cells; epoch = x.epoch + 1; announced = x.announced; code = x.code; harts = x.harts; book = restatus x.book i v (Pending (x.epoch + 1) 0) }

-- this version is pending
abbrev pub IsPending : Whole → ℕ → VersionState → ℕ → ℕ → Type 0
IsPending x i v tag passed = At x.book.versions i v × (v.status ≡ Pending tag passed)

-- one mark more: that of this hart
pub record IsMarked (passed marked hart : ℕ) : Type 0 where
  pub here : HasPassed marked hart
  pub others : (h : ℕ) → h ≢ hart → HasPassed marked h → HasPassed passed h
  pub kept : (h : ℕ) → HasPassed passed h → HasPassed marked h

-- the marks after a look that found this word: the hart has passed where it is 0 or at least the tag
abbrev pub Marks : ℕ → ℕ → ℕ → ℕ → ℕ → Type 0
Marks tag passed hart found marked = (((found ≡ 0) ⊎ (tag ≤ found)) × IsMarked passed marked hart) ⊎ ((0 < found) × (found < tag) × (marked ≡ passed))

abbrev pub with_look : Book → Look → Book
with_look book look = record { versions = book.versions; texts = book.texts; draft = book.draft; seated = book.seated; gone = book.gone; joined = book.joined; looks = book.looks ++ look ∷ [] }

-- the look is listed, and the version has these marks
abbrev pub hart_looked : Whole → ℕ → VersionState → ℕ → ℕ → ℕ → ℕ → Whole
hart_looked x i v tag marked hart found = record { cells = x.cells; epoch = x.epoch; announced = x.announced; code = x.code; harts = x.harts; book = with_look (restatus x.book i v (Pending tag marked)) record { version = i; hart = hart; found = found } }

-- each hart has passed the version
abbrev pub AllPassed : Whole → ℕ → Type 0
AllPassed x passed = (h : ℕ) → h < length x.announced → HasPassed passed h

-- the header is 0, and the version is given up
abbrev pub header_cleared : Whole → ℕ → VersionState → Whole
header_cleared x i v = record { cells = x.cells; epoch = x.epoch; announced = x.announced; code = slice_set x.code (start_of v.base) 0; harts = x.harts; book = restatus x.book i v GivenUp }

-- the hart isn't gone
abbrev pub IsHere : Whole → ℕ → Type 0
IsHere x h = ¬ Has x.book.gone h

abbrev pub book_joined : Book → ℕ → HartPart → Book
book_joined book h p = record { versions = book.versions; texts = book.texts; draft = book.draft; seated = book.seated; gone = book.gone ++ h ∷ []; joined = book.joined ++ p ∷ []; looks = book.looks }

-- the hart is gone, and the keeper has what it knew
abbrev pub hart_joined : Whole → ℕ → HartPart → Whole
hart_joined x h p = record { cells = x.cells; epoch = x.epoch; announced = x.announced; code = x.code; harts = x.harts; book = book_joined x.book h p }

-- the draft is that of this version at this base
abbrev pub IsDraftOf : Draft → Version → ℕ → Type 0
IsDraftOf d version base = (d.symbol ≡ version.symbol) × (d.level ≡ version.level) × (d.base ≡ base) × (d.words ≡ version.words)

-- storing the header begins the draft and keeps the state sound, whatever is known beside it
abbrev pub StoresHeader : CodeState → CodeState → Version → ℕ → Type 0
StoresHeader old new version base =
    (m : Meaning) (x : Whole) → IsStateOf old x → Sound m x → CanBegin m x version.symbol base version.words
    → Sound m (draft_begun x version.symbol version.level base version.words) × IsStateOf new (draft_begun x version.symbol version.level base version.words)

-- storing the draft's next word keeps the state sound, whatever is known beside it
abbrev pub StoresNext : CodeState → CodeState → Version → ℕ → ℕ → ℕ → Type 0
StoresNext old new version base index word =
    (m : Meaning) (x : Whole) (d : Draft) → IsStateOf old x → Sound m x → x.book.draft ≡ Some d → IsDraftOf d version base → index ≡ start_of base + d.stored
    → Sound m (word_stored x d word) × IsStateOf new (word_stored x d word)

-- swapping the cell links the complete draft and keeps the state sound, whatever is known beside it
abbrev pub SwapsCell : CodeState → CodeState → Version → ℕ → Type 0
SwapsCell old new version base =
    (m : Meaning) (x : Whole) (d : Draft) → IsStateOf old x → Sound m x → IsComplete x d → IsDraftOf d version base → Sound m (cell_swapped x d) × IsStateOf new (cell_swapped x d)

-- raising the epoch for an unlinked version keeps the state sound, whatever is known beside it
abbrev pub RaisesEpoch : CodeState → CodeState → ℕ → Type 0
RaisesEpoch old new number =
    (m : Meaning) (x : Whole) (v : VersionState) → IsStateOf old x → Sound m x → IsUnlinked x number v → Sound m (epoch_raised x number v) × IsStateOf new (epoch_raised x number v)

-- the marks after a look that found this word
abbrev pub marked_by : ℕ → ℕ → ℕ → ℕ → ℕ
marked_by tag passed hart found = if found == 0 then bit_or passed (1 * 2 ^ hart % 2 ^ 32) else if nat_lt found tag then passed else bit_or passed (1 * 2 ^ hart % 2 ^ 32)

-- looking at a hart's word keeps the state sound, whatever is known beside it
abbrev pub LooksAtHart : CodeState → CodeState → ℕ → ℕ → Bool → Type 0
LooksAtHart old new number hart passes =
    (m : Meaning) (x : Whole) (v : VersionState) (tag passed found : ℕ) → IsStateOf old x → Sound m x → IsPending x number v tag passed → At x.announced hart found
    → Sound m (hart_looked x number v tag (marked_by tag passed hart found) hart found) × IsStateOf new (hart_looked x number v tag (marked_by tag passed hart found) hart found) × ((passes ≡ true) ↔ ((found ≡ 0) ⊎ (tag ≤ found)))

-- clearing the header gives the version up and keeps the state sound, whatever is known beside it
abbrev pub ClearsHeader : CodeState → CodeState → ℕ → Type 0
ClearsHeader old new number =
    (m : Meaning) (x : Whole) (v : VersionState) (tag passed : ℕ) → IsStateOf old x → Sound m x → IsPending x number v tag passed → AllPassed x passed → Sound m (header_cleared x number v) × IsStateOf new (header_cleared x number v)

-- a keeper's view before the first version
abbrev pub first_book : Book
first_book = record { versions = []; texts = []; draft = None; seated = 0; gone = []; joined = []; looks = [] }

-- the state before the first version: cells and words are 0, the epoch is 1, and there is no hart
abbrev pub first_whole : Meaning → ℕ → ℕ → Whole
first_whole m harts code_words = record {
  cells = replicate m.functions 0;
  epoch = 1;
  announced = replicate harts 0;
  code = replicate code_words 0;
  harts = [];
  book = first_book;
}

-- the version of no table
abbrev pub no_version : VersionState
no_version = record { number = 0; symbol = 0; level = 0; base = 0; words = 0; status = Linked }
