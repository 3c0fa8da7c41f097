-- The rule of the code table: its words and the views of its seats are a sound code state.
use Rattle.std.specs.Prelude.{◌≡◌, ℕ, ◌+◌, ◌-◌, ◌*◌, ◌%◌, ◌<◌, ◌≤◌, List, [], ◌∷◌, ◌++◌, length, replicate, Option, Some, None, Bool, true, false}
use Rattle.code_epochs.specs.declared.state.Status.TheVariants.{Unlinked, Pending, GivenUp}
use Rattle.ir_meaning.specs.Plays.{Meaning}
use Rattle.ir_meaning.specs.Meaning.{meaning}
use Rattle.ir_core.specs.Program.{Program}
use Rattle.code_epochs.specs.declared.parts.Item.{Item}
use Rattle.code_epochs.specs.declared.parts.Item.TheVariants.{Held, Saw}
use Rattle.code_epochs.specs.declared.parts.HartPart.{HartPart}
use Rattle.code_epochs.specs.declared.parts.Book.{Book}
use Rattle.code_epochs.specs.declared.parts.Draft.{Draft}
use Rattle.code_epochs.specs.declared.state.VersionState.{VersionState}
use Rattle.rv_play.specs.declared.version.Version.{Version}
use Rattle.rv_play.specs.Good.{Good}
use Rattle.code_epochs.specs.Sound.{At, Has, Whole, Sound, Backed, HoldsStaying, HasPassed, Stays, IsBase, Apart, start_of}
use Rattle.code_epochs.specs.Steps.{with_item, address_of, with_draft, one_more, draft_of, book_swapped, loaded_part, ended_part, book_split, new_part, book_joined, restatus, with_look, marked_by}
use Rattle.redirect_cells.specs.declared.view.Plan.{Plan}
use Rattle.redirect_cells.specs.declared.view.Role.{Role}
use Rattle.redirect_cells.specs.declared.view.Role.TheVariants.{Hart, Keeper, Spent}
use Rattle.redirect_cells.specs.declared.view.View.{View}

-- what the plan's module means
unfoldable pub meaning_of : Plan → Meaning
meaning_of plan = meaning plan.module.value

-- the number of functions of the plan's module
abbrev pub functions_of : Plan → ℕ
functions_of plan = (meaning_of plan).functions

-- the words of the table: the epoch, the cells, the harts' words and the code
abbrev pub layout : Whole → List ℕ
layout x = x.epoch ∷ (x.cells ++ (x.announced ++ x.code))

-- what a seat in this role knows is the whole's. There is one keeper, and one seat for each hart
abbrev pub Fits : Whole → ℕ → (ℕ → ℕ) → ℕ → Role → Type 0
Fits x keeper seat by (Hart v) = (by ≡ seat v.number) × At x.harts v.number v.part × At x.announced v.number v.word × ¬ Has x.book.gone v.number
Fits x keeper seat by (Keeper book) = (by ≡ keeper) × (book ≡ x.book)
Fits x keeper seat by Spent = Unit {0}

abbrev pub FitsView : Plan → Whole → ℕ → (ℕ → ℕ) → ℕ → View → Type 0
FitsView plan x keeper seat by v = Fits x keeper seat by v.role

-- there is a sound code state of which the words and the views are parts
pub record Kept (plan : Plan) (words : List ℕ) (views : List View) : Type 0 where
  pub whole : Whole
  pub keeper : ℕ
  pub seat : ℕ → ℕ
  pub sound : Sound (meaning_of plan) whole
  pub words_are : words ≡ layout whole
  pub harts : length whole.announced ≡ plan.harts
  pub code_words : length whole.code ≡ plan.code_words
  pub small : (i w : ℕ) → At whole.code i w → w < 4294967296
  pub fits : (by : ℕ) (v : View) → At views by v → FitsView plan whole keeper seat by v

-- the keeper of a table without versions
abbrev pub no_book : Book
no_book = record { versions = []; texts = []; draft = None; seated = 0; gone = []; joined = []; looks = [] }

abbrev pub opened : Plan → View
opened plan = record { plan = plan; role = Keeper no_book }

abbrev pub no_part : HartPart
no_part = record { epoch = 0; pass = []; ended = [] }

-- what a hart's view knows as that hart
abbrev pub part_in : Role → HartPart
part_in (Hart v) = v.part
part_in (Keeper book) = no_part
part_in Spent = no_part

abbrev pub part_of : View → HartPart
part_of v = part_in v.role

abbrev pub Begun : Role → Type 0
Begun (Hart v) = 0 < v.word
Begun (Keeper book) = ⊥
Begun Spent = ⊥

-- the view of a hart that has announced an epoch
abbrev pub IsBegun : View → Type 0
IsBegun v = Begun v.role

-- the hart knows this now
abbrev pub with_part : Role → HartPart → Role
with_part (Hart v) p = Hart record { number = v.number; word = v.word; part = p }
with_part (Keeper book) p = Keeper book
with_part Spent p = Spent

abbrev pub hart_view : View → HartPart → View
hart_view v p = record { plan = v.plan; role = with_part v.role p }

-- the cell of the loaded word was held
abbrev pub cell_loaded : ℕ → View → ℕ → View → Type 0
cell_loaded word v found w = w ≡ hart_view v (with_item (part_of v) (Held (word - 1) found))

-- the code word was seen
abbrev pub word_loaded : ℕ → View → ℕ → View → Type 0
word_loaded word v found w = w ≡ hart_view v (with_item (part_of v) (Saw (address_of (word - (1 + (functions_of v.plan) + v.plan.harts))) found))

-- the address of a code word, in a code region of n words
abbrev pub IsAddress : ℕ → ℕ → Type 0
IsAddress n address = (16777216 ≤ address) × (address % 4 ≡ 0) × (address < 16777216 + 4 * n)

-- what a view knows as the keeper
abbrev pub book_in : Role → Book
book_in (Hart v) = no_book
book_in (Keeper book) = book
book_in Spent = no_book

abbrev pub book_of : View → Book
book_of v = book_in v.role

abbrev pub is_keeper : Role → Bool
is_keeper (Hart v) = false
is_keeper (Keeper book) = true
is_keeper Spent = false

abbrev pub IsKeeper : View → Type 0
IsKeeper v = is_keeper v.role ≡ true

-- the keeper knows this now
abbrev pub keeper_view : View → Book → View
keeper_view v book = record { plan = v.plan; role = Keeper book }

abbrev pub more_stored : Option Draft → Option Draft
more_stored None = None
more_stored (Some d) = Some (one_more d)

abbrev pub swapped_by : Book → Option Draft → Book
swapped_by book None = book
swapped_by book (Some d) = book_swapped book d

-- the draft has begun
abbrev pub header_stored : Draft → View → View → Type 0
header_stored d v w = w ≡ keeper_view v (with_draft (book_of v) (Some d))

-- one more word of the draft is stored
abbrev pub next_stored : View → View → Type 0
next_stored v w = w ≡ keeper_view v (with_draft (book_of v) (more_stored (book_of v).draft))

-- the draft is the linked version of its symbol
abbrev pub draft_linked : View → View → Type 0
draft_linked v w = w ≡ keeper_view v (swapped_by (book_of v) (book_of v).draft)

-- the table's word for a code word
abbrev pub code_word : Plan → ℕ → ℕ
code_word plan place = 1 + (functions_of plan) + plan.harts + place

-- the keeper with this book may begin this draft
pub record MayBegin (plan : Plan) (book : Book) (d : Draft) : Type 0 where
  pub free : book.draft ≡ None
  pub room : length book.versions < 1048576
  pub good : Good (meaning_of plan) d.symbol d.words
  pub has_cell : d.symbol < (functions_of plan)
  pub fits : IsBase plan.code_words d.base (length d.words)
  pub apart : (i : ℕ) (v : VersionState) → At book.versions i v → Stays v.status → Apart v.base v.words d.base (length d.words)
  pub begins : d.stored ≡ 1

-- no table's draft
abbrev pub no_draft : Draft
no_draft = record { symbol = 0; level = 0; base = 0; words = []; stored = 0 }

-- this word is the draft's next one, and this its place
abbrev pub IsNextWord : Option Draft → ℕ → ℕ → Type 0
IsNextWord None place n = ⊥
IsNextWord (Some d) place n = (place ≡ start_of d.base + d.stored) × At d.words (d.stored - 1) n

-- the draft is complete, of this symbol and with this base
abbrev pub IsWhole : Option Draft → ℕ → ℕ → Type 0
IsWhole None symbol base = ⊥
IsWhole (Some d) symbol base = (d.stored ≡ length d.words + 1) × (d.symbol ≡ symbol) × (d.base ≡ base)

abbrev pub is_hart : Role → Bool
is_hart (Hart v) = true
is_hart (Keeper book) = false
is_hart Spent = false

-- what a hart's view knows of its number and its word
abbrev pub number_in : Role → ℕ
number_in (Hart v) = v.number
number_in (Keeper book) = 0
number_in Spent = 0

abbrev pub word_in : Role → ℕ
word_in (Hart v) = v.word
word_in (Keeper book) = 0
word_in Spent = 0

abbrev pub turned : Role → HartPart → ℕ → Role
turned (Hart v) p word = Hart record { number = v.number; word = word; part = p }
turned (Keeper book) p word = Keeper book
turned Spent p word = Spent

-- the hart knows and has announced this now
abbrev pub turned_view : View → HartPart → ℕ → View
turned_view v p word = record { plan = v.plan; role = turned v.role p word }

-- the view of a hart that is idle
abbrev pub IsIdleView : View → Type 0
IsIdleView v = (is_hart v.role ≡ true) × (word_in v.role ≡ 0)

-- the epoch was loaded
abbrev pub loaded_epoch : View → ℕ → View → Type 0
loaded_epoch v found w = w ≡ hart_view v (loaded_part (part_of v) found)

-- the loaded epoch was announced
abbrev pub announced_epoch : View → View → Type 0
announced_epoch v w = w ≡ turned_view v (part_of v) (part_of v).epoch

-- The hart with this number, which has announced this word and knows this, in a sound state of the plan's table: its pass is backed by
-- the table's versions, and each version that it holds is one of them and isn't given up.
pub record IsServed (plan : Plan) (number word : ℕ) (p : HartPart) : Type 0 where
  pub table : Whole
  pub sound : Sound (meaning_of plan) table
  pub code_words : length table.code ≡ plan.code_words
  pub knows : At table.harts number p
  pub announced : At table.announced number word
  pub backed : Backed (meaning_of plan) plan.code_words table.book p.pass
  pub stays : HoldsStaying table.book p.pass

-- some hart that was so served had this pass
abbrev pub WasServed : Plan → List Item → Type 0
WasServed plan pass = (number : ℕ) × (word : ℕ) × (p : HartPart) × (p.pass ≡ pass) × IsServed plan number word p

-- the pass has ended, and the hart was served until then
abbrev pub pass_ended : View → View → Type 0
pass_ended v w = (w ≡ turned_view v (ended_part (part_of v)) 0) × IsServed v.plan (number_in v.role) (word_in v.role) (part_of v)

-- the sizes of a plan that a table may have
abbrev pub IsPlan : Plan → Type 0
IsPlan plan = (plan.harts ≤ 16) × (plan.code_words ≤ 4194304)

-- the plan of this module and these sizes
abbrev pub IsPlanOf : Plan → Program → ℕ → ℕ → Type 0
IsPlanOf plan program harts code_words = (plan.module.value ≡ program) × (plan.harts ≡ harts) × (plan.code_words ≡ code_words)

-- the words of a table without versions
abbrev pub first_words : Plan → List ℕ
first_words plan = 1 ∷ replicate ((functions_of plan) + plan.harts + plan.code_words) 0

-- the keeper gave a new hart its seat
abbrev pub split_role : Role → Role
split_role (Hart v) = Hart v
split_role (Keeper book) = Keeper (book_split book)
split_role Spent = Spent

abbrev pub split_view : View → View
split_view v = record { plan = v.plan; role = split_role v.role }

abbrev pub new_hart : View → View
new_hart v = record { plan = v.plan; role = Hart record { number = (book_of v).seated; word = 0; part = new_part } }

-- the draft of this version at this place, of which so many words are stored
abbrev pub draft_at : Version → ℕ → ℕ → Draft
draft_at version place stored = draft_of version.symbol version.level (16777220 + 4 * place) version.words stored

-- the range of each version that isn't given up ends below this place
abbrev pub AllBelow : List VersionState → ℕ → Type 0
AllBelow versions place = (i : ℕ) (v : VersionState) → At versions i v → Stays v.status → start_of v.base + v.words < place

-- the keeper takes in what a hart knew
abbrev pub joined_role : Role → Role → Role
joined_role (Keeper book) (Hart h) = Keeper (book_joined book h.number h.part)
joined_role (Keeper book) (Keeper other) = Keeper book
joined_role (Keeper book) Spent = Keeper book
joined_role (Hart v) w = Hart v
joined_role Spent w = Spent

abbrev pub joined_view : View → View → View
joined_view v w = record { plan = v.plan; role = joined_role v.role w.role }

-- the plan of no table
abbrev pub no_plan : Plan
no_plan = record { «module» = record { marker = record {}; value = record { module_ = record { globals = []; functions = [] }; room = 0 } }; harts = 0; code_words = 0 }

abbrev pub spent_view : View
spent_view = record { plan = no_plan; role = Spent }

-- the ended passes of each hart that was joined are backed by the keeper's versions
abbrev pub JoinedBacked : View → Type 0
JoinedBacked v = (i : ℕ) (p : HartPart) → At (book_of v).joined i p → (e : ℕ) (pass : List Item) → At p.ended e pass → Backed (meaning_of v.plan) v.plan.code_words (book_of v) pass

-- the version with this number is pending with the raised epoch
abbrev pub epoch_raised_by : ℕ → View → ℕ → View → Type 0
epoch_raised_by number v found w = (u : VersionState) → At (book_of v).versions number u → w ≡ keeper_view v (restatus (book_of v) number u (Pending (found + 1) 0))

-- the hart of the word was looked at for the version with this number
abbrev pub hart_looked_at : ℕ → ℕ → View → ℕ → View → Type 0
hart_looked_at number word v found w =
    let hart = word - (1 + (functions_of v.plan)) in
    (u : VersionState) (tag passed : ℕ) → At (book_of v).versions number u → u.status ≡ Pending tag passed
    → w ≡ keeper_view v (with_look (restatus (book_of v) number u (Pending tag (marked_by tag passed hart found))) record { version = number; hart = hart; found = found })

-- a hart that is gone was found idle
abbrev pub found_gone : ℕ → View → ℕ → Type 0
found_gone word v found = Has (book_of v).gone (word - (1 + (functions_of v.plan))) → found ≡ 0

-- the version with this number is given up
abbrev pub version_given_up : ℕ → View → View → Type 0
version_given_up number v w = (u : VersionState) → At (book_of v).versions number u → w ≡ keeper_view v (restatus (book_of v) number u GivenUp)

-- the version with this number is there and unlinked
abbrev pub IsUnlinkedAt : Book → ℕ → Type 0
IsUnlinkedAt book number = (v : VersionState) × At book.versions number v × (v.status ≡ Unlinked)

-- the version with this number is there and pending
abbrev pub IsPendingAt : Book → ℕ → Type 0
IsPendingAt book number = (v : VersionState) × (tag : ℕ) × (passed : ℕ) × At book.versions number v × (v.status ≡ Pending tag passed)

-- each hart has passed the version with this number, whose header is at this place
abbrev pub HasAllPassed : Book → ℕ → ℕ → ℕ → Type 0
HasAllPassed book number harts place = (v : VersionState) × (tag : ℕ) × (passed : ℕ) × At book.versions number v × (v.status ≡ Pending tag passed) × ((h : ℕ) → h < harts → HasPassed passed h) × (place ≡ start_of v.base)
