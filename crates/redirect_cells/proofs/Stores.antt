-- The keeper's stores and swaps keep the rule, by the laws of the step functions.
use Rattle.std.proofs.Common.{◌≡◌, ℕ, suc, ◌+◌, ◌-◌, ◌<◌, ◌≢◌, List, [], ◌∷◌, ◌++◌, length, set, Option, Some, None, true, false, sym, refl, ap, ◌∙◌, subst, ⊎_elim, arith, length-set}
use Rattle.atomic_table.specs.Table.{State, Me, keeps, Allows}
use Rattle.code_epochs.specs.declared.parts.Draft.{Draft}
use Rattle.code_epochs.specs.declared.parts.Book.{Book}
use Rattle.code_epochs.specs.declared.state.VersionState.{VersionState}
use Rattle.code_epochs.specs.Sound.{At, Has, Whole, Sound, Stays, IsBase, Apart, start_of, DraftStands, DraftFits}
use Rattle.code_epochs.specs.Steps.{with_draft, draft_of, one_more, CanBegin, book_swapped}
use Rattle.code_epochs.proofs.Lists.{at_set}
use Rattle.code_epochs.proofs.Keeper.{store_header_sound, store_next_sound}
use Rattle.code_epochs.proofs.Swap.{swap_cell_sound}
use Rattle.redirect_cells.specs.declared.view.Plan.{Plan}
use Rattle.redirect_cells.specs.declared.view.Role.{Role}
use Rattle.redirect_cells.specs.declared.view.Role.TheVariants.{Hart, Keeper, Spent}
use Rattle.redirect_cells.specs.declared.view.View.{View}
use Rattle.redirect_cells.specs.Kept.{meaning_of, functions_of, layout, Fits, FitsView, Kept, is_keeper, IsKeeper, IsNextWord, IsWhole, book_in, book_of, keeper_view, more_stored, swapped_by, header_stored, next_stored, draft_linked, code_word, MayBegin}
use Rattle.redirect_cells.proofs.Words.{set_front, set_back}

-- the whole with other cells, code and book
abbrev pub rewritten : Whole → ℕ → List ℕ → List ℕ → Book → Whole
rewritten x epoch cells code book = record { cells = cells; epoch = epoch; announced = x.announced; code = code; harts = x.harts; book = book }

others_fit : (x : Whole) (epoch : ℕ) (cells code : List ℕ) (book : Book) (keeper : ℕ) (seat : ℕ → ℕ) (j : ℕ) → j ≢ keeper → book.gone ≡ x.book.gone → (r : Role) → Fits x keeper seat j r → Fits (rewritten x epoch cells code book) keeper seat j r
others_fit x epoch cells code book keeper seat j apart same (Hart v) fits = (fits.0, fits.1, fits.2, λ gone. fits.3 (subst (λ (l : List ℕ). Has l v.number) same gone))
others_fit x epoch cells code book keeper seat j apart same (Keeper b) fits = absurd (apart fits.0)
others_fit x epoch cells code book keeper seat j apart same Spent fits = fits

-- the keeper's step is sound
pub keeper_keeps : (plan : Plan) (words words' : List ℕ) (views : List View) (id : ℕ) (v : View) (epoch : ℕ) (cells code : List ℕ) (book : Book) (k : Kept plan words views) → At views id v → v.role ≡ Keeper k.whole.book → id ≡ k.keeper
    → Sound (meaning_of plan) (rewritten k.whole epoch cells code book) → words' ≡ layout (rewritten k.whole epoch cells code book) → book.gone ≡ k.whole.book.gone → length code ≡ length k.whole.code → ((i w : ℕ) → At code i w → w < 4294967296)
    → Kept plan words' (set views id (keeper_view v book))
keeper_keeps plan words words' views id v epoch cells code book k at is mine sound words_are gone size small = record {
  whole = rewritten k.whole epoch cells code book;
  keeper = k.keeper;
  seat = k.seat;
  sound = sound;
  words_are = words_are;
  harts = k.harts;
  code_words = size ∙ k.code_words;
  small = small;
  fits = λ j u here. ⊎_elim
      (λ (t : (j ≡ id) × (keeper_view v book ≡ u)). subst (λ (z : ℕ × View). FitsView plan (rewritten k.whole epoch cells code book) k.keeper k.seat z.0 z.1) (λ i. (sym t.0 i, t.1 i)) (mine, refl))
      (λ (t : (j ≢ id) × At views j u). let old = k.fits j u t.1 in others_fit k.whole epoch cells code book k.keeper k.seat j (λ e. t.0 (e ∙ sym mine)) gone u.role old)
      (at_set views id j (keeper_view v book) u here);
}

-- the layout with one code word changed
pub set_code : (plan : Plan) (x : Whole) (place w : ℕ) (book : Book) → length x.cells ≡ (functions_of plan) → length x.announced ≡ plan.harts → set (layout x) (code_word plan place) w ≡ layout (rewritten x x.epoch x.cells (set x.code place w) book)
set_code plan x place w book functions harts =
    let e : code_word plan place ≡ suc (length x.cells + (length x.announced + place)) = (λ i. 1 + sym functions i + sym harts i + place) ∙ omega arith in
    ap (λ (n : ℕ). set (layout x) n w) e ∙ ap (λ (l : List ℕ). x.epoch ∷ l) (set_back x.cells (x.announced ++ x.code) (length x.announced + place) w ∙ ap (λ (l : List ℕ). x.cells ++ l) (set_back x.announced x.code place w))

-- the layout with one cell changed
set_cell : (x : Whole) (symbol b : ℕ) (book : Book) → symbol < length x.cells → set (layout x) (1 + symbol) b ≡ layout (rewritten x x.epoch (set x.cells symbol b) x.code book)
set_cell x symbol b book inside =
    let e : 1 + symbol ≡ suc symbol = omega arith in
    ap (λ (n : ℕ). set (layout x) n b) e ∙ ap (λ (l : List ℕ). x.epoch ∷ l) (set_front x.cells (x.announced ++ x.code) symbol b inside)

pub small_set : (code : List ℕ) (place n : ℕ) → n < 4294967296 → ((i w : ℕ) → At code i w → w < 4294967296) → (i w : ℕ) → At (set code place n) i w → w < 4294967296
small_set code place n low small i w here = ⊎_elim (λ (t : (i ≡ place) × (n ≡ w)). subst (λ (y : ℕ). y < 4294967296) t.1 low) (λ (t : (i ≢ place) × At code i w). small i w t.1) (at_set code place i n w here)

off : false ≡ true → ⊥
off e = absurd (cc)

pub keeper_is : (r : Role) → is_keeper r ≡ true → r ≡ Keeper (book_in r)
keeper_is (Hart v) h = absurd (off h)
keeper_is (Keeper book) h = refl
keeper_is Spent h = absurd (off h)

module _ {S : Type 0} (plan : Plan) where
  abbrev Rule : State S View → Type 0
  Rule s = Kept plan s.words s.views

  pub stores_header : (slots id word header : ℕ) (me : Me S View) (d : Draft) → me.1 ≡ [] → IsKeeper me.0 → MayBegin plan (book_of me.0) d → word ≡ code_word plan (start_of d.base) → header ≡ length (book_of me.0).versions + 1
      → Allows Rule slots id me word (λ _. header) (λ _ w. header_stored d me.0 w.0 × (w.1 ≡ []))
  stores_header slots id word header me d empty keeper may at_word is_header s k homes at fits64 =
      let x = k.whole in
      let book = book_of me.0 in
      let role : me.0.role ≡ Keeper book = keeper_is me.0.role keeper in
      let mine = subst (λ (r : Role). Fits x k.keeper k.seat id r) role (k.fits id me.0 at) in
      let same : book ≡ x.book = mine.1 in
      let place : ℕ = start_of d.base in
      let can : CanBegin (meaning_of plan) x d.symbol d.base d.words = record {
        free = sym (ap (λ (b : Book). b.draft) same) ∙ may.free;
        room = subst (λ (b : Book). length b.versions < 1048576) same may.room;
        good = may.good;
        has_cell = subst (λ (n : ℕ). d.symbol < n) (sym k.sound.book.functions) may.has_cell;
        fits = subst (λ (n : ℕ). IsBase n d.base (length d.words)) (sym k.code_words) may.fits;
        apart = subst (λ (b : Book). (i : ℕ) (v : VersionState) → At b.versions i v → Stays v.status → Apart v.base v.words d.base (length d.words)) same may.apart;
      } in
      let sound = store_header_sound (meaning_of plan) x d.symbol d.level d.base d.words k.sound can in
      let header_is : header ≡ length x.book.versions + 1 = is_header ∙ ap (λ (b : Book). length b.versions + 1) same in
      let first : draft_of d.symbol d.level d.base d.words 1 ≡ d = (λ i. draft_of d.symbol d.level d.base d.words (sym may.begins i)) in
      let now : Book = with_draft book (Some d) in
      let now_is : with_draft x.book (Some (draft_of d.symbol d.level d.base d.words 1)) ≡ now = (λ i. with_draft (sym same i) (Some (first i))) in
      let sound' : Sound (meaning_of plan) (rewritten x x.epoch x.cells (set x.code place header) now) = subst (λ (z : ℕ × Book). Sound (meaning_of plan) (rewritten x x.epoch x.cells (set x.code place z.0) z.1)) (λ i. (sym header_is i, now_is i)) sound in
      let words : set s.words word header ≡ layout (rewritten x x.epoch x.cells (set x.code place header) now) = (λ i. set (k.words_are i) (at_word i) header) ∙ set_code plan x place header now k.sound.book.functions k.harts in
      let room = can.room in
      let low : header < 4294967296 = omega arith in (
        keeper_view me.0 now,
        keeps,
        tt,
        keeper_keeps plan s.words (set s.words word header) s.views id me.0 x.epoch x.cells (set x.code place header) now k at (role ∙ ap Keeper same) mine.0 sound' words (ap (λ (b : Book). b.gone) same) (length-set x.code place header) (small_set x.code place header low k.small),
        (refl, empty),
      )

  pub stores_next : (slots id word n : ℕ) (me : Me S View) (d : Draft) → me.1 ≡ [] → IsKeeper me.0 → (book_of me.0).draft ≡ Some d → At d.words (d.stored - 1) n → n < 4294967296 → word ≡ code_word plan (start_of d.base + d.stored)
      → Allows Rule slots id me word (λ _. n) (λ _ w. next_stored me.0 w.0 × (w.1 ≡ []))
  stores_next slots id word n me d empty keeper stands next low at_word s k homes at fits64 =
      let x = k.whole in
      let book = book_of me.0 in
      let role : me.0.role ≡ Keeper book = keeper_is me.0.role keeper in
      let mine = subst (λ (r : Role). Fits x k.keeper k.seat id r) role (k.fits id me.0 at) in
      let same : book ≡ x.book = mine.1 in
      let place : ℕ = start_of d.base + d.stored in
      let sound = store_next_sound (meaning_of plan) x d n k.sound (sym (ap (λ (b : Book). b.draft) same) ∙ stands, next) in
      let now : Book = with_draft book (more_stored book.draft) in
      let now_is : with_draft x.book (Some (one_more d)) ≡ now = (λ i. with_draft (sym same i) (more_stored (sym stands i))) in
      let sound' : Sound (meaning_of plan) (rewritten x x.epoch x.cells (set x.code place n) now) = subst (λ (b : Book). Sound (meaning_of plan) (rewritten x x.epoch x.cells (set x.code place n) b)) now_is sound in
      let words : set s.words word n ≡ layout (rewritten x x.epoch x.cells (set x.code place n) now) = (λ i. set (k.words_are i) (at_word i) n) ∙ set_code plan x place n now k.sound.book.functions k.harts in (
        keeper_view me.0 now,
        keeps,
        tt,
        keeper_keeps plan s.words (set s.words word n) s.views id me.0 x.epoch x.cells (set x.code place n) now k at (role ∙ ap Keeper same) mine.0 sound' words (ap (λ (b : Book). b.gone) same) (length-set x.code place n) (small_set x.code place n low k.small),
        (refl, empty),
      )

  pub swaps_cell : (slots id word b : ℕ) (me : Me S View) (d : Draft) → me.1 ≡ [] → IsKeeper me.0 → (book_of me.0).draft ≡ Some d → d.stored ≡ length d.words + 1 → word ≡ 1 + d.symbol → b ≡ d.base
      → Allows Rule slots id me word (λ _. b) (λ n w. draft_linked me.0 w.0 × (w.1 ≡ []))
  swaps_cell slots id word b me d empty keeper stands whole at_word base s k homes at fits64 =
      let x = k.whole in
      let book = book_of me.0 in
      let role : me.0.role ≡ Keeper book = keeper_is me.0.role keeper in
      let mine = subst (λ (r : Role). Fits x k.keeper k.seat id r) role (k.fits id me.0 at) in
      let same : book ≡ x.book = mine.1 in
      let stands' : x.book.draft ≡ Some d = sym (ap (λ (b : Book). b.draft) same) ∙ stands in
      let draft : DraftStands (meaning_of plan) (length x.cells) x.code x.book.versions d = subst (DraftFits (meaning_of plan) (length x.cells) x.code x.book.versions) stands' k.sound.book.draft in
      let sound = swap_cell_sound (meaning_of plan) x d k.sound (stands', whole) in
      let now : Book = swapped_by book book.draft in
      let now_is : book_swapped x.book d ≡ now = (λ i. swapped_by (sym same i) (sym stands i)) in
      let sound' : Sound (meaning_of plan) (rewritten x x.epoch (set x.cells d.symbol b) x.code now) = subst (λ (z : ℕ × Book). Sound (meaning_of plan) (rewritten x x.epoch (set x.cells d.symbol z.0) x.code z.1)) (λ i. (sym base i, now_is i)) sound in
      let words : set s.words word b ≡ layout (rewritten x x.epoch (set x.cells d.symbol b) x.code now) = (λ i. set (k.words_are i) (at_word i) b) ∙ set_cell x d.symbol b now draft.symbol in
      let gone : now.gone ≡ x.book.gone = sym (ap (λ (z : Book). z.gone) now_is) in (
        keeper_view me.0 now,
        keeps,
        tt,
        keeper_keeps plan s.words (set s.words word b) s.views id me.0 x.epoch (set x.cells d.symbol b) x.code now k at (role ∙ ap Keeper same) mine.0 sound' words gone refl k.small,
        (refl, empty),
      )

  next_cases : (slots id word place n : ℕ) (me : Me S View) (o : Option Draft) → (book_of me.0).draft ≡ o → me.1 ≡ [] → IsKeeper me.0 → IsNextWord o place n → n < 4294967296 → word ≡ code_word plan place → Allows Rule slots id me word (λ _. n) (λ _ w. next_stored me.0 w.0 × (w.1 ≡ []))
  next_cases slots id word place n me None stands empty keeper next low at_word = absurd next
  next_cases slots id word place n me (Some d) stands empty keeper next low at_word = stores_next slots id word n me d empty keeper stands next.1 low (at_word ∙ ap (code_word plan) next.0)

  pub stores_next_word : (slots id word place n : ℕ) (me : Me S View) → me.1 ≡ [] → IsKeeper me.0 → IsNextWord (book_of me.0).draft place n → n < 4294967296 → word ≡ code_word plan place → Allows Rule slots id me word (λ _. n) (λ _ w. next_stored me.0 w.0 × (w.1 ≡ []))
  stores_next_word slots id word place n me = next_cases slots id word place n me (book_of me.0).draft refl

  swap_cases : (slots id symbol b : ℕ) (me : Me S View) (o : Option Draft) → (book_of me.0).draft ≡ o → me.1 ≡ [] → IsKeeper me.0 → IsWhole o symbol b → Allows Rule slots id me (1 + symbol) (λ _. b) (λ n w. draft_linked me.0 w.0 × (w.1 ≡ []))
  swap_cases slots id symbol b me None stands empty keeper whole = absurd whole
  swap_cases slots id symbol b me (Some d) stands empty keeper whole = swaps_cell slots id (1 + symbol) b me d empty keeper stands whole.0 (ap (λ (n : ℕ). 1 + n) (sym whole.1)) (sym whole.2)

  pub swaps_whole : (slots id symbol b : ℕ) (me : Me S View) → me.1 ≡ [] → IsKeeper me.0 → IsWhole (book_of me.0).draft symbol b → Allows Rule slots id me (1 + symbol) (λ _. b) (λ n w. draft_linked me.0 w.0 × (w.1 ≡ []))
  swaps_whole slots id symbol b me = swap_cases slots id symbol b me (book_of me.0).draft refl
