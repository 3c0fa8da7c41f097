-- What the keeper's stores and swaps keep.
use Rattle.std.proofs.Common.{◌≡◌, ℕ, suc, ◌+◌, ◌-◌, ◌<◌, ◌≤◌, ◌≢◌, ◌⊎◌, List, [], ◌∷◌, ◌++◌, length, set, Option, Some, sym, ap, ◌∙◌, subst, inl, inr, ⊎_elim, arith, length-set}
use native.Mathlib.Decide.{ℕ_discrete}
use mathlib.Core.Logic.{dite}
use Rattle.code_epochs.specs.declared.state.VersionState.{VersionState}
use Rattle.ir_meaning.specs.Plays.{Meaning}
use Rattle.code_epochs.specs.declared.parts.Item.{Item}
use Rattle.code_epochs.specs.declared.parts.Item.TheVariants.{Held, Saw}
use Rattle.code_epochs.specs.declared.parts.HartPart.{HartPart}
use Rattle.code_epochs.specs.declared.parts.Draft.{Draft}
use Rattle.code_epochs.specs.declared.parts.Book.{Book}
use Rattle.code_epochs.specs.Sound.{At, Whole, Sound, HartSound, Stand, DraftStands, DraftFits, Stays, IsBase, Apart, Backed, start_of}
use Rattle.code_epochs.specs.Steps.{with_draft, draft_of, CanBegin, draft_begun, one_more, IsNext, word_stored}
use Rattle.code_epochs.proofs.Lists.{at_below, at_same, set_here, set_else}

-- the later version is the earlier one, but for its status
pub record IsSame (v w : VersionState) : Type 0 where
  pub symbol : v.symbol ≡ w.symbol
  pub base : v.base ≡ w.base
  pub words : v.words ≡ w.words

-- the later book has the versions and words of the earlier one
pub record Grows (book book' : Book) : Type 0 where
  pub versions : (i : ℕ) (v : VersionState) → At book.versions i v → (w : VersionState) × At book'.versions i w × IsSame v w
  pub texts : (i : ℕ) (t : List ℕ) → At book.texts i t → At book'.texts i t

-- what was backed stays backed
pub backed_grows : (m : Meaning) (n : ℕ) (book book' : Book) (pass : List Item) → Grows book book' → Backed m n book pass → Backed m n book' pass
backed_grows m n book book' pass g s = record {
  pick = s.pick;
  held = λ q k b here.
      let o = s.held q k b here in
      let w = g.versions (s.pick b) o.0 o.2 in
      (w.0, o.1, w.1, g.texts (s.pick b) o.1 o.3, sym w.2.symbol ∙ o.4, sym w.2.base ∙ o.5, o.6 ∙ w.2.words, o.7, subst (λ (y : ℕ). IsBase n b y) w.2.words o.8);
  saw = λ q r k b a w j u t here there before text place at.
      let o = s.held q k b here in
      let same : o.1 ≡ t = at_same book'.texts (s.pick b) o.1 t (g.texts (s.pick b) o.1 o.3) text in
      s.saw q r k b a w j u o.1 here there before o.3 place (subst (λ (l : List ℕ). At l j u) (sym same) at);
  apart = λ q r k l b c v w here there other atv atw.
      let o = s.held q k b here in
      let z = s.held r l c there in
      let ov = g.versions (s.pick b) o.0 o.2 in
      let zw = g.versions (s.pick c) z.0 z.2 in
      let e = ov.2.words ∙ ap (λ (y : VersionState). y.words) (at_same book'.versions (s.pick b) ov.0 v ov.1 atv) in
      let f = zw.2.words ∙ ap (λ (y : VersionState). y.words) (at_same book'.versions (s.pick c) zw.0 w zw.1 atw) in
      subst (λ (y : ℕ × ℕ). Apart b y.0 c y.1) (λ i. (e i, f i)) (s.apart q r k l b c o.0 z.0 here there other o.2 z.2);
}

-- a place that no version has in its range
abbrev pub Outside : List VersionState → ℕ → Type 0
Outside versions c = (i : ℕ) (v : VersionState) → At versions i v → Stays v.status → (c < start_of v.base) ⊎ (start_of v.base + v.words < c)

pub stand_outside : (m : Meaning) (code : List ℕ) (i : ℕ) (v : VersionState) (t : List ℕ) (c w : ℕ) → Stand m code i v t → (c < start_of v.base) ⊎ (start_of v.base + v.words < c) → Stand m (set code c w) i v t
stand_outside m code i v t c w s out =
    let start : ℕ = start_of v.base in
    let ne : (j : ℕ) → j < v.words → start + 1 + j ≢ c = λ j small e. ⊎_elim (λ (z : c < start). omega arith) (λ (z : start + v.words < c). omega arith) out in
    let ne' : start ≢ c = λ e. ⊎_elim (λ (z : c < start). omega arith) (λ (z : start + v.words < c). omega arith) out in record {
      good = s.good;
      size = s.size;
      base = subst (λ (n : ℕ). IsBase n v.base v.words) (sym (length-set code c w)) s.base;
      header = set_else code c start w ne' ∙ s.header;
      words = λ j u small at. set_else code c (start + 1 + j) w (ne j small) ∙ s.words j u small at;
    }

same_backed : (m : Meaning) (n n' : ℕ) (book : Book) (d : Option Draft) (pass : List Item) → n ≡ n' → Backed m n book pass → Backed m n' (with_draft book d) pass
same_backed m n n' book d pass e s = subst (λ (y : ℕ). Backed m y (with_draft book d) pass) e record { pick = s.pick; held = s.held; saw = s.saw; apart = s.apart }

pub hart_outside : (m : Meaning) (code : List ℕ) (epoch : ℕ) (book : Book) (d : Option Draft) (c u h : ℕ) (p : HartPart) (word : ℕ) → HartSound m code epoch book h p word → Outside book.versions c → HartSound m (set code c u) epoch (with_draft book d) h p word
hart_outside m code epoch book d c u h p word s out = record {
  loaded = s.loaded;
  announced = s.announced;
  idle = s.idle;
  gone = s.gone;
  held = s.held;
  saw = λ q r k b a w i j v here there before at stays base place small.
      let start : ℕ = start_of b in
      let out' : (c < start) ⊎ (start + v.words < c) = subst (λ (y : ℕ). (c < start_of y) ⊎ (start_of y + v.words < c)) base (out i v at stays) in
      let ne : start + 1 + j ≢ c = λ e. ⊎_elim (λ (z : c < start). omega arith) (λ (z : start + v.words < c). omega arith) out' in
      set_else code c (start + 1 + j) u ne ∙ s.saw q r k b a w i j v here there before at stays base place small;
  ended = λ e pass here. same_backed m (length code) (length (set code c u)) book d pass (sym (length-set code c u)) (s.ended e pass here);
}

-- a word is stored outside the versions' ranges, in a draft that stands
stored_sound : (m : Meaning) (x : Whole) (c u : ℕ) (d : Draft) → Sound m x → Outside x.book.versions c → DraftStands m (length x.cells) (set x.code c u) x.book.versions d
    → Sound m record { cells = x.cells; epoch = x.epoch; announced = x.announced; code = set x.code c u; harts = x.harts; book = with_draft x.book (Some d) }
stored_sound m x c u d s out stands = record {
  book = record {
    cell_is = s.book.cell_is;
    one_linked = s.book.one_linked;
    linked = s.book.linked;
    symbols = s.book.symbols;
    functions = s.book.functions;
    code_size = subst (λ (n : ℕ). n ≤ 4194304) (sym (length-set x.code c u)) s.book.code_size;
    count = s.book.count;
    seated = s.book.seated;
    gone = s.book.gone;
    texts = s.book.texts;
    numbers = s.book.numbers;
    made = s.book.made;
    stands = λ i v t at stays text. stand_outside m x.code i v t c u (s.book.stands i v t at stays text) (out i v at stays);
    apart = s.book.apart;
    draft = stands;
    epoch_is = s.book.epoch_is;
    tags = s.book.tags;
  };
  places = s.places;
  joined = s.joined;
  harts = λ h p word here there. hart_outside m x.code x.epoch x.book (Some d) c u h p word (s.harts h p word here there) out;
}

pub store_header_sound : (m : Meaning) (x : Whole) (symbol level base : ℕ) (words : List ℕ) → Sound m x → CanBegin m x symbol base words → Sound m (draft_begun x symbol level base words)
store_header_sound m x symbol level base words s can =
    let c : ℕ = start_of base in
    let header : ℕ = length x.book.versions + 1 in
    let inside : c < length x.code = let r = can.fits.1 in omega arith in
    let out : Outside x.book.versions c = λ i v at stays. ⊎_elim
    (λ (z : start_of v.base + v.words < c). inr z)
    (λ (z : c + length words < start_of v.base). inl (omega arith))
    (can.apart i v at stays) in
    stored_sound m x c header (draft_of symbol level base words 1) s out record {
      good = can.good;
      symbol = can.has_cell;
      room = can.room;
      base = subst (λ (n : ℕ). IsBase n base (length words)) (sym (length-set x.code c header)) can.fits;
      stored = (omega arith, omega arith);
      header = set_here x.code c header inside;
      words = λ j w small at. absurd (omega arith);
      apart = can.apart;
    }

pub store_next_sound : (m : Meaning) (x : Whole) (d : Draft) (word : ℕ) → Sound m x → IsNext x d word → Sound m (word_stored x d word)
store_next_sound m x d word s next =
    let old : DraftStands m (length x.cells) x.code x.book.versions d = subst (DraftFits m (length x.cells) x.code x.book.versions) next.0 s.book.draft in
    let start : ℕ = start_of d.base in
    let c : ℕ = start + d.stored in
    let below = at_below d.words (d.stored - 1) word next.1 in
    let some_stored = old.stored.0 in
    let room = old.base.1 in
    let inside : c < length x.code = omega arith in
    let out : Outside x.book.versions c = λ i v at stays. ⊎_elim
    (λ (z : start_of v.base + v.words < start). inr (omega arith))
    (λ (z : start + length d.words < start_of v.base). inl (omega arith))
    (old.apart i v at stays) in
    stored_sound m x c word (one_more d) s out record {
      good = old.good;
      symbol = old.symbol;
      room = old.room;
      base = subst (λ (n : ℕ). IsBase n d.base (length d.words)) (sym (length-set x.code c word)) old.base;
      stored = (omega arith, omega arith);
      header = set_else x.code c start word (λ e. omega arith) ∙ old.header;
      words = λ j w small at. dite (ℕ_discrete j (d.stored - 1))
          (λ e.
          let same : word ≡ w = at_same d.words (d.stored - 1) word w next.1 (subst (λ (n : ℕ). At d.words n w) e at) in
          let place : start + 1 + j ≡ c = omega arith in
          subst (λ (y : ℕ × ℕ). At (set x.code c word) y.0 y.1) (λ i. (sym place i, same i)) (set_here x.code c word inside))
          (λ ne. set_else x.code c (start + 1 + j) word (λ e. omega arith) ∙ old.words j w (omega arith) at);
      apart = old.apart;
    }

at_rest : {A : Type 0} (l m : List A) (i : ℕ) (a : A) → At m i a → At (l ++ m) (length l + i) a
at_rest [] m i a e = subst (λ (n : ℕ). At m n a) (omega arith) e
at_rest (x ∷ xs) m i a e = let n : suc (length xs + i) ≡ length (x ∷ xs) + i = omega arith in subst (λ (k : ℕ). At (x ∷ (xs ++ m)) k a) n (at_rest xs m i a e)

-- what comes after a beginning of a backed pass is backed
pub backed_rest : (m : Meaning) (n : ℕ) (book : Book) (first rest : List Item) → Backed m n book (first ++ rest) → Backed m n book rest
backed_rest m n book first rest s = record {
  pick = s.pick;
  held = λ q k b here. s.held (length first + q) k b (at_rest first rest q (Held k b) here);
  saw = λ q r k b a w j u t here there before text place at. s.saw (length first + q) (length first + r) k b a w j u t (at_rest first rest q (Held k b) here) (at_rest first rest r (Saw a w) there) (omega arith) text place at;
  apart = λ q r k l b c v w here there. s.apart (length first + q) (length first + r) k l b c v w (at_rest first rest q (Held k b) here) (at_rest first rest r (Held l c) there);
}
