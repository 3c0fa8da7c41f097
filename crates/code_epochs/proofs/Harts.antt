-- What a hart's own steps keep.
use Rattle.std.proofs.Common.{◌≡◌, ℕ, ◌+◌, ◌*◌, ◌<◌, ◌≤◌, ◌≢◌, List, length, set, sym, ◌∙◌, subst, ⊎_elim, arith, length-set}
use Rattle.code_epochs.specs.declared.state.Status.TheVariants.{Linked}
use Rattle.code_epochs.specs.declared.state.VersionState.{VersionState}
use Rattle.ir_meaning.specs.Plays.{Meaning}
use Rattle.code_epochs.specs.declared.parts.Item.TheVariants.{Held, Saw}
use Rattle.code_epochs.specs.declared.parts.HartPart.{HartPart}
use Rattle.code_epochs.specs.declared.parts.Book.{Book}
use Rattle.code_epochs.specs.Sound.{At, Has, Whole, Sound, BookSound, HartSound, Stays, MayHold, NeverPublished, start_of}
use Rattle.code_epochs.specs.Steps.{with_item, with_hart, IsActive, address_of, cell_held, word_seen}
use Rattle.code_epochs.proofs.Lists.{at_set, at_snoc, at_below, at_same, at_some, set_else}

-- what a hart announced isn't above the epoch
pub announced_low : (m : Meaning) (code : List ℕ) (epoch : ℕ) (book : Book) (h : ℕ) (p : HartPart) (word : ℕ) → HartSound m code epoch book h p word → word ≤ epoch
announced_low m code epoch book h p word s = let low = s.loaded in ⊎_elim (λ (z : word ≡ 0). omega arith) (λ (e : word ≡ p.epoch). omega arith) s.announced

-- one hart knows something else
pub with_hart_sound : (m : Meaning) (x : Whole) (h : ℕ) (p : HartPart) (word : ℕ) → Sound m x → ¬ Has x.book.gone h → At x.announced h word → HartSound m x.code x.epoch x.book h p word → Sound m (with_hart x h p)
with_hart_sound m x h p word s there' at mine =
    let same : length (set x.harts h p) ≡ length x.harts = length-set x.harts h p in record {
      book = subst (λ n. BookSound m x.cells n x.code x.epoch x.book) (sym same) s.book;
      places = subst (λ (n : ℕ). (n ≤ length x.announced) × (length x.announced ≤ 16) × ((g w : ℕ) → n ≤ g → At x.announced g w → w ≡ 0)) (sym same) s.places;
      joined = (s.joined.0, λ i g q away was. set_else x.harts h g p (λ e. there' (i, subst (At x.book.gone i) e away)) ∙ s.joined.1 i g q away was);
      harts = λ g q w here there. ⊎_elim
          (λ (t : (g ≡ h) × (p ≡ q)).
          let word_is : word ≡ w = at_same x.announced h word w at (subst (λ (n : ℕ). At x.announced n w) t.0 there) in
          subst (λ (z : ℕ × HartPart × ℕ). HartSound m x.code x.epoch x.book z.0 z.1 z.2) (λ i. (sym t.0 i, t.1 i, word_is i)) mine)
          (λ (t : (g ≢ h) × At x.harts g q). s.harts g q w t.1 there)
          (at_set x.harts h g p q here);
    }

-- one more cell in the pass
pub holds_more : (m : Meaning) (code : List ℕ) (epoch : ℕ) (book : Book) (h : ℕ) (p : HartPart) (word k b : ℕ) → HartSound m code epoch book h p word → 0 < word
    → (i : ℕ) (v : VersionState) → At book.versions i v → v.symbol ≡ k → v.base ≡ b → MayHold h word v.status → HartSound m code epoch book h (with_item p (Held k b)) word
holds_more m code epoch book h p word k b s busy i v at symbol base may = record {
  loaded = s.loaded;
  announced = s.announced;
  idle = λ none. absurd (omega arith);
  gone = s.gone;
  held = λ q l c here. ⊎_elim
      (λ (t : At p.pass q (Held l c)). s.held q l c t)
      (λ (t : (q ≡ length p.pass) × (Held k b ≡ Held l c)). let e = t.1 in let symbols : k ≡ l = cc in let bases : b ≡ c = cc in (i, v, at, symbol ∙ symbols, base ∙ bases, may))
      (at_snoc p.pass (Held k b) (Held l c) q here);
  saw = λ q r l c a w n j u here there before. ⊎_elim
      (λ (t : At p.pass r (Saw a w)). ⊎_elim
      (λ (z : At p.pass q (Held l c)). s.saw q r l c a w n j u z t before)
      (λ (z : (q ≡ length p.pass) × (Held k b ≡ Held l c)). let below = at_below p.pass r (Saw a w) t in let last = z.0 in absurd (omega arith))
      (at_snoc p.pass (Held k b) (Held l c) q here))
      (λ (t : (r ≡ length p.pass) × (Held k b ≡ Saw a w)). let e = t.1 in absurd (cc))
      (at_snoc p.pass (Held k b) (Saw a w) r there);
  ended = s.ended;
}

-- one more word in the pass
pub sees_more : (m : Meaning) (code : List ℕ) (epoch : ℕ) (book : Book) (h : ℕ) (p : HartPart) (word a w : ℕ) → HartSound m code epoch book h p word → 0 < word
    → ((i j b : ℕ) (v : VersionState) → At book.versions i v → Stays v.status → v.base ≡ b → a ≡ b + 4 * j → j < v.words → At code (start_of b + 1 + j) w)
    → HartSound m code epoch book h (with_item p (Saw a w)) word
sees_more m code epoch book h p word a w s busy stands = record {
  loaded = s.loaded;
  announced = s.announced;
  idle = λ none. absurd (omega arith);
  gone = s.gone;
  held = λ q l c here. ⊎_elim
      (λ (t : At p.pass q (Held l c)). s.held q l c t)
      (λ (t : (q ≡ length p.pass) × (Saw a w ≡ Held l c)). let e = t.1 in absurd (cc))
      (at_snoc p.pass (Saw a w) (Held l c) q here);
  saw = λ q r l c d u n j v here there before at stays base place small. ⊎_elim
      (λ (t : At p.pass r (Saw d u)). ⊎_elim
      (λ (z : At p.pass q (Held l c)). s.saw q r l c d u n j v z t before at stays base place small)
      (λ (z : (q ≡ length p.pass) × (Saw a w ≡ Held l c)). let e = z.1 in absurd (cc))
      (at_snoc p.pass (Saw a w) (Held l c) q here))
      (λ (t : (r ≡ length p.pass) × (Saw a w ≡ Saw d u)).
      let e = t.1 in let addresses : a ≡ d = cc in let words : w ≡ u = cc in
      subst (λ (z : ℕ). At code (start_of c + 1 + j) z) words (stands n j c v at stays base (addresses ∙ place) small))
      (at_snoc p.pass (Saw a w) (Saw d u) r there);
  ended = s.ended;
}

-- an active hart isn't gone
pub not_gone : (m : Meaning) (x : Whole) (h : ℕ) (p : HartPart) (word : ℕ) → Sound m x → IsActive x h p word → ¬ Has x.book.gone h
not_gone m x h p word s active away = let busy = active.2 in let idle = (s.harts h p word active.0 active.1).gone away in absurd (omega arith)

-- a cell that a hart loads is the base of a linked version
pub load_cell_sound : (m : Meaning) (x : Whole) (h : ℕ) (p : HartPart) (word symbol base : ℕ) → Sound m x → IsActive x h p word → At x.cells symbol base → Sound m (cell_held x h p symbol base)
load_cell_sound m x h p word symbol base s active cell =
    let mine = s.harts h p word active.0 active.1 in
    let busy = active.2 in
    let inside = at_below x.harts h p active.0 in
    with_hart_sound m x h (with_item p (Held symbol base)) word s (not_gone m x h p word s active) active.1 (⊎_elim
    (λ (t : (i : ℕ) × (v : VersionState) × At x.book.versions i v × (v.status ≡ Linked) × (v.symbol ≡ symbol)).
    let held : At x.cells symbol t.1.base = subst (λ (k : ℕ). At x.cells k t.1.base) t.4 (s.book.cell_is t.0 t.1 t.2 t.3) in
    holds_more m x.code x.epoch x.book h p word symbol base mine busy t.0 t.1 t.2 t.4 (at_same x.cells symbol t.1.base base held cell) (subst (MayHold h word) (sym t.3) tt))
    (λ (t : (base ≡ 0) × (length x.harts ≡ 0) × NeverPublished x.book.versions symbol). let none = t.1 in absurd (omega arith))
    (s.book.linked symbol base cell))

-- the place of a word of a version
placed : (a b place j start : ℕ) → b ≡ 16777220 + 4 * start → 16777216 + 4 * place ≡ b + 4 * j → place ≡ start + 1 + j
placed a b place j start base same = omega arith

pub load_word_sound : (m : Meaning) (x : Whole) (h : ℕ) (p : HartPart) (word place found : ℕ) → Sound m x → IsActive x h p word → At x.code place found → Sound m (word_seen x h p place found)
load_word_sound m x h p word place found s active code =
    let mine = s.harts h p word active.0 active.1 in
    with_hart_sound m x h (with_item p (Saw (address_of place) found)) word s (not_gone m x h p word s active) active.1
    (sees_more m x.code x.epoch x.book h p word (address_of place) found mine active.2
    (λ i j b v at stays base same small.
    let text = at_some x.book.texts i (subst (λ (n : ℕ). i < n) (sym s.book.texts) (at_below x.book.versions i v at)) in
    let stand = s.book.stands i v text.0 at stays text.1 in
    let start : b ≡ 16777220 + 4 * start_of b = subst (λ (z : ℕ). z ≡ 16777220 + 4 * start_of z) base stand.base.0 in
    subst (λ (n : ℕ). At x.code n found) (placed (address_of place) b place j (start_of b) start same) code))
