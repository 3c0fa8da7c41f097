-- What a hart's announcing and ending keep, and why a pass that ends is backed.
use Rattle.std.proofs.Common.{◌≡◌, ℕ, zero, suc, ◌+◌, ◌<◌, ◌≤◌, ◌≢◌, ◌⊎◌, ◌&&◌, eqb, eq-eqb, ne_eqb, Bool, true, false, cond, List, [], ◌∷◌, length, set, sym, refl, ap, ◌∙◌, subst, inl, inr, ⊎_elim, arith, length-set}
use mathlib.Core.Option.{some-injective, some-ne-none}
use native.Mathlib.Decide.{ℕ_discrete}
use mathlib.Core.Logic.{dite}
use Rattle.code_epochs.specs.declared.state.Status.{Status}
use Rattle.code_epochs.specs.declared.state.Status.TheVariants.{Linked, Unlinked, Pending, GivenUp}
use Rattle.code_epochs.specs.declared.state.VersionState.{VersionState}
use Rattle.ir_meaning.specs.Plays.{Meaning}
use Rattle.code_epochs.specs.declared.parts.Item.{Item}
use Rattle.code_epochs.specs.declared.parts.Item.TheVariants.{Held}
use Rattle.code_epochs.specs.declared.parts.HartPart.{HartPart}
use Rattle.code_epochs.specs.declared.parts.Book.{Book}
use Rattle.rv_play.specs.Good.{Good}
use Rattle.code_epochs.specs.Sound.{At, Has, Whole, Sound, BookSound, HartSound, Stand, Stays, MayHold, IsBase, Apart, Backed, start_of}
use Rattle.code_epochs.specs.Steps.{with_hart_word, loaded_part, ended_part, epoch_loaded, epoch_announced, gone_idle, IsActive, IsIdle}
use Rattle.code_epochs.proofs.Lists.{at_set, at_snoc, at_below, at_same, at_some, set_else}
use Rattle.code_epochs.proofs.Harts.{with_hart_sound, not_gone}

-- one hart knows and has announced something else
pub with_hart_word_sound : (m : Meaning) (x : Whole) (h : ℕ) (p : HartPart) (word : ℕ) → Sound m x → ¬ Has x.book.gone h → h < length x.harts → HartSound m x.code x.epoch x.book h p word → Sound m (with_hart_word x h p word)
with_hart_word_sound m x h p word s there' inside mine =
    let same : length (set x.harts h p) ≡ length x.harts = length-set x.harts h p in
    let same' : length (set x.announced h word) ≡ length x.announced = length-set x.announced h word in record {
      book = subst (λ n. BookSound m x.cells n x.code x.epoch x.book) (sym same) s.book;
      places = (
        subst (λ (z : ℕ × ℕ). z.0 ≤ z.1) (λ i. (sym same i, sym same' i)) s.places.0,
        subst (λ (n : ℕ). n ≤ 16) (sym same') s.places.1,
        λ g w beyond there. ⊎_elim
            (λ (t : (g ≡ h) × (word ≡ w)). let e = t.0 in let b : length x.harts ≤ g = subst (λ (n : ℕ). n ≤ g) same beyond in absurd (omega arith))
            (λ (t : (g ≢ h) × At x.announced g w). s.places.2 g w (subst (λ (n : ℕ). n ≤ g) same beyond) t.1)
            (at_set x.announced h g word w there),
      );
      joined = (s.joined.0, λ i g q away was. set_else x.harts h g p (λ e. there' (i, subst (At x.book.gone i) e away)) ∙ s.joined.1 i g q away was);
      harts = λ g q w here there. ⊎_elim
          (λ (t : (g ≡ h) × (p ≡ q)). ⊎_elim
          (λ (z : (g ≡ h) × (word ≡ w)). subst (λ (y : ℕ × HartPart × ℕ). HartSound m x.code x.epoch x.book y.0 y.1 y.2) (λ i. (sym t.0 i, t.1 i, z.1 i)) mine)
          (λ (z : (g ≢ h) × At x.announced g w). absurd (z.0 t.0))
          (at_set x.announced h g word w there))
          (λ (t : (g ≢ h) × At x.harts g q). ⊎_elim
          (λ (z : (g ≡ h) × (word ≡ w)). absurd (t.0 z.0))
          (λ (z : (g ≢ h) × At x.announced g w). s.harts g q w t.1 z.1)
          (at_set x.announced h g word w there))
          (at_set x.harts h g p q here);
    }

nothing_at : {A : Type 0} (l : List A) (i : ℕ) (a : A) → l ≡ [] → At l i a → ⊥
nothing_at l i a empty e = some-ne-none a (sym (subst (λ l. At l i a) empty e))

pub load_epoch_sound : (m : Meaning) (x : Whole) (h : ℕ) (p : HartPart) → Sound m x → IsIdle x h p → ¬ Has x.book.gone h → Sound m (epoch_loaded x h p x.epoch)
load_epoch_sound m x h p s idle here =
    let mine = s.harts h p 0 idle.0 idle.1 in
    with_hart_sound m x h (loaded_part p x.epoch) 0 s here idle.1 record { loaded = omega arith; announced = inl refl; idle = mine.idle; gone = mine.gone; held = mine.held; saw = mine.saw; ended = mine.ended }

pub announce_sound : (m : Meaning) (x : Whole) (h : ℕ) (p : HartPart) → Sound m x → IsIdle x h p → ¬ Has x.book.gone h → Sound m (epoch_announced x h p)
announce_sound m x h p s idle there =
    let mine = s.harts h p 0 idle.0 idle.1 in
    let empty = mine.idle refl in
    with_hart_word_sound m x h p p.epoch s there (at_below x.harts h p idle.0) record {
      loaded = mine.loaded;
      announced = inr refl;
      idle = λ _. empty;
      gone = λ away. absurd (there away);
      held = λ q k b here. absurd (nothing_at p.pass q (Held k b) empty here);
      saw = mine.saw;
      ended = mine.ended;
    }

-- the status is that of a version that stays
abbrev pub stays : Status → Bool
stays Linked = true
stays Unlinked = true
stays (Pending tag passed) = true
stays GivenUp = false

-- the first version with this base that stays
abbrev pub number_of : List VersionState → ℕ → ℕ
number_of [] base = 0
number_of (v ∷ vs) base = cond (eqb v.base base && stays v.status) 0 (suc (number_of vs base))

stays_or_not : (s : Status) → (Stays s × (stays s ≡ true)) ⊎ ((Stays s → ⊥) × (stays s ≡ false))
stays_or_not Linked = inl (tt, refl)
stays_or_not Unlinked = inl (tt, refl)
stays_or_not (Pending tag passed) = inl (tt, refl)
stays_or_not GivenUp = inr ((λ h. h), refl)

abbrev Found : List VersionState → ℕ → ℕ → Type 0
Found vs base number = (w : VersionState) × At vs number w × (w.base ≡ base) × Stays w.status

found_next : (x : VersionState) (xs : List VersionState) (base : ℕ) → Found xs base (number_of xs base) → (eqb x.base base && stays x.status) ≡ false → Found (x ∷ xs) base (number_of (x ∷ xs) base)
found_next x xs base f test = subst (λ (b : Bool). Found (x ∷ xs) base (cond b 0 (suc (number_of xs base)))) (sym test) f

found_here : (x : VersionState) (xs : List VersionState) (base : ℕ) → x.base ≡ base → Stays x.status → stays x.status ≡ true → Found (x ∷ xs) base (number_of (x ∷ xs) base)
found_here x xs base same here test =
    let yes : (eqb x.base base && stays x.status) ≡ true = (λ i. eq-eqb x.base base same i && test i) in
    subst (λ (b : Bool). Found (x ∷ xs) base (cond b 0 (suc (number_of xs base)))) (sym yes) (x, refl, same, here)

and_false : (b : Bool) → (b && false) ≡ false
and_false true = refl
and_false false = refl

found_either : (x : VersionState) (xs : List VersionState) (base : ℕ) → Found xs base (number_of xs base) → Found (x ∷ xs) base (number_of (x ∷ xs) base)
found_either x xs base f = ⊎_elim
    (λ (t : Stays x.status × (stays x.status ≡ true)). dite (ℕ_discrete x.base base)
    (λ same. found_here x xs base same t.0 t.1)
    (λ other. found_next x xs base f (ap (λ (b : Bool). b && stays x.status) (ne_eqb x.base base other))))
    (λ (t : (Stays x.status → ⊥) × (stays x.status ≡ false)). found_next x xs base f (ap (λ (b : Bool). eqb x.base base && b) t.1 ∙ and_false (eqb x.base base)))
    (stays_or_not x.status)

number_of_finds : (vs : List VersionState) (i : ℕ) (v : VersionState) (base : ℕ) → At vs i v → v.base ≡ base → Stays v.status → Found vs base (number_of vs base)
number_of_finds [] i v base at same here = absurd (some-ne-none v (sym at))
number_of_finds (x ∷ xs) zero v base at same here =
    let e : x ≡ v = some-injective x v at in
    let here' : Stays x.status = subst (λ (u : VersionState). Stays u.status) (sym e) here in
    ⊎_elim
    (λ (t : Stays x.status × (stays x.status ≡ true)). found_here x xs base (ap (λ (u : VersionState). u.base) e ∙ same) t.0 t.1)
    (λ (t : (Stays x.status → ⊥) × (stays x.status ≡ false)). absurd (t.0 here'))
    (stays_or_not x.status)
number_of_finds (x ∷ xs) (suc i) v base at same here = found_either x xs base (number_of_finds xs i v base at same here)

pub may_stay : (h word : ℕ) (s : Status) → MayHold h word s → Stays s
may_stay h word Linked may = tt
may_stay h word Unlinked may = tt
may_stay h word (Pending tag passed) may = tt
may_stay h word GivenUp may = may

-- two versions that stay with one base are one version
one_base : (m : Meaning) (cells : List ℕ) (harts : ℕ) (code : List ℕ) (epoch : ℕ) (book : Book) → BookSound m cells harts code epoch book → (i j : ℕ) (v w : VersionState) → At book.versions i v → At book.versions j w → Stays v.status → Stays w.status → v.base ≡ w.base → i ≡ j
one_base m cells harts code epoch book s i j v w atv atw sv sw same = dite (ℕ_discrete i j)
    (λ e. e)
    (λ ne.
    let a = s.apart i j v w atv atw sv sw ne in
    let e : start_of v.base ≡ start_of w.base = ap start_of same in
    absurd (⊎_elim (λ (t : start_of v.base + v.words < start_of w.base). let x : ℕ = start_of v.base in let y : ℕ = start_of w.base in let e' : x ≡ y = e in let t' : x + v.words < y = t in omega arith) (λ (t : start_of w.base + w.words < start_of v.base). let x : ℕ = start_of v.base in let y : ℕ = start_of w.base in let e' : x ≡ y = e in let t' : y + w.words < x = t in omega arith) a))

-- what is known of a base that a hart holds
HoldsOne : (m : Meaning) (n : ℕ) (book : Book) (code : List ℕ) (k b : ℕ) → Type 0
HoldsOne m n book code k b = (v : VersionState) × (t : List ℕ) × At book.versions (number_of book.versions b) v × At book.texts (number_of book.versions b) t × (v.symbol ≡ k) × (v.base ≡ b) × Stays v.status × Stand m code (number_of book.versions b) v t

holds_one : (m : Meaning) (x : Whole) (h : ℕ) (p : HartPart) (word : ℕ) → Sound m x → HartSound m x.code x.epoch x.book h p word → (q k b : ℕ) → At p.pass q (Held k b) → HoldsOne m (length x.code) x.book x.code k b
unfolding HoldsOne
holds_one m x h p word s mine q k b here =
    let held = mine.held q k b here in
    let stay = may_stay h word held.1.status held.5 in
    let found = number_of_finds x.book.versions held.0 held.1 b held.2 held.4 stay in
    let one = one_base m x.cells (length x.harts) x.code x.epoch x.book s.book (number_of x.book.versions b) held.0 found.0 held.1 found.1 held.2 found.3 stay (found.2 ∙ sym held.4) in
    let at : At x.book.versions (number_of x.book.versions b) held.1 = subst (λ (n : ℕ). At x.book.versions n held.1) (sym one) held.2 in
    let text = at_some x.book.texts (number_of x.book.versions b) (subst (λ (n : ℕ). number_of x.book.versions b < n) (sym s.book.texts) (at_below x.book.versions (number_of x.book.versions b) held.1 at)) in
    (held.1, text.0, at, text.1, held.3, held.4, stay, s.book.stands (number_of x.book.versions b) held.1 text.0 at stay text.1)

-- the pass of a hart is backed at each step
pub pass_backed : (m : Meaning) (x : Whole) (h : ℕ) (p : HartPart) (word : ℕ) → Sound m x → HartSound m x.code x.epoch x.book h p word → Backed m (length x.code) x.book p.pass
unfolding HoldsOne
pass_backed m x h p word s mine = record {
  pick = number_of x.book.versions;
  held = λ q k b here.
      let o = holds_one m x h p word s mine q k b here in
      (o.0, o.1, o.2, o.3, o.4, o.5, o.7.size, subst (λ (y : ℕ). Good m y o.1) o.4 o.7.good, subst (λ (y : ℕ). IsBase (length x.code) y o.0.words) o.5 o.7.base);
  saw = λ q r k b a w j u t here there before text place at.
      let o = holds_one m x h p word s mine q k b here in
      let same : o.1 ≡ t = at_same x.book.texts (number_of x.book.versions b) o.1 t o.3 text in
      let size : length t ≡ o.0.words = subst (λ (l : List ℕ). length l ≡ o.0.words) same o.7.size in
      let small = at_below t j u at in
      let inside : j < o.0.words = subst (λ (n : ℕ). j < n) size small in
      let seen = mine.saw q r k b a w (number_of x.book.versions b) j o.0 here there before o.2 o.6 o.5 place inside in
      let stands : At x.code (start_of o.0.base + 1 + j) u = o.7.words j u inside (subst (λ (l : List ℕ). At l j u) (sym same) at) in
      at_same x.code (start_of b + 1 + j) w u seen (subst (λ (y : ℕ). At x.code (start_of y + 1 + j) u) o.5 stands);
  apart = λ q r k l b c v w here there other atv atw.
      let o = holds_one m x h p word s mine q k b here in
      let z = holds_one m x h p word s mine r l c there in
      let vs = x.book.versions in
      let ov : o.0 ≡ v = at_same vs (number_of vs b) o.0 v o.2 atv in
      let zw : z.0 ≡ w = at_same vs (number_of vs c) z.0 w z.2 atw in
      let apart : number_of vs b ≢ number_of vs c = λ same.
      let two : o.0 ≡ z.0 = at_same vs (number_of vs c) o.0 z.0 (subst (λ (n : ℕ). At vs n o.0) same o.2) z.2 in
      other (sym o.5 ∙ ap (λ (y : VersionState). y.base) two ∙ z.5) in
      let a = s.book.apart (number_of vs b) (number_of vs c) o.0 z.0 o.2 z.2 o.6 z.6 apart in
      subst (λ (y : ℕ × ℕ × ℕ × ℕ). Apart y.0 y.1 y.2 y.3) (λ i. (o.5 i, (ov i).words, z.5 i, (zw i).words)) a;
}

pub go_idle_sound : (m : Meaning) (x : Whole) (h : ℕ) (p : HartPart) (word : ℕ) → Sound m x → IsActive x h p word → Sound m (gone_idle x h p)
go_idle_sound m x h p word s active =
    let mine = s.harts h p word active.0 active.1 in
    let backed = pass_backed m x h p word s mine in
    with_hart_word_sound m x h (ended_part p) 0 s (not_gone m x h p word s active) (at_below x.harts h p active.0) record {
      loaded = mine.loaded;
      announced = inl refl;
      idle = λ _. refl;
      gone = λ _. refl;
      held = λ q k b here. absurd (nothing_at [] q (Held k b) refl here);
      saw = λ q r k b a w i j v here there. absurd (nothing_at [] q (Held k b) refl here);
      ended = λ e pass here. ⊎_elim
          (λ (t : At p.ended e pass). mine.ended e pass t)
          (λ (t : (e ≡ length p.ended) × (p.pass ≡ pass)). subst (λ (l : List Item). Backed m (length x.code) x.book l) t.1 backed)
          (at_snoc p.ended p.pass pass e here);
    }
