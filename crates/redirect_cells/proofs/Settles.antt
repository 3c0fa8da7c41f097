-- What settling a version, and then all versions, comes to.
use Rattle.std.proofs.Common.{◌≡◌, ◌≢◌, ◌⊎◌, ℕ, zero, suc, ◌+◌, ◌<◌, ◌≤◌, List, [], ◌∷◌, ◌++◌, length, set, Bool, true, false, sym, refl, ap, subst, ◌∙◌, inl, inr, ⊎_elim, arith}
use mathlib.Core.Option.{some-injective, some-ne-none}
use mathlib.Core.Logic.{dite}
use native.Mathlib.Decide.{dec_le, ℕ_discrete}
use Rattle.code_epochs.specs.declared.state.Status.{Status}
use Rattle.code_epochs.specs.declared.state.Status.TheVariants.{Linked, Unlinked, Pending, GivenUp}
use Rattle.code_epochs.specs.declared.state.VersionState.{VersionState}
use Rattle.code_epochs.specs.declared.parts.Book.{Book}
use Rattle.code_epochs.specs.declared.parts.Look.{Look}
use Rattle.code_epochs.specs.Sound.{At, Has, HasPassed}
use Rattle.code_epochs.specs.Steps.{with_status}
use Rattle.code_epochs.proofs.Lists.{at_same, at_below, at_some, set_else, set_here}
use Rattle.code_space.specs.Space.{Space, count_free}
use Rattle.code_epochs.specs.declared.shelf.Shelf.{Shelf}
use Rattle.redirect_cells.specs.Keeping.{LookedAt, IsSettled, Settled, Collected, HasGonePast, IsBehind, IsLonger, AreTrue, AllGone, NonePending, NoneUnlinked, is_pending, kept_by, held_words, one_if_given, count_given}
use Rattle.redirect_cells.proofs.Keeps as K
use Rattle.atomic_table.proofs.Lists.{set_again}

pub held_set : (vs : List VersionState) (i : ℕ) (v w : VersionState) → At vs i v → held_words (set vs i w) + kept_by v.status v.words ≡ held_words vs + kept_by w.status w.words
held_set [] i v w e = absurd (some-ne-none v (sym e))
held_set (x ∷ xs) zero v w e = let q = ap (λ (y : VersionState). kept_by y.status y.words) (some-injective x v e) in omega arith
held_set (x ∷ xs) (suc i) v w e = let t = held_set xs i v w e in omega arith

count_set : (vs : List VersionState) (i : ℕ) (v w : VersionState) → At vs i v → count_given (set vs i w) + one_if_given v.status ≡ count_given vs + one_if_given w.status
count_set [] i v w e = absurd (some-ne-none v (sym e))
count_set (x ∷ xs) zero v w e = let q = ap (λ (y : VersionState). one_if_given y.status) (some-injective x v e) in omega arith
count_set (x ∷ xs) (suc i) v w e = let t = count_set xs i v w e in omega arith

pub pending_is : (s : Status) → is_pending s ≡ true → (tag : ℕ) × (passed : ℕ) × (s ≡ Pending tag passed)
pending_is Linked e = absurd (cc)
pending_is Unlinked e = absurd (cc)
pending_is (Pending tag passed) e = (tag, passed, refl)
pending_is GivenUp e = absurd (cc)

pub pending_or : (s : Status) → (is_pending s ≡ false) ⊎ ((tag : ℕ) × (passed : ℕ) × (s ≡ Pending tag passed))
pending_or Linked = inl refl
pending_or Unlinked = inl refl
pending_or (Pending tag passed) = inr (tag, passed, refl)
pending_or GivenUp = inl refl

-- a version that isn't pending stays
pub settled_same : (b : Book) (s : Shelf) (harts number : ℕ) (v : VersionState) → At s.versions.items number v → is_pending v.status ≡ false → Settled b b s s harts number 0
settled_same b s harts number v at free = record {
  version = λ u here. (u, sym (set_again s.versions.items number u here), inl (ap (λ (y : VersionState). is_pending y.status) (at_same s.versions.items number u v here at) ∙ free, refl));
  given_up = omega arith;
  words = refl;
  size = refl;
  current = refl;
  longer = (omega arith, λ q l z. z);
  gone = refl;
  joined = refl;
  truth = λ q l here le. absurd (let low = at_below b.looks q l here in omega arith);
}

-- a version that a hart hasn't passed is still pending
pub settled_behind : (old new : Book) (was is : Shelf) (harts number : ℕ) (v : VersionState) (tag passed : ℕ) → At was.versions.items number v → v.status ≡ Pending tag passed → (s : LookedAt old new number v tag passed harts)
    → is.versions.items ≡ set was.versions.items number (with_status v (Pending tag s.marked)) → is.space ≡ was.space → is.current ≡ was.current → (h : ℕ) → h < harts → ¬ HasPassed s.marked h → Settled old new was is harts number 0
settled_behind old new was is harts number v tag passed at pending s items space current h low behind =
    let vs = was.versions.items in
    let w = with_status v (Pending tag s.marked) in
    let found : IsBehind new.looks (length old.looks) number h tag = ⊎_elim (λ z. absurd (behind z.0)) (λ z. z.1) (s.harts h low) in
    let count = count_set vs number v w at in
    let one : one_if_given v.status ≡ 0 = ap one_if_given pending in
    let held = held_set vs number v w at in
    let kept : kept_by v.status v.words ≡ v.words + 1 = ap (λ (t : Status). kept_by t v.words) pending in
    let count_is : count_given is.versions.items ≡ count_given (set vs number w) = ap count_given items in
    let held_is : held_words is.versions.items ≡ held_words (set vs number w) = ap held_words items in
    let free : count_free is.space.ranges ≡ count_free was.space.ranges = ap (λ (y : Space). count_free y.ranges) space in record {
      version = λ u here. let e : u ≡ v = at_same vs number u v here at in
          (w, items, inr (tag, passed, ap (λ (y : VersionState). y.status) e ∙ pending, inr (s.marked, (λ j. with_status (sym e j) (Pending tag s.marked)), h, low, found)));
      given_up = omega arith;
      words = omega arith;
      size = ap (λ (y : Space). y.size) space;
      current = current;
      longer = s.longer;
      gone = s.gone;
      joined = s.joined;
      truth = s.truth;
    }

-- a version that each hart has passed is given up
pub settled_gone : (old mid new : Book) (was is : Shelf) (harts number : ℕ) (v : VersionState) (tag passed : ℕ) → At was.versions.items number v → v.status ≡ Pending tag passed → (s : LookedAt old mid number v tag passed harts)
    → new.looks ≡ mid.looks → new.gone ≡ mid.gone → new.joined ≡ mid.joined → is.versions.items ≡ set was.versions.items number (with_status v GivenUp) → count_free is.space.ranges ≡ count_free was.space.ranges + (v.words + 1) → is.space.size ≡ was.space.size → is.current ≡ was.current
    → ((h : ℕ) → h < harts → HasPassed s.marked h) → Settled old new was is harts number 1
settled_gone old mid new was is harts number v tag passed at pending s looks gone joined items free size current all =
    let vs = was.versions.items in
    let w = with_status v GivenUp in
    let past : (h : ℕ) → h < harts → HasGonePast new.looks (length old.looks) number h tag passed = λ h low. subst (λ (l : List Look). HasGonePast l (length old.looks) number h tag passed) (sym looks) (⊎_elim (λ z. z.1) (λ z. absurd (z.0 (all h low))) (s.harts h low)) in
    let count = count_set vs number v w at in
    let one : one_if_given v.status ≡ 0 = ap one_if_given pending in
    let held = held_set vs number v w at in
    let kept : kept_by v.status v.words ≡ v.words + 1 = ap (λ (t : Status). kept_by t v.words) pending in
    let count_is : count_given is.versions.items ≡ count_given (set vs number w) = ap count_given items in
    let held_is : held_words is.versions.items ≡ held_words (set vs number w) = ap held_words items in record {
      version = λ u here. let e : u ≡ v = at_same vs number u v here at in
          (w, items, inr (tag, passed, ap (λ (y : VersionState). y.status) e ∙ pending, inl ((λ j. with_status (sym e j) GivenUp), past)));
      given_up = omega arith;
      words = omega arith;
      size = size;
      current = current;
      longer = subst (λ (l : List Look). IsLonger old.looks l) (sym looks) s.longer;
      gone = gone ∙ s.gone;
      joined = joined ∙ s.joined;
      truth = subst (λ (l : List Look). AreTrue old.gone l (length old.looks)) (sym looks) s.truth;
    }

settled_on : (a b : List Look) (from start harts number : ℕ) (v w : VersionState) → IsLonger a b → from ≤ start → IsSettled a start harts number v w → IsSettled b from harts number v w
settled_on a b from start harts number v w more le = ⊎_elim (λ z. inl z) (λ z. inr (
  z.0,
  z.1,
  z.2,
  ⊎_elim
      (λ y. inl (y.0, λ h low. K.past_on a b from start number h z.0 z.1 more le (y.1 h low)))
      (λ y. inr (y.0, y.1, y.2, y.3, K.behind_on a b from start number y.2 z.0 more le y.4))
      z.3,
))

-- before any version was settled
pub collected_none : (b : Book) (s : Shelf) (harts : ℕ) → Collected b b s s harts 0 0
collected_none b s harts = record {
  settled = λ i v low. absurd (omega arith);
  later = λ i v le at. at;
  count = refl;
  given_up = omega arith;
  words = refl;
  size = refl;
  current = refl;
  longer = (omega arith, λ q l z. z);
  gone = refl;
  joined = refl;
  truth = λ q l here le. absurd (let low = at_below b.looks q l here in omega arith);
}

-- after one more
pub collected_more : (before mid after : Book) (old was is : Shelf) (harts n given more : ℕ) → n < length old.versions.items → Collected before mid old was harts n given → Settled mid after was is harts n more → Collected before after old is harts (n + 1) (given + more)
collected_more before mid after old was is harts n given more low c s =
    let vs = old.versions.items in
    let mine = at_some vs n low in
    let here = c.later n mine.0 (omega arith) mine.1 in
    let it = s.version mine.0 here in
    let start = c.longer.0 in record {
      settled = λ i v lt at. dite (ℕ_discrete i n)
          (λ e. let at' : At vs n v = subst (λ (k : ℕ). At vs k v) e at in
          let now = s.version v (c.later n v (omega arith) at') in (
            now.0,
            subst (λ (k : ℕ). At is.versions.items k now.0) (sym e) (subst (λ (l : List VersionState). At l n now.0) (sym now.1) (set_here was.versions.items n now.0 (at_below was.versions.items n v (c.later n v (omega arith) at')))),
            subst (λ (k : ℕ). IsSettled after.looks (length before.looks) harts k v now.0) (sym e) (settled_on after.looks after.looks (length before.looks) (length mid.looks) harts n v now.0 (omega arith, λ q l z. z) start now.2),
          ))
          (λ ne. let old_one = c.settled i v (omega arith) at in (
            old_one.0,
            subst (λ (l : List VersionState). At l i old_one.0) (sym it.1) (set_else was.versions.items n i it.0 ne ∙ old_one.1),
            settled_on mid.looks after.looks (length before.looks) (length before.looks) harts i v old_one.0 s.longer (omega arith) old_one.2,
          ));
      later = λ i v le at. subst (λ (l : List VersionState). At l i v) (sym it.1) (set_else was.versions.items n i it.0 (λ e. omega arith) ∙ c.later i v (omega arith) at);
      count = ap length it.1 ∙ K.length_set was.versions.items n it.0 ∙ c.count;
      given_up = (let a = s.given_up in let b = c.given_up in omega arith);
      words = s.words ∙ c.words;
      size = s.size ∙ c.size;
      current = s.current ∙ c.current;
      longer = ((let a = s.longer.0 in omega arith), λ q l z. s.longer.1 q l (c.longer.1 q l z));
      gone = s.gone ∙ c.gone;
      joined = s.joined ∙ c.joined;
      truth = λ q l at le has. dite (dec_le (length mid.looks) q)
          (λ d. s.truth q l at d (subst (λ (g : List ℕ). Has g l.hart) (sym c.gone) has))
          (λ d. let m = at_some mid.looks q (omega arith) in
          let same : m.0 ≡ l = at_same after.looks q m.0 l (s.longer.1 q m.0 m.1) at in
          subst (λ (y : Look). y.found ≡ 0) same (c.truth q m.0 m.1 le (subst (λ (y : Look). Has before.gone y.hart) (sym same) has)));
    }

-- where each hart is gone, no version is pending afterwards
pub none_pending : (before after : Book) (old new : Shelf) (harts given : ℕ) → Collected before after old new harts (length old.versions.items) given → AllGone harts before → NonePending new.versions.items
none_pending before after old new harts given c gone i w at =
    let low : i < length old.versions.items = (let a = at_below new.versions.items i w at in let b = c.count in omega arith) in
    let was = at_some old.versions.items i low in
    let it = c.settled i was.0 low was.1 in
    let same : it.0 ≡ w = at_same new.versions.items i it.0 w it.1 at in
    subst (λ (y : VersionState). is_pending y.status ≡ false) same (⊎_elim
    (λ z. ap (λ (y : VersionState). is_pending y.status) z.1 ∙ z.0)
    (λ z. ⊎_elim
    (λ y. ap (λ (x : VersionState). is_pending x.status) y.0)
    (λ y. let b = y.4 in
    let idle = c.truth b.0 b.1 b.2 b.3 (subst (Has before.gone) (sym b.5) (gone y.2 y.3)) in
    let more = b.6 in absurd (omega arith))
    z.3)
    it.2)

unlinked_stays : (s t : Status) → t ≡ s → (s ≡ Unlinked → ⊥) → t ≡ Unlinked → ⊥
unlinked_stays s t e none is = none (sym e ∙ is)

-- collecting leaves no version unlinked
pub none_unlinked : (before after : Book) (old new : Shelf) (harts given : ℕ) → Collected before after old new harts (length old.versions.items) given → NoneUnlinked old.versions.items → NoneUnlinked new.versions.items
none_unlinked before after old new harts given c none i w at =
    let low : i < length old.versions.items = (let a = at_below new.versions.items i w at in let b = c.count in omega arith) in
    let was = at_some old.versions.items i low in
    let it = c.settled i was.0 low was.1 in
    let same : it.0 ≡ w = at_same new.versions.items i it.0 w it.1 at in
    subst (λ (y : VersionState). ¬ (y.status ≡ Unlinked)) same (⊎_elim
    (λ z. unlinked_stays was.0.status it.0.status (ap (λ (y : VersionState). y.status) z.1) (none i was.0 was.1))
    (λ z. ⊎_elim
    (λ y e. given_apart (sym (ap (λ (x : VersionState). x.status) y.0) ∙ e))
    (λ y e. pending_apart z.0 y.0 (sym (ap (λ (x : VersionState). x.status) y.1) ∙ e))
    z.3)
    it.2)
  where
    given_apart : GivenUp ≡ Unlinked → ⊥
    given_apart e = absurd (cc)

    pending_apart : (tag marked : ℕ) → Pending tag marked ≡ Unlinked → ⊥
    pending_apart tag marked e = absurd (cc)
