-- Ranges that share no word, and the list of versions after a publication.
use Rattle.std.proofs.Common.{◌≡◌, ◌≢◌, ◌⊎◌, ℕ, zero, suc, ◌+◌, ◌-◌, ◌*◌, ◌/◌, ◌<◌, ◌≤◌, List, [], ◌∷◌, ◌++◌, map, length, get_or, set, Bool, true, false, eqb, eq-eqb, ne_eqb, sym, refl, ap, subst, ◌∙◌, inl, inr, ⊎_elim, arith, length-append}
use mathlib.Core.Option.{some, some-injective, some-ne-none}
use mathlib.Core.Logic.{dite}
use native.Mathlib.Decide.{dec_le, ℕ_discrete}
use Rattle.code_epochs.specs.declared.state.Status.{Status}
use Rattle.code_epochs.specs.declared.state.VersionState.{VersionState}
use Rattle.code_epochs.specs.Sound.{At, Has, HasPassed, Apart, start_of}
use Rattle.code_epochs.specs.Steps.{unlink, unlinked, with_status, linked_of, Marks, marked_by}
use Rattle.code_epochs.proofs.Lists.{at_index, at_snoc, at_same, set_else, set_here, at_below, at_longer, at_last, at_set}
use Rattle.code_epochs.specs.Shelf.{NoneShared, is_linked}
use Rattle.code_epochs.specs.declared.shelf.Shelf.{Shelf}
use Rattle.code_epochs.specs.declared.state.Status.TheVariants.{Linked, Unlinked, Pending, GivenUp}
use Rattle.rv_play.specs.declared.version.Version.{Version}
use Rattle.redirect_cells.specs.Kept.{draft_at}
use Rattle.redirect_cells.specs.Keeping.{Published, IsLook, IsBehind, IsAhead, HasGonePast, IsLonger, LookedAt, LinkedAreCurrent}
use Rattle.code_epochs.specs.declared.parts.Book.{Book}
use Rattle.code_epochs.specs.declared.parts.Look.{Look}
use Rattle.code_epochs.proofs.Marked.{marks_are}
use Rattle.code_epochs.proofs.Swap.{at_swapped}
use Rattle.atomic_table.proofs.Lists.{set_again}

pub apart_of : (b m c n : ℕ) → NoneShared (start_of b) m (start_of c) n → Apart b m c n
apart_of b m c n h = dite (dec_le (start_of c) (start_of b + m))
    (λ d. dite (dec_le (start_of b) (start_of c + n))
    (λ e. absurd (dite (dec_le (start_of b) (start_of c)) (λ f. h (start_of c) f d (omega arith) (omega arith)) (λ f. h (start_of b) (omega arith) (omega arith) (omega arith) e)))
    (λ e. inr (omega arith)))
    (λ d. inl (omega arith))

pub at_map : (f : VersionState → VersionState) (vs : List VersionState) (i : ℕ) (v : VersionState) → At vs i v → At (map f vs) i (f v)
at_map f [] i v e = absurd (some-ne-none v (sym e))
at_map f (x ∷ xs) zero v e = ap (λ (y : VersionState). some (f y)) (some-injective x v e)
at_map f (x ∷ xs) (suc i) v e = at_map f xs i v e

length_map : (f : VersionState → VersionState) (vs : List VersionState) → length (map f vs) ≡ length vs
length_map f [] = refl
length_map f (x ∷ xs) = ap suc (length_map f xs)

-- the list after a publication, before the old version is pending
abbrev pub added : ℕ → List VersionState → VersionState → List VersionState
added symbol vs new = map (unlinked symbol) vs ++ new ∷ []

pub added_last : (symbol : ℕ) (vs : List VersionState) (new : VersionState) → At (added symbol vs new) (length vs) new
added_last symbol vs new = subst (λ (n : ℕ). At (added symbol vs new) n new) (length_map (unlinked symbol) vs) (at_last (map (unlinked symbol) vs) new)

pub added_was : (symbol : ℕ) (vs : List VersionState) (new : VersionState) (i : ℕ) (v : VersionState) → At vs i v → At (added symbol vs new) i (unlinked symbol v)
added_was symbol vs new i v at = at_longer (map (unlinked symbol) vs) (new ∷ []) i (unlinked symbol v) (at_map (unlinked symbol) vs i v at)

unlink_false : (b : Bool) (s : Status) → b ≡ false → unlink b s ≡ s
unlink_false true s e = absurd (cc)
unlink_false false s e = refl

pub other_same : (symbol : ℕ) (v : VersionState) → v.symbol ≢ symbol → unlinked symbol v ≡ v
other_same symbol v ne = λ i. with_status v (unlink_false (eqb v.symbol symbol) v.status (ne_eqb v.symbol symbol ne) i)

status_unlinked : (s : Status) → is_linked s ≡ true → unlink true s ≡ Unlinked
status_unlinked Linked e = refl
status_unlinked Unlinked e = refl
status_unlinked (Pending tag passed) e = absurd (cc)
status_unlinked GivenUp e = absurd (cc)

pub mine_unlinked : (symbol : ℕ) (v : VersionState) → is_linked v.status ≡ true → v.symbol ≡ symbol → (unlinked symbol v).status ≡ Unlinked
mine_unlinked symbol v e is = ap (λ (b : Bool). unlink b v.status) (eq-eqb v.symbol symbol is) ∙ status_unlinked v.status e

length_added : (symbol : ℕ) (vs : List VersionState) (new : VersionState) → length (added symbol vs new) ≡ length vs + 1
length_added symbol [] new = refl
length_added symbol (x ∷ xs) new = let e = length_added symbol xs new in omega arith

pub length_set : (vs : List VersionState) (i : ℕ) (v : VersionState) → length (set vs i v) ≡ length vs
length_set [] i v = refl
length_set (x ∷ xs) zero v = refl
length_set (x ∷ xs) (suc i) v = ap suc (length_set xs i v)

unlink_free : (b : Bool) (s : Status) → is_linked s ≡ false → unlink b s ≡ s
unlink_free true Linked e = absurd (cc)
unlink_free true Unlinked e = refl
unlink_free true (Pending tag passed) e = refl
unlink_free true GivenUp e = refl
unlink_free false s e = refl

-- what isn't linked stays as it is
free_same : (symbol : ℕ) (v : VersionState) → is_linked v.status ≡ false → unlinked symbol v ≡ v
free_same symbol v e = λ i. with_status v (unlink_free (eqb v.symbol symbol) v.status e i)

pub published_first : (old new : Shelf) (version : Version) (place : ℕ) → new.versions.items ≡ added version.symbol old.versions.items (linked_of (draft_at version place 1) (length old.versions.items)) → new.current.items ≡ set old.current.items version.symbol (length old.versions.items + 1)
    → ((i : ℕ) (v : VersionState) → At old.versions.items i v → v.symbol ≡ version.symbol → is_linked v.status ≡ true → ⊥)
    → Published old new version (length old.versions.items)
published_first old new version place items current none =
    let vs = old.versions.items in
    let it = linked_of (draft_at version place 1) (length vs) in record {
      number = refl;
      count = ap length items ∙ length_added version.symbol vs it;
      linked = (place, subst (λ (l : List VersionState). At l (length vs) it) (sym items) (added_last version.symbol vs it));
      current = current;
      others = λ i v at ne. subst (λ (l : List VersionState). At l i v) (sym items) (subst (λ (y : VersionState). At (added version.symbol vs it) i y) (other_same version.symbol v ne) (added_was version.symbol vs it i v at));
      earlier = λ i v at e. subst (λ (l : List VersionState). At l i v) (sym items) (subst (λ (y : VersionState). At (added version.symbol vs it) i y) (free_same version.symbol v e) (added_was version.symbol vs it i v at));
      replaced = λ i v at is e. absurd (none i v at is e);
    }

not_both : (b : Bool) → b ≡ true → b ≡ false → ⊥
not_both b e f = absurd (cc)

pub published_next : (old new : Shelf) (version : Version) (place i tag : ℕ) (v0 : VersionState) → At old.versions.items i v0 → v0.symbol ≡ version.symbol → is_linked v0.status ≡ true
    → new.versions.items ≡ set (added version.symbol old.versions.items (linked_of (draft_at version place 1) (length old.versions.items))) i (with_status (unlinked version.symbol v0) (Pending tag 0)) → new.current.items ≡ set old.current.items version.symbol (length old.versions.items + 1)
    → ((j : ℕ) (v : VersionState) → At old.versions.items j v → v.symbol ≡ version.symbol → is_linked v.status ≡ true → j ≡ i)
    → Published old new version (length old.versions.items)
published_next old new version place i tag v0 here is was items current one =
    let vs = old.versions.items in
    let it = linked_of (draft_at version place 1) (length vs) in
    let all = added version.symbol vs it in
    let w = with_status (unlinked version.symbol v0) (Pending tag 0) in
    let low = at_below vs i v0 here in
    let long = length_added version.symbol vs it in record {
      number = refl;
      count = ap length items ∙ length_set all i w ∙ long;
      linked = (place, subst (λ (l : List VersionState). At l (length vs) it) (sym items) (set_else all i (length vs) w (λ e. omega arith) ∙ added_last version.symbol vs it));
      current = current;
      others = λ j v at ne. subst (λ (l : List VersionState). At l j v) (sym items)
          (set_else all i j w (λ e. ne (ap (λ (y : VersionState). y.symbol) (at_same vs i v v0 (subst (λ (k : ℕ). At vs k v) e at) here) ∙ is))
          ∙ subst (λ (y : VersionState). At all j y) (other_same version.symbol v ne) (added_was version.symbol vs it j v at));
      earlier = λ j v at free. subst (λ (l : List VersionState). At l j v) (sym items)
          (set_else all i j w (λ e. not_both (is_linked v.status) (ap (λ (y : VersionState). is_linked y.status) (at_same vs i v v0 (subst (λ (k : ℕ). At vs k v) e at) here) ∙ was) free)
          ∙ subst (λ (y : VersionState). At all j y) (free_same version.symbol v free) (added_was version.symbol vs it j v at));
      replaced = λ j v at mine linked. let e = one j v at mine linked in (
        tag,
        subst (λ (l : List VersionState). At l j (with_status v (Pending tag 0))) (sym items)
            (subst (λ (k : ℕ). At (set all i w) k (with_status v (Pending tag 0))) (sym e) (subst (λ (y : VersionState). At (set all i w) i (with_status y (Pending tag 0))) (at_same vs i v0 v here (subst (λ (k : ℕ). At vs k v) e at)) (set_here all i w (omega arith)))),
      );
    }

unlink_linked : (b : Bool) (s : Status) → is_linked (unlink b s) ≡ true → (b ≡ false) × (is_linked s ≡ true)
unlink_linked true Linked e = absurd (cc)
unlink_linked true Unlinked e = absurd (cc)
unlink_linked true (Pending tag passed) e = absurd (cc)
unlink_linked true GivenUp e = absurd (cc)
unlink_linked false s e = (refl, e)

-- a linked version is still the current one of its symbol, after one more was linked
pub linked_added : (symbol : ℕ) (vs : List VersionState) (current : List ℕ) (new : VersionState) → LinkedAreCurrent vs current → symbol < length current → new.symbol ≡ symbol → LinkedAreCurrent (added symbol vs new) (set current symbol (length vs + 1))
linked_added symbol vs current new all low is i v at linked = ⊎_elim
    (λ (t : (u : VersionState) × At vs i u × (unlinked symbol u ≡ v)).
    let u = t.0 in
    let was = unlink_linked (eqb u.symbol symbol) u.status (ap (λ (y : VersionState). is_linked y.status) t.2 ∙ linked) in
    let other : u.symbol ≢ symbol = λ e. not_both (eqb u.symbol symbol) (eq-eqb u.symbol symbol e) was.0 in
    subst (λ (y : VersionState). At (set current symbol (length vs + 1)) y.symbol (i + 1)) t.2 (set_else current symbol u.symbol (length vs + 1) other ∙ all i u t.1 was.1))
    (λ (t : (i ≡ length vs) × (new ≡ v)).
    subst (λ (k : ℕ). At (set current symbol (length vs + 1)) k (i + 1)) (sym is ∙ ap (λ (y : VersionState). y.symbol) t.1)
    (subst (λ (k : ℕ). At (set current symbol (length vs + 1)) symbol (k + 1)) (sym t.0) (set_here current symbol (length vs + 1) low)))
    (at_swapped symbol vs new i v at)

-- and after the status of a version that is not linked then was set
pub linked_set : (vs : List VersionState) (current : List ℕ) (i : ℕ) (w : VersionState) → LinkedAreCurrent vs current → is_linked w.status ≡ false → LinkedAreCurrent (set vs i w) current
linked_set vs current i w all free j v at linked = ⊎_elim
    (λ (t : (j ≡ i) × (w ≡ v)). absurd (not_both (is_linked v.status) linked (ap (λ (y : VersionState). is_linked y.status) (sym t.1) ∙ free)))
    (λ (t : (j ≢ i) × At vs j v). all j v t.1 linked)
    (at_set vs i j w v at)

pub number_at : (l : List ℕ) (i a : ℕ) → i < length l → a ≡ get_or l i a → At l i a
number_at l i a h e = at_index l i a h e

pub set_set : (l : List VersionState) (i : ℕ) (a b : VersionState) → set (set l i a) i b ≡ set l i b
set_set [] i a b = refl
set_set (x ∷ xs) zero a b = refl
set_set (x ∷ xs) (suc i) a b = ap (λ (t : List VersionState). x ∷ t) (set_set xs i a b)

-- before any look
pub looked_none : (b : Book) (number : ℕ) (v : VersionState) (tag passed : ℕ) → At b.versions number v → v.status ≡ Pending tag passed → LookedAt b b number v tag passed 0
looked_none b number v tag passed at is = record {
  marked = passed;
  versions = sym (ap (set b.versions number) (λ i. with_status v (sym is i)) ∙ set_again b.versions number v at);
  harts = λ h lt. absurd (omega arith);
  rest = λ h le p. p;
  longer = (omega arith, λ q l here. here);
  gone = refl;
  joined = refl;
  truth = λ q l at' le. absurd (let low = at_below b.looks q l at' in omega arith);
}

pub behind_on : (a b : List Look) (from start number hart tag : ℕ) → IsLonger a b → from ≤ start → IsBehind a start number hart tag → IsBehind b from number hart tag
behind_on a b from start number hart tag more le x = (x.0, x.1, more.1 x.0 x.1 x.2, (let y = x.3 in omega arith), x.4, x.5, x.6, x.7)

ahead_on : (a b : List Look) (from start number hart tag : ℕ) → IsLonger a b → from ≤ start → IsAhead a start number hart tag → IsAhead b from number hart tag
ahead_on a b from start number hart tag more le x = (x.0, x.1, more.1 x.0 x.1 x.2, (let y = x.3 in omega arith), x.4, x.5, x.6)

pub past_on : (a b : List Look) (from start number hart tag passed : ℕ) → IsLonger a b → from ≤ start → HasGonePast a start number hart tag passed → HasGonePast b from number hart tag passed
past_on a b from start number hart tag passed more le = ⊎_elim (λ p. inl p) (λ x. inr (ahead_on a b from start number hart tag more le x))

-- after a look at one more hart
pub looked_more : (old b new : Book) (number : ℕ) (v : VersionState) (tag passed k : ℕ) → k < 32 → At old.versions number v → LookedAt old b number v tag passed k
    → ((u : VersionState) (t p : ℕ) → At b.versions number u → u.status ≡ Pending t p → IsLook b new number k u t p) → LookedAt old new number v tag passed (k + 1)
looked_more old b new number v tag passed k low at s look =
    let start = length old.looks in
    let u = with_status v (Pending tag s.marked) in
    let here : At b.versions number u = subst (λ (l : List VersionState). At l number u) (sym s.versions) (set_here old.versions number u (at_below old.versions number v at)) in
    ⊎_elim
    (λ (t : HasPassed s.marked k × (new ≡ b)). subst (λ (y : Book). LookedAt old y number v tag passed (k + 1)) (sym t.1) record {
      marked = s.marked;
      versions = s.versions;
      harts = λ h lt. dite (ℕ_discrete h k)
          (λ e. inl (t_here s.marked h k t.0 e, inl (s.rest h (omega arith) (t_here s.marked h k t.0 e))))
          (λ ne. s.harts h (omega arith));
      rest = λ h le. s.rest h (omega arith);
      longer = s.longer;
      gone = s.gone;
      joined = s.joined;
      truth = s.truth;
    })
    (λ t. let found = t.0 in
    let m = marked_by tag s.marked k found in
    let it : Look = record { version = number; hart = k; found = found } in
    let all = b.looks ++ it ∷ [] in
    let more : IsLonger b.looks all = ((let n = length-append b.looks (it ∷ []) in omega arith), λ q l z. at_longer b.looks (it ∷ []) q l z) in
    let marks' : Marks tag s.marked k found m = marks_are tag s.marked k found low in
    let kept : (h : ℕ) → HasPassed s.marked h → HasPassed m h = ⊎_elim (λ z. z.1.kept) (λ z h p. subst (λ (y : ℕ). HasPassed y h) (sym z.2) p) marks' in
    let back : (h : ℕ) → h ≢ k → HasPassed m h → HasPassed s.marked h = ⊎_elim (λ z. z.1.others) (λ z h ne p. subst (λ (y : ℕ). HasPassed y h) z.2 p) marks' in
    let mine : (HasPassed m k × HasGonePast all start number k tag passed) ⊎ (¬ HasPassed m k × IsBehind all start number k tag) = ⊎_elim
    (λ z. inl (z.1.here, inr (length b.looks, it, at_last b.looks it, s.longer.0, refl, refl, z.0)))
    (λ z. inr ((λ p. t.1 (subst (λ (y : ℕ). HasPassed y k) z.2 p)), (length b.looks, it, at_last b.looks it, s.longer.0, refl, refl, z.0, z.1)))
    marks' in
    subst (λ (y : Book). LookedAt old y number v tag passed (k + 1)) (sym t.2) record {
      marked = m;
      versions = ap (λ (l : List VersionState). set l number (with_status v (Pending tag m))) s.versions ∙ set_set old.versions number u (with_status v (Pending tag m));
      harts = λ h lt. dite (ℕ_discrete h k)
          (λ e. subst (λ (y : ℕ). (HasPassed m y × HasGonePast all start number y tag passed) ⊎ (¬ HasPassed m y × IsBehind all start number y tag)) (sym e) mine)
          (λ ne. ⊎_elim
          (λ p. inl (kept h p.0, past_on b.looks all start start number h tag passed more (omega arith) p.1))
          (λ p. inr ((λ z. p.0 (back h ne z)), behind_on b.looks all start start number h tag more (omega arith) p.1))
          (s.harts h (omega arith)));
      rest = λ h le p. s.rest h (omega arith) (back h (λ e. omega arith) p);
      longer = ((let n = more.0 in let o = s.longer.0 in omega arith), λ q l z. more.1 q l (s.longer.1 q l z));
      gone = s.gone;
      joined = s.joined;
      truth = λ q l at' le has. ⊎_elim (λ z. s.truth q l z le has) (λ z. subst (λ (y : Look). y.found ≡ 0) z.1 (t.3 (subst (λ (g : List ℕ). Has g k) (sym s.gone) (subst (λ (y : Look). Has old.gone y.hart) (sym z.1) has)))) (at_snoc b.looks it l q at');
    })
    (look u tag s.marked here refl)
  where
    t_here : (marked h k : ℕ) → HasPassed marked k → h ≡ k → HasPassed marked h
    t_here marked h k p e = subst (HasPassed marked) (sym e) p

pub number_below : (l : List ℕ) (i a : ℕ) → At l i a → i < length l
number_below l i a e = at_below l i a e

pub number_same : (l : List ℕ) (i a b : ℕ) → At l i a → At l i b → a ≡ b
number_same l i a b e f = at_same l i a b e f
