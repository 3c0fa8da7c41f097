-- What holds of a keeper between its calls.
use Rattle.std.proofs.Common.{◌≡◌, ◌≢◌, ◌⊎◌, ℕ, zero, suc, ◌+◌, ◌<◌, ◌≤◌, List, [], ◌∷◌, length, set, Bool, true, false, sym, refl, ap, subst, ◌∙◌, inl, inr, ⊎_elim, arith, Result, Ok, Err, IfOk, IfErr}
use mathlib.Core.Option.{some-injective, some-ne-none}
use mathlib.Core.Logic.{dite}
use native.Mathlib.Decide.{dec_le, ℕ_discrete}
use Rattle.code_epochs.specs.declared.state.Status.{Status}
use Rattle.code_epochs.specs.declared.state.Status.TheVariants.{Linked, Unlinked, Pending, GivenUp}
use Rattle.code_epochs.specs.declared.state.VersionState.{VersionState}
use Rattle.code_epochs.specs.declared.refusals.PublishRefusal.{PublishRefusal}
use Rattle.code_epochs.specs.Sound.{At}
use Rattle.code_epochs.specs.Steps.{with_status, linked_of}
use Rattle.code_epochs.proofs.Lists.{at_same, at_below, at_some, at_set}
use Rattle.code_space.specs.declared.FreeRange.{FreeRange}
use Rattle.code_space.specs.Space.{count_free}
use Rattle.rv_play.specs.declared.version.Version.{Version}
use Rattle.code_epochs.specs.declared.shelf.Shelf.{Shelf}
use Rattle.code_epochs.specs.Shelf.{is_linked}
use Rattle.redirect_cells.specs.Kept.{draft_at}
use Rattle.redirect_cells.specs.Keeping.{Published, IsUsed, IsSameShelf, AllCurrent, NoneUnlinked, kept_by, held_words}

-- what a keeper's versions are between its calls
pub record Rests (s : Shelf) : Type 0 where
  pub all_current : AllCurrent s.current.items
  pub none_unlinked : NoneUnlinked s.versions.items
  pub words_are : count_free s.space.ranges + held_words s.versions.items ≡ s.space.size

linked_or : (s : Status) → (is_linked s ≡ true) ⊎ (is_linked s ≡ false)
linked_or Linked = inl refl
linked_or Unlinked = inr refl
linked_or (Pending tag passed) = inr refl
linked_or GivenUp = inr refl

linked_keeps : (s : Status) (n : ℕ) → is_linked s ≡ true → kept_by s n ≡ n + 1
linked_keeps Linked n e = refl
linked_keeps Unlinked n e = absurd (cc)
linked_keeps (Pending tag passed) n e = absurd (cc)
linked_keeps GivenUp n e = absurd (cc)

pending_apart : (tag passed : ℕ) → Pending tag passed ≡ Unlinked → ⊥
pending_apart tag passed e = absurd (cc)

linked_apart : Linked ≡ Unlinked → ⊥
linked_apart e = absurd (cc)

-- what became of an earlier version keeps as many words, and is unlinked only if it was
abbrev IsLike : VersionState → VersionState → Type 0
IsLike v w = (kept_by w.status w.words ≡ kept_by v.status v.words) × (w.status ≡ Unlinked → v.status ≡ Unlinked)

each_like : (old new : Shelf) (version : Version) (n : ℕ) → Published old new version n → (i : ℕ) (v : VersionState) → At old.versions.items i v → (w : VersionState) × At new.versions.items i w × IsLike v w
each_like old new version n p i v at = dite (ℕ_discrete v.symbol version.symbol)
    (λ e. ⊎_elim
    (λ linked. let r = p.replaced i v at e linked in (with_status v (Pending r.0 0), r.1, (sym (linked_keeps v.status v.words linked), λ z. absurd (pending_apart r.0 0 z))))
    (λ free. (v, p.earlier i v at free, (refl, λ z. z)))
    (linked_or v.status))
    (λ ne. (v, p.others i v at ne, (refl, λ z. z)))

held_more : (xs ys : List VersionState) (x : VersionState) → length ys ≡ length xs + 1 → ((i : ℕ) (v : VersionState) → At xs i v → (w : VersionState) × At ys i w × (kept_by w.status w.words ≡ kept_by v.status v.words)) → At ys (length xs) x → held_words ys ≡ held_words xs + kept_by x.status x.words
held_more [] [] x size like last = absurd (omega arith)
held_more [] (y ∷ []) x size like last = let e = ap (λ (z : VersionState). kept_by z.status z.words) (some-injective y x last) in omega arith
held_more [] (y ∷ z ∷ ys) x size like last = absurd (omega arith)
held_more (v ∷ xs) [] x size like last = absurd (omega arith)
held_more (v ∷ xs) (y ∷ ys) x size like last =
    let f = like 0 v refl in
    let e = ap (λ (z : VersionState). kept_by z.status z.words) (some-injective y f.0 f.1) in
    let g = f.2 in
    let r = held_more xs ys x (omega arith) (λ i u at. like (suc i) u at) last in
    omega arith

pub published_rests : (old new : Shelf) (version : Version) (n : ℕ) → Rests old → Published old new version n → IsUsed old new version → Rests new
published_rests old new version n r p used = record {
  all_current = λ k at. ⊎_elim
      (λ (t : (k ≡ version.symbol) × (n + 1 ≡ 0)). absurd (let e = t.1 in omega arith))
      (λ (t : (k ≢ version.symbol) × At old.current.items k 0). r.all_current k t.1)
      (at_set old.current.items version.symbol k (n + 1) 0 (subst (λ (l : List ℕ). At l k 0) p.current at));
  none_unlinked = λ i w at is. dite (dec_le (length old.versions.items) i)
      (λ d. let low = at_below new.versions.items i w at in
      let count = p.count in
      let number = p.number in
      let e : i ≡ n = omega arith in
      let same = at_same new.versions.items n w (linked_of (draft_at version p.linked.0 1) n) (subst (λ (k : ℕ). At new.versions.items k w) e at) p.linked.1 in
      linked_apart (sym (ap (λ (y : VersionState). y.status) same) ∙ is))
      (λ d. let v = at_some old.versions.items i (omega arith) in
      let like = each_like old new version n p i v.0 v.1 in
      let same = at_same new.versions.items i w like.0 at like.1 in
      r.none_unlinked i v.0 v.1 (like.2.1 (sym (ap (λ (y : VersionState). y.status) same) ∙ is)));
  words_are =
      let it = linked_of (draft_at version p.linked.0 1) n in
      let last : At new.versions.items (length old.versions.items) it = subst (λ (k : ℕ). At new.versions.items k it) p.number p.linked.1 in
      let more : kept_by it.status it.words ≡ length version.words + 1 = refl in
      let held = held_more old.versions.items new.versions.items it p.count (λ i v at. let like = each_like old new version n p i v at in (like.0, like.1, like.2.0)) last in
      let free = used.0 in
      let size = used.1 in
      let was = r.words_are in
      omega arith;
}

pub refused_rests : (old new : Shelf) → Rests old → IsSameShelf old new → Rests new
refused_rests old new r same = record {
  all_current = subst AllCurrent (sym same.1) r.all_current;
  none_unlinked = subst NoneUnlinked (sym same.0) r.none_unlinked;
  words_are = (let a = ap held_words same.0 in let b = ap count_free same.2 in let c = same.3 in let d = r.words_are in omega arith);
}

-- after a publication that may have been refused
pub tried_rests : (old new : Shelf) (version : Version) (P : Type 0) (result : Result ℕ (Version × PublishRefusal)) → Rests old → IfOk result (λ n. Published old new version n) → IfOk result (λ n. IsUsed old new version) → IfErr result (λ e. (e.0 ≡ version) × IsSameShelf old new × P) → Rests new
tried_rests old new version P (Ok n) r p used e = published_rests old new version n r p used
tried_rests old new version P (Err e) r p used same = refused_rests old new r same.1
