-- Linked versions after a collection and after a publication.
use Rattle.std.proofs.Common.{◌≡◌, ◌⊎◌, ℕ, ◌+◌, ◌<◌, List, length, true, false, sym, refl, ap, subst, ◌∙◌, inl, inr, ⊎_elim}
use Rattle.std.proofs.lemmas.Bool.{cases_eq}
use Rattle.code_epochs.specs.declared.state.Status.{Status}
use Rattle.code_epochs.specs.declared.state.Status.TheVariants.{Linked, Unlinked, Pending, GivenUp}
use Rattle.code_epochs.specs.declared.state.VersionState.{VersionState}
use Rattle.code_epochs.specs.declared.parts.Book.{Book}
use Rattle.code_epochs.specs.Sound.{At}
use Rattle.code_epochs.specs.Steps.{linked_of, with_status}
use Rattle.code_epochs.proofs.Lists.{at_below, set_here, set_else}
use Rattle.rv_play.specs.declared.version.Version.{Version}
use Rattle.code_epochs.specs.declared.shelf.Shelf.{Shelf}
use Rattle.code_epochs.specs.Shelf.{is_linked}
use Rattle.redirect_cells.specs.Kept.{draft_at}
use Rattle.redirect_cells.specs.Keeping.{Collected, IsSameShelf, IsSettled, Published, AreStill, is_pending}
use Rattle.jit_session.specs.Shelves.{KeepsAll, KeepsOthers, HasVersion}

off : true ≡ false → ⊥
off e = absurd (cc)

linked_rests : (s : Status) → is_linked s ≡ true → is_pending s ≡ false
linked_rests Linked is = refl
linked_rests Unlinked is = refl
linked_rests (Pending tag passed) is = absurd (off (sym is))
linked_rests GivenUp is = refl

-- a version that isn't pending stays as it is
settled_same : (before after : Book) (harts i : ℕ) (v w : VersionState) → is_pending v.status ≡ false → IsSettled after.looks (length before.looks) harts i v w → w ≡ v
settled_same before after harts i v w none is = ⊎_elim (λ t. t.1) (λ t. absurd (off (sym (ap is_pending t.2) ∙ none))) is

pub collected_keeps : (before after : Book) (old new : Shelf) (harts given : ℕ) → Collected before after old new harts (length old.versions.items) given → KeepsAll old new
collected_keeps before after old new harts given c k v is =
    let w = c.settled is.0 v (at_below old.versions.items is.0 v is.2) is.2 in
    let same = settled_same before after harts is.0 v w.0 (linked_rests v.status is.3) w.2 in (
      is.0,
      subst (λ l. At l.items k (is.0 + 1)) (sym c.current) is.1,
      subst (At new.versions.items is.0) same w.1,
      is.3,
      is.4,
    )

pub same_keeps : (old new : Shelf) → IsSameShelf old new → KeepsAll old new
same_keeps old new same k v is = (is.0, subst (λ (l : List ℕ). At l k (is.0 + 1)) (sym same.1) is.1, subst (λ (l : List VersionState). At l is.0 v) (sym same.0) is.2, is.3, is.4)

pub keeps_all : (a b c : Shelf) → KeepsAll a b → KeepsAll b c → KeepsAll a c
keeps_all a b c first then_ k v is = then_ k v (first k v is)

module _ (old new : Shelf) (version : Version) (n : ℕ) (p : Published old new version n) where
  pub published_keeps : KeepsOthers old new version.symbol
  published_keeps k v other is = (
    is.0,
    subst (λ (l : List ℕ). At l k (is.0 + 1)) (sym p.current) (set_else old.current.items version.symbol k (n + 1) other ∙ is.1),
    p.others is.0 v is.2 (λ e. other (sym is.4 ∙ e)),
    is.3,
    is.4,
  )

  pub published_has : version.symbol < length old.current.items → HasVersion new version
  published_has low = record {
    state = linked_of (draft_at version p.linked.0 1) n;
    current = (n, subst (λ (l : List ℕ). At l version.symbol (n + 1)) (sym p.current) (set_here old.current.items version.symbol (n + 1) low), p.linked.1, refl, refl);
    level = refl;
    words = refl;
  }

-- ---- each earlier version is there still

still_with : (new : List VersionState) (i : ℕ) (v w : VersionState) (s : Status) → At new i w → w ≡ with_status v s → (t : Status) × At new i (with_status v t)
still_with new i v w s at is = (s, subst (At new i) is at)

pub collected_still : (before after : Book) (old new : Shelf) (harts given : ℕ) → Collected before after old new harts (length old.versions.items) given → AreStill old.versions.items new.versions.items
collected_still before after old new harts given c i v at =
    let w = c.settled i v (at_below old.versions.items i v at) at in
    ⊎_elim
    (λ t. still_with new.versions.items i v w.0 v.status w.1 t.1)
    (λ t. ⊎_elim (λ u. still_with new.versions.items i v w.0 GivenUp w.1 u.0) (λ u. still_with new.versions.items i v w.0 (Pending t.0 u.0) w.1 u.1) t.3)
    w.2

pub same_still : (old new : Shelf) → IsSameShelf old new → AreStill old.versions.items new.versions.items
same_still old new same i v at = (v.status, subst (λ (l : List VersionState). At l i v) (sym same.0) at)

pub still_again : (versions : List VersionState) → AreStill versions versions
still_again versions i v at = (v.status, at)

pub still_still : (a b c : List VersionState) → AreStill a b → AreStill b c → AreStill a c
still_still a b c first then_ i v at = let w = first i v at in then_ i (with_status v w.0) w.1

linked_or : (s : Status) → (is_linked s ≡ true) ⊎ (is_linked s ≡ false)
linked_or Linked = inl refl
linked_or Unlinked = inr refl
linked_or (Pending tag passed) = inr refl
linked_or GivenUp = inr refl

pub published_still : (old new : Shelf) (version : Version) (n : ℕ) → Published old new version n → AreStill old.versions.items new.versions.items
published_still old new version n p i v at = ⊎_elim
    (λ (same : v.symbol ≡ version.symbol). ⊎_elim
    (λ is. let r = p.replaced i v at same is in (Pending r.0 0, r.1))
    (λ is. (v.status, p.earlier i v at is))
    (linked_or v.status))
    (λ other. (v.status, p.others i v at other))
    (cases_eq v.symbol version.symbol)
