-- Registers that are read or written at a point, one after another.
use Rattle.std.proofs.Common.{◌≡◌, ℕ, ◌+◌, ◌<◌, ◌⊎◌, inl, inr, Bool, true, false, List, [], ◌∷◌, length, get_or, set, take, arith, refl, ◌∙◌}
use Rattle.std.specs.List.{Contains}
use Rattle.std.proofs.lemmas.List.{take_more, length-set, get_or-set_same}
use Rattle.std.proofs.lemmas.List.Elements.{Contains-get_or, Contains-push_cases, Contains-push, Contains-append_left}
use Rattle.rj_num.specs.Sets.{has}
use Rattle.liveness.specs.declared.search.Search.{Search}
use Rattle.liveness.specs.Search.{HasPoint, IsFound, Extends, Adds}
use Rattle.liveness.specs.Scan.{NotesReads, NotesWrites}
use Rattle.liveness.proofs.Extending.{extends_itself, extends_then, adds_itself, adds_then, adds_within, has_set, has_still}

-- an item of a list's front, one longer: it is in the front, or it is the next
pub front_or_next : (xs : List ℕ) (i x : ℕ) → i < length xs → Contains (take (i + 1) xs) x → Contains (take i xs) x ⊎ (get_or xs i 0 ≡ x)
front_or_next xs i x below in' = Contains-push_cases (take i xs) (get_or xs i 0) x (rw (take_more xs i 0 below) at in')

-- what is in the front is in one that is longer, and so is the next
pub in_front : (xs : List ℕ) (i x : ℕ) → i < length xs → Contains (take i xs) x → Contains (take (i + 1) xs) x
in_front xs i x below front = rw (take_more xs i 0 below) (Contains-append_left (take i xs) (get_or xs i 0 ∷ []) x front)

pub in_next : (xs : List ℕ) (i : ℕ) → i < length xs → Contains (take (i + 1) xs) (get_or xs i 0)
in_next xs i below = rw (take_more xs i 0 below) (Contains-push (take i xs) (get_or xs i 0))

pub no_items : (x : ℕ) → Contains [] x → ⊥
no_items x in' = absurd (omega (arith, in'.1))

-- a register of the list is one of those that there are
pub is_register : (xs : List ℕ) (i regs : ℕ) → i < length xs → ((r : ℕ) → Contains xs r → r < regs) → get_or xs i 0 < regs
is_register xs i regs below all = all (get_or xs i 0) (Contains-get_or xs i 0 below)

pub no_reads : (s : Search) (written : List Bool) (block point : ℕ) → NotesReads s written [] block point s
no_reads s written block point = record {
  extends = extends_itself s;
  held = λ r in'. absurd (no_items r in');
  found = λ r in'. absurd (no_items r in');
  adds = adds_itself _ _ s;
}

pub one_read : (old s t u : Search) (written : List Bool) (xs : List ℕ) (block point i : ℕ) → i < length xs
    → NotesReads old written (take i xs) block point s → Extends s t → HasPoint t (get_or xs i 0) point
    → Adds (λ r at. (r ≡ get_or xs i 0) × (at ≡ point)) (λ b r. ⊥) s t
    → Extends t u → (has written (get_or xs i 0) ≡ true) ⊎ IsFound u block (get_or xs i 0)
    → Adds (λ r at. ⊥) (λ b r. (b ≡ block) × (r ≡ get_or xs i 0) × (has written (get_or xs i 0) ≡ false)) t u
    → NotesReads old written (take (i + 1) xs) block point u
one_read old s t u written xs block point i below is one own adds two found finds = record {
  extends = extends_then old s u is.extends both;
  held = λ r in'. elim (front_or_next xs i r below in') [
    | inl front ↦ both.grows.points r point (is.held r front)
    | inr next ↦ rw (← next) (two.grows.points (get_or xs i 0) point own)
  ];
  found = λ r in'. elim (front_or_next xs i r below in') [
    | inl front ↦ elim (is.found r front) [ inl before ↦ inl before | inr was ↦ inr (both.grows.found block r was) ]
    | inr next ↦ rw (← next) found
  ];
  adds = adds_then points pairs old t u (adds_then points pairs old s t
      (adds_within _ _ points pairs old s (λ r at h. (in_front xs i r below h.0, h.1)) (λ b r h. (h.0, in_front xs i r below h.1, h.2)) is.adds)
      (adds_within _ _ points pairs s t (λ r at h. (rw h.0 (in_next xs i below), h.1)) (λ b r h. absurd h) adds))
      (adds_within _ _ points pairs t u (λ r at h. absurd h) (λ b r h. (h.0, rw h.1 (in_next xs i below), rw h.1 h.2)) finds);
}
  where
    both : Extends s u
    both = extends_then s t u one two

    points : ℕ → ℕ → Type 0
    points r at = Contains (take (i + 1) xs) r × (at ≡ point)

    pairs : ℕ → ℕ → Type 0
    pairs b r = (b ≡ block) × Contains (take (i + 1) xs) r × (has written r ≡ false)

pub no_writes : (s : Search) (written : List Bool) (point : ℕ) → NotesWrites s written [] point s written
no_writes s written point = record {
  extends = extends_itself s;
  size = refl;
  held = λ r in'. absurd (no_items r in');
  only = λ r h. inl h;
  all = λ r h. elim h [ inl was ↦ was | inr in' ↦ absurd (no_items r in') ];
  adds = adds_itself _ _ s;
}

pub one_write : (old s t : Search) (written now : List Bool) (xs : List ℕ) (point i : ℕ) → i < length xs → get_or xs i 0 < length now
    → NotesWrites old written (take i xs) point s now → Extends s t → HasPoint t (get_or xs i 0) point
    → Adds (λ r at. (r ≡ get_or xs i 0) × (at ≡ point)) (λ b r. ⊥) s t
    → NotesWrites old written (take (i + 1) xs) point t (set now (get_or xs i 0) true)
one_write old s t written now xs point i below within is one own adds = record {
  extends = extends_then old s t is.extends one;
  size = length-set now (get_or xs i 0) true ∙ is.size;
  held = λ r in'. elim (front_or_next xs i r below in') [
    | inl front ↦ one.grows.points r point (is.held r front)
    | inr next ↦ rw (← next) own
  ];
  only = λ r h. elim (has_set now (get_or xs i 0) r h) [
    | inl same ↦ inr (rw same (in_next xs i below))
    | inr was ↦ elim (is.only r was) [
      | inl before ↦ inl before
      | inr front ↦ inr (in_front xs i r below front)
    ]
  ];
  all = λ r h. elim h [
    | inl was ↦ has_still now (get_or xs i 0) r within (is.all r (inl was))
    | inr in' ↦ elim (front_or_next xs i r below in') [
      | inl front ↦ has_still now (get_or xs i 0) r within (is.all r (inr front))
      | inr next ↦ rw (← next) (get_or-set_same now (get_or xs i 0) true false within)
    ]
  ];
  adds = adds_then points (λ b r. ⊥) old s t
      (adds_within _ _ points (λ b r. ⊥) old s (λ r at h. (in_front xs i r below h.0, h.1)) (λ b r h. h) is.adds)
      (adds_within _ _ points (λ b r. ⊥) s t (λ r at h. (rw h.0 (in_next xs i below), h.1)) (λ b r h. h) adds);
}
  where
    points : ℕ → ℕ → Type 0
    points r at = Contains (take (i + 1) xs) r × (at ≡ point)
