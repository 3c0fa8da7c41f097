-- A least number for each group of 64 places.
use Rattle.std.proofs.Common.{◌≡◌, ℕ, ◌+◌, ◌-◌, ◌/◌, ◌<◌, ◌≤◌, ◌*◌, ◌⊎◌, inl, inr, List, [], ◌∷◌, ◌++◌, length, get_or, set, arith, refl, sym}
use Rattle.std.proofs.lemmas.List.{get_or_append_left, get_or_push, length_push, get_or-set_same, get_or-set_other, length-set}
use Rattle.regalloc.specs.Steps.{AreLeast, HasAtMost, IsLowered}

below_or_last : (j n : ℕ) → j < n + 1 → (j < n) ⊎ (j ≡ n)
below_or_last j n h = grind arith

same_or_other : (j n : ℕ) → (j ≡ n) ⊎ (j ≡ n → ⊥)
same_or_other j n = grind arith

module _ (ends least : List ℕ) (are : AreLeast ends least) where
  -- a place more, whose group has a number that isn't greater
  pub another_place : (last : ℕ) → length ends / 64 < length least → get_or least (length ends / 64) 0 ≤ last → AreLeast (ends ++ last ∷ []) least
  another_place last there low j below = elim (below_or_last j (length ends) (rw (length_push ends last) at below)) [
    | inl old ↦ let kept : get_or (ends ++ last ∷ []) j 0 ≡ get_or ends j 0 = get_or_append_left ends (last ∷ []) 0 j old in
        ((are j old).0, rw kept ((are j old).1))
    | inr e ↦ let new : get_or (ends ++ last ∷ []) j 0 ≡ last = get_or_push ends last 0 j (sym e) in
        (rw e there, rw (new, e) low)
  ]

  -- lower numbers for groups
  pub lower_groups : (new : List ℕ) → IsLowered least new → AreLeast ends new
  lower_groups new lowered j below =
      let was : (j / 64 < length least) × (get_or least (j / 64) 0 ≤ get_or ends j 0) = are j below in
      let now : HasAtMost new (j / 64) (get_or least (j / 64) 0) = lowered (j / 64) was.0 in
      (now.0, omega (arith, was.1, now.1))

  -- the next place's group has a number or is the next one
  pub next_group : length ends / 64 ≤ length least
  next_group = elim (same_or_other (length ends) 0) [
    | inl e ↦ omega (arith, e)
    | inr some_one ↦ let last : (length ends - 1) / 64 < length least = (are (length ends - 1) (omega (arith, some_one))).0 in omega (arith, last)
  ]

  -- a place is taken up to another point, and its group has the least number of its places
  pub other_end : (place last x : ℕ) → place < length ends
      → ((j : ℕ) → place / 64 * 64 ≤ j → j < place / 64 * 64 + 64 → j < length (set ends place last) → x ≤ get_or (set ends place last) j 0)
      → AreLeast (set ends place last) (set least (place / 64) x)
  other_end place last x within low j below = elim (same_or_other (j / 64) (place / 64)) [
    | inl e ↦ let same : get_or (set least (place / 64) x) (j / 64) 0 ≡ x = rw e (get_or-set_same least (place / 64) x 0 ((are place within).0)) in
        (rw (length-set least (place / 64) x) ((are j old).0), rw same (low j (omega (arith, e)) (omega (arith, e)) below))
    | inr differs ↦ (
      rw (length-set least (place / 64) x) ((are j old).0),
      rw (get_or-set_other least (place / 64) (j / 64) x 0 differs, get_or-set_other ends place j last 0 (apart differs)) ((are j old).1),
    )
  ]
    where
      old : j < length ends
      old = rw (length-set ends place last) at below

      apart : (j / 64 ≡ place / 64 → ⊥) → j ≡ place → ⊥
      apart differs e = differs (rw e refl)

-- a number more, or a lower one in its place
pub lowered_push : (old : List ℕ) (x : ℕ) → IsLowered old (old ++ x ∷ [])
lowered_push old x j below = (omega (arith, length_push old x), rw (get_or_append_left old (x ∷ []) 0 j below) (omega arith))

pub lowered_set : (old : List ℕ) (place x : ℕ) → x ≤ get_or old place 0 → IsLowered old (set old place x)
lowered_set old place x low j below = elim (same_or_other j place) [
  | inl e ↦ let own : get_or (set old place x) j 0 ≡ x = rw e (get_or-set_same old place x 0 (rw e at below)) in
      (rw (length-set old place x) below, omega (arith, own, lower e))
  | inr differs ↦ (rw (length-set old place x) below, rw (get_or-set_other old place j x 0 differs) (omega arith))
]
  where
    lower : j ≡ place → x ≤ get_or old j 0
    lower e = rw e low
