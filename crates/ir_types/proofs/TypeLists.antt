-- Items of lists by their places.
use Rattle.std.proofs.Common.{◌≡◌, ℕ, zero, suc, ◌<◌, ◌⊎◌, inl, inr, List, [], ◌∷◌, ◌++◌, length, take, refl, sym, ap, arith, Option, Some, None, Result, Ok, Err}
use Rattle.std.specs.Prelude.{slice_get, slice_set}
use Rattle.std.proofs.lemmas.Option.{none-some, same_Some}

module _ {A : Type 0} where
  pub get_last : (xs : List A) (x : A) → slice_get (xs ++ x ∷ []) (length xs) ≡ Some x
  get_last [] x = refl
  get_last (y ∷ ys) x = get_last ys x

  pub get_front : (xs : List A) (y : A) (k : ℕ) (x : A) → slice_get xs k ≡ Some x → slice_get (xs ++ y ∷ []) k ≡ Some x
  get_front [] y k x e = absurd (none-some x e)
  get_front (z ∷ zs) y zero x e = e
  get_front (z ∷ zs) y (suc k) x e = get_front zs y k x e

  pub get_either : (xs : List A) (y : A) (k : ℕ) (x : A) → slice_get (xs ++ y ∷ []) k ≡ Some x → (slice_get xs k ≡ Some x) ⊎ ((k ≡ length xs) × (x ≡ y))
  get_either [] y zero x e = inr (refl, sym (same_Some y x e))
  get_either [] y (suc k) x e = absurd (none-some x e)
  get_either (z ∷ zs) y zero x e = inl e
  get_either (z ∷ zs) y (suc k) x e = elim (get_either zs y k x e) [ inl h ↦ inl h | inr h ↦ inr (ap suc h.0, h.1) ]

  pub set_same : (xs : List A) (i : ℕ) (a : A) → i < length xs → slice_get (slice_set xs i a) i ≡ Some a
  set_same [] i a h = absurd (omega arith)
  set_same (x ∷ xs) zero a h = refl
  set_same (x ∷ xs) (suc i) a h = set_same xs i a (omega arith)

  pub set_cases : (xs : List A) (i : ℕ) (a : A) (k : ℕ) (x : A) → slice_get (slice_set xs i a) k ≡ Some x → ((k ≡ i) × (x ≡ a)) ⊎ (slice_get xs k ≡ Some x)
  set_cases [] i a k x e = inr e
  set_cases (y ∷ ys) zero a zero x e = inl (refl, sym (same_Some a x e))
  set_cases (y ∷ ys) zero a (suc k) x e = inr e
  set_cases (y ∷ ys) (suc i) a zero x e = inr e
  set_cases (y ∷ ys) (suc i) a (suc k) x e = elim (set_cases ys i a k x e) [ inl h ↦ inl (ap suc h.0, h.1) | inr h ↦ inr h ]

  -- an item stays where another is set, unless it is that one
  pub set_other : (xs : List A) (i : ℕ) (a : A) (k : ℕ) (x : A) → slice_get xs k ≡ Some x → (k ≡ i) ⊎ (slice_get (slice_set xs i a) k ≡ Some x)
  set_other [] i a k x e = inr e
  set_other (y ∷ ys) zero a zero x e = inl refl
  set_other (y ∷ ys) zero a (suc k) x e = inr e
  set_other (y ∷ ys) (suc i) a zero x e = inr e
  set_other (y ∷ ys) (suc i) a (suc k) x e = elim (set_other ys i a k x e) [ inl h ↦ inl (ap suc h) | inr h ↦ inr h ]

  pub take_next : (xs : List A) (k : ℕ) (x : A) → slice_get xs k ≡ Some x → take (suc k) xs ≡ take k xs ++ x ∷ []
  take_next [] k x e = absurd (none-some x e)
  take_next (y ∷ ys) zero x e = ap (λ z. z ∷ []) (same_Some y x e)
  take_next (y ∷ ys) (suc k) x e = ap (λ zs. y ∷ zs) (take_next ys k x e)

  -- an item before one that is there is there
  pub get_before : (xs : List A) (k : ℕ) (x : A) → slice_get xs (suc k) ≡ Some x → (y : A) × (slice_get xs k ≡ Some y)
  get_before [] k x e = absurd (none-some x e)
  get_before (y ∷ ys) zero x e = (y, refl)
  get_before (y ∷ ys) (suc k) x e = get_before ys k x e

  pub one_item : (xs : List A) (x : A) → length xs ≡ 1 → slice_get xs 0 ≡ Some x → xs ≡ x ∷ []
  one_item [] x n e = absurd (none-some x e)
  one_item (y ∷ []) x n e = ap (λ z. z ∷ []) (same_Some y x e)
  one_item (y ∷ z ∷ zs) x n e = absurd (omega arith)

module _ {A E : Type 0} where
  abbrev or_else : A → Result A E → A
  or_else x (Ok y) = y
  or_else x (Err e) = x

  pub same_Ok : (x y : A) → ◌≡◌ {A = Result A E} (Ok x) (Ok y) → x ≡ y
  same_Ok x y e = ap (or_else x) e

  abbrev is_fine : Result A E → Option A
  is_fine (Ok y) = Some y
  is_fine (Err e) = None

  pub err-ok : (d : E) (x : A) → ◌≡◌ {A = Result A E} (Err d) (Ok x) → ⊥
  err-ok d x e = none-some x (ap is_fine e)
