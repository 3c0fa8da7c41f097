-- Items of lists.
use Rattle.std.proofs.Common.{◌≡◌, ◌≢◌, refl, sym, ap, subst, ◌∙◌, ℕ, zero, suc, ◌+◌, ◌-◌, ◌<◌, ◌≤◌, ◌⊎◌, inl, inr, ⊎_elim, Bool, true, false, cond, List, [], ◌∷◌, ◌++◌, length, flat_map, Option, Some, None, arith}
use Rattle.std.specs.Prelude.{◌==◌, slice_get, slice_index, slice_index_or, if◌then◌else◌, unwrap_or}
use Rattle.std.specs.List.{Contains}
use Rattle.std.proofs.lemmas.Bool.{ne_eqb, eq-eqb, eqb-true, cases_lt}
use Rattle.std.proofs.lemmas.List.Sums.{sum_by-cons}
use Rattle.gmir.specs.Formed.{times}

-- one of the items is it
abbrev pub In : ℕ → List ℕ → Type 0
In x [] = ⊥
In x (y ∷ ys) = (y ≡ x) ⊎ In x ys

in_at : (x : ℕ) (xs : List ℕ) (k : ℕ) → k < length xs → slice_index_or xs k x ≡ x → In x xs
in_at x [] k h e = absurd (let bad : ⊥ = omega arith in bad)
in_at x (y ∷ ys) zero h e = inl e
in_at x (y ∷ ys) (suc k) h e = inr (in_at x ys k (omega arith) e)

pub in_from : (x : ℕ) (xs : List ℕ) → Contains xs x → In x xs
in_from x xs h = in_at x xs h.0 h.1 h.2

pub in_to : (x : ℕ) (xs : List ℕ) → In x xs → Contains xs x
in_to x [] h = absurd h
in_to x (y ∷ ys) (inl e) = (0, omega arith, e)
in_to x (y ∷ ys) (inr h) =
    let r = in_to x ys h in
    let low = r.1 in
    (suc r.0, omega (arith, low), r.2)

-- where an item stands
pub in_get : (x : ℕ) (xs : List ℕ) → In x xs → (k : ℕ) × (slice_get xs k ≡ Some x)
in_get x [] h = absurd h
in_get x (y ∷ ys) (inl e) = (0, ap Some e)
in_get x (y ∷ ys) (inr h) = let r = in_get x ys h in (suc r.0, r.1)

times_cons : (x y : ℕ) (ys : List ℕ) → times x (y ∷ ys) ≡ cond (y == x) 1 0 + times x ys
times_cons x y ys = sum_by-cons (λ z. cond (z == x) 1 0) y ys

pub times_from : (x : ℕ) (xs : List ℕ) → 1 ≤ times x xs → In x xs
times_from x [] h = absurd (let bad : ⊥ = omega arith in bad)
times_from x (y ∷ ys) h = by_test (y == x) refl (λ l. times_from x ys l) (subst (λ k. 1 ≤ k) (times_cons x y ys) h)
  where
    by_test : (b : Bool) → (y == x) ≡ b → (1 ≤ times x ys → In x ys) → 1 ≤ cond b 1 0 + times x ys → (y ≡ x) ⊎ In x ys
    by_test true e ih l = inl (eqb-true y x e)
    by_test false e ih l = inr (ih (omega (arith, l)))

pub times_to : (x : ℕ) (xs : List ℕ) → In x xs → 1 ≤ times x xs
times_to x [] h = absurd h
times_to x (y ∷ ys) (inl e) = subst (λ k. 1 ≤ k) (sym (times_cons x y ys)) (subst (λ b. 1 ≤ cond b 1 0 + times x ys) (sym (eq-eqb y x e)) (omega arith))
times_to x (y ∷ ys) (inr h) = let low = times_to x ys h in subst (λ k. 1 ≤ k) (sym (times_cons x y ys)) (omega (arith, low))

-- an item that stands once stands at one place
pub once : (x : ℕ) (xs : List ℕ) (j k : ℕ) → j < k → k < length xs → slice_index xs j ≡ x → slice_index xs k ≡ x → 2 ≤ times x xs
once x [] j k less h p q = absurd (let bad : ⊥ = omega (arith, h) in bad)
once x (y ∷ ys) j zero less h p q = absurd (let bad : ⊥ = omega (arith, less) in bad)
once x (y ∷ ys) zero (suc k) less h p q =
    let more = times_to x ys (in_place k ys (omega (arith, h)) q) in
    subst (λ m. 2 ≤ m) (sym (times_cons x y ys)) (subst (λ b. 2 ≤ cond b 1 0 + times x ys) (sym (eq-eqb y x p)) (omega (arith, more)))
  where
    in_place : (k : ℕ) (xs : List ℕ) → k < length xs → slice_index xs k ≡ x → In x xs
    in_place k [] h e = absurd (let bad : ⊥ = omega (arith, h) in bad)
    in_place zero (z ∷ zs) h e = inl e
    in_place (suc k) (z ∷ zs) h e = inr (in_place k zs (omega (arith, h)) e)
once x (y ∷ ys) (suc j) (suc k) less h p q =
    let more = once x ys j k (omega (arith, less)) (omega (arith, h)) p q in
    subst (λ m. 2 ≤ m) (sym (times_cons x y ys)) (omega (arith, more))

pub in_left : (x : ℕ) (xs ys : List ℕ) → In x xs → In x (xs ++ ys)
in_left x [] ys h = absurd h
in_left x (z ∷ xs) ys (inl e) = inl e
in_left x (z ∷ xs) ys (inr h) = inr (in_left x xs ys h)

pub in_right : (x : ℕ) (xs ys : List ℕ) → In x ys → In x (xs ++ ys)
in_right x [] ys h = h
in_right x (z ∷ xs) ys h = inr (in_right x xs ys h)

pub in_either : (x : ℕ) (xs ys : List ℕ) → In x (xs ++ ys) → In x xs ⊎ In x ys
in_either x [] ys h = inr h
in_either x (z ∷ xs) ys (inl e) = inl (inl e)
in_either x (z ∷ xs) ys (inr h) = ⊎_elim (λ l. inl (inr l)) (λ r. inr r) (in_either x xs ys h)

-- an item of lists that are put together is one of one of them
pub flat_get : {A : Type 0} (f : A → List ℕ) (x : ℕ) (xs : List A) → In x (flat_map f xs) → (k : ℕ) × (y : A) × (slice_get xs k ≡ Some y) × In x (f y)
flat_get f x [] h = absurd h
flat_get f x (y ∷ ys) h = ⊎_elim (λ l. (0, y, refl, l)) (λ r. let z = flat_get f x ys r in (suc z.0, z.1, z.2, z.3)) (in_either x (f y) (flat_map f ys) h)

pub flat_put : {A : Type 0} (f : A → List ℕ) (x : ℕ) (xs : List A) (k : ℕ) (y : A) → slice_get xs k ≡ Some y → In x (f y) → In x (flat_map f xs)
flat_put f x [] k y e h = absurd (let bad : ⊥ = cc in bad)
flat_put f x (z ∷ zs) zero y e h = in_left x (f z) (flat_map f zs) (subst (λ w. In x (f w)) (sym (ap (λ o. unwrap_or o z) e)) h)
flat_put f x (z ∷ zs) (suc k) y e h = in_right x (f z) (flat_map f zs) (flat_put f x zs k y e h)
