-- Lists, and lists of what items give.
use Rattle.std.proofs.Common.{◌≡◌, refl, ap, subst, ◌∙◌, ℕ, zero, suc, ◌+◌, ◌<◌, List, [], ◌∷◌, ◌++◌, length, Some, arith}
use Rattle.std.specs.Prelude.{slice_get, slice_index_or, flat_map, map}

pub get_left : {A : Type 0} (xs ys : List A) (k : ℕ) (x : A) → slice_get xs k ≡ Some x → slice_get (xs ++ ys) k ≡ Some x
get_left [] ys k x e = absurd (let bad : ⊥ = cc in bad)
get_left (z ∷ xs) ys zero x e = e
get_left (z ∷ xs) ys (suc k) x e = get_left xs ys k x e

pub get_right : {A : Type 0} (xs ys : List A) (k : ℕ) → slice_get (xs ++ ys) (length xs + k) ≡ slice_get ys k
get_right [] ys k = ap (slice_get ys) (let z : 0 + k ≡ k = omega arith in z)
get_right (z ∷ xs) ys k = ap (slice_get (z ∷ (xs ++ ys))) (let w : length (z ∷ xs) + k ≡ suc (length xs + k) = omega arith in w) ∙ get_right xs ys k

pub get_below : {A : Type 0} (xs : List A) (k : ℕ) (x : A) → slice_get xs k ≡ Some x → k < length xs
get_below [] k x e = absurd (let bad : ⊥ = cc in bad)
get_below (z ∷ xs) zero x e = omega arith
get_below (z ∷ xs) (suc k) x e = let low = get_below xs k x e in omega (arith, low)

pub get_index : {A : Type 0} (xs : List A) (k : ℕ) (x z : A) → slice_get xs k ≡ Some x → slice_index_or xs k z ≡ x
get_index [] k x z e = absurd (let bad : ⊥ = cc in bad)
get_index (y ∷ xs) zero x z e = cc
get_index (y ∷ xs) (suc k) x z e = get_index xs k x z e

pub get_map : {A B : Type 0} (f : A → B) (xs : List A) (k : ℕ) (x : A) → slice_get xs k ≡ Some x → slice_get (map f xs) k ≡ Some (f x)
get_map f [] k x e = absurd (let bad : ⊥ = cc in bad)
get_map {B = B} f (y ∷ xs) zero x e = let same : y ≡ x = cc in ap (λ z. Some (f z)) same
get_map f (y ∷ xs) (suc k) x e = get_map f xs k x e

pub get_some : {A : Type 0} (xs : List A) (k : ℕ) → k < length xs → (x : A) × (slice_get xs k ≡ Some x)
get_some [] k l = absurd (let bad : ⊥ = omega (arith, l) in bad)
get_some (y ∷ xs) zero l = (y, refl)
get_some (y ∷ xs) (suc k) l = get_some xs k (omega (arith, l))

-- an item of what an item gives is one of all
pub get_flat : {A B : Type 0} (g : A → List B) (xs : List A) (k j : ℕ) (x : A) (y : B) → slice_get xs k ≡ Some x → slice_get (g x) j ≡ Some y
    → (i : ℕ) × (slice_get (flat_map g xs) i ≡ Some y)
get_flat g [] k j x y e e' = absurd (let bad : ⊥ = cc in bad)
get_flat {A = A} {B = B} g (z ∷ xs) zero j x y e e' =
    let same : x ≡ z = cc in
    (j, get_left (g z) (flat_map g xs) j y (subst (λ (a : A). slice_get (g a) j ≡ Some y) same e'))
get_flat g (z ∷ xs) (suc k) j x y e e' =
    let rest = get_flat g xs k j x y e e' in
    (length (g z) + rest.0, get_right (g z) (flat_map g xs) rest.0 ∙ rest.1)
