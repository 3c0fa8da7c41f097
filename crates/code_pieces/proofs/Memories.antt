-- Bytes of a memory, in parts.
use Rattle.std.proofs.Common.{[], ◌≡◌, refl, ap, ◌∙◌, ℕ, zero, suc, ◌+◌, ◌<◌, ◌∷◌, ◌++◌, length, replicate, Some, None, arith}
use Rattle.std.specs.Prelude.{slice_get, take, drop}
use Rattle.ir_meaning.specs.Value.{Byte}
use Rattle.ir_meaning.specs.Memory.{Memory}

pub get-front : (xs ys : Memory) (i : ℕ) → i < length xs → slice_get (xs ++ ys) i ≡ slice_get xs i
get-front [] ys i lt = absurd (let bad : ⊥ = omega (arith, lt) in bad)
get-front (x ∷ xs) ys zero lt = refl
get-front (x ∷ xs) ys (suc i) lt = get-front xs ys i (omega (arith, lt))

pub get-back : (xs ys : Memory) (i k : ℕ) → i ≡ length xs + k → slice_get (xs ++ ys) i ≡ slice_get ys k
get-back [] ys i k e = ap (slice_get ys) (let z : i ≡ k = omega (arith, e) in z)
get-back (x ∷ xs) ys zero k e = absurd (let bad : ⊥ = omega (arith, e) in bad)
get-back (x ∷ xs) ys (suc i) k e = get-back xs ys i k (omega (arith, e))

pub get-take : (xs : Memory) (n i : ℕ) → i < n → slice_get (take n xs) i ≡ slice_get xs i
get-take [] zero i lt = refl
get-take [] (suc n) i lt = refl
get-take (x ∷ xs) zero i lt = absurd (let bad : ⊥ = omega (arith, lt) in bad)
get-take (x ∷ xs) (suc n) zero lt = refl
get-take (x ∷ xs) (suc n) (suc i) lt = get-take xs n i (omega (arith, lt))

pub get-drop : (xs : Memory) (n i : ℕ) → slice_get (drop n xs) i ≡ slice_get xs (n + i)
get-drop [] zero i = refl
get-drop [] (suc n) i = refl
get-drop (x ∷ xs) zero i = ap (slice_get (x ∷ xs)) (let z : i ≡ 0 + i = omega arith in z)
get-drop (x ∷ xs) (suc n) i = get-drop xs n i ∙ ap (slice_get (x ∷ xs)) (let z : suc (n + i) ≡ suc n + i = omega arith in z)

pub no-byte : (count j b : ℕ) (v : Byte) → v ≡ None → slice_get (replicate count v) j ≡ Some (Some b) → ⊥
no-byte zero j b v e h = let bad : ⊥ = cc in bad
no-byte (suc count) zero b v e h = let bad : ⊥ = cc in bad
no-byte (suc count) (suc j) b v e h = no-byte count j b v e h
