-- The registers and the slots of places.
use Rattle.std.proofs.Common.{◌≡◌, ◌≢◌, refl, sym, ap, ◌∙◌, ℕ, zero, suc, ◌+◌, ◌*◌, ◌<◌, ◌≤◌, ◌⊎◌, inl, inr, Bool, true, false, List, [], ◌∷◌, Option, Some, None, arith}
use Rattle.std.specs.Prelude.{◌==◌, ◌||◌, slice_index_or}
use Rattle.mir.specs.declared.places.Place.{Place}
use Rattle.mir.specs.declared.places.Place.TheVariants.{Saved, Slot}
use Rattle.mir.specs.declared.places.Places.{Places}
use Rattle.mir.specs.Places.{place_of}
use Rattle.frame_code.specs.Frame.{is_saved, some_saved, uses}
use Rattle.frame_code.specs.Stands.{saved_number}
use Rattle.code_pieces.proofs.Const.{self-eq}

-- s0 and s1 are x8 and x9, s2 to s10 are x18 to x26
pub saved-cases : (k : ℕ) → k < 11 → ((k < 2) × (saved_number k ≡ 8 + k)) ⊎ ((2 ≤ k) × (saved_number k ≡ 16 + k))
saved-cases zero h = inl (omega arith, refl)
saved-cases (suc zero) h = inl (omega arith, refl)
saved-cases (suc (suc zero)) h = inr (omega arith, refl)
saved-cases (suc (suc (suc zero))) h = inr (omega arith, refl)
saved-cases (suc (suc (suc (suc zero)))) h = inr (omega arith, refl)
saved-cases (suc (suc (suc (suc (suc zero))))) h = inr (omega arith, refl)
saved-cases (suc (suc (suc (suc (suc (suc zero)))))) h = inr (omega arith, refl)
saved-cases (suc (suc (suc (suc (suc (suc (suc zero))))))) h = inr (omega arith, refl)
saved-cases (suc (suc (suc (suc (suc (suc (suc (suc zero)))))))) h = inr (omega arith, refl)
saved-cases (suc (suc (suc (suc (suc (suc (suc (suc (suc zero))))))))) h = inr (omega arith, refl)
saved-cases (suc (suc (suc (suc (suc (suc (suc (suc (suc (suc zero)))))))))) h = inr (omega arith, refl)
saved-cases (suc (suc (suc (suc (suc (suc (suc (suc (suc (suc (suc n))))))))))) h = absurd (let bad : ⊥ = omega arith in bad)

-- these registers are none of the first eight, of a0 to a7, or of those from x27 on
pub record IsSaved (n : ℕ) : Type 0 where
  pub low : 8 ≤ n
  pub high : n < 27
  pub not-argument : (n < 10) ⊎ (18 ≤ n)

pub is-saved : (k : ℕ) → k < 11 → IsSaved (saved_number k)
is-saved k h = by_case (saved-cases k h)
  where
    by_case : ((k < 2) × (saved_number k ≡ 8 + k)) ⊎ ((2 ≤ k) × (saved_number k ≡ 16 + k)) → IsSaved (saved_number k)
    by_case (inl c) = let e = c.1 in let l = c.0 in record { low = omega (arith, e); high = omega (arith, e, l); not-argument = inl (omega (arith, e, l)) }
    by_case (inr c) = let e = c.1 in let l = c.0 in record { low = omega (arith, e); high = omega (arith, e, h); not-argument = inr (omega (arith, e, l)) }

pub saved-is-one : (j k : ℕ) → j < 11 → k < 11 → saved_number j ≡ saved_number k → j ≡ k
saved-is-one j k hj hk same = by_case (saved-cases j hj) (saved-cases k hk)
  where
    by_case : ((j < 2) × (saved_number j ≡ 8 + j)) ⊎ ((2 ≤ j) × (saved_number j ≡ 16 + j)) → ((k < 2) × (saved_number k ≡ 8 + k)) ⊎ ((2 ≤ k) × (saved_number k ≡ 16 + k)) → j ≡ k
    by_case (inl c) (inl d) = let a = c.1 in let b = d.1 in omega (arith, a, b, same)
    by_case (inl c) (inr d) = let a = c.1 in let b = d.1 in let l = c.0 in let r = d.0 in omega (arith, a, b, l, r, same)
    by_case (inr c) (inl d) = let a = c.1 in let b = d.1 in let l = c.0 in let r = d.0 in omega (arith, a, b, l, r, same)
    by_case (inr c) (inr d) = let a = c.1 in let b = d.1 in omega (arith, a, b, same)

-- ---- a register's place is in use

or-right : (b : Bool) → (b || true) ≡ true
or-right true = refl
or-right false = refl

some-there : (places : List (Option Place)) (r k : ℕ) → slice_index_or places r None ≡ Some (Saved k) → some_saved k places ≡ true
some-there [] r k e = absurd (let bad : ⊥ = cc in bad)
some-there (p ∷ ps) zero k e = ap (λ (o : Option Place). is_saved k o || some_saved k ps) e ∙ ap (λ (b : Bool). b || some_saved k ps) (self-eq k)
some-there (p ∷ ps) (suc r) k e = ap (λ (b : Bool). is_saved k p || b) (some-there ps r k e) ∙ or-right (is_saved k p)

pub uses-place : (places : Places) (r k : ℕ) → place_of places r ≡ Some (Saved k) → uses places k ≡ true
uses-place places r k e = some-there places.at r k e
