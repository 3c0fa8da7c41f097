-- What a call answers, and that there are no pairs past the end of a list.
use Rattle.std.proofs.Common.{◌≡◌, refl, sym, ◌∙◌, ap, ℕ, ◌⊎◌, inl, inr, List, [], ◌∷◌, ◌++◌, append-nil, Result, Ok, Err}
use Rattle.std.specs.Prelude.{IfOk}
use Rattle.selected_code.specs.Selected.{paired}

pub answered : {A E : Type 0} (P Q : A → Type 0) → ((a : A) → P a → Q a) → (r : Result A E) → IfOk r P → IfOk r Q
answered P Q f (Ok a) h = f a h
answered P Q f (Err e) h = tt

pub answered_both : {A E : Type 0} (P Q R : A → Type 0) → ((a : A) → P a → Q a → R a) → (r : Result A E) → IfOk r P → IfOk r Q → IfOk r R
answered_both P Q R f (Ok a) h i = f a h i
answered_both P Q R f (Err e) h i = tt

-- where one of the lists has ended there are no pairs
no_pairs : (rs bs : List ℕ) → (rs ≡ []) ⊎ (bs ≡ []) → paired rs bs ≡ []
no_pairs [] [] h = refl
no_pairs [] (b ∷ bs) h = refl
no_pairs (r ∷ rs) [] h = refl
no_pairs (r ∷ rs) (b ∷ bs) (inl h) = absurd (let bad : ⊥ = cc in bad)
no_pairs (r ∷ rs) (b ∷ bs) (inr h) = absurd (let bad : ⊥ = cc in bad)

pub all_pairs : (done : List (ℕ × ℕ)) (rs bs : List ℕ) (all : List (ℕ × ℕ)) → (rs ≡ []) ⊎ (bs ≡ []) → done ++ paired rs bs ≡ all → done ≡ all
all_pairs done rs bs all h e = sym (append-nil done) ∙ (sym (ap (λ x. done ++ x) (no_pairs rs bs h)) ∙ e)
