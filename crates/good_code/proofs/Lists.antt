-- A list with one item more.
use Rattle.std.proofs.Common.{◌≡◌, refl, sym, ap, ◌∙◌, List, [], ◌∷◌, ◌++◌, ◌⊎◌, inl, inr}

module _ {A : Type 0} where
  -- the last item is the one at which the list is split, or it stands behind it
  abbrev pub SplitLast : List A → A → List A → A → List A → Type 0
  SplitLast xs y before q behind = ((before ≡ xs) × (q ≡ y)) ⊎ ((behind' : List A) × (xs ≡ before ++ q ∷ behind'))

  never_empty : (before behind : List A) (q : A) → [] ≡ before ++ q ∷ behind → ⊥
  never_empty [] behind q h = cc
  never_empty (b ∷ before) behind q h = cc

  pub split_last : (xs before behind : List A) (y q : A) → xs ++ y ∷ [] ≡ before ++ q ∷ behind → SplitLast xs y before q behind
  split_last [] [] behind y q h = inl (refl, let same : q ≡ y = cc in same)
  split_last [] (b ∷ before) behind y q h = absurd (never_empty before behind q (let rest : [] ≡ before ++ q ∷ behind = cc in rest))
  split_last (x ∷ xs) [] behind y q h = inr (xs, let same : x ≡ q = cc in ap (λ (z : A). z ∷ xs) same)
  split_last (x ∷ xs) (b ∷ before) behind y q h =
      let same : x ≡ b = cc in
      from same (split_last xs before behind y q (let rest : xs ++ y ∷ [] ≡ before ++ q ∷ behind = cc in rest))
    where
      from : x ≡ b → SplitLast xs y before q behind → SplitLast (x ∷ xs) y (b ∷ before) q behind
      from same (inl r) = inl (ap (λ (z : List A). b ∷ z) r.0 ∙ sym (ap (λ (z : A). z ∷ xs) same), r.1)
      from same (inr r) = inr (r.0, ap (λ (z : A). z ∷ xs) same ∙ ap (λ (z : List A). b ∷ z) r.1)
