-- What holds at each place of a list.
use Rattle.std.proofs.Common.{◌≡◌, ℕ, zero, suc, ◌<◌, List, [], ◌∷◌, ◌++◌, length, get_or, sym, subst, arith}
use Rattle.jit_session.specs.Runs.{Each}

module _ {A : Type 0} where
  pub each_none : (P : ℕ → A → Type 0) (xs : List A) → length xs ≡ 0 → Each P xs
  each_none P xs none i d low = absurd (omega arith)

  pub each_more : (P : ℕ → A → Type 0) (xs : List A) (x : A) → Each P xs → P (length xs) x → Each P (xs ++ x ∷ [])
  each_more P [] x all p zero d low = p
  each_more P [] x all p (suc i) d low = absurd (omega arith)
  each_more P (y ∷ xs) x all p zero d low = all 0 d (omega arith)
  each_more P (y ∷ xs) x all p (suc i) d low = each_more (λ (j : ℕ). P (suc j)) xs x (λ j e l. all (suc j) e (omega arith)) p i d (omega arith)

  pub each_at : (P : ℕ → A → Type 0) (xs : List A) (i : ℕ) (x : A) → Each P xs → i < length xs → x ≡ get_or xs i x → P i x
  each_at P xs i x all low is = subst (λ (y : A). P i y) (sym is) (all i x low)
