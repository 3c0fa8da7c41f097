-- How many of a list pass a test.
use Rattle.std.proofs.Common.{◌≡◌, ℕ, zero, suc, ◌+◌, ◌<◌, ◌≤◌, inl, inr, Bool, true, false, cond, List, [], ◌∷◌, ◌++◌, length, get_or, set, count_by, arith, refl, ap, sym, ◌∙◌}
use Rattle.std.proofs.lemmas.List.Sums.{sum_by-cons, sum_by_push, sum_by-set, sum_by-le-sum_by, count_by-le-length}
use Rattle.std.proofs.lemmas.Bool.{cond_both, cases_Bool}

module _ {X : Type 0} (p : X → Bool) where
  pub count_yes : (x : X) (xs : List X) → p x ≡ true → count_by p (x ∷ xs) ≡ 1 + count_by p xs
  count_yes x xs e = sum_by-cons (λ x. cond (p x) 1 0) x xs ∙ ap (λ b. cond b 1 0 + count_by p xs) e

  pub count_no : (x : X) (xs : List X) → p x ≡ false → count_by p (x ∷ xs) ≡ count_by p xs
  count_no x xs e = let step : count_by p (x ∷ xs) ≡ 0 + count_by p xs = sum_by-cons (λ x. cond (p x) 1 0) x xs ∙ ap (λ b. cond b 1 0 + count_by p xs) e in
      omega (arith, step)

  pub push_yes : (xs : List X) (x : X) → p x ≡ true → count_by p (xs ++ x ∷ []) ≡ count_by p xs + 1
  push_yes xs x e = sum_by_push (λ x. cond (p x) 1 0) xs x ∙ ap (λ b. count_by p xs + cond b 1 0) e

  pub push_no : (xs : List X) (x : X) → p x ≡ false → count_by p (xs ++ x ∷ []) ≡ count_by p xs
  push_no xs x e = let step : count_by p (xs ++ x ∷ []) ≡ count_by p xs + 0 = sum_by_push (λ x. cond (p x) 1 0) xs x ∙ ap (λ b. count_by p xs + cond b 1 0) e in
      omega (arith, step)

  count_cons_le : (x : X) (xs : List X) → count_by p xs ≤ count_by p (x ∷ xs)
  count_cons_le x xs = omega (arith, sum_by-cons (λ x. cond (p x) 1 0) x xs)

  -- each of the first k passes
  pub first_pass : (xs : List X) (k : ℕ) (d : X) → k ≤ length xs → ((j : ℕ) → j < k → p (get_or xs j d) ≡ true) → k ≤ count_by p xs
  first_pass xs zero d short all = omega arith
  first_pass [] (suc k) d short all = absurd (omega arith)
  first_pass (x ∷ xs) (suc k) d short all =
      let rest : k ≤ count_by p xs = first_pass xs k d (omega arith) (λ j h. all (suc j) (omega arith)) in
      omega (arith, count_yes x xs (all 0 (omega arith)), rest)

  -- one doesn't pass
  pub one_fails : (xs : List X) (k : ℕ) (d : X) → k < length xs → p (get_or xs k d) ≡ false → count_by p xs < length xs
  one_fails [] k d short fails = absurd (omega arith)
  one_fails (x ∷ xs) zero d short fails = omega (arith, count_no x xs fails, count_by-le-length p xs)
  one_fails (x ∷ xs) (suc k) d short fails =
      let rest : count_by p xs < length xs = one_fails xs k d (omega arith) fails in
      elim (cases_Bool (p x)) [ inl e ↦ omega (arith, count_yes x xs e, rest) | inr e ↦ omega (arith, count_no x xs e, rest) ]

  -- none passes
  pub none_pass : (xs : List X) → ((j : ℕ) (d : X) → j < length xs → p (get_or xs j d) ≡ false) → count_by p xs ≡ 0
  none_pass [] fails = refl
  none_pass (x ∷ xs) fails = count_no x xs (fails 0 x (omega arith)) ∙ none_pass xs (λ j d h. fails (suc j) d (omega arith))

  -- one passes
  pub one_passes : (xs : List X) (k : ℕ) (d : X) → k < length xs → p (get_or xs k d) ≡ true → 1 ≤ count_by p xs
  one_passes [] k d short passes = absurd (omega arith)
  one_passes (x ∷ xs) zero d short passes = omega (arith, count_yes x xs passes)
  one_passes (x ∷ xs) (suc k) d short passes = let rest : 1 ≤ count_by p xs = one_passes xs k d (omega arith) passes in omega (arith, rest, count_cons_le x xs)

  -- two pass
  pub two_pass : (xs : List X) (i k : ℕ) (d : X) → i < k → k < length xs → p (get_or xs i d) ≡ true → p (get_or xs k d) ≡ true → 2 ≤ count_by p xs
  two_pass xs i zero d apart short one other = absurd (omega arith)
  two_pass [] i (suc k) d apart short one other = absurd (omega arith)
  two_pass (x ∷ xs) zero (suc k) d apart short one other =
      let rest : 1 ≤ count_by p xs = one_passes xs k d (omega arith) other in omega (arith, rest, count_yes x xs one)
  two_pass (x ∷ xs) (suc i) (suc k) d apart short one other =
      let rest : 2 ≤ count_by p xs = two_pass xs i k d (omega arith) (omega arith) one other in omega (arith, rest, count_cons_le x xs)

  -- a number in place of one that fails
  pub set_yes : (xs : List X) (k : ℕ) (y d : X) → k < length xs → p (get_or xs k d) ≡ false → p y ≡ true → count_by p (set xs k y) ≡ count_by p xs + 1
  set_yes xs k y d short fails passes =
      let step : count_by p (set xs k y) + 0 ≡ count_by p xs + 1 =
      ap (λ b. count_by p (set xs k y) + cond b 1 0) (sym fails) ∙ sum_by-set (λ x. cond (p x) 1 0) xs k y d short ∙ ap (λ b. count_by p xs + cond b 1 0) passes in
      omega (arith, step)

  pub set_no : (xs : List X) (k : ℕ) (y d : X) → k < length xs → p (get_or xs k d) ≡ false → p y ≡ false → count_by p (set xs k y) ≡ count_by p xs
  set_no xs k y d short fails passes =
      let step : count_by p (set xs k y) + 0 ≡ count_by p xs + 0 =
      ap (λ b. count_by p (set xs k y) + cond b 1 0) (sym fails) ∙ sum_by-set (λ x. cond (p x) 1 0) xs k y d short ∙ ap (λ b. count_by p xs + cond b 1 0) passes in
      omega (arith, step)

-- a wider test passes more
pub wider : {X : Type 0} (p q : X → Bool) (xs : List X) → ((x : X) → p x ≡ true → q x ≡ true) → count_by p xs ≤ count_by q xs
wider {X = X} p q xs implies = sum_by-le-sum_by (λ x. cond (p x) 1 0) (λ x. cond (q x) 1 0) xs (λ x. at_one x)
  where
    at_one : (x : X) → cond (p x) 1 0 ≤ cond (q x) 1 0
    at_one x = cond_both {A = ℕ} (p x) 1 0 (λ n. n ≤ cond (q x) 1 0) (λ e. rw (implies x e) (omega arith)) (λ e. omega arith)
