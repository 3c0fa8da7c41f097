-- Lists in order: what stands twice stands side by side.
use Rattle.std.proofs.Common.{◌≡◌, ◌≢◌, ℕ, zero, suc, ◌+◌, ◌<◌, ◌≤◌, ◌⊎◌, inl, inr, List, [], ◌∷◌, length, get_or, refl, sym, ◌∙◌, ap, Bool, true, false, ◌&&◌, ◌||◌, not, nat_lt, arith}
use Rattle.std.specs.Prelude.{count_by, ◌==◌}
use Rattle.std.specs.List.Sorted.{IsPermutation, IsNonDecreasing}
use Rattle.std.proofs.lemmas.List.Sorted.{sum_by-IsPermutation}
use Rattle.std.proofs.lemmas.Bool.{false≢true}
use Rattle.std.proofs.lemmas.Bool.Decides.{eqb_tells, nat_tests}
use Rattle.std.proofs.lemmas.Grind.{common_steps}
use Rattle.ir_verify.specs.Shapes.{is_among, are_distinct, is_below_first, is_rising, times}
use Rattle.ir_verify.proofs.Lists.{Every, every_map, and_both}

-- each number is at most those behind it
abbrev pub Rises : List ℕ → Type 0
Rises [] = Unit {0}
Rises (x ∷ xs) = Every (λ y. x ≤ y) xs × Rises xs

every_from : (P : ℕ → Type 0) (xs : List ℕ) → ((k : ℕ) → k < length xs → P (get_or xs k 0)) → Every P xs
every_from P [] h = tt
every_from P (x ∷ xs) h = (h zero (omega arith), every_from P xs (λ k below. h (suc k) (omega arith)))

pub rises_of : (xs : List ℕ) → IsNonDecreasing xs → Rises xs
rises_of [] h = tt
rises_of (x ∷ xs) h = (
  every_from (λ y. x ≤ y) xs (λ k below. h zero (suc k) 0 (omega arith) (omega arith)),
  rises_of xs (λ i j d less below. h (suc i) (suc j) d (omega arith) (omega arith)),
)

-- ---- distinct numbers, by how often each stands there

times_same : (n : ℕ) (xs : List ℕ) → times n (n ∷ xs) ≡ times n xs + 1
times_same n xs = by_test (eqb_tells n n)
  where
    by_test : (((n == n) ≡ true) × (n ≡ n)) ⊎ (((n == n) ≡ false) × (n ≢ n)) → times n (n ∷ xs) ≡ times n xs + 1
    by_test (inl h) = let e : (n == n) ≡ true = h.0 in grind (arith, common_steps, e)
    by_test (inr h) = absurd (h.1 refl)

times_other : (n m : ℕ) (xs : List ℕ) → m ≢ n → times n (m ∷ xs) ≡ times n xs
times_other n m xs differs = by_test (eqb_tells m n)
  where
    by_test : (((m == n) ≡ true) × (m ≡ n)) ⊎ (((m == n) ≡ false) × (m ≢ n)) → times n (m ∷ xs) ≡ times n xs
    by_test (inl h) = absurd (differs h.1)
    by_test (inr h) = let e : (m == n) ≡ false = h.0 in grind (arith, common_steps, e)

same_or : (n m : ℕ) → (((n == m) ≡ true) × (n ≡ m)) ⊎ (((n == m) ≡ false) × (n ≢ m))
same_or n m = eqb_tells n m

times_there : (n m : ℕ) (xs : List ℕ) → m ≡ n → times n (m ∷ xs) ≡ times n xs + 1
times_there n m xs e = rw e (times_same n xs)

among_more : (n : ℕ) (xs : List ℕ) → is_among n xs ≡ true → 1 ≤ times n xs
among_more n [] h = absurd (false≢true h)
among_more n (m ∷ xs) h = by_test (same_or n m) (λ g. among_more n xs g)
  where
    by_test : (((n == m) ≡ true) × (n ≡ m)) ⊎ (((n == m) ≡ false) × (n ≢ m)) → (is_among n xs ≡ true → 1 ≤ times n xs) → 1 ≤ times n (m ∷ xs)
    by_test (inl e) before = omega (arith, times_there n m xs (sym e.1))
    by_test (inr e) before = let rest : is_among n xs ≡ true = rw e.0 at h in omega (arith, times_other n m xs (λ s. e.1 (sym s)), before rest)

not_among : (n : ℕ) (xs : List ℕ) → is_among n xs ≡ false → times n xs ≡ 0
not_among n [] h = refl
not_among n (m ∷ xs) h = by_test (same_or n m) (λ g. not_among n xs g)
  where
    by_test : (((n == m) ≡ true) × (n ≡ m)) ⊎ (((n == m) ≡ false) × (n ≢ m)) → (is_among n xs ≡ false → times n xs ≡ 0) → times n (m ∷ xs) ≡ 0
    by_test (inl e) before = let there : true ≡ false = rw e.0 at h in absurd (false≢true (sym there))
    by_test (inr e) before = let rest : is_among n xs ≡ false = rw e.0 at h in times_other n m xs (λ s. e.1 (sym s)) ∙ before rest

times_more : (n m : ℕ) (xs : List ℕ) → times n xs ≤ times n (m ∷ xs)
times_more n m xs = by_test (eqb_tells m n)
  where
    by_test : (((m == n) ≡ true) × (m ≡ n)) ⊎ (((m == n) ≡ false) × (m ≢ n)) → times n xs ≤ times n (m ∷ xs)
    by_test (inl e) = rw e.1 (omega (arith, times_same n xs))
    by_test (inr e) = omega (arith, times_other n m xs e.1)

not_true : (b : Bool) → not b ≡ true → b ≡ false
not_true true h = absurd (false≢true h)
not_true false h = refl

distinct_few : (xs : List ℕ) → are_distinct xs ≡ true → (n : ℕ) → times n xs ≤ 1
distinct_few [] h n = omega arith
distinct_few (m ∷ xs) h n =
    let both : (not (is_among m xs) ≡ true) × (are_distinct xs ≡ true) = and_both _ _ h in
    by_test (not_among m xs (not_true _ both.0)) (distinct_few xs both.1 n) (eqb_tells m n)
  where
    by_test : times m xs ≡ 0 → times n xs ≤ 1 → (((m == n) ≡ true) × (m ≡ n)) ⊎ (((m == n) ≡ false) × (m ≢ n)) → times n (m ∷ xs) ≤ 1
    by_test none rest (inl e) = let zero_times : times n xs ≡ 0 = rw e.1 at none in omega (arith, times_there n m xs e.1, zero_times)
    by_test none rest (inr e) = omega (arith, times_other n m xs e.1, rest)

few_distinct : (xs : List ℕ) → ((n : ℕ) → times n xs ≤ 1) → are_distinct xs ≡ true
few_distinct [] h = refl
few_distinct (m ∷ xs) h = by_among (is_among m xs) refl (few_distinct xs (λ n. few n (h n)))
  where
    few : (n : ℕ) → times n (m ∷ xs) ≤ 1 → times n xs ≤ 1
    few n le = omega (arith, times_more n m xs, le)

    by_among : (b : Bool) → is_among m xs ≡ b → are_distinct xs ≡ true → are_distinct (m ∷ xs) ≡ true
    by_among true e rest = absurd (omega (arith, among_more m xs e, times_same m xs, h m))
    by_among false e rest = rw e rest

pub same_times : (xs ys : List ℕ) → IsPermutation xs ys → (n : ℕ) → times n ys ≡ times n xs
same_times xs ys moved n = sum_by-IsPermutation _ xs ys moved

same_bool : (a b : Bool) → (a ≡ true → b ≡ true) → (b ≡ true → a ≡ true) → a ≡ b
same_bool true b f g = sym (f refl)
same_bool false true f g = g refl
same_bool false false f g = refl

same_distinct : (xs ys : List ℕ) → IsPermutation xs ys → are_distinct ys ≡ are_distinct xs
same_distinct xs ys moved =
    same_bool _ _
    (λ h. few_distinct xs (λ n. rw (same_times xs ys moved n) at (distinct_few ys h n)))
    (λ h. few_distinct ys (λ n. rw (same_times xs ys moved n) (distinct_few xs h n)))

-- ---- numbers in order are distinct where each is below the next

lt_yes : (a b : ℕ) → a < b → nat_lt a b ≡ true
lt_yes a b h = grind (arith, nat_tests)

lt_no : (a b : ℕ) → b ≤ a → nat_lt a b ≡ false
lt_no a b h = grind (arith, nat_tests)

compared : (a b : ℕ) → (a < b) ⊎ (b ≤ a)
compared a b = grind arith

above_none : (x : ℕ) (zs : List ℕ) → Every (λ z. x < z) zs → is_among x zs ≡ false
above_none x [] h = refl
above_none x (z ∷ zs) h = by_test (eqb_tells x z) (above_none x zs h.1)
  where
    by_test : (((x == z) ≡ true) × (x ≡ z)) ⊎ (((x == z) ≡ false) × (x ≢ z)) → is_among x zs ≡ false → is_among x (z ∷ zs) ≡ false
    by_test (inl e) rest = let less : x < z = h.0 in absurd (omega (arith, e.1))
    by_test (inr e) rest = rw e.0 rest

among_first : (x : ℕ) (zs : List ℕ) → is_among x (x ∷ zs) ≡ true
among_first x zs = by_test (eqb_tells x x)
  where
    by_test : (((x == x) ≡ true) × (x ≡ x)) ⊎ (((x == x) ≡ false) × (x ≢ x)) → is_among x (x ∷ zs) ≡ true
    by_test (inl e) = rw e.0 refl
    by_test (inr e) = absurd (e.1 refl)

rising_distinct : (ys : List ℕ) → Rises ys → is_rising ys ≡ are_distinct ys
rising_distinct [] h = refl
rising_distinct (x ∷ []) h = refl
rising_distinct (x ∷ y ∷ zs) h = by_place (compared x y) (rising_distinct (y ∷ zs) h.1)
  where
    by_place : (x < y) ⊎ (y ≤ x) → is_rising (y ∷ zs) ≡ are_distinct (y ∷ zs) → is_rising (x ∷ y ∷ zs) ≡ are_distinct (x ∷ y ∷ zs)
    by_place (inl less) rest =
        let none : is_among x (y ∷ zs) ≡ false =
        above_none x (y ∷ zs) (less, every_map (λ z. y ≤ z) (λ z. x < z) zs (λ z le. omega arith) h.1.0) in
        rw (lt_yes x y less, none) rest
    by_place (inr le) rest =
        let first : x ≤ y = h.0.0 in
        let same : x ≡ y = omega arith in
        let there : is_among x (y ∷ zs) ≡ true = rw (sym same) (among_first x zs) in
        rw (lt_no x y le, there) refl

pub distinct_sorted : (xs ys : List ℕ) → IsPermutation xs ys → IsNonDecreasing ys → is_rising ys ≡ are_distinct xs
distinct_sorted xs ys moved rises = rising_distinct ys (rises_of ys rises) ∙ same_distinct xs ys moved
