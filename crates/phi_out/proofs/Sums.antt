-- Sums of the values of a function below a number.
use Rattle.std.proofs.Common.{◌≡◌, ◌≤◌, ◌<◌, ◌*◌, ℕ, zero, suc, ◌+◌, ◌==◌, ◌||◌, Bool, true, false, List, [], ◌∷◌, length, refl, sym, ap, arith, ◌∙◌}
use Rattle.std.specs.Prelude.{slice_index_or, sum_by, if◌then◌else◌}
use Rattle.std.proofs.lemmas.List.Sums.{sum_by-cons}

abbrev pub sum_to : ℕ → (ℕ → ℕ) → ℕ
sum_to zero F = 0
sum_to (suc n) F = F 0 + sum_to n (λ k. F (suc k))

pub as_sum : {A : Type 0} (G : A → ℕ) (d : A) (xs : List A) → sum_by G xs ≡ sum_to (length xs) (λ k. G (slice_index_or xs k d))
as_sum G d [] = refl
as_sum G d (x ∷ xs) = sum_by-cons G x xs ∙ ap (λ (n : ℕ). G x + n) (as_sum G d xs)

pub sum_less : (n : ℕ) (F G : ℕ → ℕ) → ((k : ℕ) → k < n → F k ≤ G k) → sum_to n F ≤ sum_to n G
sum_less zero F G h = omega arith
sum_less (suc n) F G h =
    let one = h 0 (omega arith) in let rest = sum_less n (λ k. F (suc k)) (λ k. G (suc k)) (λ k low. h (suc k) (omega (arith, low))) in omega (arith, one, rest)

pub sum_both : (n : ℕ) (F G : ℕ → ℕ) → sum_to n (λ k. F k + G k) ≡ sum_to n F + sum_to n G
sum_both zero F G = refl
sum_both (suc n) F G = let rest = sum_both n (λ k. F (suc k)) (λ k. G (suc k)) in omega (arith, rest)

pub sum_nothing : (n : ℕ) → sum_to n (λ k. 0) ≡ 0
sum_nothing zero = refl
sum_nothing (suc n) = let rest = sum_nothing n in omega (arith, rest)

pub sum_turned : (n m : ℕ) (H : ℕ → ℕ → ℕ) → sum_to n (λ b. sum_to m (λ t. H b t)) ≡ sum_to m (λ t. sum_to n (λ b. H b t))
sum_turned zero m H = sym (sum_nothing m)
sum_turned (suc n) m H =
    ap (λ (k : ℕ). sum_to m (λ t. H 0 t) + k) (sum_turned n m (λ b t. H (suc b) t))
    ∙ sym (sum_both m (λ t. H 0 t) (λ t. sum_to n (λ b. H (suc b) t)))

same_suc : (k x w : ℕ) → (if suc k == suc x then w else 0) ≡ (if k == x then w else 0)
same_suc k x w = ap (λ (b : Bool). if b then w else 0) (let one : (suc k == suc x) ≡ (k == x) = grind arith in one)

never_zero : (k w : ℕ) → (if suc k == 0 then w else 0) ≡ 0
never_zero k w = ap (λ (b : Bool). if b then w else 0) (let one : (suc k == 0) ≡ false = grind arith in one)

-- one number has its value
pub sum_has : (n x : ℕ) (c : ℕ → ℕ) → x < n → c x ≤ sum_to n (λ t. if t == x then c t else 0)
sum_has zero x c h = absurd (let bad : ⊥ = omega (arith, h) in bad)
sum_has (suc n) zero c h = omega arith
sum_has (suc n) (suc x) c h =
    let rest = sum_has n x (λ k. c (suc k)) (omega (arith, h)) in
    let turned = sum_less n (λ t. if t == x then c (suc t) else 0) (λ t. if suc t == suc x then c (suc t) else 0) (λ k low. let e = same_suc k x (c (suc k)) in omega (arith, e)) in
    omega (arith, rest, turned)

-- and no other one has it
pub sum_one : (n x w : ℕ) → sum_to n (λ t. if t == x then w else 0) ≤ w
sum_one zero x w = omega arith
sum_one (suc n) zero w =
    let rest = sum_less n (λ t. if suc t == 0 then w else 0) (λ t. 0) (λ k low. let e = never_zero k w in omega (arith, e)) in
    let none = sum_nothing n in
    omega (arith, rest, none)
sum_one (suc n) (suc x) w =
    let turned = sum_less n (λ t. if suc t == suc x then w else 0) (λ t. if t == x then w else 0) (λ k low. let e = same_suc k x w in omega (arith, e)) in
    let rest = sum_one n x w in
    let first : (if 0 == suc x then w else 0) ≡ 0 = ap (λ (b : Bool). if b then w else 0) (let one : (0 == suc x) ≡ false = grind arith in one) in
    omega (arith, turned, rest, first)

-- the number is one of the list
abbrev pub is_in : ℕ → List ℕ → Bool
is_in x [] = false
is_in x (y ∷ ys) = (x == y) || is_in x ys

either_of : (a b : Bool) (w : ℕ) → (if (a || b) then w else 0) ≤ (if a then w else 0) + (if b then w else 0)
either_of true b w = omega arith
either_of false b w = omega arith

-- no more numbers are in a list than it has items
pub sum_in : (n w : ℕ) (xs : List ℕ) → sum_to n (λ t. if is_in t xs then w else 0) ≤ w * length xs
sum_in n w [] = let none = sum_nothing n in omega (arith, none)
sum_in n w (x ∷ xs) =
    let split = sum_less n (λ t. if is_in t (x ∷ xs) then w else 0) (λ t. (if t == x then w else 0) + (if is_in t xs then w else 0)) (λ k low. either_of (k == x) (is_in k xs) w) in
    let both = sum_both n (λ t. if t == x then w else 0) (λ t. if is_in t xs then w else 0) in
    let one = sum_one n x w in
    let rest = sum_in n w xs in
    grind (arith, split, both, one, rest)

-- two numbers have both their values
pub sum_two : (n x y : ℕ) (c : ℕ → ℕ) → x < n → y < n → (x == y) ≡ false → c x + c y ≤ sum_to n (λ t. if (t == x) || (t == y) then c t else 0)
sum_two n x y c low low' apart =
    let one = sum_has n x c low in
    let other = sum_has n y c low' in
    let both = sum_both n (λ t. if t == x then c t else 0) (λ t. if t == y then c t else 0) in
    let joined = sum_less n (λ t. (if t == x then c t else 0) + (if t == y then c t else 0)) (λ t. if (t == x) || (t == y) then c t else 0) (λ k h. by_tests k (k == x) (k == y) refl refl) in
    omega (arith, one, other, both, joined)
  where
    by_tests : (k : ℕ) (b b' : Bool) → (k == x) ≡ b → (k == y) ≡ b' → (if b then c k else 0) + (if b' then c k else 0) ≤ (if (b || b') then c k else 0)
    by_tests k true true e e' = absurd (let bad : ⊥ = grind arith in bad)
    by_tests k true false e e' = omega arith
    by_tests k false b' e e' = omega arith
