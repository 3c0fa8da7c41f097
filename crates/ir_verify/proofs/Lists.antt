-- What holds of each item of a list, and what follows where nothing is shown.
use Rattle.std.proofs.Common.{◌≡◌, ℕ, zero, suc, ◌+◌, ◌<◌, ◌≤◌, ◌⊎◌, inl, inr, List, [], ◌∷◌, ◌++◌, length, get_or, refl, sym, ◌∙◌, ap, subst, Bool, true, false, ◌&&◌, ◌||◌, not, nat_lt, nat_le, arith, Option, Some, None}
use Rattle.std.specs.Prelude.{slice_get, All}
use Rattle.std.proofs.lemmas.Bool.{false≢true}
use Rattle.std.proofs.lemmas.Bool.Decides.{nat_tests}
use Rattle.ir_flow.specs.First.{first_refused, or_then, first_in}

abbrev pub Every : {A : Type 0} → (A → Type 0) → List A → Type 0
Every P [] = Unit {0}
Every P (x ∷ xs) = P x × Every P xs

pub every_left : {A : Type 0} (P : A → Type 0) (xs ys : List A) → Every P (xs ++ ys) → Every P xs
every_left P [] ys h = tt
every_left P (x ∷ xs) ys h = (h.0, every_left P xs ys h.1)

pub every_right : {A : Type 0} (P : A → Type 0) (xs ys : List A) → Every P (xs ++ ys) → Every P ys
every_right P [] ys h = h
every_right P (x ∷ xs) ys h = every_right P xs ys h.1

pub every_both : {A : Type 0} (P : A → Type 0) (xs ys : List A) → Every P xs → Every P ys → Every P (xs ++ ys)
every_both P [] ys h g = g
every_both P (x ∷ xs) ys h g = (h.0, every_both P xs ys h.1 g)

pub every_map : {A : Type 0} (P Q : A → Type 0) (xs : List A) → ((x : A) → P x → Q x) → Every P xs → Every Q xs
every_map P Q [] f h = tt
every_map P Q (x ∷ xs) f h = (f x h.0, every_map P Q xs f h.1)

pub every_and : {A : Type 0} (P Q : A → Type 0) (xs : List A) → Every P xs → Every Q xs → Every (λ x. P x × Q x) xs
every_and P Q [] h g = tt
every_and P Q (x ∷ xs) h g = ((h.0, g.0), every_and P Q xs h.1 g.1)

none_some : {A : Type 0} (x : A) → None ≡ Some x → ⊥
none_some x e = cc

some_same : {A : Type 0} (x y : A) → Some x ≡ Some y → x ≡ y
some_same x y e = cc

pub every_at : {A : Type 0} (P : A → Type 0) (xs : List A) (i : ℕ) (x : A) → Every P xs → slice_get xs i ≡ Some x → P x
every_at P [] i x h e = absurd (none_some x e)
every_at P (y ∷ ys) zero x h e = subst P (some_same y x e) h.0
every_at P (y ∷ ys) (suc i) x h e = every_at P ys i x h.1 e

pub all_of : {A : Type 0} (P : A → Type 0) (xs : List A) → Every P xs → All P xs
all_of P [] h k d below = absurd (omega arith)
all_of P (x ∷ xs) h zero d below = h.0
all_of P (x ∷ xs) h (suc k) d below = all_of P xs h.1 k d (omega arith)

-- ---- tests

pub and_both : (a b : Bool) → (a && b) ≡ true → (a ≡ true) × (b ≡ true)
and_both true b h = (refl, h)
and_both false b h = absurd (false≢true h)

pub lt_is : (a b : ℕ) → nat_lt a b ≡ true → a < b
lt_is a b h = grind (arith, nat_tests)

pub lt_not : (a b : ℕ) → nat_lt a b ≡ false → b ≤ a
lt_not a b h = grind (arith, nat_tests)

pub le_is : (a b : ℕ) → nat_le a b ≡ true → a ≤ b
le_is a b h = grind (arith, nat_tests)

-- ---- nothing is shown

pub or_none_left : {A : Type 0} (a b : Option A) → or_then a b ≡ None → a ≡ None
or_none_left None b h = refl
or_none_left (Some x) b h = h

pub or_none_right : {A : Type 0} (a b : Option A) → or_then a b ≡ None → b ≡ None
or_none_right None b h = h
or_none_right (Some x) b h = absurd (none_some x (sym h))

refused_then : {A : Type 0} (test : A → Bool) (at : ℕ) (x : A) (xs : List A) → (b : Bool) → test x ≡ b → first_refused test at (x ∷ xs) ≡ None
    → (first_refused test (at + 1) xs ≡ None → Every (λ y. test y ≡ true) xs) → Every (λ y. test y ≡ true) (x ∷ xs)
refused_then test at x xs true h e rest = (h, rest (rw h at e))
refused_then test at x xs false h e rest = absurd (none_some at (sym (rw h at e)))

pub none_refused : {A : Type 0} (test : A → Bool) (at : ℕ) (xs : List A) → first_refused test at xs ≡ None → Every (λ x. test x ≡ true) xs
none_refused test at [] e = tt
none_refused test at (x ∷ xs) e = refused_then test at x xs (test x) refl e (none_refused test (at + 1) xs)

pub none_in : {A B : Type 0} (show : ℕ → A → Option B) (at : ℕ) (xs : List A) → first_in show at xs ≡ None → Every (λ x. (n : ℕ) × (show n x ≡ None)) xs
none_in show at [] e = tt
none_in show at (x ∷ xs) e =
    ((at, or_none_left (show at x) (first_in show (at + 1) xs) e), none_in show (at + 1) xs (or_none_right (show at x) (first_in show (at + 1) xs) e))

pub some_at : {A : Type 0} (xs : List A) (i : ℕ) (x : A) → i < length xs → x ≡ get_or xs i x → slice_get xs i ≡ Some x
some_at [] i x below e = absurd (omega arith)
some_at (y ∷ ys) zero x below e = ap Some (sym e)
some_at (y ∷ ys) (suc i) x below e = some_at ys i x (omega arith) e

pub last_or : (i n : ℕ) → i < n + 1 → (i < n) ⊎ (i ≡ n)
last_or i n h = grind arith

pub same_at : {A : Type 0} (xs : List A) (i j : ℕ) (x y : A) → i ≡ j → slice_get xs i ≡ Some x → slice_get xs j ≡ Some y → y ≡ x
same_at xs i j x y e at_i at_j = some_same y x (sym at_j ∙ ap (slice_get xs) (sym e) ∙ at_i)

pub is_below : {A : Type 0} (xs : List A) (i : ℕ) (x : A) → slice_get xs i ≡ Some x → i < length xs
is_below [] i x e = absurd (none_some x e)
is_below (y ∷ ys) zero x e = omega arith
is_below (y ∷ ys) (suc i) x e = let rest : i < length ys = is_below ys i x e in omega arith
