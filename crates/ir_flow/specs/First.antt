-- What the first of a list shows.
use Rattle.std.specs.Prelude.{ℕ, ◌+◌, Bool, List, [], ◌∷◌, Option, Some, None, if◌then◌else◌}

-- the number of the first item that the test refuses, counted from here
abbrev pub first_refused : {A : Type 0} → (A → Bool) → ℕ → List A → Option ℕ
first_refused test at [] = None
first_refused test at (x ∷ xs) = if test x then first_refused test (at + 1) xs else Some at

-- the first of these that is there
abbrev pub or_then : {A : Type 0} → Option A → Option A → Option A
or_then None later = later
or_then (Some a) later = Some a

-- what the first function that has one shows, with the function's number
abbrev pub first_in : {A B : Type 0} → (ℕ → A → Option B) → ℕ → List A → Option B
first_in show at [] = None
first_in show at (x ∷ xs) = or_then (show at x) (first_in show (at + 1) xs)
