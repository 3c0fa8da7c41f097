-- Where each register that is copied to is read by a copy, copies read no other register.
use Rattle.std.proofs.Common.{◌≡◌, ℕ, zero, suc, ◌+◌, ◌<◌, ◌≤◌, Bool, true, false, ◌||◌, ◌==◌, List, [], ◌∷◌, length, arith, refl, ap}
use Rattle.std.specs.Prelude.{slice_index_or, if◌then◌else◌}
use Rattle.std.proofs.lemmas.Bool.{false≢true, or_right, or_parts}
use Rattle.parallel_copies.specs.Moves.{Copies, Unwritten, Unread, Distinct, IsReadBeside}

-- the number is one of the list
abbrev is_in : ℕ → List ℕ → Bool
is_in x [] = false
is_in x (y ∷ ys) = (x == y) || is_in x ys

-- the list without the first such number
abbrev without : ℕ → List ℕ → List ℕ
without x [] = []
without x (y ∷ ys) = if x == y then ys else y ∷ without x ys

one_less : (x : ℕ) (ys : List ℕ) → is_in x ys ≡ true → length (without x ys) + 1 ≡ length ys
one_less x [] h = absurd (false≢true h)
one_less x (y ∷ ys) h = by_test (x == y) refl (one_less x ys)
  where
    by_test : (b : Bool) → (x == y) ≡ b → (is_in x ys ≡ true → length (without x ys) + 1 ≡ length ys) → length (if b then ys else y ∷ without x ys) + 1 ≡ suc (length ys)
    by_test true e r = omega arith
    by_test false e r = let rest : length (without x ys) + 1 ≡ length ys = r (rw e at h) in omega (arith, rest)

still_in : (x z : ℕ) (ys : List ℕ) → (x == z) ≡ false → is_in z ys ≡ true → is_in z (without x ys) ≡ true
still_in x z [] apart h = absurd (false≢true h)
still_in x z (y ∷ ys) apart h = by_tests (x == y) (z == y) refl refl (still_in x z ys apart)
  where
    by_tests : (b b' : Bool) → (x == y) ≡ b → (z == y) ≡ b' → (is_in z ys ≡ true → is_in z (without x ys) ≡ true) → is_in z (if b then ys else y ∷ without x ys) ≡ true
    by_tests true true e e' r = absurd (let bad : ⊥ = grind arith in bad)
    by_tests true false e e' r = rw e' at h
    by_tests false true e e' r = rw e' refl
    by_tests false false e e' r = rw e' (r (rw e' at h))

-- each register that a copy writes is one of the list
abbrev AllIn : Copies → List ℕ → Type 0
AllIn [] ys = Unit {0}
AllIn (copy ∷ copies) ys = (is_in copy.0 ys ≡ true) × AllIn copies ys

all_still : (x : ℕ) (copies : Copies) (ys : List ℕ) → Unwritten x copies → AllIn copies ys → AllIn copies (without x ys)
all_still x [] ys u h = tt
all_still x (copy ∷ copies) ys u h = (still_in x copy.0 ys u.0 h.0, all_still x copies ys u.1 h.1)

-- different registers that are all in a list are no more than its items
enough : (copies : Copies) (ys : List ℕ) → Distinct copies → AllIn copies ys → length copies ≤ length ys
enough [] ys d h = omega arith
enough (copy ∷ copies) ys d h =
    let rest : length copies ≤ length (without copy.0 ys) = enough copies (without copy.0 ys) d.1 (all_still copy.0 copies ys d.0 h.1) in
    omega (arith, rest, one_less copy.0 ys h.0)

abbrev reads_of : Copies → List ℕ
reads_of [] = []
reads_of (copy ∷ copies) = copy.1 ∷ reads_of copies

same_length : (copies : Copies) → length (reads_of copies) ≡ length copies
same_length [] = refl
same_length (copy ∷ copies) = ap suc (same_length copies)

is_same : (x : ℕ) → (x == x) ≡ true
is_same x = grind arith

read_at : (copies : Copies) (k r : ℕ) → k < length copies → (slice_index_or copies k (0, 0)).1 ≡ r → is_in r (reads_of copies) ≡ true
read_at [] k r below is = absurd (let bad : ⊥ = omega (arith, below) in bad)
read_at (copy ∷ copies) zero r below is = rw (is, is_same r) refl
read_at (copy ∷ copies) (suc k) r below is = or_right (r == copy.1) (is_in r (reads_of copies)) (read_at copies k r (omega (arith, below)) is)

all_read : (copies : Copies) (ys : List ℕ) → ((i : ℕ) → i < length copies → is_in (slice_index_or copies i (0, 0)).0 ys ≡ true) → AllIn copies ys
all_read [] ys h = tt
all_read (copy ∷ copies) ys h = (h 0 (omega arith), all_read copies ys (λ i below. h (suc i) (omega (arith, below))))

not_in : (x : ℕ) (copies : Copies) → is_in x (reads_of copies) ≡ false → Unread x copies
not_in x [] h = tt
not_in x (copy ∷ copies) h =
    let parts : ((x == copy.1) ≡ false) × (is_in x (reads_of copies) ≡ false) = or_parts (x == copy.1) (is_in x (reads_of copies)) h in
    (parts.0, not_in x copies parts.1)

pub stuck_unread : (spare : ℕ) (copies : Copies) → Distinct copies → Unwritten spare copies
    → ((i : ℕ) → i < length copies → IsReadBeside copies i (slice_index_or copies i (0, 0)).0) → Unread spare copies
stuck_unread spare copies distinct unwritten stuck = by_test (is_in spare (reads_of copies)) refl
  where
    all : AllIn copies (reads_of copies)
    all = all_read copies (reads_of copies)
        (λ i below. let one : IsReadBeside copies i (slice_index_or copies i (0, 0)).0 = stuck i below in
        read_at copies one.0 (slice_index_or copies i (0, 0)).0 one.1 one.3)

    by_test : (b : Bool) → is_in spare (reads_of copies) ≡ b → Unread spare copies
    by_test true e =
        let many : length ((spare, 0) ∷ copies) ≤ length (reads_of copies) = enough ((spare, 0) ∷ copies) (reads_of copies) (unwritten, distinct) (e, all) in
        absurd (let bad : ⊥ = omega (arith, many, same_length copies) in bad)
    by_test false e = not_in spare copies e
