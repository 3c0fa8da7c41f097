-- Digits that are read one by one.
use Rattle.std.proofs.Common.{get_or, ◌≡◌, ℕ, ◌+◌, ◌*◌, ◌-◌, ◌<◌, ◌≤◌, ◌^◌, Bool, true, false, nat_lt, List, [], ◌∷◌, length, drop, if◌then◌else◌, Option, Some, None, refl, sym, ◌∙◌, arith, ap}
use Rattle.std.proofs.lemmas.List.{drop_more, drop_all, get_or_default}
use Rattle.std.proofs.lemmas.Option.{none-some}
use Rattle.ir_types.specs.Numbers.{digits_onto, decimal, natural, small}

pub grows : (n : ℕ) (digits : List ℕ) → n ≤ digits_onto n digits
unfolding digits_onto
grows n [] = omega arith
grows n (digit ∷ digits) =
    let h = grows (n * 10 + (digit - 48)) digits in
    omega (arith, h)

pub one_more : (n : ℕ) (xs : List ℕ) (i : ℕ) (x total : ℕ) → i < length xs → x ≡ get_or xs i x → digits_onto n (drop i xs) ≡ total → digits_onto (n * 10 + (x - 48)) (drop (i + 1) xs) ≡ total
unfolding digits_onto
one_more n xs i x total lt is e = sym (ap (digits_onto n) (drop_more xs i x lt ∙ ap (λ y. y ∷ drop (i + 1) xs) (sym is))) ∙ e

pub ended : (n : ℕ) (xs : List ℕ) (i : ℕ) (total : ℕ) → length xs ≤ i → digits_onto n (drop i xs) ≡ total → total ≡ n
unfolding digits_onto
ended n xs i total le e = sym e ∙ ap (digits_onto n) (drop_all i xs le)

value : Option ℕ → ℕ
value None = 0
value (Some n) = n

small-same : (x n : ℕ) → Some x ≡ small n → x ≡ n
unfolding value
small-same x n = by (nat_lt n (2 ^ 128))
  where
    by : (b : Bool) → Some x ≡ (if b then Some n else None) → x ≡ n
    by true e = ap value e
    by false e = absurd (none-some x (sym e))

small-none : (n : ℕ) → None ≡ small n → 2 ^ 128 ≤ n
small-none n e = grind arith

large : (n : ℕ) → 2 ^ 128 ≤ n → None ≡ small n
large n h = grind arith

pub next_one : (n : ℕ) (xs : List ℕ) (i more next total : ℕ) → i < length xs → more ≡ get_or xs i 0 - 48 → Some next ≡ small (n * 10 + more) → digits_onto n (drop i xs) ≡ total → digits_onto next (drop (i + 1) xs) ≡ total
next_one n xs i more next total lt is fits e =
    rw (small-same next (n * 10 + more) fits, is) (one_more n xs i (get_or xs i 0) total lt (get_or_default xs i 0 (get_or xs i 0) lt) e)

pub none_fits : (n : ℕ) (xs : List ℕ) (i more total : ℕ) → i < length xs → more ≡ get_or xs i 0 - 48 → None ≡ small (n * 10 + more) → digits_onto n (drop i xs) ≡ total → None ≡ small total
none_fits n xs i more total lt is fits e =
    let next = one_more n xs i (get_or xs i 0) total lt (get_or_default xs i 0 (get_or xs i 0) lt) e in
    let least = small-none (n * 10 + more) fits in
    let most = grows (n * 10 + (get_or xs i 0 - 48)) (drop (i + 1) xs) in
    large total (grind arith)

pub all_fit : (n : ℕ) (xs : List ℕ) (i total : ℕ) → n < 2 ^ 128 → length xs ≤ i → digits_onto n (drop i xs) ≡ total → Some n ≡ small total
all_fit n xs i total fits le e =
    let same = ended n xs i total le e in
    grind arith

pub within : (x n : ℕ) → Some x ≡ small n → x < 2 ^ 128
within x n e = by (nat_lt n (2 ^ 128)) refl (small-same x n e)
  where
    by : (b : Bool) → nat_lt n (2 ^ 128) ≡ b → x ≡ n → x < 2 ^ 128
    by true lt same = grind arith
    by false lt same = absurd (none-some x (ap (λ c. if c then Some n else None) (sym lt) ∙ sym e))
