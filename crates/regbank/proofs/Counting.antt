-- Counts one after another.
use Rattle.std.proofs.Common.{◌≡◌, refl, sym, ap, ◌∙◌, ℕ, zero, suc, ◌+◌, ◌<◌, List, [], ◌∷◌, ◌++◌, length, take, min, replicate, arith}
use Rattle.std.specs.Prelude.{◌==◌, if◌then◌else◌, get_or}
use Rattle.std.proofs.lemmas.List.Sums.{sum_by_push}
use Rattle.std.proofs.lemmas.Grind.{take_at_read}
use Rattle.gmir.specs.declared.code.GInst.{GInst}
use Rattle.gmir.specs.Formed.{times}
use Rattle.regbank.specs.Counts.{uses_in, uses_in_blocks, AreCounts, Counts}

-- counts of numbers that are the same
pub counts_same : (n m : ℕ → ℕ) (xs : List ℕ) → ((r : ℕ) → n r ≡ m r) → AreCounts n xs → AreCounts m xs
counts_same n m xs h c r l = c r l ∙ ap (λ z. min z 4294967295) (h r)

pub nothing_counted : (m : ℕ → ℕ) (xs : List ℕ) → ((r : ℕ) → m r ≡ 0) → Counts m xs xs
nothing_counted m xs h = record { long = refl; counts = λ n c. counts_same n (λ r. n r + m r) xs (λ r. let e = h r in omega (arith, e)) c }

pub counted_then : (a b c : ℕ → ℕ) (xs ys zs : List ℕ) → Counts a xs ys → Counts b ys zs → ((r : ℕ) → c r ≡ a r + b r) → Counts c xs zs
counted_then a b c xs ys zs p q h = record {
  long = q.long ∙ p.long;
  counts = λ n k. counts_same (λ r. (n r + a r) + b r) (λ r. n r + c r) zs (λ r. let e = h r in omega (arith, e)) (q.counts (λ r. n r + a r) (p.counts n k));
}

pub times_push : (r : ℕ) (xs : List ℕ) (x : ℕ) → times r (xs ++ x ∷ []) ≡ times r xs + (if x == r then 1 else 0)
times_push r xs x = sum_by_push (λ m. if m == r then 1 else 0) xs x

pub uses_push : (r : ℕ) (xs : List GInst) (x : GInst) → uses_in r (xs ++ x ∷ []) ≡ uses_in r xs + times r x.uses
uses_push r [] x = omega arith
uses_push r (y ∷ ys) x = let rest = uses_push r ys x in omega (arith, rest)

pub blocks_push : (r : ℕ) (xs : List (List GInst)) (x : List GInst) → uses_in_blocks r (xs ++ x ∷ []) ≡ uses_in_blocks r xs + uses_in r x
blocks_push r [] x = omega arith
blocks_push r (y ∷ ys) x = let rest = blocks_push r ys x in omega (arith, rest)

-- ---- one turn of each loop

pub next : {A : Type 0} (xs : List A) (k : ℕ) (d : A) → k < length xs → take (k + 1) xs ≡ take k xs ++ get_or xs k d ∷ []
next xs k d h = (take_at_read xs k d h).1

pub use_counted : (xs : List ℕ) (k : ℕ) (first now new : List ℕ) → k < length xs → Counts (λ r. times r (take k xs)) first now
    → Counts (λ r. if get_or xs k 0 == r then 1 else 0) now new → Counts (λ r. times r (take (k + 1) xs)) first new
use_counted xs k first now new h p q =
    counted_then (λ r. times r (take k xs)) (λ r. if get_or xs k 0 == r then 1 else 0) (λ r. times r (take (k + 1) xs)) first now new p q
    (λ r. ap (times r) (next xs k 0 h) ∙ times_push r (take k xs) (get_or xs k 0))

pub inst_counted : (xs : List GInst) (k : ℕ) (x : GInst) (us first now new : List ℕ) → k < length xs → x ≡ get_or xs k x → us ≡ x.uses → Counts (λ r. uses_in r (take k xs)) first now
    → Counts (λ r. times r us) now new → Counts (λ r. uses_in r (take (k + 1) xs)) first new
inst_counted xs k x us first now new h e u p q =
    counted_then (λ r. uses_in r (take k xs)) (λ r. times r us) (λ r. uses_in r (take (k + 1) xs)) first now new p q
    (λ r. ap (uses_in r) (next xs k x h ∙ ap (λ y. take k xs ++ y ∷ []) (sym e)) ∙ uses_push r (take k xs) x ∙ ap (λ z. uses_in r (take k xs) + times r z) (sym u))

pub block_counted : (xs : List (List GInst)) (k : ℕ) (x is : List GInst) (first now new : List ℕ) → k < length xs → x ≡ get_or xs k x → is ≡ x → Counts (λ r. uses_in_blocks r (take k xs)) first now
    → Counts (λ r. uses_in r is) now new → Counts (λ r. uses_in_blocks r (take (k + 1) xs)) first new
block_counted xs k x is first now new h e u p q =
    counted_then (λ r. uses_in_blocks r (take k xs)) (λ r. uses_in r is) (λ r. uses_in_blocks r (take (k + 1) xs)) first now new p q
    (λ r. ap (uses_in_blocks r) (next xs k x h ∙ ap (λ y. take k xs ++ y ∷ []) (sym e)) ∙ blocks_push r (take k xs) x ∙ ap (λ z. uses_in_blocks r (take k xs) + uses_in r z) (sym u))

-- ---- what is counted from zeros on

pub from_zeros : (n : ℕ) → AreCounts (λ r. 0) (replicate n 0)
from_zeros zero r l = absurd (let bad : ⊥ = omega (arith, l) in bad)
from_zeros (suc n) zero l = refl
from_zeros (suc n) (suc r) l = from_zeros n r (let z : r < length (replicate n 0) = omega (arith, l) in z)
