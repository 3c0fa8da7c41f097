-- Where globals stand, as a list and one by one.
use Rattle.std.proofs.Common.{◌≡◌, refl, ◌∙◌, ℕ, zero, suc, ◌+◌, ◌<◌, ◌≤◌, List, [], ◌∷◌, length, take, get_or, arith}
use Rattle.std.specs.Prelude.{sum_by}
use Rattle.std.proofs.lemmas.List.Sums.{sum_by-cons}
use Rattle.ir_core.specs.declared.program.Global.{Global}
use Rattle.ir_meaning.specs.Image.{span}
use Rattle.ir_data.specs.Image.{places_from, taken}

-- the place of one is behind those of the globals before it
pub place-found : (start : ℕ) (globals : List Global) (k v : ℕ) → k < length (places_from start globals) → v ≡ get_or (places_from start globals) k v → v ≡ start + sum_by span (take k globals)
place-found start [] k v lt e = absurd (let bad : ⊥ = omega (arith, lt) in bad)
place-found start (global ∷ globals) zero v lt e = omega (arith, e)
place-found start (global ∷ globals) (suc k) v lt e =
    let rest = place-found (start + span global) globals k v (omega (arith, lt)) e in
    let all = sum_by-cons span global (take k globals) in
    let same : start + span global + sum_by span (take k globals) ≡ start + sum_by span (take (suc k) (global ∷ globals)) = omega (arith, all) in
    rest ∙ same

-- behind them all there is one place
pub place-none : (start : ℕ) (globals : List Global) (k : ℕ) → length (places_from start globals) ≤ k → start + taken globals ≡ start + sum_by span (take k globals)
place-none start [] zero le = refl
place-none start [] (suc k) le = refl
place-none start (global ∷ globals) zero le = absurd (let bad : ⊥ = omega (arith, le) in bad)
place-none start (global ∷ globals) (suc k) le =
    let rest = place-none (start + span global) globals k (omega (arith, le)) in
    let whole = sum_by-cons span global globals in
    let all = sum_by-cons span global (take k globals) in
    let same : start + taken (global ∷ globals) ≡ start + span global + taken globals = omega (arith, whole) in
    let other : start + span global + sum_by span (take k globals) ≡ start + sum_by span (take (suc k) (global ∷ globals)) = omega (arith, all) in
    same ∙ rest ∙ other
