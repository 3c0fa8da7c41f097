-- The function that adds its parameter to itself is formed and legal.
use Rattle.std.proofs.Common.{◌≡◌, refl, ℕ, zero, suc, ◌<◌, ◌≤◌, inl, inr, List, [], ◌∷◌, ◌++◌, length, Some, arith}
use Rattle.std.specs.Prelude.{slice_get}
use Rattle.std.proofs.lemmas.Bool.{false≢true, ne_eqb}
use Rattle.gmir.specs.declared.code.GType.TheVariants.{S}
use Rattle.gmir.specs.declared.code.GOp.TheVariants.{Add, Br, Param, Return}
use Rattle.gmir.specs.declared.code.GInst.{GInst}
use Rattle.gmir.specs.Play.{insts_at}
use Rattle.gmir.specs.Formed.{IsInstAt, IsFormed, Passes, IsAssigned, edges_of, times, all_written}
use Rattle.gmir.specs.Legal.{IsLegal}
use Rattle.gmir.proofs.Places.{each}
use Rattle.ir_flow.specs.Flow.{Walk, starts, goes, next_in}
use Rattle.select_tests.specs.Samples.{inst, doubling}
use Rattle.select_tests.proofs.Placed.{nothing, same, AllLegal, legal_at, widths_at, ordinary, parameter, first_param}

abbrev param : GInst
param = inst Param (0 ∷ []) [] 0 []

abbrev sum : GInst
sum = inst Add (1 ∷ []) (0 ∷ 0 ∷ []) 0 []

abbrev jump : GInst
jump = inst Br [] [] 0 (1 ∷ [])

abbrev return_ : GInst
return_ = inst Return [] (1 ∷ []) 0 []

-- ---- the second block is come to from the first alone

passes_last : (earlier : List ℕ) → Passes doubling 1 (earlier ++ 0 ∷ [])
passes_last [] = inl (omega arith)
passes_last (x ∷ earlier) = inr (passes_last earlier)

from_first : (from to : ℕ) (edge : ℕ) (earlier : List ℕ) → slice_get (next_in (edges_of doubling) from) edge ≡ Some to → Passes doubling 1 (earlier ++ from ∷ [])
from_first zero to edge earlier e = passes_last earlier
from_first (suc zero) to edge earlier e = nothing to e
from_first (suc (suc from)) to edge earlier e = nothing to e

comes : (earlier : List ℕ) (block : ℕ) → Walk (next_in (edges_of doubling)) earlier block → 1 ≤ block → Passes doubling 1 earlier
comes _ _ starts low = absurd (let bad : ⊥ = omega arith in bad)
comes _ _ (goes {earlier} {from} {to} edge walk at) low = from_first from to edge earlier at

written_before : IsAssigned doubling 1 [] 1
written_before = inr (λ earlier walk. comes earlier 1 walk (omega arith))

-- ---- instructions

abbrev At : ℕ → List GInst → GInst → List GInst → Type 0
At = IsInstAt doubling

param_at : At 0 [] param (sum ∷ jump ∷ [])
param_at = parameter doubling 0 [] param (sum ∷ jump ∷ []) refl refl refl refl (0, S 64, record { defs = refl; type = refl; uses = refl }, omega arith)
    (omega arith, tt) refl (first_param doubling)

sum_at : At 0 (param ∷ []) sum (jump ∷ [])
sum_at = ordinary doubling 0 (param ∷ []) sum (jump ∷ []) refl refl refl refl refl (1, 0, 0, 64, record { defs = refl; type = refl; uses = refl }, refl, refl)
    (omega arith, tt) (omega arith, (omega arith, tt)) (inl (omega arith), (inl (omega arith), tt))

one_target : (k to : ℕ) → slice_get (1 ∷ []) k ≡ Some to → (1 ≤ to) × (to < 2)
one_target zero to e = let one : 1 ≡ to = same 1 to e in (omega (arith, one), omega (arith, one))
one_target (suc k) to e = nothing to e

jump_at : At 0 (param ∷ sum ∷ []) jump []
jump_at = record {
  form = (1, refl, refl, refl);
  defs = tt;
  uses = tt;
  assigned = tt;
  ends = refl;
  targets' = one_target;
  phi = λ e. absurd (false≢true e);
  param = λ e. absurd (false≢true e);
  data' = λ e. absurd (false≢true e);
}

return_at : At 1 [] return_ []
return_at = ordinary doubling 1 [] return_ [] refl refl refl refl refl (refl, omega arith) tt (omega arith, tt) (written_before, tt)

-- ---- the function

types : AllLegal doubling.types
types = (inl refl, (inl refl, tt))

once : (r : ℕ) → times r (all_written doubling) ≤ 1
once zero = omega arith
once (suc zero) = omega arith
once (suc (suc r)) =
    rw (ne_eqb 0 (suc (suc r)) (λ e. omega (arith, e)), ne_eqb 1 (suc (suc r)) (λ e. omega (arith, e))) (let z : 0 ≤ 1 = omega arith in z)

filled : (block : ℕ) → block < 2 → 1 ≤ length (insts_at doubling block)
filled zero below = omega arith
filled (suc zero) below = omega arith
filled (suc (suc block)) below = absurd (let bad : ⊥ = omega arith in bad)

insts : (block : ℕ) (before : List GInst) (i : GInst) (behind : List GInst) → block < 2 → insts_at doubling block ≡ before ++ i ∷ behind → At block before i behind
insts zero before i behind below e = each (At 0) [] (insts_at doubling 0) before i behind (param_at, (sum_at, (jump_at, tt))) e
insts (suc zero) before i behind below e = each (At 1) [] (insts_at doubling 1) before i behind (return_at, tt) e
insts (suc (suc block)) before i behind below e = absurd (let bad : ⊥ = omega arith in bad)

pub doubling_is_formed : IsFormed doubling
doubling_is_formed = record { widths = widths_at doubling.types types; once = once; some = omega arith; filled = filled; insts = insts }

pub doubling_is_legal : IsLegal doubling
doubling_is_legal = legal_at doubling.types types
