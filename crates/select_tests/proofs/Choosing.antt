-- The function that takes the greater of two numbers is formed and legal.
use Rattle.std.proofs.Common.{◌≡◌, refl, ℕ, zero, suc, ◌<◌, ◌≤◌, inl, inr, List, [], ◌∷◌, ◌++◌, length, arith}
use Rattle.std.proofs.lemmas.Bool.{ne_eqb}
use Rattle.gmir.specs.declared.code.GType.TheVariants.{S, P0}
use Rattle.gmir.specs.declared.code.GOp.TheVariants.{Sub, Icmp, Select, SExtInReg, Load, Store, Param, Return}
use Rattle.gmir.specs.declared.code.GInst.{GInst}
use Rattle.gmir.specs.Play.{insts_at}
use Rattle.gmir.specs.Formed.{IsInstAt, IsFormed, times, all_written}
use Rattle.gmir.specs.Legal.{IsLegal}
use Rattle.gmir.proofs.Places.{each}
use Rattle.select_tests.specs.Samples.{inst, choosing}
use Rattle.select_tests.proofs.Placed.{AllLegal, legal_at, widths_at, ordinary, parameter, first_param, second_param}

abbrev number : GInst
number = inst Param (0 ∷ []) [] 0 []

abbrev place : GInst
place = inst Param (1 ∷ []) [] 1 []

abbrev loaded : GInst
loaded = inst Load (2 ∷ []) (1 ∷ []) 16 []

abbrev extended : GInst
extended = inst SExtInReg (3 ∷ []) (2 ∷ []) 16 []

abbrev compared : GInst
compared = inst Icmp (4 ∷ []) (3 ∷ 0 ∷ []) 5 []

abbrev chosen : GInst
chosen = inst Select (5 ∷ []) (4 ∷ 0 ∷ 3 ∷ []) 0 []

abbrev less : GInst
less = inst Sub (6 ∷ []) (5 ∷ 3 ∷ []) 0 []

abbrev stored : GInst
stored = inst Store [] (6 ∷ 1 ∷ []) 32 []

abbrev return_ : GInst
return_ = inst Return [] (6 ∷ []) 0 []

-- ---- instructions

abbrev At : List GInst → GInst → List GInst → Type 0
At = IsInstAt choosing 0

number_at : At [] number (place ∷ loaded ∷ extended ∷ compared ∷ chosen ∷ less ∷ stored ∷ return_ ∷ [])
number_at = parameter choosing 0 [] number (place ∷ loaded ∷ extended ∷ compared ∷ chosen ∷ less ∷ stored ∷ return_ ∷ []) refl refl refl refl
    (0, S 64, record { defs = refl; type = refl; uses = refl }, omega arith) (omega arith, tt) refl (first_param choosing)

place_at : At (number ∷ []) place (loaded ∷ extended ∷ compared ∷ chosen ∷ less ∷ stored ∷ return_ ∷ [])
place_at = parameter choosing 0 (number ∷ []) place (loaded ∷ extended ∷ compared ∷ chosen ∷ less ∷ stored ∷ return_ ∷ []) refl refl refl refl
    (1, P0, record { defs = refl; type = refl; uses = refl }, omega arith) (omega arith, tt) refl (second_param choosing number refl)

loaded_at : At (number ∷ place ∷ []) loaded (extended ∷ compared ∷ chosen ∷ less ∷ stored ∷ return_ ∷ [])
loaded_at = ordinary choosing 0 (number ∷ place ∷ []) loaded (extended ∷ compared ∷ chosen ∷ less ∷ stored ∷ return_ ∷ []) refl refl refl refl refl
    (2, 1, S 64, record { defs = refl; type = refl; uses = refl }, refl, (inr (inl refl), omega arith)) (omega arith, tt) (omega arith, tt) (inl (omega arith), tt)

extended_at : At (number ∷ place ∷ loaded ∷ []) extended (compared ∷ chosen ∷ less ∷ stored ∷ return_ ∷ [])
extended_at = ordinary choosing 0 (number ∷ place ∷ loaded ∷ []) extended (compared ∷ chosen ∷ less ∷ stored ∷ return_ ∷ []) refl refl refl refl refl
    (3, 2, 64, record { defs = refl; type = refl; uses = refl }, refl, omega arith, omega arith) (omega arith, tt) (omega arith, tt) (inl (omega arith), tt)

compared_at : At (number ∷ place ∷ loaded ∷ extended ∷ []) compared (chosen ∷ less ∷ stored ∷ return_ ∷ [])
compared_at = ordinary choosing 0 (number ∷ place ∷ loaded ∷ extended ∷ []) compared (chosen ∷ less ∷ stored ∷ return_ ∷ []) refl refl refl refl refl
    (4, 3, 0, 64, S 64, record { defs = refl; type = refl; uses = refl }, refl, refl, omega arith) (omega arith, tt) (omega arith, (omega arith, tt))
    (inl (omega arith), (inl (omega arith), tt))

chosen_at : At (number ∷ place ∷ loaded ∷ extended ∷ compared ∷ []) chosen (less ∷ stored ∷ return_ ∷ [])
chosen_at = ordinary choosing 0 (number ∷ place ∷ loaded ∷ extended ∷ compared ∷ []) chosen (less ∷ stored ∷ return_ ∷ []) refl refl refl refl refl
    (5, 4, 0, 3, S 64, record { defs = refl; type = refl; uses = refl }, (64, refl), refl, refl) (omega arith, tt) (omega arith, (omega arith, (omega arith, tt)))
    (inl (omega arith), (inl (omega arith), (inl (omega arith), tt)))

less_at : At (number ∷ place ∷ loaded ∷ extended ∷ compared ∷ chosen ∷ []) less (stored ∷ return_ ∷ [])
less_at = ordinary choosing 0 (number ∷ place ∷ loaded ∷ extended ∷ compared ∷ chosen ∷ []) less (stored ∷ return_ ∷ []) refl refl refl refl refl
    (6, 5, 3, 64, record { defs = refl; type = refl; uses = refl }, refl, refl) (omega arith, tt) (omega arith, (omega arith, tt))
    (inl (omega arith), (inl (omega arith), tt))

stored_at : At (number ∷ place ∷ loaded ∷ extended ∷ compared ∷ chosen ∷ less ∷ []) stored (return_ ∷ [])
stored_at = ordinary choosing 0 (number ∷ place ∷ loaded ∷ extended ∷ compared ∷ chosen ∷ less ∷ []) stored (return_ ∷ []) refl refl refl refl refl
    (6, 1, S 64, refl, refl, refl, refl, (inr (inr (inl refl)), omega arith)) tt (omega arith, (omega arith, tt)) (inl (omega arith), (inl (omega arith), tt))

return_at : At (number ∷ place ∷ loaded ∷ extended ∷ compared ∷ chosen ∷ less ∷ stored ∷ []) return_ []
return_at = ordinary choosing 0 (number ∷ place ∷ loaded ∷ extended ∷ compared ∷ chosen ∷ less ∷ stored ∷ []) return_ [] refl refl refl refl refl
    (refl, omega arith) tt (omega arith, tt) (inl (omega arith), tt)

-- ---- the function

types : AllLegal choosing.types
types = (inl refl, (inr refl, (inl refl, (inl refl, (inl refl, (inl refl, (inl refl, tt)))))))

once : (r : ℕ) → times r (all_written choosing) ≤ 1
once zero = omega arith
once (suc zero) = omega arith
once (suc (suc zero)) = omega arith
once (suc (suc (suc zero))) = omega arith
once (suc (suc (suc (suc zero)))) = omega arith
once (suc (suc (suc (suc (suc zero))))) = omega arith
once (suc (suc (suc (suc (suc (suc zero)))))) = omega arith
once (suc (suc (suc (suc (suc (suc (suc r))))))) =
    let s = suc (suc (suc (suc (suc (suc (suc r)))))) in
    rw (
      ne_eqb 0 s (λ e. omega (arith, e)),
      ne_eqb 1 s (λ e. omega (arith, e)),
      ne_eqb 2 s (λ e. omega (arith, e)),
      ne_eqb 3 s (λ e. omega (arith, e)),
      ne_eqb 4 s (λ e. omega (arith, e)),
      ne_eqb 5 s (λ e. omega (arith, e)),
      ne_eqb 6 s (λ e. omega (arith, e)),
    ) (let z : 0 ≤ 1 = omega arith in z)

filled : (block : ℕ) → block < 1 → 1 ≤ length (insts_at choosing block)
filled zero below = omega arith
filled (suc block) below = absurd (let bad : ⊥ = omega arith in bad)

insts : (block : ℕ) (before : List GInst) (i : GInst) (behind : List GInst) → block < 1 → insts_at choosing block ≡ before ++ i ∷ behind
    → IsInstAt choosing block before i behind
insts zero before i behind below e =
    each At [] (insts_at choosing 0) before i behind
    (number_at, (place_at, (loaded_at, (extended_at, (compared_at, (chosen_at, (less_at, (stored_at, (return_at, tt))))))))) e
insts (suc block) before i behind below e = absurd (let bad : ⊥ = omega arith in bad)

pub choosing_is_formed : IsFormed choosing
choosing_is_formed = record { widths = widths_at choosing.types types; once = once; some = omega arith; filled = filled; insts = insts }

pub choosing_is_legal : IsLegal choosing
choosing_is_legal = legal_at choosing.types types
