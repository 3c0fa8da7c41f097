-- A function is formed: two parameters of five bits, and their quotient.
use Rattle.std.proofs.Common.{◌≡◌, refl, ap, subst, ℕ, zero, suc, ◌<◌, ◌≤◌, inl, true, List, [], ◌∷◌, ◌++◌, length, Some, None, arith}
use Rattle.std.specs.Prelude.{slice_get, unwrap_or}
use Rattle.std.proofs.lemmas.Bool.{false≢true, ne_eqb}
use Rattle.gmir.specs.declared.code.GType.{GType}
use Rattle.gmir.specs.declared.code.GType.TheVariants.{S, P0}
use Rattle.gmir.specs.declared.code.GOp.TheVariants.{UDiv, Param, Return}
use Rattle.gmir.specs.declared.code.GInst.{GInst}
use Rattle.gmir.specs.Play.{insts_at}
use Rattle.gmir.specs.Formed.{IsInstAt, IsFormed, is_param, times, all_written}
use Rattle.gmir.proofs.Places.{HoldsFrom, each}
use Rattle.gmir.proofs.Samples.{inst, quotient}

abbrev first : GInst
first = inst Param (0 ∷ []) [] 0 []

abbrev second : GInst
second = inst Param (1 ∷ []) [] 1 []

abbrev divide : GInst
divide = inst UDiv (2 ∷ []) (0 ∷ 1 ∷ []) 0 []

abbrev return_ : GInst
return_ = inst Return [] (2 ∷ []) 0 []

nothing : {A B : Type 0} (x : A) → None ≡ Some x → B
nothing x e = absurd (let bad : ⊥ = cc in bad)

some : {A : Type 0} (x y : A) → Some x ≡ Some y → x ≡ y
some x y e = ap (λ o. unwrap_or o x) e

no_target : (k to : ℕ) → slice_get [] k ≡ Some to → (1 ≤ to) × (to < 1)
no_target k to e = nothing to e

abbrev At : List GInst → GInst → List GInst → Type 0
At = IsInstAt quotient 0

behind_none : (other : GInst) (k : ℕ) → slice_get [] k ≡ Some other → is_param other.op ≡ true
behind_none other k e = nothing other e

behind_one : (other : GInst) (k : ℕ) → slice_get (first ∷ []) k ≡ Some other → is_param other.op ≡ true
behind_one other zero e = subst (λ (i : GInst). is_param i.op ≡ true) (some first other e) refl
behind_one other (suc k) e = nothing other e

first_at : At [] first (second ∷ divide ∷ return_ ∷ [])
first_at = record {
  form = (0, S 5, record { defs = refl; type = refl; uses = refl }, omega arith);
  defs = (omega arith, tt);
  uses = tt;
  assigned = tt;
  ends = refl;
  targets' = no_target;
  phi = λ e. absurd (false≢true e);
  param = λ e. record { entry = refl; first = behind_none };
  data' = λ e. absurd (false≢true e);
}

second_at : At (first ∷ []) second (divide ∷ return_ ∷ [])
second_at = record {
  form = (1, S 5, record { defs = refl; type = refl; uses = refl }, omega arith);
  defs = (omega arith, tt);
  uses = tt;
  assigned = tt;
  ends = refl;
  targets' = no_target;
  phi = λ e. absurd (false≢true e);
  param = λ e. record { entry = refl; first = behind_one };
  data' = λ e. absurd (false≢true e);
}

divide_at : At (first ∷ second ∷ []) divide (return_ ∷ [])
divide_at = record {
  form = (2, 0, 1, 5, record { defs = refl; type = refl; uses = refl }, refl, refl);
  defs = (omega arith, tt);
  uses = (omega arith, (omega arith, tt));
  assigned = (inl (omega arith), (inl (omega arith), tt));
  ends = refl;
  targets' = no_target;
  phi = λ e. absurd (false≢true e);
  param = λ e. absurd (false≢true e);
  data' = λ e. absurd (false≢true e);
}

return_at : At (first ∷ second ∷ divide ∷ []) return_ []
return_at = record {
  form = (refl, omega arith);
  defs = tt;
  uses = (omega arith, tt);
  assigned = (inl (omega arith), tt);
  ends = refl;
  targets' = no_target;
  phi = λ e. absurd (false≢true e);
  param = λ e. absurd (false≢true e);
  data' = λ e. absurd (false≢true e);
}

all_at : HoldsFrom At [] (insts_at quotient 0)
all_at = (first_at, (second_at, (divide_at, (return_at, tt))))

widths : (r w : ℕ) → slice_get quotient.types r ≡ Some (S w) → (1 ≤ w) × (w ≤ 64)
widths zero w e = let five : 5 ≡ w = width_is w e in (omega (arith, five), omega (arith, five))
  where
    width_of_type : GType → ℕ
    width_of_type (S w) = w
    width_of_type P0 = 0

    width_is : (w : ℕ) → Some (S 5) ≡ Some (S w) → 5 ≡ w
    width_is w e = ap width_of_type (some (S 5) (S w) e)
widths (suc zero) w e = widths zero w e
widths (suc (suc zero)) w e = widths zero w e
widths (suc (suc (suc r))) w e = nothing (S w) e

once : (r : ℕ) → times r (all_written quotient) ≤ 1
once zero = omega arith
once (suc zero) = omega arith
once (suc (suc zero)) = omega arith
once (suc (suc (suc r))) =
    rw (ne_eqb 0 (suc (suc (suc r))) (λ e. omega (arith, e)), ne_eqb 1 (suc (suc (suc r))) (λ e. omega (arith, e)), ne_eqb 2 (suc (suc (suc r))) (λ e. omega (arith, e)))
    (let z : 0 ≤ 1 = omega arith in z)

filled : (block : ℕ) → block < 1 → 1 ≤ length (insts_at quotient block)
filled zero below = omega arith
filled (suc block) below = absurd (let bad : ⊥ = omega arith in bad)

insts : (block : ℕ) (before : List GInst) (i : GInst) (behind : List GInst) → block < 1 → insts_at quotient block ≡ before ++ i ∷ behind → IsInstAt quotient block before i behind
insts zero before i behind below e = each At [] (insts_at quotient 0) before i behind all_at e
insts (suc block) before i behind below e = absurd (let bad : ⊥ = omega arith in bad)

pub quotient_is_formed : IsFormed quotient
quotient_is_formed = record { widths = widths; once = once; some = omega arith; filled = filled; insts = insts }
