-- How many types a type of memory is made of.
use Rattle.std.proofs.Common.{◌≡◌, ap, subst, ℕ, zero, suc, ◌+◌, ◌≤◌, List, [], ◌∷◌, length, Some, arith}
use Rattle.std.specs.Prelude.{slice_get, sum_by}
use Rattle.std.proofs.lemmas.List.Sums.{sum_by-cons}
use Rattle.ir_core.specs.declared.types.MemTy.{MemTy, roll-MemTy, out-MemTy, roll-out-MemTy, fold-roll-MemTy}
use Rattle.ir_core.specs.declared.types.MemTy.TheVariants.{Array}
use Rattle.ir_core.specs.declared.types.MemTy.TheOpen as layer
use Rattle.ir_core.specs.Layout.{Measure, measure, measure_step}
use Rattle.ir_core.proofs.Layouts.{measure-Array}
use Rattle.ir_flow.specs.Limits.{nodes}

some-node : (ty : MemTy) → 1 ≤ nodes ty
some-node ty = subst (λ (t : MemTy). 1 ≤ nodes t) (roll-out-MemTy ty) (by_layer (out-MemTy ty))
  where
    by_layer : (l : layer.MemTy-F MemTy) → 1 ≤ nodes (roll-MemTy l)
    by_layer (layer.Int w) = let e = ap (λ (m : Measure). m.nodes) (fold-roll-MemTy Measure measure_step (layer.Int w)) in omega (arith, e)
    by_layer layer.Ptr = let e = ap (λ (m : Measure). m.nodes) (fold-roll-MemTy Measure measure_step layer.Ptr) in omega (arith, e)
    by_layer (layer.Array count element) = let e = ap (λ (m : Measure). m.nodes) (fold-roll-MemTy Measure measure_step (layer.Array count element)) in omega (arith, e)
    by_layer (layer.Struct fields packed) = let e = ap (λ (m : Measure). m.nodes) (fold-roll-MemTy Measure measure_step (layer.Struct fields packed)) in omega (arith, e)

-- no more fields than types in them
pub fields-few : (fields : List MemTy) → length fields ≤ sum_by nodes fields
fields-few [] = omega arith
fields-few (field ∷ fields) =
    let one = some-node field in
    let rest = fields-few fields in
    let sum = sum_by-cons nodes field fields in
    omega (arith, one, rest, sum)

pub field-few : (fields : List MemTy) (i : ℕ) (field : MemTy) → slice_get fields i ≡ Some field → nodes field ≤ sum_by nodes fields
field-few [] i field e = absurd (let bad : ⊥ = cc in bad)
field-few (f ∷ fields) zero field e =
    let same : nodes f ≡ nodes field = ap nodes (let z : f ≡ field = cc in z) in
    let sum = sum_by-cons nodes f fields in
    omega (arith, same, sum)
field-few (f ∷ fields) (suc i) field e =
    let rest = field-few fields i field e in
    let sum = sum_by-cons nodes f fields in
    omega (arith, rest, sum)

pub element-few : (count : ℕ) (element : MemTy) → nodes element ≤ nodes (Array count element)
element-few count element =
    let e = ap (λ (m : Measure). m.nodes) (measure-Array count element) in
    let sum = sum_by-cons (λ (m : Measure). m.nodes) (measure element) [] in
    omega (arith, e, sum)
