-- A type of memory is the same as itself, and its parts are within its limits.
use Rattle.std.proofs.Common.{◌≡◌, ℕ, zero, suc, ◌^◌, ◌≤◌, Bool, true, false, List, [], ◌∷◌, Option, Some, None, map, refl, sym, ◌∙◌, ap, subst, arith}
use Rattle.std.specs.Prelude.{◌==◌, nat_lt, if◌then◌else◌}
use Rattle.std.specs.List.{list_all}
use Rattle.std.proofs.lemmas.Option.{none-some}
use Rattle.ir_core.specs.declared.types.MemTy.{MemTy, out-MemTy, roll-MemTy, roll-out-MemTy, fold-roll-MemTy}
use Rattle.ir_core.specs.declared.types.MemTy.TheVariants.{Array, Struct, rolls-Int, rolls-Ptr, rolls-Array, rolls-Struct}
use Rattle.ir_core.specs.declared.types.MemTy.TheFolds.{map-MemTy}
use Rattle.ir_core.specs.declared.types.MemTy.TheOpen as layer
use Rattle.ir_core.specs.Layout.{measure}
use Rattle.ir_flow.specs.declared.sizes.Measured.{Measured}
use Rattle.ir_flow.specs.First.{or_then}
use Rattle.ir_flow.specs.Limits.{measured, measured_step, own_or_parts, first_passing, capped_passing}
use Rattle.ir_resolve.specs.Same.{same_bool, all_same, same_layer, same_type}
use Rattle.ir_print_laws.specs.Fits.{fits_memory, FitsMemory}
use Rattle.ir_print_laws.proofs.Memory.{both_true, sum_nodes, nodes_int, nodes_ptr, nodes_array, nodes_struct, nodes_more, fits_array, fits_struct}

-- ---- parts within limits

none_of : (o : Option ℕ) → capped_passing o ≡ None → o ≡ None
none_of None e = refl
none_of (Some n) e = absurd (none-some _ (sym e))

or_left : {A : Type 0} (a b : Option A) → or_then a b ≡ None → a ≡ None
or_left None b e = refl
or_left (Some x) b e = e

or_right : {A : Type 0} (a b : Option A) → or_then a b ≡ None → b ≡ None
or_right None b e = e
or_right (Some x) b e = absurd (none-some x (sym e))

parts_none : (size : ℕ) (rest : Option ℕ) → own_or_parts size rest ≡ None → rest ≡ None
parts_none size rest e = by (nat_lt (2 ^ 32) size) e
  where
    by : (b : Bool) → (if b then Some size else rest) ≡ None → rest ≡ None
    by true e = absurd (none-some size (sym e))
    by false e = e

measured_by : (ty : MemTy) (y : layer.MemTy-F MemTy) → roll-MemTy y ≡ ty → measured ty ≡ measured_step (map-MemTy MemTy Measured measured y)
measured_by ty y e = ap measured (sym e) ∙ fold-roll-MemTy Measured measured_step y

pub element_fits : (count : ℕ) (element : MemTy) → FitsMemory (Array count element) → FitsMemory element
element_fits count element fits =
    let b = both_true (nat_lt count (2 ^ 64)) (fits_memory element) (sym (fits_array count element) ∙ fits.0) in
    let size = nodes_array count element in
    let few = fits.1.0 in
    let whole = ap (λ (m : Measured). m.passing) (measured_by (Array count element) (layer.Array count element) (rolls-Array count element)) in
    let none = sym whole ∙ none_of _ fits.1.1 in
    let rest = or_left (measured element).passing None (parts_none _ _ none) in
    (b.1, (omega (arith, size, few), ap capped_passing rest))

-- each field
abbrev pub AllFit : List MemTy → Type 0
AllFit [] = Unit {0}
AllFit (field ∷ fields) = FitsMemory field × AllFit fields

all_fit : (fields : List MemTy) → list_all (λ (fits : Bool). fits) (map fits_memory fields) ≡ true → sum_nodes fields ≤ 4096 → first_passing (map measured fields) ≡ None → AllFit fields
all_fit [] fits few none = tt
all_fit (field ∷ fields) fits few none =
    let b = both_true (fits_memory field) (list_all (λ (fits : Bool). fits) (map fits_memory fields)) fits in
    let more = nodes_more field fields in
    let own = or_left (measured field).passing (first_passing (map measured fields)) none in
    ((b.0, (omega (arith, more, few), ap capped_passing own)), all_fit fields b.1 (omega (arith, more, few)) (or_right (measured field).passing (first_passing (map measured fields)) none))

pub fields_fit : (fields : List MemTy) (is_packed : Bool) → FitsMemory (Struct fields is_packed) → AllFit fields
fields_fit fields is_packed fits =
    let size = nodes_struct fields is_packed in
    let few = fits.1.0 in
    let whole = ap (λ (m : Measured). m.passing) (measured_by (Struct fields is_packed) (layer.Struct fields is_packed) (rolls-Struct fields is_packed)) in
    let none = sym whole ∙ none_of _ fits.1.1 in
    all_fit fields (sym (fits_struct fields is_packed) ∙ fits.0) (omega (arith, size, few)) (parts_none _ _ none)

-- ---- the same type

same_flag : (b : Bool) → same_bool b b ≡ true
same_flag true = refl
same_flag false = refl

same_number : (n : ℕ) → (n == n) ≡ true
same_number n = grind arith

abbrev IsSame : ℕ → MemTy → Type 0
IsSame depth ty = (measure ty).nodes ≤ depth → same_type depth ty ty ≡ true

fields_same : (depth : ℕ) (fields : List MemTy) → ((ty : MemTy) → IsSame depth ty) → sum_nodes fields ≤ depth → all_same (same_type depth) fields fields ≡ true
fields_same depth [] deeper few = refl
fields_same depth (field ∷ fields) deeper few =
    let more = nodes_more field fields in
    rw (deeper field (omega (arith, more, few)), fields_same depth fields deeper (omega (arith, more, few))) refl

layer_same : (depth : ℕ) (y : layer.MemTy-F MemTy) → ((ty : MemTy) → IsSame depth ty) → (measure (roll-MemTy y)).nodes ≤ suc depth → same_layer (same_type depth) y y ≡ true
layer_same depth (layer.Int w) deeper few = same_number w
layer_same depth layer.Ptr deeper few = refl
layer_same depth (layer.Array count element) deeper few =
    let size = nodes_array count element in
    let le : (measure (Array count element)).nodes ≤ suc depth = subst (λ (ty : MemTy). (measure ty).nodes ≤ suc depth) (rolls-Array count element) few in
    rw (same_number count, deeper element (omega (arith, size, le))) refl
layer_same depth (layer.Struct fields is_packed) deeper few =
    let size = nodes_struct fields is_packed in
    let le : (measure (Struct fields is_packed)).nodes ≤ suc depth = subst (λ (ty : MemTy). (measure ty).nodes ≤ suc depth) (rolls-Struct fields is_packed) few in
    rw (same_flag is_packed, fields_same depth fields deeper (omega (arith, size, le))) refl

pub some_nodes : (ty : MemTy) → 1 ≤ (measure ty).nodes
some_nodes ty = at_layer (out-MemTy ty) ty (roll-out-MemTy ty)
  where
    at_layer : (y : layer.MemTy-F MemTy) (ty : MemTy) → roll-MemTy y ≡ ty → 1 ≤ (measure ty).nodes
    at_layer (layer.Int w) ty e = let n = ap (λ (t : MemTy). (measure t).nodes) (sym e ∙ rolls-Int w) ∙ nodes_int w in omega (arith, n)
    at_layer layer.Ptr ty e = let n = ap (λ (t : MemTy). (measure t).nodes) (sym e ∙ rolls-Ptr) ∙ nodes_ptr in omega (arith, n)
    at_layer (layer.Array count element) ty e = let n = ap (λ (t : MemTy). (measure t).nodes) (sym e ∙ rolls-Array count element) ∙ nodes_array count element in omega (arith, n)
    at_layer (layer.Struct fields is_packed) ty e = let n = ap (λ (t : MemTy). (measure t).nodes) (sym e ∙ rolls-Struct fields is_packed) ∙ nodes_struct fields is_packed in omega (arith, n)

pub is_same : (depth : ℕ) (ty : MemTy) → IsSame depth ty
unfolding same_type
is_same zero ty = λ few. let some = some_nodes ty in absurd (omega (arith, some, few))
is_same (suc depth) ty = λ few. layer_same depth (out-MemTy ty) (λ inner. is_same depth inner) (subst (λ (t : MemTy). (measure t).nodes ≤ suc depth) (sym (roll-out-MemTy ty)) few)
