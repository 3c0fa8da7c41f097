-- What a module that keeps the limits says of its types of memory.
use Rattle.std.proofs.Common.{◌≡◌, ℕ, zero, suc, ◌+◌, ◌*◌, ◌^◌, ◌<◌, ◌≤◌, max, nat_lt, Bool, true, false, List, [], ◌∷◌, map, length, Option, Some, None, sym, ◌∙◌, ap, subst, refl, arith, if◌then◌else◌}
use Rattle.std.specs.Prelude.{All}
use Rattle.std.proofs.lemmas.Bool.{false≢true}
use Rattle.ir_core.specs.declared.types.MemTy.{MemTy, roll-MemTy, out-MemTy, roll-out-MemTy}
use Rattle.ir_core.specs.declared.types.MemTy.TheVariants.{Int, Ptr, Array, Struct, rolls-Int, rolls-Ptr, rolls-Array, rolls-Struct}
use Rattle.ir_core.specs.declared.types.MemTy.TheOpen as layer
use Rattle.ir_core.specs.declared.types.MemTy.TheFolds.{ind-MemTy, map-MemTy}
use Rattle.ir_core.specs.declared.layout.Extent.{Extent}
use Rattle.ir_core.specs.declared.program.What.{What}
use Rattle.ir_core.specs.declared.program.What.TheVariants.{Functions, Globals}
use Rattle.ir_core.specs.declared.program.Global.{Global}
use Rattle.ir_core.specs.declared.program.Module.{Module}
use Rattle.ir_core.specs.Layout.{Measure, measure, greatest_of, array_extent, struct_extent, extents, extent_of, size, int_extent, pointer_extent, whole, HasSizesWithin}
use Rattle.ir_core.proofs.Layouts.{measure-Int, measure-Ptr, measure-Array, measure-Struct, extent-Int, extent-Ptr, extent-Array, extent-Struct, extents-measure}
use Rattle.ir_flow.specs.declared.sizes.Measured.{Measured}
use Rattle.ir_flow.specs.First.{or_then}
use Rattle.ir_flow.specs.Limits.{Passed, above, capped_passing, shown_size, own_or_parts, first_passing, extents_of, measured, measured_with, type_limit, globals_limit, functions_limit, limit_passed}
use Rattle.ir_flow.proofs.Stops.{measured-Int, measured-Ptr, measured-Array, measured-Struct}
use Rattle.ir_verify.proofs.Lists.{Every, all_of, or_none_left, or_none_right, lt_not}
use Rattle.ir_data.specs.Image.{HasFewBytes}

none_some : {A : Type 0} (x : A) → None ≡ Some x → ⊥
none_some x e = cc

-- ---- one type

own_within : (size : ℕ) (parts : Option ℕ) → own_or_parts size parts ≡ None → (size ≤ 2 ^ 32) × (parts ≡ None)
own_within size parts e = by_test (nat_lt (2 ^ 32) size) refl
  where
    by_test : (b : Bool) → nat_lt (2 ^ 32) size ≡ b → (size ≤ 2 ^ 32) × (parts ≡ None)
    by_test true h = absurd (none_some size (sym (rw h at e)))
    by_test false h = (lt_not (2 ^ 32) size h, rw h at e)

abbrev IsMeasured : MemTy → Type 0
IsMeasured ty = ((measured ty).extent ≡ extent_of ty) × ((measured ty).passing ≡ None → (measure ty).greatest ≤ 2 ^ 32)

abbrev Part : Type 0
Part = (ty : MemTy) × IsMeasured ty

abbrev types_of : List Part → List MemTy
types_of parts = map (λ e. e.0) parts

same_extents : (parts : List Part) → extents_of (map measured (types_of parts)) ≡ map extent_of (types_of parts)
same_extents [] = refl
same_extents (part ∷ parts) =
    let head : (measured part.0).extent ≡ extent_of part.0 = part.1.0 in
    let tail : extents_of (map measured (types_of parts)) ≡ map extent_of (types_of parts) = same_extents parts in
    ap (λ (e : Extent). e ∷ extents_of (map measured (types_of parts))) head ∙ ap (λ (es : List Extent). extent_of part.0 ∷ es) tail

all_within : (s : ℕ) (parts : List Part) → s ≤ 2 ^ 32 → first_passing (map measured (types_of parts)) ≡ None → greatest_of s (map measure (types_of parts)) ≤ 2 ^ 32
all_within s [] h e = h
all_within s (part ∷ parts) h e =
    let a : (measure part.0).greatest ≤ 2 ^ 32 = part.1.1 (or_none_left (measured part.0).passing (first_passing (map measured (types_of parts))) e) in
    let b : greatest_of s (map measure (types_of parts)) ≤ 2 ^ 32 =
    all_within s parts h (or_none_right (measured part.0).passing (first_passing (map measured (types_of parts))) e) in
    omega (arith, a, b)

int_case : (w : ℕ) → IsMeasured (Int w)
int_case w = (
  ap (λ (m : Measured). m.extent) (measured-Int w) ∙ sym (extent-Int w),
  λ e.
      let own = own_within (int_extent w).size None (sym (ap (λ (m : Measured). m.passing) (measured-Int w)) ∙ e) in
      let m : (measure (Int w)).greatest ≡ (int_extent w).size = ap (λ (x : Measure). x.greatest) (measure-Int w) in
      omega (arith, own.0, m),
)

ptr_case : IsMeasured Ptr
ptr_case = (
  ap (λ (m : Measured). m.extent) measured-Ptr ∙ sym extent-Ptr,
  λ e.
      let m : (measure Ptr).greatest ≡ 8 = ap (λ (x : Measure). x.greatest) measure-Ptr in
      omega (arith, m),
)

array_case : (count : ℕ) (part : Part) → IsMeasured (Array count part.0)
array_case count part = (
  ap (λ (m : Measured). m.extent) (measured-Array count part.0) ∙ ap (array_extent count) part.1.0 ∙ sym (extent-Array count part.0),
  λ e.
      let own = own_within (array_extent count (measured part.0).extent).size (or_then (measured part.0).passing None)
      (sym (ap (λ (m : Measured). m.passing) (measured-Array count part.0)) ∙ e) in
      let a : (measure part.0).greatest ≤ 2 ^ 32 = part.1.1 (or_none_left (measured part.0).passing None own.1) in
      let m : (measure (Array count part.0)).greatest ≡ max (measure part.0).greatest (count * (extent_of part.0).size) =
      ap (λ (x : Measure). x.greatest) (measure-Array count part.0) in
      let s : count * (measured part.0).extent.size ≡ count * (extent_of part.0).size = ap (λ (x : Extent). count * x.size) part.1.0 in
      omega (arith, own.0, a, m, s),
)

struct_case : (parts : List Part) (packed : Bool) → IsMeasured (Struct (types_of parts) packed)
struct_case parts packed =
    let same : struct_extent (extents_of (map measured (types_of parts))) packed ≡ struct_extent (map extent_of (types_of parts)) packed =
    ap (λ (es : List Extent). struct_extent es packed) (same_extents parts) in (
      ap (λ (m : Measured). m.extent) (measured-Struct (types_of parts) packed) ∙ same ∙ sym (extent-Struct (types_of parts) packed),
      λ e.
          let own = own_within (struct_extent (extents_of (map measured (types_of parts))) packed).size (first_passing (map measured (types_of parts)))
          (sym (ap (λ (m : Measured). m.passing) (measured-Struct (types_of parts) packed)) ∙ e) in
          let size_of : (struct_extent (extents (map measure (types_of parts))) packed).size ≤ 2 ^ 32 =
          let a : (struct_extent (extents_of (map measured (types_of parts))) packed).size ≡ (struct_extent (map extent_of (types_of parts)) packed).size =
          ap (λ (x : Extent). x.size) same in
          let b : (struct_extent (extents (map measure (types_of parts))) packed).size ≡ (struct_extent (map extent_of (types_of parts)) packed).size =
          ap (λ (es : List Extent). (struct_extent es packed).size) (extents-measure (types_of parts)) in
          omega (arith, own.0, a, b) in
          let m : (measure (Struct (types_of parts) packed)).greatest ≡ greatest_of (struct_extent (extents (map measure (types_of parts))) packed).size (map measure (types_of parts)) =
          ap (λ (x : Measure). x.greatest) (measure-Struct (types_of parts) packed) in
          let within = all_within (struct_extent (extents (map measure (types_of parts))) packed).size parts size_of own.1 in
          omega (arith, m, within),
    )

by_layer : (y : layer.MemTy-F Part) → IsMeasured (roll-MemTy (map-MemTy Part MemTy (λ (e : Part). e.0) y))
by_layer (layer.Int w) = subst IsMeasured (sym (rolls-Int w)) (int_case w)
by_layer layer.Ptr = subst IsMeasured (sym rolls-Ptr) ptr_case
by_layer (layer.Array count part) = subst IsMeasured (sym (rolls-Array count part.0)) (array_case count part)
by_layer (layer.Struct parts packed) = subst IsMeasured (sym (rolls-Struct (types_of parts) packed)) (struct_case parts packed)

pub is_measured : (ty : MemTy) → IsMeasured ty
is_measured = ind-MemTy IsMeasured (λ x y is. subst (λ z. IsMeasured (roll-MemTy z)) is (by_layer y))

greatest-size : (s : ℕ) (ms : List Measure) → s ≤ greatest_of s ms
greatest-size s [] = omega arith
greatest-size s (m ∷ ms) = let h : s ≤ greatest_of s ms = greatest-size s ms in omega arith

-- ---- the globals of a module

passing_none : (passing : Option ℕ) → shown_size (capped_passing passing) ≡ None → passing ≡ None
passing_none None e = refl
passing_none (Some s) e = absurd (none_some _ (sym e))

above_none : (what : What) (most count : ℕ) → above what most count ≡ None → count ≤ most
above_none what most count e = by_test (nat_lt most count) refl
  where
    by_test : (b : Bool) → nat_lt most count ≡ b → count ≤ most
    by_test true h = absurd (none_some _ (sym (rw h at e)))
    by_test false h = lt_not most count h

pub type_within : (ty : MemTy) → type_limit ty ≡ None → HasSizesWithin ty
type_within ty e = (is_measured ty).1 (passing_none (measured ty).passing (or_none_right (above _ 4096 (measure ty).nodes) (shown_size (capped_passing (measured ty).passing)) e))

each_within : (globals : List Global) → globals_limit globals ≡ None → Every (λ global. HasSizesWithin global.ty) globals
each_within [] e = tt
each_within (global ∷ globals) e =
    (type_within global.ty (or_none_left (type_limit global.ty) (globals_limit globals) e), each_within globals (or_none_right (type_limit global.ty) (globals_limit globals) e))

pub few_bytes : (module_ : Module) → limit_passed module_ ≡ None → HasFewBytes module_.globals
few_bytes module_ e =
    let rest = or_none_right (above Functions 1024 (length module_.functions)) _ e in
    let more = or_none_right (above Globals 4096 (length module_.globals)) _ rest in
    record {
      count = above_none Globals 4096 (length module_.globals) (or_none_left (above Globals 4096 (length module_.globals)) _ rest);
      sizes = all_of (λ global. HasSizesWithin global.ty) module_.globals (each_within module_.globals (or_none_left (globals_limit module_.globals) _ more));
    }

-- ---- a type takes no more than the greatest of its parts and itself

abbrev IsBelow : MemTy → Type 0
IsBelow ty = size ty ≤ (measure ty).greatest

whole_below : (extent : Extent) (parts : List Measure) → (whole extent parts).extent.size ≤ (whole extent parts).greatest
whole_below extent parts = greatest-size extent.size parts

below_by : (ty : MemTy) (extent : Extent) (parts : List Measure) → measure ty ≡ whole extent parts → IsBelow ty
below_by ty extent parts e = subst (λ (m : Measure). m.extent.size ≤ m.greatest) (sym e) (whole_below extent parts)

below_layer : (y : layer.MemTy-F MemTy) → IsBelow (roll-MemTy y)
below_layer (layer.Int w) = subst IsBelow (sym (rolls-Int w)) (below_by (Int w) (int_extent w) [] (measure-Int w))
below_layer layer.Ptr = subst IsBelow (sym rolls-Ptr) (below_by Ptr pointer_extent [] measure-Ptr)
below_layer (layer.Array count element) =
    subst IsBelow (sym (rolls-Array count element)) (below_by (Array count element) (array_extent count (extent_of element)) (measure element ∷ []) (measure-Array count element))
below_layer (layer.Struct fields packed) =
    subst IsBelow (sym (rolls-Struct fields packed))
    (below_by (Struct fields packed) (struct_extent (extents (map measure fields)) packed) (map measure fields) (measure-Struct fields packed))

pub size_within : (ty : MemTy) → HasSizesWithin ty → size ty ≤ 2 ^ 32
size_within ty h = let b : IsBelow ty = subst IsBelow (roll-out-MemTy ty) (below_layer (out-MemTy ty)) in omega (arith, b, h)

pub element_within : (count : ℕ) (element : MemTy) → HasSizesWithin (Array count element) → HasSizesWithin element
element_within count element h =
    let m : (measure (Array count element)).greatest ≡ max (measure element).greatest (count * (extent_of element).size) =
    ap (λ (x : Measure). x.greatest) (measure-Array count element) in
    omega (arith, m, h)
