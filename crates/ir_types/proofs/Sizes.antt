-- Types that pass no limit of bytes.
use Rattle.std.proofs.Common.{◌≡◌, ℕ, ◌*◌, ◌^◌, ◌≤◌, max, nat_lt, Bool, true, false, List, [], ◌∷◌, map, Option, Some, None, sym, ◌∙◌, ap, subst, refl, arith}
use Rattle.std.proofs.lemmas.Bool.Decides.{nat_tests}
use Rattle.std.proofs.lemmas.Option.{none-some}
use Rattle.ir_core.specs.declared.types.MemTy.{MemTy, roll-MemTy}
use Rattle.ir_core.specs.declared.types.MemTy.TheVariants.{Int, Ptr, Array, Struct, rolls-Int, rolls-Ptr, rolls-Array, rolls-Struct}
use Rattle.ir_core.specs.declared.types.MemTy.TheOpen as layer
use Rattle.ir_core.specs.declared.types.MemTy.TheFolds.{ind-MemTy, map-MemTy}
use Rattle.ir_core.specs.declared.layout.Extent.{Extent}
use Rattle.ir_core.specs.Layout.{Measure, measure, greatest_of, array_extent, struct_extent, extents, extent_of, int_extent, HasSizesWithin}
use Rattle.ir_core.proofs.Layouts.{measure-Int, measure-Ptr, measure-Array, measure-Struct, extent-Int, extent-Ptr, extent-Array, extent-Struct, extents-measure}
use Rattle.ir_flow.specs.declared.sizes.Measured.{Measured}
use Rattle.ir_flow.specs.First.{or_then}
use Rattle.ir_flow.specs.Limits.{capped_passing, own_or_parts, first_passing, extents_of, measured}
use Rattle.ir_flow.proofs.Stops.{measured-Int, measured-Ptr, measured-Array, measured-Struct}

lt_not : (a b : ℕ) → nat_lt a b ≡ false → b ≤ a
lt_not a b h = grind (arith, nat_tests)

or_none_left : {A : Type 0} (a b : Option A) → or_then a b ≡ None → a ≡ None
or_none_left None b h = refl
or_none_left (Some x) b h = h

or_none_right : {A : Type 0} (a b : Option A) → or_then a b ≡ None → b ≡ None
or_none_right None b h = h
or_none_right (Some x) b h = absurd (none-some x (sym h))

-- ---- one type

own_within : (size : ℕ) (parts : Option ℕ) → own_or_parts size parts ≡ None → (size ≤ 2 ^ 32) × (parts ≡ None)
own_within size parts e = by_test (nat_lt (2 ^ 32) size) refl
  where
    by_test : (b : Bool) → nat_lt (2 ^ 32) size ≡ b → (size ≤ 2 ^ 32) × (parts ≡ None)
    by_test true h = absurd (none-some size (sym (rw h at e)))
    by_test false h = (lt_not (2 ^ 32) size h, rw h at e)

abbrev IsMeasured : MemTy → Type 0
IsMeasured ty = ((measured ty).extent ≡ extent_of ty) × ((measured ty).passing ≡ None → (measure ty).greatest ≤ 2 ^ 32)

abbrev Part : Type 0
Part = (ty : MemTy) × IsMeasured ty

abbrev types_of : List Part → List MemTy
types_of parts = map (λ e. e.0) parts

same_extents : (parts : List Part) → extents_of (map measured (types_of parts)) ≡ map extent_of (types_of parts)
same_extents [] = refl
same_extents (part ∷ parts) =
    let head : (measured part.0).extent ≡ extent_of part.0 = part.1.0 in
    let tail : extents_of (map measured (types_of parts)) ≡ map extent_of (types_of parts) = same_extents parts in
    ap (λ (e : Extent). e ∷ extents_of (map measured (types_of parts))) head ∙ ap (λ (es : List Extent). extent_of part.0 ∷ es) tail

all_within : (s : ℕ) (parts : List Part) → s ≤ 2 ^ 32 → first_passing (map measured (types_of parts)) ≡ None → greatest_of s (map measure (types_of parts)) ≤ 2 ^ 32
all_within s [] h e = h
all_within s (part ∷ parts) h e =
    let a : (measure part.0).greatest ≤ 2 ^ 32 = part.1.1 (or_none_left (measured part.0).passing (first_passing (map measured (types_of parts))) e) in
    let b : greatest_of s (map measure (types_of parts)) ≤ 2 ^ 32 =
    all_within s parts h (or_none_right (measured part.0).passing (first_passing (map measured (types_of parts))) e) in
    omega (arith, a, b)

int_case : (w : ℕ) → IsMeasured (Int w)
int_case w = (
  ap (λ (m : Measured). m.extent) (measured-Int w) ∙ sym (extent-Int w),
  λ e.
      let own = own_within (int_extent w).size None (sym (ap (λ (m : Measured). m.passing) (measured-Int w)) ∙ e) in
      let m : (measure (Int w)).greatest ≡ (int_extent w).size = ap (λ (x : Measure). x.greatest) (measure-Int w) in
      omega (arith, own.0, m),
)

ptr_case : IsMeasured Ptr
ptr_case = (
  ap (λ (m : Measured). m.extent) measured-Ptr ∙ sym extent-Ptr,
  λ e.
      let m : (measure Ptr).greatest ≡ 8 = ap (λ (x : Measure). x.greatest) measure-Ptr in
      omega (arith, m),
)

array_case : (count : ℕ) (part : Part) → IsMeasured (Array count part.0)
array_case count part = (
  ap (λ (m : Measured). m.extent) (measured-Array count part.0) ∙ ap (array_extent count) part.1.0 ∙ sym (extent-Array count part.0),
  λ e.
      let own = own_within (array_extent count (measured part.0).extent).size (or_then (measured part.0).passing None)
      (sym (ap (λ (m : Measured). m.passing) (measured-Array count part.0)) ∙ e) in
      let a : (measure part.0).greatest ≤ 2 ^ 32 = part.1.1 (or_none_left (measured part.0).passing None own.1) in
      let m : (measure (Array count part.0)).greatest ≡ max (measure part.0).greatest (count * (extent_of part.0).size) =
      ap (λ (x : Measure). x.greatest) (measure-Array count part.0) in
      let s : count * (measured part.0).extent.size ≡ count * (extent_of part.0).size = ap (λ (x : Extent). count * x.size) part.1.0 in
      omega (arith, own.0, a, m, s),
)

struct_case : (parts : List Part) (packed : Bool) → IsMeasured (Struct (types_of parts) packed)
struct_case parts packed =
    let same : struct_extent (extents_of (map measured (types_of parts))) packed ≡ struct_extent (map extent_of (types_of parts)) packed =
    ap (λ (es : List Extent). struct_extent es packed) (same_extents parts) in (
      ap (λ (m : Measured). m.extent) (measured-Struct (types_of parts) packed) ∙ same ∙ sym (extent-Struct (types_of parts) packed),
      λ e.
          let own = own_within (struct_extent (extents_of (map measured (types_of parts))) packed).size (first_passing (map measured (types_of parts)))
          (sym (ap (λ (m : Measured). m.passing) (measured-Struct (types_of parts) packed)) ∙ e) in
          let size_of : (struct_extent (extents (map measure (types_of parts))) packed).size ≤ 2 ^ 32 =
          let a : (struct_extent (extents_of (map measured (types_of parts))) packed).size ≡ (struct_extent (map extent_of (types_of parts)) packed).size =
          ap (λ (x : Extent). x.size) same in
          let b : (struct_extent (extents (map measure (types_of parts))) packed).size ≡ (struct_extent (map extent_of (types_of parts)) packed).size =
          ap (λ (es : List Extent). (struct_extent es packed).size) (extents-measure (types_of parts)) in
          omega (arith, own.0, a, b) in
          let m : (measure (Struct (types_of parts) packed)).greatest ≡ greatest_of (struct_extent (extents (map measure (types_of parts))) packed).size (map measure (types_of parts)) =
          ap (λ (x : Measure). x.greatest) (measure-Struct (types_of parts) packed) in
          let within = all_within (struct_extent (extents (map measure (types_of parts))) packed).size parts size_of own.1 in
          omega (arith, m, within),
    )

by_layer : (y : layer.MemTy-F Part) → IsMeasured (roll-MemTy (map-MemTy Part MemTy (λ (e : Part). e.0) y))
by_layer (layer.Int w) = subst IsMeasured (sym (rolls-Int w)) (int_case w)
by_layer layer.Ptr = subst IsMeasured (sym rolls-Ptr) ptr_case
by_layer (layer.Array count part) = subst IsMeasured (sym (rolls-Array count part.0)) (array_case count part)
by_layer (layer.Struct parts packed) = subst IsMeasured (sym (rolls-Struct (types_of parts) packed)) (struct_case parts packed)

is_measured : (ty : MemTy) → IsMeasured ty
is_measured = ind-MemTy IsMeasured (λ x y is. subst (λ z. IsMeasured (roll-MemTy z)) is (by_layer y))

passing_none : (passing : Option ℕ) → None ≡ capped_passing passing → passing ≡ None
passing_none None e = refl
passing_none (Some s) e = absurd (none-some _ e)

pub within : (ty : MemTy) (passing : Option ℕ) → passing ≡ capped_passing (measured ty).passing → passing ≡ None → HasSizesWithin ty
within ty passing is none = (is_measured ty).1 (passing_none (measured ty).passing (sym none ∙ is))
