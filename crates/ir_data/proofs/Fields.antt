-- Where the fields of a struct begin, and where the last ends.
use Rattle.std.proofs.Common.{◌≡◌, refl, sym, ap, ap₂, subst, ◌∙◌, ℕ, zero, suc, ◌+◌, ◌^◌, ◌<◌, ◌≤◌, List, [], ◌∷◌, length, take, get_or, map, None, Bool, true, false, arith}
use Rattle.std.proofs.lemmas.List.{length-map, get_or_past}
use Rattle.std.specs.Prelude.{slice_get, slice_index, ◌==◌}
use Rattle.ir_core.specs.declared.types.MemTy.{MemTy}
use Rattle.ir_core.specs.declared.types.MemTy.TheVariants.{Struct}
use Rattle.ir_core.specs.declared.layout.Extent.{Extent}
use Rattle.ir_core.specs.Layout.{size, extent_of, offset_of_field, field_start, end_of_fields, HasSizesWithin}
use Rattle.ir_core.proofs.Structs.{struct-fields, align-at, next-end, first-within}

-- no field stands past the last
pub none_past : (fields : List MemTy) (i : ℕ) → length fields ≤ i → slice_get fields i ≡ None
none_past [] i h = refl
none_past (f ∷ fs) zero h = absurd (let bad : ⊥ = omega (arith, h) in bad)
none_past (f ∷ fs) (suc i) h = none_past fs i (omega (arith, h))

take_whole : (es : List Extent) (n : ℕ) → length es ≤ n → take n es ≡ es
take_whole [] zero h = refl
take_whole [] (suc n) h = refl
take_whole (e ∷ es) zero h = absurd (let bad : ⊥ = omega (arith, h) in bad)
take_whole (e ∷ es) (suc n) h = ap (λ (xs : List Extent). e ∷ xs) (take_whole es n (omega (arith, h)))

at_once : (packed : Bool) (place : ℕ) → field_start packed place 0 ≡ place
at_once true place = refl
at_once false place = omega arith

-- past the last field nothing is left but the end of the fields
pub offset_behind : (packed : Bool) (fields : List MemTy) (i : ℕ) → length fields ≤ i → offset_of_field (map extent_of fields) packed i ≡ end_of_fields packed 0 (map extent_of fields)
offset_behind packed fields i h =
    let many = length-map fields extent_of in
    let more = length-map (map extent_of fields) (λ (e : Extent). e.align) in
    ap (λ (a : ℕ). field_start packed (end_of_fields packed 0 (take i (map extent_of fields))) a) (get_or_past (map (λ (e : Extent). e.align) (map extent_of fields)) i 0 (omega (arith, h, many, more)))
    ∙ at_once packed (end_of_fields packed 0 (take i (map extent_of fields)))
    ∙ ap (λ (es : List Extent). end_of_fields packed 0 es) (take_whole (map extent_of fields) i (omega (arith, h, many)))

-- the last field's end
pub last_end : (packed : Bool) (fields : List MemTy) (i off n : ℕ) (field : MemTy) → i + 1 ≡ length fields → field ≡ get_or fields i field → off ≡ offset_of_field (map extent_of fields) packed i → n ≡ size field
    → off + n ≡ end_of_fields packed 0 (map extent_of fields)
last_end packed fields i off n field last is far many =
    let lt : i < length fields = omega (arith, last) in
    let before : ℕ = end_of_fields packed 0 (take i (map extent_of fields)) in
    let align : slice_index (map (λ (e : Extent). e.align) (map extent_of fields)) i ≡ (extent_of field).align = align-at fields i field lt ∙ ap (λ (f : MemTy). (extent_of f).align) (sym is) in
    let start : off ≡ field_start packed before (extent_of field).align = far ∙ ap (field_start packed before) align in
    let sum = next-end packed fields i before (field_start packed before (extent_of field).align) field (extent_of field) lt refl is refl refl in
    let all = length-map fields extent_of in
    let whole = ap (λ (es : List Extent). end_of_fields packed 0 es) (take_whole (map extent_of fields) (i + 1) (omega (arith, last, all))) in
    ap₂ (λ (a b : ℕ). a + b) start many ∙ sum ∙ whole

-- there is a field
pub some_field : (fields : List MemTy) (b : Bool) → b ≡ (length fields == 0) → b ≡ false → 1 ≤ length fields
some_field [] b is off = absurd (let bad : true ≡ false = sym is ∙ off in cc)
some_field (f ∷ fs) b is off = omega arith

-- the fields end within the struct
pub ends_within : (packed : Bool) (fields : List MemTy) → HasSizesWithin (Struct fields packed) → end_of_fields packed 0 (map extent_of fields) ≤ 2 ^ 32
ends_within packed fields h =
    let many = length-map fields extent_of in
    let whole = take_whole (map extent_of fields) (length fields) (omega (arith, many)) in
    subst (λ (es : List Extent). end_of_fields packed 0 es ≤ 2 ^ 32) whole (first-within packed fields (length fields) h)

pub field_within : (ty field : MemTy) (fields : List MemTy) (packed : Bool) (i : ℕ) → HasSizesWithin ty → ty ≡ Struct fields packed → i < length fields → field ≡ get_or fields i field → HasSizesWithin field
field_within ty field fields packed i h e below is = subst HasSizesWithin (sym is) (struct-fields fields packed (subst HasSizesWithin e h) i field below)
