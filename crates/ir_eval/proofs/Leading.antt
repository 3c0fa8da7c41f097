-- Indices that lead from a part to a part of it.
use Rattle.std.proofs.Common.{◌≡◌, ℕ, zero, suc, ◌+◌, ◌-◌, ◌*◌, ◌%◌, ◌^◌, ◌<◌, ◌≤◌, Bool, true, false, List, [], ◌∷◌, map, length, take, drop, get_or, Option, Some, None, sym, ◌∙◌, ap, subst, refl, arith}
use Rattle.std.specs.Prelude.{slice_get, slice_index}
use Rattle.ir_core.specs.declared.types.Ty.{Ty}
use Rattle.ir_core.specs.declared.types.MemTy.{MemTy, out-MemTy}
use Rattle.ir_core.specs.declared.types.MemTy.TheVariants.{Array, Struct}
use Rattle.ir_core.specs.declared.types.MemTy.TheOpen as layer
use Rattle.ir_core.specs.declared.code.Operand.{Operand}
use Rattle.ir_core.specs.declared.layout.Extent.{Extent}
use Rattle.ir_core.specs.Layout.{HasSizesWithin, size, extent_of, end_of_fields, field_start, offset_of_field}
use Rattle.ir_core.proofs.Layouts.{out-Array, out-Struct}
use Rattle.ir_core.proofs.Structs.{struct-fields}
use Rattle.ir_meaning.specs.Value.{Value}
use Rattle.ir_meaning.specs.Memory.{into_part, into_parts, index_64}
use Rattle.ir_meaning.specs.Operators.{width}
use Rattle.ir_meaning.specs.Step.{Program, operand, index_numbers}
use Rattle.ir_verify.proofs.Lists.{some_at}
use Rattle.ir_eval.specs.Beyond.{are_numbers, led_if, led_of}
use Rattle.ir_eval.specs.Fits.{IndicesFit}

abbrev pub consed : ℕ → Option (List ℕ) → Option (List ℕ)
consed n None = None
consed n (Some ns) = Some (n ∷ ns)

take_all : (xs : List (Ty × Operand)) (n : ℕ) → n ≡ length xs → take n xs ≡ xs
take_all [] zero e = refl
take_all [] (suc n) e = refl
take_all (x ∷ xs) zero e = absurd (omega (arith, e))
take_all (x ∷ xs) (suc n) e = ap (λ (ys : List (Ty × Operand)). x ∷ ys) (take_all xs n (omega (arith, e)))

pub split_first : (indices : List (Ty × Operand)) (d : Ty × Operand) → 1 ≤ length indices → indices ≡ get_or indices 0 d ∷ take (length indices - 1) (drop 1 indices)
split_first [] d h = absurd (omega arith)
split_first (i ∷ is) d h = ap (λ (xs : List (Ty × Operand)). i ∷ xs) (sym (take_all is (length (i ∷ is) - 1) (omega arith)))

numbers_on : (program : Program) (values : List Value) (index : Ty × Operand) (rest : List (Ty × Operand)) (n : ℕ) → operand program values index.1 ≡ Some n
    → index_numbers program values (index ∷ rest) ≡ consed (index_64 (width index.0) n) (index_numbers program values rest)
numbers_on program values index rest n e = by_rest (index_numbers program values rest) refl
  where
    by_rest : (r : Option (List ℕ)) → index_numbers program values rest ≡ r → index_numbers program values (index ∷ rest) ≡ consed (index_64 (width index.0) n) (index_numbers program values rest)
    by_rest None f = rw (e, f) refl
    by_rest (Some ns) f = rw (e, f) refl

pub numbers_split : (program : Program) (values : List Value) (indices : List (Ty × Operand)) (d : Ty × Operand) (n index : ℕ) → 1 ≤ length indices
    → Some n ≡ operand program values (get_or indices 0 d).1 → index ≡ index_64 (width (get_or indices 0 d).0) n
    → consed index (index_numbers program values (take (length indices - 1) (drop 1 indices))) ≡ index_numbers program values indices
numbers_split program values indices d n index h e is =
    let rest : List (Ty × Operand) = take (length indices - 1) (drop 1 indices) in
    ap (λ (k : ℕ). consed k (index_numbers program values rest)) is
    ∙ sym (numbers_on program values (get_or indices 0 d) rest n (sym e))
    ∙ ap (λ (xs : List (Ty × Operand)). index_numbers program values xs) (sym (split_first indices d h))

-- ---- from part to part

mod_sum : (a m r next : ℕ) → next ≡ (a + m % 2 ^ 64) % 2 ^ 64 → (next + r) % 2 ^ 64 ≡ (a + (m + r)) % 2 ^ 64
mod_sum a m r next e = omega (arith, e)

mod_sum_small : (a m r next : ℕ) → next ≡ (a + m) % 2 ^ 64 → (next + r) % 2 ^ 64 ≡ (a + (m + r)) % 2 ^ 64
mod_sum_small a m r next e = omega (arith, e)

pub in_array : (ty element : MemTy) (count n address next : ℕ) (indices : List ℕ) → ty ≡ Array count element → next ≡ (address + n * size element % 2 ^ 64) % 2 ^ 64
    → (next + into_parts indices element) % 2 ^ 64 ≡ (address + into_parts (n ∷ indices) ty) % 2 ^ 64
in_array ty element count n address next indices e is =
    let o : out-MemTy ty ≡ layer.Array count element = ap (λ (t : MemTy). out-MemTy t) e ∙ out-Array count element in
    mod_sum address (n * size element) (into_parts indices element) next is
    ∙ ap (λ (l : layer.MemTy-F MemTy). (address + into_part (into_parts indices) l n) % 2 ^ 64) (sym o)

pub in_struct : (ty field : MemTy) (fields : List MemTy) (packed : Bool) (n address offset next : ℕ) (indices : List ℕ) → ty ≡ Struct fields packed → n < length fields → field ≡ get_or fields n field
    → offset ≡ offset_of_field (map extent_of fields) packed n → next ≡ (address + offset) % 2 ^ 64
    → (next + into_parts indices field) % 2 ^ 64 ≡ (address + into_parts (n ∷ indices) ty) % 2 ^ 64
in_struct ty field fields packed n address offset next indices e below is at next_is =
    let o : out-MemTy ty ≡ layer.Struct fields packed = ap (λ (t : MemTy). out-MemTy t) e ∙ out-Struct fields packed in
    let there : slice_get fields n ≡ Some field = some_at fields n field below is in
    let inner : into_part (into_parts indices) (layer.Struct fields packed) n ≡ offset_of_field (map extent_of fields) packed n + into_parts indices field = rw there refl in
    mod_sum_small address (offset_of_field (map extent_of fields) packed n) (into_parts indices field) next (next_is ∙ ap (λ (k : ℕ). (address + k) % 2 ^ 64) at)
    ∙ ap (λ (k : ℕ). (address + k) % 2 ^ 64) (sym inner)
    ∙ ap (λ (l : layer.MemTy-F MemTy). (address + into_part (into_parts indices) l n) % 2 ^ 64) (sym o)

past_end : (fields : List MemTy) (n : ℕ) → length fields ≤ n → slice_get fields n ≡ None
past_end [] n h = refl
past_end (f ∷ fs) zero h = absurd (omega arith)
past_end (f ∷ fs) (suc n) h = past_end fs n (omega arith)

pub past_struct : (ty : MemTy) (fields : List MemTy) (packed : Bool) (n address offset next : ℕ) (indices : List ℕ) → ty ≡ Struct fields packed → length fields ≤ n
    → offset ≡ offset_of_field (map extent_of fields) packed n → next ≡ (address + offset) % 2 ^ 64
    → next ≡ (address + into_parts (n ∷ indices) ty) % 2 ^ 64
past_struct ty fields packed n address offset next indices e past at next_is =
    let o : out-MemTy ty ≡ layer.Struct fields packed = ap (λ (t : MemTy). out-MemTy t) e ∙ out-Struct fields packed in
    let none : slice_get fields n ≡ None = past_end fields n past in
    let inner : into_part (into_parts indices) (layer.Struct fields packed) n ≡ offset_of_field (map extent_of fields) packed n + 0 = rw none refl in
    let sum : offset_of_field (map extent_of fields) packed n + 0 ≡ offset_of_field (map extent_of fields) packed n = omega arith in
    next_is ∙ ap (λ (k : ℕ). (address + k) % 2 ^ 64) (at ∙ sym (inner ∙ sum))
    ∙ ap (λ (l : layer.MemTy-F MemTy). (address + into_part (into_parts indices) l n) % 2 ^ 64) (sym o)

pub led_on : (ty part : MemTy) (n address next : ℕ) (rest : Option (List ℕ)) → ((ns : List ℕ) → (next + into_parts ns part) % 2 ^ 64 ≡ (address + into_parts (n ∷ ns) ty) % 2 ^ 64)
    → led_of part next rest ≡ led_of ty address (consed n rest)
led_on ty part n address next None h = refl
led_on ty part n address next (Some ns) h = ap (λ (k : ℕ). Some k) (h ns)

pub led_stuck : (ty : MemTy) (n address next : ℕ) (rest : Option (List ℕ)) → ((ns : List ℕ) → next ≡ (address + into_parts (n ∷ ns) ty) % 2 ^ 64)
    → led_if (are_numbers rest) next ≡ led_of ty address (consed n rest)
led_stuck ty n address next None h = refl
led_stuck ty n address next (Some ns) h = ap (λ (k : ℕ). Some k) (h ns)

-- ---- fields

pub field_within : (ty field : MemTy) (fields : List MemTy) (packed : Bool) (i : ℕ) → HasSizesWithin ty → ty ≡ Struct fields packed → i < length fields → field ≡ get_or fields i field → HasSizesWithin field
field_within ty field fields packed i h e below is =
    let whole : HasSizesWithin (Struct fields packed) = subst HasSizesWithin e h in
    subst HasSizesWithin (sym is) (struct-fields fields packed whole i field below)

take_past : (es : List Extent) (n : ℕ) → length es ≤ n → take n es ≡ es
take_past [] zero h = refl
take_past [] (suc n) h = refl
take_past (e ∷ es) zero h = absurd (omega arith)
take_past (e ∷ es) (suc n) h = ap (λ (xs : List Extent). e ∷ xs) (take_past es n (omega arith))

map_long : (fields : List MemTy) → length (map extent_of fields) ≡ length fields
map_long [] = refl
map_long (f ∷ fs) = ap suc (map_long fs)

no_align : (aligns : List ℕ) (n : ℕ) → length aligns ≤ n → slice_index aligns n ≡ 0
no_align [] n h = refl
no_align (a ∷ as_) zero h = absurd (omega arith)
no_align (a ∷ as_) (suc n) h = no_align as_ n (omega arith)

aligns_long : (es : List Extent) → length (map (λ e. e.align) es) ≡ length es
aligns_long [] = refl
aligns_long (e ∷ es) = ap suc (aligns_long es)

start_unaligned : (packed : Bool) (place : ℕ) → field_start packed place 0 ≡ place
start_unaligned true place = refl
start_unaligned false place = omega arith

-- behind the last field there is no other
pub offset_past : (fields : List MemTy) (packed : Bool) (n end i : ℕ) → i ≡ length fields → i ≤ n → end ≡ end_of_fields packed 0 (take i (map extent_of fields))
    → end ≡ offset_of_field (map extent_of fields) packed n
offset_past fields packed n end i all past is =
    let es : List Extent = map extent_of fields in
    let long = map_long fields in
    let a : take i es ≡ es = take_past es i (omega (arith, all, long)) in
    let b : take n es ≡ es = take_past es n (omega (arith, all, past, long)) in
    let none : slice_index (map (λ e. e.align) es) n ≡ 0 = no_align (map (λ e. e.align) es) n (let l = aligns_long es in omega (arith, all, past, long, l)) in
    is ∙ ap (λ (xs : List Extent). end_of_fields packed 0 xs) (a ∙ sym b)
    ∙ sym (start_unaligned packed (end_of_fields packed 0 (take n es)))
    ∙ ap (λ (k : ℕ). field_start packed (end_of_fields packed 0 (take n es)) k) (sym none)

pub rest_fit : (program : Program) (values : List Value) (indices : List (Ty × Operand)) (d : Ty × Operand) → 1 ≤ length indices → IndicesFit program values indices
    → IndicesFit program values (take (length indices - 1) (drop 1 indices))
rest_fit program values indices d h fits = (subst (IndicesFit program values) (split_first indices d h) fits).2
