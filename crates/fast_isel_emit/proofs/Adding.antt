-- What indices of an address add, from the first of them on.
use Rattle.std.proofs.Common.{◌≡◌, refl, sym, ap, subst, ◌∙◌, ℕ, zero, suc, ◌+◌, ◌-◌, ◌%◌, ◌^◌, ◌<◌, ◌≤◌, List, [], ◌∷◌, ◌++◌, length, take, drop, get_or, map, Option, Bool, true, false, cond, arith, append_assoc}
use Rattle.std.specs.Prelude.{slice_get, ◌&&◌, nat_lt}
use Rattle.std.proofs.lemmas.Bool.{and_parts, ltb-true, lt-ltb}
use Rattle.ir_core.specs.declared.types.Ty.{Ty}
use Rattle.ir_core.specs.declared.types.MemTy.{MemTy, out-MemTy}
use Rattle.ir_core.specs.declared.types.MemTy.TheVariants.{Array, Struct}
use Rattle.ir_core.specs.declared.types.MemTy.TheOpen as layer
use Rattle.ir_core.specs.declared.code.Operand.{Operand}
use Rattle.ir_core.specs.Layout.{size, extent_of, offset_of_field, end_of_fields}
use Rattle.ir_core.proofs.Layouts.{out-Array, out-Struct}
use Rattle.ir_verify.proofs.Lists.{some_at}
use Rattle.ir_data.proofs.Fields.{none_past, offset_behind}
use Rattle.rv_core.specs.declared.instr.Instr.{Instr}
use Rattle.rv_asm.specs.Code.{Code}
use Rattle.quick_code.specs.Parts.{Piece, Bytes, Times, sized, literal, of_field, piece, pieces_into, pieces, bytes_in, pieces_code, times_code, is_index, is_literal, is_step, are_steps}
use Rattle.code_emit.specs.Written.{put_code}
use Rattle.fast_isel_emit.specs.Operands.{is_index_at, are_indices}
use Rattle.code_emit.proofs.Put.{code_code, code_none}

take_all : (xs : List (Ty × Operand)) (n : ℕ) → n ≡ length xs → take n xs ≡ xs
take_all [] zero e = refl
take_all [] (suc n) e = refl
take_all (x ∷ xs) zero e = absurd (omega (arith, e))
take_all (x ∷ xs) (suc n) e = ap (λ (ys : List (Ty × Operand)). x ∷ ys) (take_all xs n (omega (arith, e)))

-- the indices behind the first, as the code holds them
abbrev pub rest_of : List (Ty × Operand) → List (Ty × Operand)
rest_of indices = take (length indices - 1) (drop 1 indices)

pub split_first : (indices : List (Ty × Operand)) (d : Ty × Operand) → 1 ≤ length indices → indices ≡ get_or indices 0 d ∷ rest_of indices
split_first [] d h = absurd (omega arith)
split_first (i ∷ is) d h = ap (λ (xs : List (Ty × Operand)). i ∷ xs) (sym (take_all is (length (i ∷ is) - 1) (omega arith)))

-- ---- code and bytes of two lists of pieces

pieces-append : (xs ys : List Piece) → pieces_code (xs ++ ys) ≡ pieces_code xs ++ pieces_code ys
pieces-append [] ys = refl
pieces-append (Bytes count ∷ xs) ys = pieces-append xs ys
pieces-append (Times w number size ∷ xs) ys =
    ap (λ (is : List Instr). times_code w number size ++ is) (pieces-append xs ys) ∙ sym (append_assoc (times_code w number size) (pieces_code xs) (pieces_code ys))

bytes-append : (xs ys : List Piece) → bytes_in (xs ++ ys) ≡ bytes_in xs + bytes_in ys
bytes-append [] ys = omega arith
bytes-append (Bytes count ∷ xs) ys = let r = bytes-append xs ys in omega (arith, r)
bytes-append (Times w number size ∷ xs) ys = bytes-append xs ys

pub two_pieces : (code one two : Code) (xs ys all : List Piece) → one ≡ put_code code (pieces_code xs) → two ≡ put_code one (pieces_code ys) → all ≡ xs ++ ys → two ≡ put_code code (pieces_code all)
two_pieces code one two xs ys all h k e =
    k ∙ ap (λ (c : Code). put_code c (pieces_code ys)) h ∙ code_code code (pieces_code xs) (pieces_code ys)
    ∙ ap (put_code code) (sym (pieces-append xs ys)) ∙ ap (λ (ps : List Piece). put_code code (pieces_code ps)) (sym e)

pub two_counts : (bytes one two : ℕ) (xs ys all : List Piece) → one ≡ (bytes + bytes_in xs) % 2 ^ 64 → two ≡ (one + bytes_in ys) % 2 ^ 64 → all ≡ xs ++ ys → two ≡ (bytes + bytes_in all) % 2 ^ 64
two_counts bytes one two xs ys all h k e =
    let sum = bytes-append xs ys in
    let same = ap bytes_in e in
    omega (arith, h, k, sum, same)

-- ---- one index into a type

pub into_array : (ty element : MemTy) (count : ℕ) (index : Ty × Operand) (indices : List (Ty × Operand)) → ty ≡ Array count element → pieces_into (index ∷ indices) ty ≡ sized (size element) index.0 index.1 ++ pieces_into indices element
into_array ty element count index indices e =
    ap (λ (l : layer.MemTy-F MemTy). piece (pieces_into indices) l index) (ap (λ (t : MemTy). out-MemTy t) e ∙ out-Array count element)

pub into_struct : (ty field : MemTy) (fields : List MemTy) (packed : Bool) (index : Ty × Operand) (indices : List (Ty × Operand)) → ty ≡ Struct fields packed → literal index.0 index.1 < length fields
    → field ≡ get_or fields (literal index.0 index.1) field
    → pieces_into (index ∷ indices) ty ≡ Bytes (offset_of_field (map extent_of fields) packed (literal index.0 index.1)) ∷ pieces_into indices field
into_struct ty field fields packed index indices e below is =
    let off : ℕ = offset_of_field (map extent_of fields) packed (literal index.0 index.1) in
    ap (λ (l : layer.MemTy-F MemTy). piece (pieces_into indices) l index) (ap (λ (t : MemTy). out-MemTy t) e ∙ out-Struct fields packed)
    ∙ ap (λ (f : Option MemTy). Bytes off ∷ of_field [] (pieces_into indices) f) (some_at fields (literal index.0 index.1) field below is)

-- ---- what the test says of the rest

pub steps_array : (ty element : MemTy) (count : ℕ) (index : Ty × Operand) (indices : List (Ty × Operand)) → ty ≡ Array count element → are_steps (index ∷ indices) ty ≡ cond (is_index index.1) (are_steps indices element) false
steps_array ty element count index indices e =
    ap (λ (l : layer.MemTy-F MemTy). is_step (are_steps indices) l index) (ap (λ (t : MemTy). out-MemTy t) e ∙ out-Array count element)

pub steps_struct : (ty : MemTy) (fields : List MemTy) (packed : Bool) (index : Ty × Operand) (indices : List (Ty × Operand)) → ty ≡ Struct fields packed
    → are_steps (index ∷ indices) ty ≡ cond (is_literal index.1 && nat_lt (length fields) (2 ^ 32)) (of_field true (are_steps indices) (slice_get fields (literal index.0 index.1))) false
steps_struct ty fields packed index indices e =
    ap (λ (l : layer.MemTy-F MemTy). is_step (are_steps indices) l index) (ap (λ (t : MemTy). out-MemTy t) e ∙ out-Struct fields packed)

pub indices_apart : (n : ℕ) (indices : List (Ty × Operand)) (d : Ty × Operand) → 1 ≤ length indices → are_indices n indices ≡ true → (is_index_at n (get_or indices 0 d) ≡ true) × (are_indices n (rest_of indices) ≡ true)
indices_apart n indices d h are =
    and_parts (is_index_at n (get_or indices 0 d)) (are_indices n (rest_of indices)) (subst (λ (xs : List (Ty × Operand)). are_indices n xs ≡ true) (split_first indices d h) are)

-- ---- for the code that walks

pub none_into : (code : Code) (indices : List (Ty × Operand)) (ty : MemTy) → length indices < 1 → code ≡ put_code code (pieces_code (pieces_into indices ty))
none_into code [] ty h = sym (code_none code)
none_into code (i ∷ is) ty h = absurd (let bad : ⊥ = omega (arith, h) in bad)

pub array_all : (ty element : MemTy) (count n : ℕ) (indices : List (Ty × Operand)) (d : Ty × Operand) → ty ≡ Array count element → 1 ≤ length indices → n ≡ size element
    → pieces_into indices ty ≡ sized n (get_or indices 0 d).0 (get_or indices 0 d).1 ++ pieces_into (rest_of indices) element
array_all ty element count n indices d e some is =
    ap (λ (xs : List (Ty × Operand)). pieces_into xs ty) (split_first indices d some)
    ∙ into_array ty element count (get_or indices 0 d) (rest_of indices) e
    ∙ ap (λ (k : ℕ). sized k (get_or indices 0 d).0 (get_or indices 0 d).1 ++ pieces_into (rest_of indices) element) (sym is)

pub array_steps : (ty element : MemTy) (count : ℕ) (indices : List (Ty × Operand)) (d : Ty × Operand) → ty ≡ Array count element → 1 ≤ length indices → are_steps indices ty ≡ true → are_steps (rest_of indices) element ≡ true
array_steps ty element count indices d e some h =
    second (is_index (get_or indices 0 d).1) (are_steps (rest_of indices) element)
    (sym (ap (λ (xs : List (Ty × Operand)). are_steps xs ty) (split_first indices d some) ∙ steps_array ty element count (get_or indices 0 d) (rest_of indices) e) ∙ h)
  where
    second : (b c : Bool) → cond b c false ≡ true → c ≡ true
    second true c h = h
    second false c h = absurd (let bad : false ≡ true = h in cc)

pub struct_all : (ty field : MemTy) (fields : List MemTy) (packed : Bool) (i off : ℕ) (indices : List (Ty × Operand)) (d : Ty × Operand) → ty ≡ Struct fields packed → 1 ≤ length indices
    → i ≡ literal (get_or indices 0 d).0 (get_or indices 0 d).1 → i < length fields → field ≡ get_or fields i field → off ≡ offset_of_field (map extent_of fields) packed i
    → pieces_into indices ty ≡ Bytes off ∷ pieces_into (rest_of indices) field
struct_all ty field fields packed i off indices d e some is below at far =
    let index : Ty × Operand = get_or indices 0 d in
    ap (λ (xs : List (Ty × Operand)). pieces_into xs ty) (split_first indices d some)
    ∙ into_struct ty field fields packed index (rest_of indices) e (subst (λ (k : ℕ). k < length fields) is below) (at ∙ ap (λ (k : ℕ). get_or fields k field) is)
    ∙ ap (λ (k : ℕ). Bytes k ∷ pieces_into (rest_of indices) field) (ap (offset_of_field (map extent_of fields) packed) (sym is) ∙ sym far)

-- the bytes of a literal that names no field
pub struct_none : (ty : MemTy) (fields : List MemTy) (packed : Bool) (i : ℕ) (indices : List (Ty × Operand)) (d : Ty × Operand) → ty ≡ Struct fields packed → 1 ≤ length indices
    → i ≡ literal (get_or indices 0 d).0 (get_or indices 0 d).1 → length fields ≤ i → pieces_into indices ty ≡ Bytes (end_of_fields packed 0 (map extent_of fields)) ∷ []
struct_none ty fields packed i indices d e some is past =
    let index : Ty × Operand = get_or indices 0 d in
    let j : ℕ = literal index.0 index.1 in
    let far : length fields ≤ j = subst (λ (k : ℕ). length fields ≤ k) is past in
    ap (λ (xs : List (Ty × Operand)). pieces_into xs ty) (split_first indices d some)
    ∙ ap (λ (l : layer.MemTy-F MemTy). piece (pieces_into (rest_of indices)) l index) (ap (λ (t : MemTy). out-MemTy t) e ∙ out-Struct fields packed)
    ∙ ap (λ (f : Option MemTy). Bytes (offset_of_field (map extent_of fields) packed j) ∷ of_field [] (pieces_into (rest_of indices)) f) (none_past fields j far)
    ∙ ap (λ (k : ℕ). Bytes k ∷ []) (offset_behind packed fields j far)

-- what the test says of a literal that leads into a struct
pub record IntoField (fields : List MemTy) (i : ℕ) (indices : List (Ty × Operand)) : Type 0 where
  pub few : length fields < 2 ^ 32
  pub rest : (field : MemTy) → i < length fields → field ≡ get_or fields i field → are_steps indices field ≡ true

pub struct_steps : (ty : MemTy) (fields : List MemTy) (packed : Bool) (i : ℕ) (indices : List (Ty × Operand)) (d : Ty × Operand) → ty ≡ Struct fields packed → 1 ≤ length indices
    → i ≡ literal (get_or indices 0 d).0 (get_or indices 0 d).1 → are_steps indices ty ≡ true → IntoField fields i (rest_of indices)
struct_steps ty fields packed i indices d e some is h =
    let index : Ty × Operand = get_or indices 0 d in
    let all = sym (ap (λ (xs : List (Ty × Operand)). are_steps xs ty) (split_first indices d some) ∙ steps_struct ty fields packed index (rest_of indices) e) ∙ h in
    let both = apart (is_literal index.1 && nat_lt (length fields) (2 ^ 32)) (of_field true (are_steps (rest_of indices)) (slice_get fields (literal index.0 index.1))) all in
    record {
      few = ltb-true (length fields) (2 ^ 32) (and_parts (is_literal index.1) (nat_lt (length fields) (2 ^ 32)) both.0).1;
      rest = λ field lt at.
          sym (ap (λ (o : Option MemTy). of_field true (are_steps (rest_of indices)) o) (ap (slice_get fields) (sym is) ∙ some_at fields i field lt at)) ∙ both.1;
    }
  where
    apart : (b c : Bool) → cond b c false ≡ true → (b ≡ true) × (c ≡ true)
    apart true c h = (refl, h)
    apart false c h = absurd (let bad : false ≡ true = h in cc)

-- an index into an array leads on as the rest does
pub array_answer : (ty element : MemTy) (count : ℕ) (indices : List (Ty × Operand)) (d : Ty × Operand) → ty ≡ Array count element → 1 ≤ length indices → is_index (get_or indices 0 d).1 ≡ true
    → are_steps (rest_of indices) element ≡ are_steps indices ty
array_answer ty element count indices d e some is =
    sym (ap (λ (xs : List (Ty × Operand)). are_steps xs ty) (split_first indices d some) ∙ steps_array ty element count (get_or indices 0 d) (rest_of indices) e ∙ ap (λ (b : Bool). cond b (are_steps (rest_of indices) element) false) is)

-- what the test answers of a literal
struct_test : (ty : MemTy) (fields : List MemTy) (packed : Bool) (i : ℕ) (indices : List (Ty × Operand)) (d : Ty × Operand) → ty ≡ Struct fields packed → 1 ≤ length indices
    → i ≡ literal (get_or indices 0 d).0 (get_or indices 0 d).1 → is_literal (get_or indices 0 d).1 ≡ true → length fields < 2 ^ 32 → are_steps indices ty ≡ of_field true (are_steps (rest_of indices)) (slice_get fields i)
struct_test ty fields packed i indices d e some is lit few =
    let index : Ty × Operand = get_or indices 0 d in
    let j : ℕ = literal index.0 index.1 in
    let a : (is_literal index.1 && nat_lt (length fields) (2 ^ 32)) ≡ true = ap (λ (b : Bool). b && nat_lt (length fields) (2 ^ 32)) lit ∙ lt-ltb (length fields) (2 ^ 32) few in
    ap (λ (xs : List (Ty × Operand)). are_steps xs ty) (split_first indices d some) ∙ steps_struct ty fields packed index (rest_of indices) e
    ∙ ap (λ (b : Bool). cond b (of_field true (are_steps (rest_of indices)) (slice_get fields j)) false) a
    ∙ ap (λ (k : ℕ). of_field true (are_steps (rest_of indices)) (slice_get fields k)) (sym is)

-- that of a field leads on as the rest does
pub struct_answer : (ty field : MemTy) (fields : List MemTy) (packed : Bool) (i : ℕ) (indices : List (Ty × Operand)) (d : Ty × Operand) → ty ≡ Struct fields packed → 1 ≤ length indices
    → i ≡ literal (get_or indices 0 d).0 (get_or indices 0 d).1 → is_literal (get_or indices 0 d).1 ≡ true → length fields < 2 ^ 32 → i < length fields → field ≡ get_or fields i field
    → are_steps (rest_of indices) field ≡ are_steps indices ty
struct_answer ty field fields packed i indices d e some is lit few below at =
    sym (struct_test ty fields packed i indices d e some is lit few ∙ ap (λ (o : Option MemTy). of_field true (are_steps (rest_of indices)) o) (some_at fields i field below at))

-- one of none leads nowhere
pub struct_past : (ty : MemTy) (fields : List MemTy) (packed : Bool) (i : ℕ) (indices : List (Ty × Operand)) (d : Ty × Operand) → ty ≡ Struct fields packed → 1 ≤ length indices
    → i ≡ literal (get_or indices 0 d).0 (get_or indices 0 d).1 → is_literal (get_or indices 0 d).1 ≡ true → length fields < 2 ^ 32 → length fields ≤ i → are_steps indices ty ≡ true
struct_past ty fields packed i indices d e some is lit few past =
    struct_test ty fields packed i indices d e some is lit few ∙ ap (λ (o : Option MemTy). of_field true (are_steps (rest_of indices)) o) (none_past fields i past)

pub none_pieces : (code : Code) (indices : List (Ty × Operand)) (ty : MemTy) → length indices < 1 → code ≡ put_code code (pieces_code (pieces ty indices))
none_pieces code [] ty h = sym (code_none code)
none_pieces code (i ∷ is) ty h = absurd (let bad : ⊥ = omega (arith, h) in bad)

pub pieces_all : (ty : MemTy) (n : ℕ) (indices : List (Ty × Operand)) (d : Ty × Operand) → 1 ≤ length indices → n ≡ size ty
    → pieces ty indices ≡ sized n (get_or indices 0 d).0 (get_or indices 0 d).1 ++ pieces_into (rest_of indices) ty
pieces_all ty n indices d some is =
    ap (λ (xs : List (Ty × Operand)). pieces ty xs) (split_first indices d some)
    ∙ ap (λ (k : ℕ). sized k (get_or indices 0 d).0 (get_or indices 0 d).1 ++ pieces_into (rest_of indices) ty) (sym is)
