-- What indices add to an address, one after another.
use Rattle.std.proofs.Common.{◌≡◌, refl, sym, ap, ap₂, subst, ◌∙◌, ℕ, zero, suc, ◌+◌, ◌<◌, ◌≤◌, Bool, Option, List, [], ◌∷◌, ◌++◌, length, map, take, drop, get_or, arith, append_assoc}
use Rattle.std.proofs.Math.Seq.{drop-cons}
use Rattle.std.proofs.lemmas.List.{append-nil, drop_all}
use Rattle.std.specs.Prelude.{slice_get, ◌%◌, ◌^◌, ◌-◌}
use Rattle.ir_core.specs.declared.types.Ty.{Ty}
use Rattle.ir_core.specs.declared.types.MemTy.{MemTy, out-MemTy}
use Rattle.ir_core.specs.declared.types.MemTy.TheVariants.{Array, Struct}
use Rattle.ir_core.specs.declared.types.MemTy.TheOpen as layer
use Rattle.ir_core.specs.declared.code.Operand.{Operand}
use Rattle.ir_core.specs.Layout.{size, extent_of, offset_of_field, HasSizesWithin}
use Rattle.ir_core.proofs.Layouts.{out-Array, out-Struct}
use Rattle.ir_flow.specs.Limits.{nodes}
use Rattle.ir_flow.proofs.Stops.{nodes-Struct}
use Rattle.ir_verify.proofs.Lists.{some_at}
use Rattle.ir_data.proofs.Sizes.{element_within}
use Rattle.ir_data.proofs.Fields.{none_past, field_within}
use Rattle.ir_data.proofs.Nodes.{fields-few, field-few, element-few}
use Rattle.ir_core.specs.declared.program.Global.{Global}
use Rattle.gmir.specs.declared.code.GType.{GType}
use Rattle.gmir.specs.declared.code.GType.TheVariants.{P0}
use Rattle.gmir.specs.declared.code.GOp.TheVariants.{PtrAdd}
use Rattle.gmir.specs.declared.code.GInst.{GInst}
use Rattle.generic_code.specs.Literals.{Pool, plain, skip}
use Rattle.generic_code.specs.Parts.{Addend, Bytes, Times, Left, left_of, sum_code, sum_types, sum_pool, sized, field_index, of_field, addends, addends_into, addends_of, bytes_in, values_then, offset, in_order}
use Rattle.ir_translator_emit.specs.declared.sums.Scaled.{Scaled}
use Rattle.ir_translator_emit.specs.Written.{Written, put, put_inst}
use Rattle.ir_translator_emit.specs.Sums.{addend_of, addends_of_values, only_values, put_left, steps, stepped, IsRead, AreRead}
use Rattle.ir_translator_emit.proofs.Put.{put_put, put_code, put_pool, put_same}

module _ (globals : List Global) where
  rest_is : (all : List Scaled) (i : ℕ) (d : Scaled) → i < length all → addends_of_values (drop i all) ≡ addend_of (get_or all i d) ∷ addends_of_values (drop (i + 1) all)
  rest_is all i d lt =
      ap addends_of_values (drop-cons all i d lt ∙ ap (λ (n : ℕ). get_or all i d ∷ drop n all) (let k : suc i ≡ i + 1 = omega arith in k))

  first_step : (w : Written) (address : ℕ) (one : Addend) (more : List Addend)
      → put_left w (steps globals address w.pool (one ∷ more)) ≡ put_left (stepped w address (left_of globals one w.pool)) (steps globals (left_of globals one w.pool).pool.next (skip 1 (left_of globals one w.pool).pool) more)
  first_step w address one more =
      let left : Left = left_of globals one w.pool in
      let rest : Left = steps globals left.pool.next (skip 1 left.pool) more in
      let i : GInst = plain PtrAdd (left.pool.next ∷ []) (address ∷ left.register ∷ []) 0 in
      ap₂ (λ (code : List GInst) (types : List GType). put w code types rest.pool) (sym (append_assoc left.code (i ∷ []) rest.code)) (sym (append_assoc left.types (P0 ∷ []) rest.types))
      ∙ sym (put_put w (left.code ++ i ∷ []) rest.code (left.types ++ P0 ∷ []) rest.types (skip 1 left.pool) rest.pool)

  -- one more addend is added
  pub record Stepped (v total : Written) (next last : ℕ) (all : List Scaled) (i : ℕ) : Type 0 where
    pub written : put_left v (steps globals next v.pool (addends_of_values (drop (i + 1) all))) ≡ total
    pub register : (steps globals next v.pool (addends_of_values (drop (i + 1) all))).register ≡ last

  pub steps_more : (w v total : Written) (address next register : ℕ) (all : List Scaled) (i : ℕ) (d : Scaled) → i < length all
      → put_left w (steps globals address w.pool (addends_of_values (drop i all))) ≡ total
      → (steps globals address w.pool (addends_of_values (drop i all))).register ≡ register
      → v ≡ stepped w address (left_of globals (addend_of (get_or all i d)) w.pool) → next ≡ (left_of globals (addend_of (get_or all i d)) w.pool).pool.next
      → Stepped v total next register all i
  steps_more w v total address next register all i d lt h r e is =
      let one : Addend = addend_of (get_or all i d) in
      let more : List Addend = addends_of_values (drop (i + 1) all) in
      let left : Left = left_of globals one w.pool in
      let pool : v.pool ≡ skip 1 left.pool = ap (λ (x : Written). x.pool) e ∙ put_pool w _ _ _ in
      record {
        written =
            ap₂ (λ (n : ℕ) (p : Pool). put_left v (steps globals n p more)) is pool
            ∙ ap (λ (x : Written). put_left x (steps globals left.pool.next (skip 1 left.pool) more)) e
            ∙ sym (first_step w address one more) ∙ ap (λ (os : List Addend). put_left w (steps globals address w.pool os)) (sym (rest_is all i d lt)) ∙ h;
        register =
            ap₂ (λ (n : ℕ) (p : Pool). (steps globals n p more).register) is pool
            ∙ ap (λ (os : List Addend). (steps globals address w.pool os).register) (sym (rest_is all i d lt)) ∙ r;
      }

  pub steps_done : (w total : Written) (address register : ℕ) (all : List Scaled) (i : ℕ) → length all ≤ i
      → put_left w (steps globals address w.pool (addends_of_values (drop i all))) ≡ total → w ≡ total
  steps_done w total address register all i le h =
      sym (put_same w) ∙ ap (λ (xs : List Scaled). put_left w (steps globals address w.pool (addends_of_values xs))) (sym (drop_all i all le)) ∙ h

  pub register_done : (w : Written) (address register : ℕ) (all : List Scaled) (i : ℕ) → length all ≤ i
      → (steps globals address w.pool (addends_of_values (drop i all))).register ≡ register → address ≡ register
  register_done w address register all i le r = ap (λ (xs : List Scaled). (steps globals address w.pool (addends_of_values xs)).register) (sym (drop_all i all le)) ∙ r

  -- ---- the last addend

  last_code : (result from : ℕ) (pool : Pool) (xs : List Addend) (x : Addend) → (
      let s = steps globals from pool xs in
      let l = left_of globals x s.pool in
      sum_code globals result from pool (xs ++ x ∷ []) ≡ s.code ++ (l.code ++ plain PtrAdd (result ∷ []) (s.register ∷ l.register ∷ []) 0 ∷ []))
  last_code result from pool [] x = refl
  last_code result from pool (y ∷ []) x =
      let l : Left = left_of globals y pool in
      let r : Left = left_of globals x (skip 1 l.pool) in
      sym (append_assoc l.code (plain PtrAdd (l.pool.next ∷ []) (from ∷ l.register ∷ []) 0 ∷ []) (r.code ++ plain PtrAdd (result ∷ []) (l.pool.next ∷ r.register ∷ []) 0 ∷ []))
  last_code result from pool (y ∷ z ∷ zs) x =
      let l : Left = left_of globals y pool in
      let s : Left = steps globals l.pool.next (skip 1 l.pool) (z ∷ zs) in
      let r : Left = left_of globals x s.pool in
      ap (λ (c : List GInst). l.code ++ plain PtrAdd (l.pool.next ∷ []) (from ∷ l.register ∷ []) 0 ∷ c) (last_code result l.pool.next (skip 1 l.pool) (z ∷ zs) x)
      ∙ sym (append_assoc l.code (plain PtrAdd (l.pool.next ∷ []) (from ∷ l.register ∷ []) 0 ∷ s.code) (r.code ++ plain PtrAdd (result ∷ []) (s.register ∷ r.register ∷ []) 0 ∷ []))

  last_types : (from : ℕ) (pool : Pool) (xs : List Addend) (x : Addend) → (
      let s = steps globals from pool xs in
      sum_types globals pool (xs ++ x ∷ []) ≡ s.types ++ (left_of globals x s.pool).types)
  last_types from pool [] x = refl
  last_types from pool (y ∷ []) x =
      let l : Left = left_of globals y pool in
      sym (append_assoc l.types (P0 ∷ []) (left_of globals x (skip 1 l.pool)).types)
  last_types from pool (y ∷ z ∷ zs) x =
      let l : Left = left_of globals y pool in
      let s : Left = steps globals l.pool.next (skip 1 l.pool) (z ∷ zs) in
      ap (λ (t : List GType). l.types ++ P0 ∷ t) (last_types l.pool.next (skip 1 l.pool) (z ∷ zs) x) ∙ sym (append_assoc l.types (P0 ∷ s.types) (left_of globals x s.pool).types)

  last_pool : (from : ℕ) (pool : Pool) (xs : List Addend) (x : Addend) → sum_pool globals pool (xs ++ x ∷ []) ≡ (left_of globals x (steps globals from pool xs).pool).pool
  last_pool from pool [] x = refl
  last_pool from pool (y ∷ []) x = refl
  last_pool from pool (y ∷ z ∷ zs) x = last_pool (left_of globals y pool).pool.next (skip 1 (left_of globals y pool).pool) (z ∷ zs) x

  -- the last addend is added behind the others
  pub last_put : (w v u t : Written) (value from address left : ℕ) (xs : List Addend) (x : Addend) → v ≡ put_left w (steps globals from w.pool xs) → address ≡ (steps globals from w.pool xs).register
      → u ≡ put_left v (left_of globals x v.pool) → left ≡ (left_of globals x v.pool).register → t ≡ put_inst u (plain PtrAdd (value ∷ []) (address ∷ left ∷ []) 0)
      → t ≡ put w (sum_code globals value from w.pool (xs ++ x ∷ [])) (sum_types globals w.pool (xs ++ x ∷ [])) (sum_pool globals w.pool (xs ++ x ∷ []))
  last_put w v u t value from address left xs x a b c d e =
      let s : Left = steps globals from w.pool xs in
      let l : Left = left_of globals x s.pool in
      let pool : v.pool ≡ s.pool = ap (λ (z : Written). z.pool) a ∙ put_pool w _ _ _ in
      let i : GInst = plain PtrAdd (value ∷ []) (s.register ∷ l.register ∷ []) 0 in
      let u-is : u ≡ put w (s.code ++ l.code) (s.types ++ l.types) l.pool =
      c ∙ ap₂ (λ (z : Written) (p : Pool). put_left z (left_of globals x p)) a pool ∙ put_put w s.code l.code s.types l.types s.pool l.pool in
      let left-is : left ≡ l.register = d ∙ ap (λ (p : Pool). (left_of globals x p).register) pool in
      e ∙ ap₂ (λ (m n : ℕ). put_inst u (plain PtrAdd (value ∷ []) (m ∷ n ∷ []) 0)) b left-is
      ∙ ap (λ (z : Written). put_inst z i) u-is
      ∙ ap (λ (p : Pool). put (put w (s.code ++ l.code) (s.types ++ l.types) l.pool) (i ∷ []) [] p) (put_pool w (s.code ++ l.code) (s.types ++ l.types) l.pool)
      ∙ put_code w (s.code ++ l.code) (i ∷ []) (s.types ++ l.types) l.pool l.pool
      ∙ ap (λ (code : List GInst). put w code (s.types ++ l.types) l.pool) (append_assoc s.code l.code (i ∷ []))
      ∙ ap₂ (λ (code : List GInst) (types : List GType). put w code types l.pool) (sym (last_code value from w.pool xs x)) (sym (last_types from w.pool xs x))
      ∙ ap (λ (p : Pool). put w (sum_code globals value from w.pool (xs ++ x ∷ [])) (sum_types globals w.pool (xs ++ x ∷ [])) p) (sym (last_pool from w.pool xs x))

-- the last of addends of values apart
pub split_last : (all : List Scaled) (n : ℕ) (d : Scaled) → n + 1 ≡ length all → addends_of_values (take n all) ++ addend_of (get_or all n d) ∷ [] ≡ addends_of_values all
split_last [] n d e = absurd (let bad : ⊥ = omega (arith, e) in bad)
split_last (x ∷ []) zero d e = refl
split_last (x ∷ []) (suc n) d e = absurd (let bad : ⊥ = omega (arith, e) in bad)
split_last (x ∷ y ∷ ys) zero d e = absurd (let bad : ⊥ = omega (arith, e) in bad)
split_last (x ∷ y ∷ ys) (suc n) d e = ap (λ (zs : List Addend). addend_of x ∷ zs) (split_last (y ∷ ys) n d (omega (arith, e)))

-- ---- what indices add

values_append : (xs ys : List Scaled) → addends_of_values (xs ++ ys) ≡ addends_of_values xs ++ addends_of_values ys
values_append [] ys = refl
values_append (x ∷ xs) ys = ap (λ (zs : List Addend). addend_of x ∷ zs) (values_append xs ys)

pub values_push : (xs : List Scaled) (x : Scaled) → addends_of_values (xs ++ x ∷ []) ≡ addends_of_values xs ++ addend_of x ∷ []
values_push xs x = values_append xs (x ∷ [])

pub values_none : (xs : List Addend) → xs ++ [] ≡ xs
values_none xs = append-nil xs

only-append : (xs ys : List Addend) → only_values (xs ++ ys) ≡ only_values xs ++ only_values ys
only-append [] ys = refl
only-append (Bytes count ∷ xs) ys = only-append xs ys
only-append (Times w number size ∷ xs) ys = ap (λ (zs : List Addend). Times w number size ∷ zs) (only-append xs ys)

bytes-append : (xs ys : List Addend) → bytes_in (xs ++ ys) ≡ bytes_in xs + bytes_in ys
bytes-append [] ys = omega arith
bytes-append (Bytes count ∷ xs) ys = let r = bytes-append xs ys in omega (arith, r)
bytes-append (Times w number size ∷ xs) ys = bytes-append xs ys

pub two_values : (xs ys all before between after : List Addend) → between ≡ before ++ only_values xs → after ≡ between ++ only_values ys → all ≡ xs ++ ys → after ≡ before ++ only_values all
two_values xs ys all before between after h k e =
    k ∙ ap (λ (zs : List Addend). zs ++ only_values ys) h ∙ append_assoc before (only_values xs) (only_values ys)
    ∙ ap (λ (zs : List Addend). before ++ zs) (sym (only-append xs ys) ∙ ap only_values (sym e))

pub two_counts : (bytes one two : ℕ) (xs ys all : List Addend) → one ≡ (bytes + bytes_in xs) % 2 ^ 64 → two ≡ (one + bytes_in ys) % 2 ^ 64 → all ≡ xs ++ ys → two ≡ (bytes + bytes_in all) % 2 ^ 64
two_counts bytes one two xs ys all h k e =
    let sum = bytes-append xs ys in
    let same = ap bytes_in e in
    omega (arith, h, k, sum, same)

-- what values add, and the bytes of literals behind that
then-last : (last all : List Addend) → values_then last all ≡ only_values all ++ last
then-last last [] = refl
then-last last (Bytes count ∷ more) = then-last last more
then-last last (Times w number size ∷ more) = ap (λ (zs : List Addend). Times w number size ∷ zs) (then-last last more)

pub in_their_order : (all scaled : List Addend) (bytes : ℕ) → scaled ≡ only_values all → bytes ≡ bytes_in all % 2 ^ 64 → scaled ++ offset bytes ≡ in_order all
in_their_order all scaled bytes e n = ap₂ (λ (zs : List Addend) (k : ℕ). zs ++ offset k) e n ∙ sym (then-last (offset (bytes_in all % 2 ^ 64)) all)

take_all : (xs : List (Ty × Operand)) (n : ℕ) → n ≡ length xs → take n xs ≡ xs
take_all [] zero e = refl
take_all [] (suc n) e = refl
take_all (x ∷ xs) zero e = absurd (omega (arith, e))
take_all (x ∷ xs) (suc n) e = ap (λ (ys : List (Ty × Operand)). x ∷ ys) (take_all xs n (omega (arith, e)))

-- the indices behind the first, as the code holds them
abbrev pub rest_of : List (Ty × Operand) → List (Ty × Operand)
rest_of indices = take (length indices - 1) (drop 1 indices)

pub split_first : (indices : List (Ty × Operand)) (d : Ty × Operand) → 1 ≤ length indices → indices ≡ get_or indices 0 d ∷ rest_of indices
split_first [] d h = absurd (omega arith)
split_first (i ∷ is) d h = ap (λ (xs : List (Ty × Operand)). i ∷ xs) (sym (take_all is (length (i ∷ is) - 1) (omega arith)))

pub read_apart : (indices : List (Ty × Operand)) (d : Ty × Operand) → 1 ≤ length indices → AreRead indices → IsRead (get_or indices 0 d) × AreRead (rest_of indices)
read_apart indices d h are = subst AreRead (split_first indices d h) are

pub none_into : (scaled : List Scaled) (indices : List (Ty × Operand)) (ty : MemTy) → length indices < 1 → addends_of_values scaled ≡ addends_of_values scaled ++ only_values (addends_into indices ty)
none_into scaled [] ty h = sym (append-nil (addends_of_values scaled))
none_into scaled (i ∷ is) ty h = absurd (let bad : ⊥ = omega (arith, h) in bad)

-- an index into an array
pub array_all : (ty element : MemTy) (count n : ℕ) (indices : List (Ty × Operand)) (d : Ty × Operand) → ty ≡ Array count element → 1 ≤ length indices → n ≡ size element
    → addends_into indices ty ≡ sized n (get_or indices 0 d).0 (get_or indices 0 d).1 ++ addends_into (rest_of indices) element
array_all ty element count n indices d e some is =
    let index : Ty × Operand = get_or indices 0 d in
    ap (λ (xs : List (Ty × Operand)). addends_into xs ty) (split_first indices d some)
    ∙ ap (λ (l : layer.MemTy-F MemTy). addends (addends_into (rest_of indices)) l index) (ap (λ (t : MemTy). out-MemTy t) e ∙ out-Array count element)
    ∙ ap (λ (k : ℕ). sized k index.0 index.1 ++ addends_into (rest_of indices) element) (sym is)

-- an index into a struct: the field's place, and what the rest adds in the field
pub struct_all : (ty field : MemTy) (fields : List MemTy) (packed : Bool) (i off : ℕ) (indices : List (Ty × Operand)) (d : Ty × Operand) → ty ≡ Struct fields packed → 1 ≤ length indices
    → i ≡ field_index (get_or indices 0 d).0 (get_or indices 0 d).1 → i < length fields → field ≡ get_or fields i field → off ≡ offset_of_field (map extent_of fields) packed i
    → addends_into indices ty ≡ Bytes off ∷ addends_into (rest_of indices) field
struct_all ty field fields packed i off indices d e some is below at far =
    let index : Ty × Operand = get_or indices 0 d in
    ap (λ (xs : List (Ty × Operand)). addends_into xs ty) (split_first indices d some)
    ∙ ap (λ (l : layer.MemTy-F MemTy). addends (addends_into (rest_of indices)) l index) (ap (λ (t : MemTy). out-MemTy t) e ∙ out-Struct fields packed)
    ∙ ap (λ (j : ℕ). Bytes (offset_of_field (map extent_of fields) packed j) ∷ of_field (addends_into (rest_of indices)) (slice_get fields j)) (sym is)
    ∙ ap₂ (λ (k : ℕ) (f : Option MemTy). Bytes k ∷ of_field (addends_into (rest_of indices)) f) (sym far) (some_at fields i field below at)

-- an index that names no field
pub struct_none : (ty : MemTy) (fields : List MemTy) (packed : Bool) (i off : ℕ) (indices : List (Ty × Operand)) (d : Ty × Operand) → ty ≡ Struct fields packed → 1 ≤ length indices
    → i ≡ field_index (get_or indices 0 d).0 (get_or indices 0 d).1 → length fields ≤ i → off ≡ offset_of_field (map extent_of fields) packed i → addends_into indices ty ≡ Bytes off ∷ []
struct_none ty fields packed i off indices d e some is past far =
    let index : Ty × Operand = get_or indices 0 d in
    ap (λ (xs : List (Ty × Operand)). addends_into xs ty) (split_first indices d some)
    ∙ ap (λ (l : layer.MemTy-F MemTy). addends (addends_into (rest_of indices)) l index) (ap (λ (t : MemTy). out-MemTy t) e ∙ out-Struct fields packed)
    ∙ ap (λ (j : ℕ). Bytes (offset_of_field (map extent_of fields) packed j) ∷ of_field (addends_into (rest_of indices)) (slice_get fields j)) (sym is)
    ∙ ap₂ (λ (k : ℕ) (f : Option MemTy). Bytes k ∷ of_field (addends_into (rest_of indices)) f) (sym far) (none_past fields i past)

pub indices_all : (ty : MemTy) (n : ℕ) (indices : List (Ty × Operand)) (d : Ty × Operand) → 1 ≤ length indices → n ≡ size ty
    → addends_of ty indices ≡ sized n (get_or indices 0 d).0 (get_or indices 0 d).1 ++ addends_into (rest_of indices) ty
indices_all ty n indices d some is =
    ap (λ (xs : List (Ty × Operand)). addends_of ty xs) (split_first indices d some)
    ∙ ap (λ (k : ℕ). sized k (get_or indices 0 d).0 (get_or indices 0 d).1 ++ addends_into (rest_of indices) ty) (sym is)

-- ---- how many types a type is made of

-- a field has few types and sizes as its struct does
pub record FieldFew (field : MemTy) : Type 0 where
  pub sizes : HasSizesWithin field
  pub few : nodes field ≤ 4096

pub field_is_few : (ty field : MemTy) (fields : List MemTy) (packed : Bool) (i : ℕ) → ty ≡ Struct fields packed → HasSizesWithin ty → nodes ty ≤ 4096 → i < length fields → field ≡ get_or fields i field → FieldFew field
field_is_few ty field fields packed i e sizes few below at =
    let one = field-few fields i field (some_at fields i field below at) in
    let all = nodes-Struct fields packed in
    let same = ap nodes e in
    record { sizes = field_within ty field fields packed i sizes e below at; few = omega (arith, one, all, same, few) }

pub element_is_few : (ty element : MemTy) (count : ℕ) → ty ≡ Array count element → HasSizesWithin ty → nodes ty ≤ 4096 → FieldFew element
element_is_few ty element count e sizes few =
    let one = element-few count element in
    let same = ap nodes e in
    record { sizes = element_within count element (subst HasSizesWithin e sizes); few = omega (arith, one, same, few) }

pub struct_is_few : (ty : MemTy) (fields : List MemTy) (packed : Bool) → ty ≡ Struct fields packed → HasSizesWithin ty → nodes ty ≤ 4096 → HasSizesWithin (Struct fields packed) × (length fields < 2 ^ 32)
struct_is_few ty fields packed e sizes few =
    let one = fields-few fields in
    let all = nodes-Struct fields packed in
    let same = ap nodes e in
    (subst HasSizesWithin e sizes, omega (arith, one, all, same, few))
