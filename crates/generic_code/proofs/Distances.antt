-- What the indices of an address add is what its addends add.
use Rattle.std.proofs.Common.{◌≡◌, refl, sym, ap, subst, ℕ, ◌+◌, ◌*◌, ◌%◌, ◌^◌, ◌<◌, ◌≤◌, List, [], ◌∷◌, ◌++◌, length, Option, Some, None, Bool, true, false, cond, arith}
use Rattle.std.specs.Prelude.{slice_get, slice_index_or, map, ◌==◌}
use Rattle.ir_core.specs.Program.{Program}
use Rattle.ir_core.specs.declared.types.Ty.{Ty}
use Rattle.ir_core.specs.declared.types.Ty.TheVariants.{Void, Int, Ptr}
use Rattle.ir_core.specs.declared.types.MemTy.{MemTy, out-MemTy}
use Rattle.ir_core.specs.declared.types.MemTy.TheOpen.{MemTy-F, Int as MemInt, Ptr as MemPtr, Array, Struct}
use Rattle.ir_core.specs.declared.code.Operand.{Operand}
use Rattle.ir_core.specs.declared.code.Operand.TheVariants.{Value as Local, Num, Null, Place as PlaceOf, Poison}
use Rattle.ir_core.specs.Layout.{size, extent_of, offset_of_field}
use Rattle.ir_meaning.specs.Value.{Value}
use Rattle.ir_meaning.specs.Memory.{index_64, into_part, into_parts, distance}
use Rattle.ir_meaning.specs.Operators.{width}
use Rattle.ir_meaning.specs.Ranges.{FitsWidth}
use Rattle.ir_meaning.specs.Step.{operand, index_numbers}
use Rattle.ir_meaning.specs.Typed.{AreIndices, IsInteger, IsOperand}
use Rattle.ir_meaning.proofs.Keeping.{ValuesFit, operand-fits}
use Rattle.generic_code.specs.Parts.{Addend, Bytes, Times, sized, field_index, of_field, addends, addends_into, addends_of, bytes_in, offset, values_then, in_order}

-- ---- what an addend adds

-- the number of a value, where it has one
abbrev pub number_or_0 : Value → ℕ
number_or_0 None = 0
number_or_0 (Some n) = n

abbrev pub amount : List Value → Addend → ℕ
amount values (Bytes count) = count
amount values (Times w number size) = index_64 w (number_or_0 (slice_index_or values number None)) * size

abbrev pub total : List Value → List Addend → ℕ
total values [] = 0
total values (one ∷ more) = amount values one + total values more

-- a value whose number is added has one, of its width
abbrev pub IsGiven : List Value → Addend → Type 0
IsGiven values (Bytes count) = Unit {0}
IsGiven values (Times w number size) = (v : ℕ) × (slice_index_or values number None ≡ Some v) × (v < 2 ^ w)

abbrev pub AllGiven : List Value → List Addend → Type 0
AllGiven values [] = Unit {0}
AllGiven values (one ∷ more) = IsGiven values one × AllGiven values more

-- a value whose number is added is an integer of the width that is written
abbrev pub IsAddend : List Ty → Addend → Type 0
IsAddend tys (Bytes count) = Unit {0}
IsAddend tys (Times w number size) = (slice_get tys number ≡ Some (Int w)) × (1 ≤ w) × (w ≤ 64)

abbrev pub AreAddends : List Ty → List Addend → Type 0
AreAddends tys [] = Unit {0}
AreAddends tys (one ∷ more) = IsAddend tys one × AreAddends tys more

-- ---- indices: one of a struct is a literal

abbrev pub IsNamed : Operand → Type 0
IsNamed (Num n) = Unit {0}
IsNamed _ = ⊥

abbrev pub of_part : (MemTy → Type 0) → Option MemTy → Type 0
of_part rest None = Unit {0}
of_part rest (Some field) = rest field

abbrev pub named_in : (MemTy → Type 0) → MemTy-F MemTy → Ty × Operand → Type 0
named_in rest (MemInt w) index = Unit {0}
named_in rest MemPtr index = Unit {0}
named_in rest (Array count element) index = rest element
named_in rest (Struct fields packed) index = IsNamed index.1 × of_part rest (slice_get fields (field_index index.0 index.1))

abbrev pub AreNamed : List (Ty × Operand) → MemTy → Type 0
AreNamed [] ty = Unit {0}
AreNamed (index ∷ indices) ty = named_in (AreNamed indices) (out-MemTy ty) index

abbrev pub IsPath : List (Ty × Operand) → MemTy → Type 0
IsPath [] ty = Unit {0}
IsPath (index ∷ indices) ty = AreNamed indices ty

-- ---- lists of addends

pub append_addends : (tys : List Ty) (xs ys : List Addend) → AreAddends tys xs → AreAddends tys ys → AreAddends tys (xs ++ ys)
append_addends tys [] ys h h' = h'
append_addends tys (x ∷ xs) ys h h' = (h.0, append_addends tys xs ys h.1 h')

-- how many addends are of values
abbrev pub times_in : List Addend → ℕ
times_in [] = 0
times_in (Bytes count ∷ more) = times_in more
times_in (Times w number size ∷ more) = 1 + times_in more

times_append : (xs ys : List Addend) → times_in (xs ++ ys) ≡ times_in xs + times_in ys
times_append [] ys = omega arith
times_append (Bytes count ∷ xs) ys = times_append xs ys
times_append (Times w number size ∷ xs) ys = let ih = times_append xs ys in omega (arith, ih)

times_sized : (size : ℕ) (ty : Ty) (o : Operand) → times_in (sized size ty o) ≤ 1
times_sized size ty (Local number) = omega arith
times_sized size ty (Num n) = omega arith
times_sized size ty Null = omega arith
times_sized size ty (PlaceOf g o) = omega arith
times_sized size ty Poison = omega arith

times_into : (indices : List (Ty × Operand)) (ty : MemTy) → times_in (addends_into indices ty) ≤ length indices
times_into [] ty = omega arith
times_into (index ∷ indices) ty = by_layer (out-MemTy ty) (λ part. times_into indices part)
  where
    by_layer : (l : MemTy-F MemTy) → ((part : MemTy) → times_in (addends_into indices part) ≤ length indices) → times_in (addends (addends_into indices) l index) ≤ length (index ∷ indices)
    by_layer (MemInt w) rest = omega arith
    by_layer MemPtr rest = omega arith
    by_layer (Array count element) rest =
        let sum = times_append (sized (size element) index.0 index.1) (addends_into indices element) in
        let one = times_sized (size element) index.0 index.1 in
        let more = rest element in
        omega (arith, sum, one, more)
    by_layer (Struct fields packed) rest = by_field (slice_get fields (field_index index.0 index.1))
      where
        by_field : (o : Option MemTy) → times_in (of_field (addends_into indices) o) ≤ length (index ∷ indices)
        by_field None = omega arith
        by_field (Some field) = let more = rest field in omega (arith, more)

pub times_of : (ty : MemTy) (indices : List (Ty × Operand)) → times_in (addends_of ty indices) ≤ length indices
times_of ty [] = omega arith
times_of ty (index ∷ indices) =
    let sum = times_append (sized (size ty) index.0 index.1) (addends_into indices ty) in
    let one = times_sized (size ty) index.0 index.1 in
    let more = times_into indices ty in
    omega (arith, sum, one, more)

-- ---- in order

module _ (last : List Addend) where
  then_length : (all : List Addend) → length (values_then last all) ≡ times_in all + length last
  then_length [] = omega arith
  then_length (Bytes count ∷ more) = then_length more
  then_length (Times w number size ∷ more) = let ih = then_length more in omega (arith, ih)

  then_total : (values : List Value) (all : List Addend) → total values (values_then last all) + bytes_in all ≡ total values all + total values last
  then_total values [] = omega arith
  then_total values (Bytes count ∷ more) = let ih = then_total values more in omega (arith, ih)
  then_total values (Times w number size ∷ more) = let ih = then_total values more in omega (arith, ih)

  then_given : (values : List Value) (all : List Addend) → AllGiven values last → AllGiven values all → AllGiven values (values_then last all)
  then_given values [] g h = g
  then_given values (Bytes count ∷ more) g h = then_given values more g h.1
  then_given values (Times w number size ∷ more) g h = (h.0, then_given values more g h.1)

  then_addends : (tys : List Ty) (all : List Addend) → AreAddends tys last → AreAddends tys all → AreAddends tys (values_then last all)
  then_addends tys [] g h = g
  then_addends tys (Bytes count ∷ more) g h = then_addends tys more g h.1
  then_addends tys (Times w number size ∷ more) g h = (h.0, then_addends tys more g h.1)

offset_length : (count : ℕ) → length (offset count) ≤ 1
offset_length count = by_test (count == 0)
  where
    by_test : (b : Bool) → length (cond b [] (Bytes count ∷ [])) ≤ 1
    by_test true = omega arith
    by_test false = omega arith

offset_total : (values : List Value) (count : ℕ) → total values (offset count) ≡ count
offset_total values count = by_test (count == 0) refl
  where
    by_test : (b : Bool) → (count == 0) ≡ b → total values (cond b [] (Bytes count ∷ [])) ≡ count
    by_test true e = let zero_is : count ≡ 0 = grind (arith, e) in sym zero_is
    by_test false e = omega arith

offset_given : (values : List Value) (count : ℕ) → AllGiven values (offset count)
offset_given values count = by_test (count == 0)
  where
    by_test : (b : Bool) → AllGiven values (cond b [] (Bytes count ∷ []))
    by_test true = tt
    by_test false = (tt, tt)

offset_addends : (tys : List Ty) (count : ℕ) → AreAddends tys (offset count)
offset_addends tys count = by_test (count == 0)
  where
    by_test : (b : Bool) → AreAddends tys (cond b [] (Bytes count ∷ []))
    by_test true = tt
    by_test false = (tt, tt)

pub order_length : (all : List Addend) → length (in_order all) ≤ 1 + times_in all
order_length all =
    let e = then_length (offset (bytes_in all % 2 ^ 64)) all in
    let one = offset_length (bytes_in all % 2 ^ 64) in
    omega (arith, e, one)

pub order_addends : (tys : List Ty) (all : List Addend) → AreAddends tys all → AreAddends tys (in_order all)
order_addends tys all h = then_addends (offset (bytes_in all % 2 ^ 64)) tys all (offset_addends tys (bytes_in all % 2 ^ 64)) h

pub order_given : (values : List Value) (all : List Addend) → AllGiven values all → AllGiven values (in_order all)
order_given values all h = then_given (offset (bytes_in all % 2 ^ 64)) values all (offset_given values (bytes_in all % 2 ^ 64)) h

-- the sum in order is the same modulo two to 64
pub order_total : (values : List Value) (all : List Addend) (base : ℕ) → (base + total values (in_order all)) % 2 ^ 64 ≡ (base + total values all) % 2 ^ 64
order_total values all base =
    let e = then_total (offset (bytes_in all % 2 ^ 64)) values all in
    let o = offset_total values (bytes_in all % 2 ^ 64) in
    omega (arith, e, o)

-- ---- what indices add

pub typed_sized : (tys : List Ty) (size : ℕ) (ty : Ty) (o : Operand) → IsInteger ty → IsOperand tys ty o → AreAddends tys (sized size ty o)
typed_sized tys size Void (Local number) h is = absurd h
typed_sized tys size Ptr (Local number) h is = absurd h
typed_sized tys size (Int w) (Local number) h is = ((is, h.0, h.1), tt)
typed_sized tys size ty (Num n) h is = (tt, tt)
typed_sized tys size ty Null h is = tt
typed_sized tys size ty (PlaceOf g o) h is = tt
typed_sized tys size ty Poison h is = tt

typed_into : (tys : List Ty) (indices : List (Ty × Operand)) (ty : MemTy) → AreIndices tys indices → AreAddends tys (addends_into indices ty)
typed_into tys [] ty h = tt
typed_into tys (index ∷ indices) ty h = by_layer (out-MemTy ty) (λ part. typed_into tys indices part h.2)
  where
    by_layer : (l : MemTy-F MemTy) → ((part : MemTy) → AreAddends tys (addends_into indices part)) → AreAddends tys (addends (addends_into indices) l index)
    by_layer (MemInt w) rest = tt
    by_layer MemPtr rest = tt
    by_layer (Array count element) rest = append_addends tys (sized (size element) index.0 index.1) (addends_into indices element) (typed_sized tys (size element) index.0 index.1 h.0 h.1) (rest element)
    by_layer (Struct fields packed) rest = (tt, by_field (slice_get fields (field_index index.0 index.1)))
      where
        by_field : (o : Option MemTy) → AreAddends tys (of_field (addends_into indices) o)
        by_field None = tt
        by_field (Some field) = rest field

pub typed_addends : (tys : List Ty) (ty : MemTy) (indices : List (Ty × Operand)) → AreIndices tys indices → AreAddends tys (addends_of ty indices)
typed_addends tys ty [] h = tt
typed_addends tys ty (index ∷ indices) h = append_addends tys (sized (size ty) index.0 index.1) (addends_into indices ty) (typed_sized tys (size ty) index.0 index.1 h.0 h.1) (typed_into tys indices ty h.2)

-- addends of values that have numbers, which add up to so much
pub record Led (values : List Value) (all : List Addend) (far : ℕ) : Type 0 where
  pub given : AllGiven values all
  pub sum : total values all ≡ far

record Split (program : Program) (values : List Value) (index : Ty × Operand) (indices : List (Ty × Operand)) (ns : List ℕ) : Type 0 where
  v : ℕ
  more : List ℕ
  is : operand program values index.1 ≡ Some v
  rest : index_numbers program values indices ≡ Some more
  all : ns ≡ index_64 (width index.0) v ∷ more

some_same : {A : Type 0} {x y : A} → Some x ≡ Some y → x ≡ y
some_same h = cc

split_of : (program : Program) (values : List Value) (index : Ty × Operand) (indices : List (Ty × Operand)) (ns : List ℕ) → index_numbers program values (index ∷ indices) ≡ Some ns → Split program values index indices ns
split_of program values index indices ns e = by_parts (operand program values index.1) (index_numbers program values indices) refl refl
  where
    by_parts : (v : Value) (r : Option (List ℕ)) → operand program values index.1 ≡ v → index_numbers program values indices ≡ r → Split program values index indices ns
    by_parts None r ev er = absurd (let h : None ≡ Some ns = rw ev at e in let bad : ⊥ = cc in bad)
    by_parts (Some v) None ev er = absurd (let h : None ≡ Some ns = rw (ev, er) at e in let bad : ⊥ = cc in bad)
    by_parts (Some v) (Some more) ev er = record {
      v = v;
      more = more;
      is = ev;
      rest = er;
      all = (let h : Some (index_64 (width index.0) v ∷ more) ≡ Some ns = rw (ev, er) at e in sym (some_same h));
    }

module _ (program : Program) (tys : List Ty) (values : List Value) (fit : ValuesFit tys values) where
  led_sized : (size : ℕ) (ty : Ty) (o : Operand) (v far : ℕ) (more : List Addend) → IsInteger ty → IsOperand tys ty o → operand program values o ≡ Some v → Led values more far
      → Led values (sized size ty o ++ more) (index_64 (width ty) v * size + far)
  led_sized size ty (Local number) v far more h is e led =
      let s = led.sum in
      let fits = operand-fits program tys values ty (Local number) fit is in
      let same : number_or_0 (slice_index_or values number None) ≡ v = ap number_or_0 e in
      let product : index_64 (width ty) (number_or_0 (slice_index_or values number None)) * size ≡ index_64 (width ty) v * size = ap (λ (x : ℕ). index_64 (width ty) x * size) same in
      record { given = ((v, e, subst (FitsWidth (width ty)) e fits), led.given); sum = omega (arith, s, product) }
  led_sized size ty (Num k) v far more h is e led =
      let s = led.sum in
      let same : k ≡ v = some_same e in
      let product : index_64 (width ty) k * size ≡ index_64 (width ty) v * size = ap (λ (x : ℕ). index_64 (width ty) x * size) same in
      record { given = (tt, led.given); sum = omega (arith, s, product) }
  led_sized size Void Null v far more h is e led = absurd h
  led_sized size Ptr Null v far more h is e led = absurd h
  led_sized size (Int w) Null v far more h is e led = absurd (let bad : ⊥ = cc in bad)
  led_sized size Void (PlaceOf g o) v far more h is e led = absurd h
  led_sized size Ptr (PlaceOf g o) v far more h is e led = absurd h
  led_sized size (Int w) (PlaceOf g o) v far more h is e led = absurd (let bad : ⊥ = cc in bad)
  led_sized size ty Poison v far more h is e led = absurd (let bad : ⊥ = cc in bad)

  named_is : (ty : Ty) (o : Operand) (v : ℕ) → IsNamed o → operand program values o ≡ Some v → field_index ty o ≡ index_64 (width ty) v
  named_is ty (Num k) v h e = ap (index_64 (width ty)) (some_same e)
  named_is ty (Local number) v h e = absurd h
  named_is ty Null v h e = absurd h
  named_is ty (PlaceOf g o) v h e = absurd h
  named_is ty Poison v h e = absurd h

  led_into : (indices : List (Ty × Operand)) (ty : MemTy) (ns : List ℕ) → index_numbers program values indices ≡ Some ns → AreIndices tys indices → AreNamed indices ty → Led values (addends_into indices ty) (into_parts ns ty)
  led_into [] ty ns e are named = subst (λ (xs : List ℕ). Led values [] (into_parts xs ty)) (some_same e) (record { given = tt; sum = refl })
  led_into (index ∷ indices) ty ns e are named =
      let s = split_of program values index indices ns e in
      subst (λ (xs : List ℕ). Led values (addends_into (index ∷ indices) ty) (into_parts xs ty)) (sym s.all)
      (by_layer s (out-MemTy ty) (λ part named. led_into indices part s.more s.rest are.2 named) named)
    where
      by_layer : (s : Split program values index indices ns) (l : MemTy-F MemTy) → ((part : MemTy) → AreNamed indices part → Led values (addends_into indices part) (into_parts s.more part)) → named_in (AreNamed indices) l index
          → Led values (addends (addends_into indices) l index) (into_part (into_parts s.more) l (index_64 (width index.0) s.v))
      by_layer s (MemInt w) rest h = record { given = tt; sum = refl }
      by_layer s MemPtr rest h = record { given = tt; sum = refl }
      by_layer s (Array count element) rest h = led_sized (size element) index.0 index.1 s.v (into_parts s.more element) (addends_into indices element) are.0 are.1 s.is (rest element h)
      by_layer s (Struct fields packed) rest h =
          subst (λ (x : ℕ). Led values (addends (addends_into indices) (Struct fields packed) index) (into_part (into_parts s.more) (Struct fields packed) x)) (named_is index.0 index.1 s.v h.0 s.is)
          (by_field (slice_get fields (field_index index.0 index.1)) refl h.1)
        where
          off : ℕ
          off = offset_of_field (map extent_of fields) packed (field_index index.0 index.1)

          by_field : (o : Option MemTy) → slice_get fields (field_index index.0 index.1) ≡ o → of_part (AreNamed indices) o
              → Led values (Bytes off ∷ of_field (addends_into indices) o) (into_part (into_parts s.more) (Struct fields packed) (field_index index.0 index.1))
          by_field None e h =
              let inner : into_part (into_parts s.more) (Struct fields packed) (field_index index.0 index.1) ≡ off + 0 = rw e refl in
              subst (λ (d : ℕ). Led values (Bytes off ∷ []) d) (sym inner) (record { given = (tt, tt); sum = refl })
          by_field (Some field) e h =
              let inner : into_part (into_parts s.more) (Struct fields packed) (field_index index.0 index.1) ≡ off + into_parts s.more field = rw e refl in
              let led = rest field h in
              subst (λ (d : ℕ). Led values (Bytes off ∷ addends_into indices field) d) (sym inner) (record { given = (tt, led.given); sum = ap (λ (x : ℕ). off + x) led.sum })

  pub led_of : (ty : MemTy) (indices : List (Ty × Operand)) (ns : List ℕ) → index_numbers program values indices ≡ Some ns → AreIndices tys indices → IsPath indices ty → Led values (addends_of ty indices) (distance ty ns)
  led_of ty [] ns e are path = subst (λ (xs : List ℕ). Led values [] (distance ty xs)) (some_same e) (record { given = tt; sum = refl })
  led_of ty (index ∷ indices) ns e are path =
      let s = split_of program values index indices ns e in
      subst (λ (xs : List ℕ). Led values (addends_of ty (index ∷ indices)) (distance ty xs)) (sym s.all)
      (led_sized (size ty) index.0 index.1 s.v (into_parts s.more ty) (addends_into indices ty) are.0 are.1 s.is (led_into indices ty s.more s.rest are.2 path))
