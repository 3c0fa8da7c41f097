-- What the code of an instruction reads has been written, where its operands' values are there.
use Rattle.std.proofs.Common.{◌≡◌, refl, ℕ, zero, suc, ◌+◌, ◌%◌, ◌^◌, inl, inr, Bool, true, false, List, [], ◌∷◌, ◌++◌, Option, Some, None}
use Rattle.std.specs.Prelude.{slice_get, take, ◌==◌, if◌then◌else◌}
use Rattle.ir_core.specs.declared.types.Ty.{Ty}
use Rattle.ir_core.specs.declared.types.Ty.TheVariants.{Int, Ptr}
use Rattle.ir_core.specs.declared.types.MemTy.{MemTy, out-MemTy}
use Rattle.ir_core.specs.declared.types.MemTy.TheOpen.{MemTy-F, Int as MemInt, Ptr as MemPtr, Array, Struct}
use Rattle.ir_core.specs.declared.code.Operand.{Operand}
use Rattle.ir_core.specs.declared.code.Operand.TheVariants.{Value as Local, Num, Null, Place, Poison}
use Rattle.ir_core.specs.declared.code.CastOp.{CastOp}
use Rattle.ir_core.specs.declared.code.CastOp.TheVariants as c
use Rattle.ir_core.specs.declared.code.BuiltIn.{BuiltIn}
use Rattle.ir_core.specs.declared.code.BuiltIn.TheVariants.{MemCpy, MemMove, MemSet, SMax, SMin, UMax, UMin, Abs}
use Rattle.ir_core.specs.declared.code.Op.{Op}
use Rattle.ir_core.specs.declared.code.Op.TheVariants.{Binary, Icmp, Cast, Select, Freeze, Phi, Alloca, Load, Store, Gep, Call, BuiltIn as CallBuiltIn, Ret, Br, CondBr, Switch, Unreachable}
use Rattle.ir_core.specs.declared.program.Global.{Global}
use Rattle.ir_core.specs.Layout.{size}
use Rattle.ir_flow.specs.Code.{places, is_phi}
use Rattle.ir_meaning.specs.Operators.{width}
use Rattle.ir_verify.proofs.Lists.{Every, every_both, every_map}
use Rattle.gmir.specs.declared.code.GOp.{GOp}
use Rattle.gmir.specs.declared.code.GOp.TheVariants as g
use Rattle.gmir.specs.declared.code.GInst.{GInst}
use Rattle.generic_code.specs.Literals.{Pool, plain, skip, loads, registers, behind_all}
use Rattle.generic_code.specs.Parts.{Addend, Bytes, Times, Left, sized, field_index, of_field, addends, addends_into, addends_of, bytes_in, offset, values_then, in_order, extended, exponent, scale_by, literal_64, with_literal, multiplied, left_of, sum_code, sum_pool, first_register}
use Rattle.generic_code.specs.Code.{Piece, one, address, cast, choice, negated, absolute, built_in, piece_of, chooses}
use Rattle.generic_laws.proofs.Scopes.{Or, After, Reads, after_keeps, after_both, reads_both, writes_it, Held, held_more, Can, CanBe, Loaded, loaded_gives}

-- ---- addends

abbrev pub Usable : (ℕ → Type 0) → Addend → Type 0
Usable S (Bytes n) = Unit {0}
Usable S (Times w number size) = S number

usable_more : (S T : ℕ → Type 0) → ((q : ℕ) → S q → T q) → (a : Addend) → Usable S a → Usable T a
usable_more S T h (Bytes n) u = tt
usable_more S T h (Times w number size) u = h number u

module _ (S : ℕ → Type 0) where
  sized_usable : (n : ℕ) (ty : Ty) (a : Operand) → CanBe S a → Every (Usable S) (sized n ty a)
  sized_usable n ty (Local number) c = (c, tt)
  sized_usable n ty (Num k) c = (tt, tt)
  sized_usable n ty Null c = tt
  sized_usable n ty (Place global off) c = tt
  sized_usable n ty Poison c = tt

  into_usable : (indices : List (Ty × Operand)) (ty : MemTy) → Every (Can S) indices → Every (Usable S) (addends_into indices ty)
  into_usable [] ty h = tt
  into_usable (index ∷ indices) ty h = by_layer (out-MemTy ty) (λ part. into_usable indices part h.1)
    where
      by_layer : (l : MemTy-F MemTy) → ((part : MemTy) → Every (Usable S) (addends_into indices part)) → Every (Usable S) (addends (addends_into indices) l index)
      by_layer (MemInt w) rest = tt
      by_layer MemPtr rest = tt
      by_layer (Array count element) rest = every_both (Usable S) (sized (size element) index.0 index.1) (addends_into indices element) (sized_usable (size element) index.0 index.1 h.0) (rest element)
      by_layer (Struct fields packed) rest = (tt, by_field (slice_get fields (field_index index.0 index.1)))
        where
          by_field : (o : Option MemTy) → Every (Usable S) (of_field (addends_into indices) o)
          by_field None = tt
          by_field (Some field) = rest field

  of_usable : (ty : MemTy) (indices : List (Ty × Operand)) → Every (Can S) indices → Every (Usable S) (addends_of ty indices)
  of_usable ty [] h = tt
  of_usable ty (index ∷ indices) h = every_both (Usable S) (sized (size ty) index.0 index.1) (addends_into indices ty) (sized_usable (size ty) index.0 index.1 h.0) (into_usable indices ty h.1)

  then_usable : (last all : List Addend) → Every (Usable S) last → Every (Usable S) all → Every (Usable S) (values_then last all)
  then_usable last [] h h' = h
  then_usable last (Bytes n ∷ more) h h' = then_usable last more h h'.1
  then_usable last (Times w number size ∷ more) h h' = (h'.0, then_usable last more h h'.1)

  offset_usable : (n : ℕ) → Every (Usable S) (offset n)
  offset_usable n = by_test (n == 0)
    where
      by_test : (t : Bool) → Every (Usable S) (if t then [] else Bytes n ∷ [])
      by_test true = tt
      by_test false = (tt, tt)

  order_usable : (all : List Addend) → Every (Usable S) all → Every (Usable S) (in_order all)
  order_usable all h = then_usable (offset (bytes_in all % 2 ^ 64)) all (offset_usable (bytes_in all % 2 ^ 64)) h

module _ (globals : List Global) where
  -- a piece of code whose registers are there, with the literals that are known behind it
  pub record Served (S : ℕ → Type 0) (piece : Piece) : Type 0 where
    pub reads : Reads S piece.code
    pub held : Held (After S piece.code) piece.pool

  -- code behind literals
  pub then_reads : (S : ℕ → Type 0) (pool : Pool) (ops : List (Ty × Operand)) (code : List GInst) → Loaded globals S pool ops → Reads (After S (loads globals pool ops)) code → Reads S (loads globals pool ops ++ code)
  then_reads S pool ops code l h = reads_both (loads globals pool ops) code S l.reads h

  pub then_held : (S : ℕ → Type 0) (pool : Pool) (ops : List (Ty × Operand)) (code : List GInst) → Loaded globals S pool ops → Held (After S (loads globals pool ops ++ code)) (behind_all globals pool ops)
  then_held S pool ops code l =
      held_more (After S (loads globals pool ops)) (After S (loads globals pool ops ++ code)) (λ q s. after_both (loads globals pool ops) code S q (after_keeps code (After S (loads globals pool ops)) q s)) (behind_all globals pool ops) l.held

  one_served : (S : ℕ → Type 0) (pool : Pool) (ops : List (Ty × Operand)) (op : GOp) (defs : List ℕ) (num : ℕ) (to : List ℕ) → Held S pool → Every (Can S) ops → Served S (one globals pool ops op defs num to)
  one_served S pool ops op defs num to h c =
      let l = loaded_gives globals ops S pool h c in
      let last : GInst = record { op = op; defs = defs; uses = registers globals pool ops; num = num; to = to } in
      record { reads = then_reads S pool ops (last ∷ []) l (l.there, tt); held = then_held S pool ops (last ∷ []) l }

  choice_served : (S : ℕ → Type 0) (pool : Pool) (value : ℕ) (ops : List (Ty × Operand)) (place : ℕ) → Held S pool → Every (Can S) ops → Served S (choice globals pool value ops place)
  choice_served S pool value ops place h c =
      let l = loaded_gives globals ops S pool h c in
      let B = After S (loads globals pool ops) in
      let d = (behind_all globals pool ops).next in
      let rs = registers globals pool ops in
      let first : GInst = plain g.Icmp (d ∷ []) rs place in
      let code : List GInst = first ∷ plain g.Select (value ∷ []) (d ∷ rs) 0 ∷ [] in
      record { reads = then_reads S pool ops code l (l.there, ((inr (writes_it d []), every_map B (Or B first) rs (λ q s. inl s) l.there), tt)); held = then_held S pool ops code l }

  negated_reads : (S : ℕ → Type 0) (next value : ℕ) (rs : List ℕ) → Every S rs → Reads S (negated globals next value rs)
  negated_reads S next value [] h = tt
  negated_reads S next value (a ∷ []) h = tt
  negated_reads S next value (a ∷ none ∷ more) h =
      ((h.1.0, (h.0, tt)), ((inl h.0, (inl h.1.0, tt)), ((inr (writes_it (next + 1) []), (inl (inr (writes_it next [])), (inl (inl h.0), tt))), tt)))

  absolute_served : (S : ℕ → Type 0) (pool : Pool) (value : ℕ) (ty : Ty) (ops : List (Ty × Operand)) → Held S pool → Every (Can S) ops → Served S (absolute globals pool value ty ops)
  absolute_served S pool value ty ops h c =
      let l = loaded_gives globals ops S pool h c in
      let code = negated globals (behind_all globals pool ops).next value (registers globals pool ops) in
      record { reads = then_reads S pool ops code l (negated_reads (After S (loads globals pool ops)) (behind_all globals pool ops).next value (registers globals pool ops) l.there); held = then_held S pool ops code l }

  address_served : (S : ℕ → Type 0) (wide : Bool) (pool : Pool) (value : ℕ) (ops : List (Ty × Operand)) → Held S pool → Every (Can S) ops → Served S (address globals wide pool value ops)
  address_served S true pool value ops h c = one_served S pool ops g.IntToPtr (value ∷ []) 0 [] h c
  address_served S false pool value ops h c =
      let l = loaded_gives globals ops S pool h c in
      let d = (behind_all globals pool ops).next in
      let code : List GInst = plain g.ZExt (d ∷ []) (registers globals pool ops) 0 ∷ plain g.IntToPtr (value ∷ []) (d ∷ []) 0 ∷ [] in
      record { reads = then_reads S pool ops code l (l.there, ((inr (writes_it d []), tt), tt)); held = then_held S pool ops code l }

  cast_served : (S : ℕ → Type 0) (pool : Pool) (value : ℕ) (from : Ty) (a : Operand) (o : CastOp) → Held S pool → CanBe S a → Served S (cast globals pool value from a o)
  cast_served S pool value from a c.Trunc h k = one_served S pool ((from, a) ∷ []) g.Trunc (value ∷ []) 0 [] h (k, tt)
  cast_served S pool value from a c.ZExt h k = one_served S pool ((from, a) ∷ []) g.ZExt (value ∷ []) 0 [] h (k, tt)
  cast_served S pool value from a c.SExt h k = one_served S pool ((from, a) ∷ []) g.SExt (value ∷ []) 0 [] h (k, tt)
  cast_served S pool value from a c.PtrToInt h k = one_served S pool ((from, a) ∷ []) g.PtrToInt (value ∷ []) 0 [] h (k, tt)
  cast_served S pool value from a c.IntToPtr h k = address_served S (width from == 64) pool value ((from, a) ∷ []) h (k, tt)
  cast_served S pool value from a c.Same h k = one_served S pool ((from, a) ∷ []) g.Copy (value ∷ []) 0 [] h (k, tt)

  some_can : (S : ℕ → Type 0) (n : ℕ) (ops : List (Ty × Operand)) → Every (Can S) ops → Every (Can S) (take n ops)
  some_can S zero [] h = tt
  some_can S zero (x ∷ xs) h = tt
  some_can S (suc n) [] h = tt
  some_can S (suc n) (x ∷ xs) h = (h.0, some_can S n xs h.1)

  built_served : (S : ℕ → Type 0) (pool : Pool) (value : ℕ) (ty : Ty) (arguments : List (Ty × Operand)) (which : BuiltIn) → Held S pool → Every (Can S) arguments → Served S (built_in globals pool value ty arguments which)
  built_served S pool value ty arguments MemCpy h k = one_served S pool (take 3 arguments) g.CopyBytes [] 0 [] h (some_can S 3 arguments k)
  built_served S pool value ty arguments MemMove h k = one_served S pool (take 3 arguments) g.CopyBytes [] 0 [] h (some_can S 3 arguments k)
  built_served S pool value ty arguments MemSet h k = one_served S pool (take 3 arguments) g.FillBytes [] 0 [] h (some_can S 3 arguments k)
  built_served S pool value ty arguments Abs h k = absolute_served S pool value ty (take 1 arguments ++ (ty, Num 0) ∷ []) h (every_both (Can S) (take 1 arguments) ((ty, Num 0) ∷ []) (some_can S 1 arguments k) (tt, tt))
  built_served S pool value ty arguments SMax h k = choice_served S pool value arguments (chooses SMax) h k
  built_served S pool value ty arguments SMin h k = choice_served S pool value arguments (chooses SMin) h k
  built_served S pool value ty arguments UMax h k = choice_served S pool value arguments (chooses UMax) h k
  built_served S pool value ty arguments UMin h k = choice_served S pool value arguments (chooses UMin) h k

  -- ---- addresses of parts

  record LeftServed (S : ℕ → Type 0) (left : Left) : Type 0 where
    reads : Reads S left.code
    held : Held (After S left.code) left.pool
    there : After S left.code left.register

  literal_left : (S : ℕ → Type 0) (pool : Pool) (n : ℕ) → Held S pool → Loaded globals S pool (literal_64 n)
  literal_left S pool n h = loaded_gives globals (literal_64 n) S pool h (tt, tt)

  extended_served : (S : ℕ → Type 0) (wide : Bool) (pool : Pool) (number : ℕ) → Held S pool → S number → LeftServed S (extended wide pool number)
  extended_served S true pool number h s = record { reads = tt; held = h; there = s }
  extended_served S false pool number h s =
      let last : GInst = plain g.SExt (pool.next ∷ []) (number ∷ []) 0 in
      record { reads = ((s, tt), tt); held = held_more S (Or S last) (λ q x. inl x) pool h; there = inr (writes_it pool.next []) }

  multiplied_served : (S : ℕ → Type 0) (n : ℕ) (pool : Pool) (number : ℕ) → Held S pool → S number → LeftServed S (multiplied globals n pool number)
  multiplied_served S n pool number h s = by_test (n == 1)
    where
      by_test : (t : Bool) → LeftServed S (if t then record { code = []; types = []; register = number; pool = pool } else with_literal globals (scale_by (exponent n) n) pool number)
      by_test true = record { reads = tt; held = h; there = s }
      by_test false =
          let k = (scale_by (exponent n) n).1 in
          let l = literal_left S pool k h in
          let d = (behind_all globals pool (literal_64 k)).next in
          let first = loads globals pool (literal_64 k) in
          let last : GInst = plain (scale_by (exponent n) n).0 (d ∷ []) (number ∷ registers globals pool (literal_64 k)) 0 in
          record {
            reads = then_reads S pool (literal_64 k) (last ∷ []) l ((after_keeps first S number s, l.there), tt);
            held = then_held S pool (literal_64 k) (last ∷ []) l;
            there = after_both first (last ∷ []) S d (inr (writes_it d []));
          }

  left_served : (S : ℕ → Type 0) (a : Addend) (pool : Pool) → Held S pool → Usable S a → LeftServed S (left_of globals a pool)
  left_served S (Bytes n) pool h u = let l = literal_left S pool n h in record { reads = l.reads; held = l.held; there = l.there.0 }
  left_served S (Times w number n) pool h u =
      let first = extended (w == 64) pool number in
      let one = extended_served S (w == 64) pool number h u in
      let second = multiplied globals (n % 2 ^ 64) first.pool first.register in
      let two = multiplied_served (After S first.code) (n % 2 ^ 64) first.pool first.register one.held one.there in
      record {
        reads = reads_both first.code second.code S one.reads two.reads;
        held = held_more (After (After S first.code) second.code) (After S (first.code ++ second.code)) (after_both first.code second.code S) second.pool two.held;
        there = after_both first.code second.code S second.register two.there;
      }

  record SumServed (S : ℕ → Type 0) (code : List GInst) (pool : Pool) : Type 0 where
    reads : Reads S code
    held : Held (After S code) pool

  sum_served : (all : List Addend) (S : ℕ → Type 0) (result from : ℕ) (pool : Pool) → Held S pool → S from → Every (Usable S) all → SumServed S (sum_code globals result from pool all) (sum_pool globals pool all)
  sum_served [] S result from pool h s u =
      let last : GInst = plain g.Copy (result ∷ []) (from ∷ []) 0 in
      record { reads = ((s, tt), tt); held = held_more S (Or S last) (λ q x. inl x) pool h }
  sum_served (a ∷ []) S result from pool h s u =
      let left = left_of globals a pool in
      let l = left_served S a pool h u.0 in
      let last : GInst = plain g.PtrAdd (result ∷ []) (from ∷ left.register ∷ []) 0 in
      record {
        reads = reads_both left.code (last ∷ []) S l.reads ((after_keeps left.code S from s, (l.there, tt)), tt);
        held = held_more (After S left.code) (After S (left.code ++ last ∷ [])) (λ q x. after_both left.code (last ∷ []) S q (inl x)) left.pool l.held;
      }
  sum_served (a ∷ two ∷ more) S result from pool h s u =
      let left = left_of globals a pool in
      let l = left_served S a pool h u.0 in
      let d = left.pool.next in
      let B = After S left.code in
      let add : GInst = plain g.PtrAdd (d ∷ []) (from ∷ left.register ∷ []) 0 in
      let rest = sum_code globals result d (skip 1 left.pool) (two ∷ more) in
      let ih = sum_served (two ∷ more) (Or B add) result d (skip 1 left.pool) (held_more B (Or B add) (λ q x. inl x) left.pool l.held) (inr (writes_it d []))
      (every_map (Usable S) (Usable (Or B add)) (two ∷ more) (λ x y. usable_more S (Or B add) (λ q z. inl (after_keeps left.code S q z)) x y) u.1) in
      record {
        reads = reads_both left.code (add ∷ rest) S l.reads ((after_keeps left.code S from s, (l.there, tt)), ih.reads);
        held = held_more (After (Or B add) rest) (After S (left.code ++ add ∷ rest)) (after_both left.code (add ∷ rest) S) (sum_pool globals (skip 1 left.pool) (two ∷ more)) ih.held;
      }

  part_served : (S : ℕ → Type 0) (pool : Pool) (value : ℕ) (base : Operand) (of : MemTy) (indices : List (Ty × Operand)) (ret ty : Ty) → Held S pool → Every (Can S) ((Ptr, base) ∷ indices) → Served S (piece_of globals ret value pool ty (Gep of base indices))
  part_served S pool value base of indices ret ty h c =
      let l = loaded_gives globals ((Ptr, base) ∷ []) S pool h (c.0, tt) in
      let first = loads globals pool ((Ptr, base) ∷ []) in
      let B = After S first in
      let pool' = behind_all globals pool ((Ptr, base) ∷ []) in
      let all = in_order (addends_of of indices) in
      let from = first_register (registers globals pool ((Ptr, base) ∷ [])) in
      let code = sum_code globals value from pool' all in
      let usable = every_map (Usable S) (Usable B) all (λ x y. usable_more S B (λ q z. after_keeps first S q z) x y) (order_usable S (addends_of of indices) (of_usable S of indices c.1)) in
      let sum = sum_served all B value from pool' l.held l.there.0 usable in
      record {
        reads = then_reads S pool ((Ptr, base) ∷ []) code l sum.reads;
        held = held_more (After B code) (After S (first ++ code)) (after_both first code S) (sum_pool globals pool' all) sum.held;
      }

  -- ---- each instruction

  pub piece_served : (S : ℕ → Type 0) (ret : Ty) (value : ℕ) (pool : Pool) (ty : Ty) (op : Op) → Held S pool → (is_phi op ≡ false → Every (Can S) (places ret ty op)) → Served S (piece_of globals ret value pool ty op)
  piece_served S ret value pool ty (Binary o flags x y) h k = one_served S pool ((ty, x) ∷ (ty, y) ∷ []) _ (value ∷ []) 0 [] h (k refl)
  piece_served S ret value pool ty (Icmp pred flags of x y) h k = one_served S pool ((of, x) ∷ (of, y) ∷ []) g.Icmp (value ∷ []) _ [] h (k refl)
  piece_served S ret value pool ty (Cast o flags from a) h k = cast_served S pool value from a o h (k refl).0
  piece_served S ret value pool ty (Select x y z) h k = one_served S pool ((Int 1, x) ∷ (ty, y) ∷ (ty, z) ∷ []) g.Select (value ∷ []) 0 [] h (k refl)
  piece_served S ret value pool ty (Freeze x) h k = one_served S pool ((ty, x) ∷ []) g.Copy (value ∷ []) 0 [] h (k refl)
  piece_served S ret value pool ty (Phi pairs) h k = one_served S pool [] g.Trap [] 0 [] h tt
  piece_served S ret value pool ty (Alloca of n) h k = one_served S pool [] g.TakeData (value ∷ []) _ [] h tt
  piece_served S ret value pool ty (Load x) h k = one_served S pool ((Ptr, x) ∷ []) g.Load (value ∷ []) _ [] h (k refl)
  piece_served S ret value pool ty (Store of x y) h k = one_served S pool ((of, x) ∷ (Ptr, y) ∷ []) g.Store [] _ [] h (k refl)
  piece_served S ret value pool ty (Gep of base indices) h k = part_served S pool value base of indices ret ty h (k refl)
  piece_served S ret value pool ty (Call callee arguments) h k = one_served S pool arguments g.Call _ 0 (callee ∷ []) h (k refl)
  piece_served S ret value pool ty (CallBuiltIn which arguments) h k = built_served S pool value ty arguments which h (k refl)
  piece_served S ret value pool ty (Ret None) h k = one_served S pool [] g.Return [] 0 [] h tt
  piece_served S ret value pool ty (Ret (Some a)) h k = one_served S pool ((ret, a) ∷ []) g.Return [] 0 [] h (k refl)
  piece_served S ret value pool ty (Br to) h k = one_served S pool [] g.Trap [] 0 [] h tt
  piece_served S ret value pool ty (CondBr x y z) h k = one_served S pool [] g.Trap [] 0 [] h tt
  piece_served S ret value pool ty (Switch of x otherwise cases) h k = one_served S pool [] g.Trap [] 0 [] h tt
  piece_served S ret value pool ty Unreachable h k = one_served S pool [] g.Trap [] 0 [] h tt
