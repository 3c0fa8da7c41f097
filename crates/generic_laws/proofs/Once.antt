-- Each register is written at most once: pieces write the number of their value and the further registers that they take, in order.
use Rattle.std.proofs.Common.{◌≡◌, refl, ap, ℕ, ◌+◌, ◌*◌, ◌%◌, ◌^◌, ◌≤◌, Bool, true, false, cond, List, [], ◌∷◌, ◌++◌, length, Option, Some, None, arith}
use Rattle.std.specs.Prelude.{take, ◌==◌, nat_lt, if◌then◌else◌}
use Rattle.std.proofs.lemmas.List.Sums.{sum_by-cons, sum_by-append}
use Rattle.ir_core.specs.Program.{Program}
use Rattle.ir_core.specs.Units.{is_result}
use Rattle.ir_core.specs.declared.types.Ty.{Ty}
use Rattle.ir_core.specs.declared.types.Ty.TheVariants.{Void, Int, Ptr}
use Rattle.ir_core.specs.declared.code.Operand.{Operand}
use Rattle.ir_core.specs.declared.code.Operand.TheVariants.{Num}
use Rattle.ir_core.specs.declared.code.CastOp.{CastOp}
use Rattle.ir_core.specs.declared.code.CastOp.TheVariants as c
use Rattle.ir_core.specs.declared.code.BuiltIn.{BuiltIn}
use Rattle.ir_core.specs.declared.code.BuiltIn.TheVariants.{MemCpy, MemMove, MemSet, SMax, SMin, UMax, UMin, Abs}
use Rattle.ir_core.specs.declared.code.Op.{Op}
use Rattle.ir_core.specs.declared.code.Op.TheVariants.{Binary, Icmp, Cast, Select, Freeze, Phi, Alloca, Load, Store, Gep, Call, BuiltIn as CallBuiltIn, Ret, Br, CondBr, Switch, Unreachable}
use Rattle.ir_core.specs.declared.program.Function.{Function}
use Rattle.ir_core.specs.declared.program.Global.{Global}
use Rattle.ir_core.specs.Layout.{size, aligned}
use Rattle.ir_meaning.specs.Memory.{byte_count}
use Rattle.ir_meaning.specs.Operators.{width}
use Rattle.ir_meaning.specs.Typed.{IsOp, IsBuiltIn}
use Rattle.gmir.specs.declared.code.GType.{GType}
use Rattle.gmir.specs.declared.code.GType.TheVariants.{S, P0}
use Rattle.gmir.specs.declared.code.GOp.{GOp}
use Rattle.gmir.specs.declared.code.GOp.TheVariants as g
use Rattle.gmir.specs.declared.code.GInst.{GInst}
use Rattle.gmir.specs.Formed.{times, written}
use Rattle.generic_code.specs.Literals.{Pool, plain, type_of, skip, literal, scalar_width, find, write_code, write_types, write_pool, load, loaded, behind, loads, all_loaded, registers, behind_all, empty_pool}
use Rattle.generic_code.specs.Parts.{Addend, Bytes, Times, extended, exponent, scale_by, literal_64, with_literal, multiplied, left_of, sum_code, sum_types, sum_pool, addends_of, in_order, first_register}
use Rattle.generic_code.specs.Code.{Piece, one, address, cast, choice, negated, absolute, built_in, result, piece_of, chooses, predicate}
use Rattle.generic_code.specs.Edges.{Ending, goes_to, spare, no_phis, edge_operands, edge_code, edge_types, edge_blocks, test_code, test_types, branch, tests, ending_of}
use Rattle.generic_code.proofs.Computes.{some_value, cast_to}
use Rattle.generic_code.proofs.Touches.{stored_value}
use Rattle.generic_laws.proofs.Pieces.{int_result}

pub append_long : {A : Type 0} (xs ys : List A) → length (xs ++ ys) ≡ length xs + length ys
append_long [] ys = omega arith
append_long (x ∷ xs) ys = let ih = append_long xs ys in omega (arith, ih)

times_cons : (r m : ℕ) (ms : List ℕ) → times r (m ∷ ms) ≡ cond (m == r) 1 0 + times r ms
times_cons r m ms = sum_by-cons (λ (k : ℕ). cond (k == r) 1 0) m ms

pub times_both : (r : ℕ) (xs ys : List ℕ) → times r (xs ++ ys) ≡ times r xs + times r ys
times_both r xs ys = sum_by-append (λ (k : ℕ). cond (k == r) 1 0) xs ys

module _ (r : ℕ) where
  -- a register below a bound counts 1
  abbrev pub below : ℕ → ℕ
  below n = cond (nat_lt r n) 1 0

  pub below_one : (n : ℕ) → below n ≤ 1
  below_one n = by_test (nat_lt r n)
    where
      by_test : (b : Bool) → cond b 1 0 ≤ 1
      by_test true = omega arith
      by_test false = omega arith

  pub below_more : (n m : ℕ) → n ≤ m → below n ≤ below m
  below_more n m l = by_test (nat_lt r n) refl
    where
      by_test : (b : Bool) → nat_lt r n ≡ b → cond b 1 0 ≤ below m
      by_test false e = omega arith
      by_test true e = let more : nat_lt r m ≡ true = grind (arith, e, l) in rw more (omega arith)

  pub below_next : (n : ℕ) → cond (n == r) 1 0 + below n ≤ below (n + 1)
  below_next n = by_test (n == r) refl
    where
      by_test : (b : Bool) → (n == r) ≡ b → cond b 1 0 + below n ≤ below (n + 1)
      by_test false e = let more = below_more n (n + 1) (omega arith) in omega (arith, more)
      by_test true e = let none : nat_lt r n ≡ false = grind (arith, e) in let some : nat_lt r (n + 1) ≡ true = grind (arith, e) in rw (none, some) (omega arith)

  -- how often it is written
  abbrev pub count : List GInst → ℕ
  count [] = 0
  count (i ∷ is) = times r i.defs + count is

  pub count_both : (xs ys : List GInst) → count (xs ++ ys) ≡ count xs + count ys
  count_both [] ys = omega arith
  count_both (x ∷ xs) ys = let ih = count_both xs ys in omega (arith, ih)

  pub count_is : (code : List GInst) → times r (written code) ≡ count code
  count_is [] = refl
  count_is (i ∷ is) = let ih = count_is is in let both = times_both r i.defs (written is) in omega (arith, ih, both)

  abbrev pub count_all : List (List GInst) → ℕ
  count_all [] = 0
  count_all (x ∷ xs) = count x + count_all xs

  pub count_all_both : (xs ys : List (List GInst)) → count_all (xs ++ ys) ≡ count_all xs + count_all ys
  count_all_both [] ys = omega arith
  count_all_both (x ∷ xs) ys = let ih = count_all_both xs ys in omega (arith, ih)

  -- an instruction that writes one register
  pub single : (d : ℕ) → times r (d ∷ []) ≡ cond (d == r) 1 0
  single d = let one = times_cons r d [] in omega (arith, one)

  -- ---- literals

  write_count : (o : Option ℕ) (key : ℕ × ℕ) (n : ℕ) (pool : Pool) → count (write_code o pool.next n) + below pool.next ≤ below (write_pool o key pool).next
  write_count None key n pool = let next = below_next pool.next in let one = single pool.next in omega (arith, next, one)
  write_count (Some q) key n pool = omega arith

  load_count : (o : Option ℕ) (ty : Ty) (pool : Pool) → count (load o ty pool) + below pool.next ≤ below (behind o ty pool).next
  load_count None ty pool = omega arith
  load_count (Some n) ty pool = write_count (find pool (scalar_width ty, n)) (scalar_width ty, n) n pool

  write_long : (o : Option ℕ) (key : ℕ × ℕ) (ty : GType) (pool : Pool) → (write_pool o key pool).next ≡ pool.next + length (write_types o ty)
  write_long None key ty pool = omega arith
  write_long (Some q) key ty pool = omega arith

  load_long : (o : Option ℕ) (ty : Ty) (pool : Pool) → (behind o ty pool).next ≡ pool.next + length (loaded o ty pool)
  load_long None ty pool = omega arith
  load_long (Some n) ty pool = write_long (find pool (scalar_width ty, n)) (scalar_width ty, n) (type_of ty) pool

  module _ (globals : List Global) where
    pub loads_count : (pool : Pool) (ops : List (Ty × Operand)) → count (loads globals pool ops) + below pool.next ≤ below (behind_all globals pool ops).next
    loads_count pool [] = omega arith
    loads_count pool (one ∷ more) =
        let first = load_count (literal globals one.1) one.0 pool in
        let rest = loads_count (behind (literal globals one.1) one.0 pool) more in
        let both = count_both (load (literal globals one.1) one.0 pool) (loads globals (behind (literal globals one.1) one.0 pool) more) in
        omega (arith, first, rest, both)

    pub loads_long : (pool : Pool) (ops : List (Ty × Operand)) → (behind_all globals pool ops).next ≡ pool.next + length (all_loaded globals pool ops)
    loads_long pool [] = omega arith
    loads_long pool (one ∷ more) =
        let first = load_long (literal globals one.1) one.0 pool in
        let rest = loads_long (behind (literal globals one.1) one.0 pool) more in
        let both = append_long (loaded (literal globals one.1) one.0 pool) (all_loaded globals (behind (literal globals one.1) one.0 pool) more) in
        omega (arith, first, rest, both)

    pub loads_then_count : (pool : Pool) (ops : List (Ty × Operand)) (code : List GInst) → count (loads globals pool ops ++ code) + below pool.next ≤ below (behind_all globals pool ops).next + count code
    loads_then_count pool ops code = let first = loads_count pool ops in let both = count_both (loads globals pool ops) code in omega (arith, first, both)

    -- ---- sums of addresses

    extended_count : (t : Bool) (pool : Pool) (number : ℕ) → count (extended t pool number).code + below pool.next ≤ below (extended t pool number).pool.next
    extended_count true pool number = omega arith
    extended_count false pool number = let next = below_next pool.next in let one = single pool.next in omega (arith, next, one)

    extended_long : (t : Bool) (pool : Pool) (number : ℕ) → (extended t pool number).pool.next ≡ pool.next + length (extended t pool number).types
    extended_long true pool number = omega arith
    extended_long false pool number = omega arith

    multiplied_count : (size : ℕ) (pool : Pool) (number : ℕ) → count (multiplied globals size pool number).code + below pool.next ≤ below (multiplied globals size pool number).pool.next
    multiplied_count size pool number = by_test (size == 1)
      where
        by_test : (t : Bool) → count (if t then record { code = []; types = []; register = number; pool = pool } else with_literal globals (scale_by (exponent size) size) pool number).code + below pool.next
            ≤ below (if t then record { code = []; types = []; register = number; pool = pool } else with_literal globals (scale_by (exponent size) size) pool number).pool.next
        by_test true = omega arith
        by_test false =
            let n = (scale_by (exponent size) size).1 in
            let d = (behind_all globals pool (literal_64 n)).next in
            let last : GInst = plain (scale_by (exponent size) size).0 (d ∷ []) (number ∷ registers globals pool (literal_64 n)) 0 in
            let all = loads_then_count pool (literal_64 (scale_by (exponent size) size).1) (last ∷ []) in
            let next = below_next d in
            let one = single d in
            omega (arith, all, next, one)

    multiplied_long : (size : ℕ) (pool : Pool) (number : ℕ) → (multiplied globals size pool number).pool.next ≡ pool.next + length (multiplied globals size pool number).types
    multiplied_long size pool number = by_test (size == 1)
      where
        by_test : (t : Bool) → (if t then record { code = []; types = []; register = number; pool = pool } else with_literal globals (scale_by (exponent size) size) pool number).pool.next
            ≡ pool.next + length (if t then record { code = []; types = []; register = number; pool = pool } else with_literal globals (scale_by (exponent size) size) pool number).types
        by_test true = omega arith
        by_test false =
            let long = loads_long pool (literal_64 (scale_by (exponent size) size).1) in
            let both = append_long (all_loaded globals pool (literal_64 (scale_by (exponent size) size).1)) (S 64 ∷ []) in
            omega (arith, long, both)

    left_count : (a : Addend) (pool : Pool) → count (left_of globals a pool).code + below pool.next ≤ below (left_of globals a pool).pool.next
    left_count (Bytes n) pool = loads_count pool (literal_64 n)
    left_count (Times w number size) pool =
        let first = extended (w == 64) pool number in
        let one = extended_count (w == 64) pool number in
        let two = multiplied_count (size % 2 ^ 64) first.pool first.register in
        let both = count_both first.code (multiplied globals (size % 2 ^ 64) first.pool first.register).code in
        omega (arith, one, two, both)

    left_long : (a : Addend) (pool : Pool) → (left_of globals a pool).pool.next ≡ pool.next + length (left_of globals a pool).types
    left_long (Bytes n) pool = loads_long pool (literal_64 n)
    left_long (Times w number size) pool =
        let first = extended (w == 64) pool number in
        let one = extended_long (w == 64) pool number in
        let two = multiplied_long (size % 2 ^ 64) first.pool first.register in
        let both = append_long first.types (multiplied globals (size % 2 ^ 64) first.pool first.register).types in
        omega (arith, one, two, both)

    sum_count : (result from : ℕ) (pool : Pool) (all : List Addend) → count (sum_code globals result from pool all) + below pool.next ≤ cond (result == r) 1 0 + below (sum_pool globals pool all).next
    sum_count result from pool [] = let one = single result in omega (arith, one)
    sum_count result from pool (a ∷ []) =
        let left = left_count a pool in
        let one = single result in
        let both = count_both (left_of globals a pool).code (plain g.PtrAdd (result ∷ []) (from ∷ (left_of globals a pool).register ∷ []) 0 ∷ []) in
        omega (arith, left, one, both)
    sum_count result from pool (a ∷ two ∷ more) =
        let target = left_of globals a pool in
        let left = left_count a pool in
        let one = single target.pool.next in
        let next = below_next target.pool.next in
        let ih = sum_count result target.pool.next (skip 1 target.pool) (two ∷ more) in
        let both = count_both target.code (plain g.PtrAdd (target.pool.next ∷ []) (from ∷ target.register ∷ []) 0 ∷ sum_code globals result target.pool.next (skip 1 target.pool) (two ∷ more)) in
        omega (arith, left, one, next, ih, both)

    sum_long : (pool : Pool) (all : List Addend) → (sum_pool globals pool all).next ≡ pool.next + length (sum_types globals pool all)
    sum_long pool [] = omega arith
    sum_long pool (a ∷ []) = left_long a pool
    sum_long pool (a ∷ two ∷ more) =
        let target = left_of globals a pool in
        let left = left_long a pool in
        let ih = sum_long (skip 1 target.pool) (two ∷ more) in
        let both = append_long target.types (P0 ∷ sum_types globals (skip 1 target.pool) (two ∷ more)) in
        omega (arith, left, ih, both)

    -- ---- pieces

    -- a piece writes its value's register and those that it takes
    abbrev pub Writes : ℕ → Pool → Piece → Type 0
    Writes value pool piece = (count piece.code + below pool.next ≤ cond (value == r) 1 0 + below piece.pool.next) × (piece.pool.next ≡ pool.next + length piece.types)

    abbrev pub WritesNone : Pool → Piece → Type 0
    WritesNone pool piece = (count piece.code + below pool.next ≤ below piece.pool.next) × (piece.pool.next ≡ pool.next + length piece.types)

    one_writes : (value : ℕ) (pool : Pool) (ops : List (Ty × Operand)) (op : GOp) (num : ℕ) (to : List ℕ) → Writes value pool (one globals pool ops op (value ∷ []) num to)
    one_writes value pool ops op num to =
        let all = loads_then_count pool ops (record { op = op; defs = value ∷ []; uses = registers globals pool ops; num = num; to = to } ∷ []) in let last = single value in
        (omega (arith, all, last), loads_long pool ops)

    one_none : (pool : Pool) (ops : List (Ty × Operand)) (op : GOp) (num : ℕ) (to : List ℕ) → WritesNone pool (one globals pool ops op [] num to)
    one_none pool ops op num to =
        let all = loads_then_count pool ops (record { op = op; defs = []; uses = registers globals pool ops; num = num; to = to } ∷ []) in let none : times r [] ≡ 0 = refl in
        (omega (arith, all, none), loads_long pool ops)

    further_long : (pool : Pool) (ops : List (Ty × Operand)) (more : List GType) → (behind_all globals pool ops).next + length more ≡ pool.next + length (all_loaded globals pool ops ++ more)
    further_long pool ops more = let long = loads_long pool ops in let both = append_long (all_loaded globals pool ops) more in omega (arith, long, both)

    choice_writes : (value : ℕ) (pool : Pool) (ops : List (Ty × Operand)) (place : ℕ) → Writes value pool (choice globals pool value ops place)
    choice_writes value pool ops place =
        let d = (behind_all globals pool ops).next in
        let all = loads_then_count pool ops (plain g.Icmp (d ∷ []) (registers globals pool ops) place ∷ plain g.Select (value ∷ []) (d ∷ registers globals pool ops) 0 ∷ []) in
        let next = below_next d in
        let one = single d in
        let last = single value in
        let long = further_long pool ops (S 1 ∷ []) in
        (omega (arith, all, next, one, last), omega (arith, long))

    negated_count : (next value : ℕ) (rs : List ℕ) → count (negated globals next value rs) ≤ cond (next == r) 1 0 + cond (next + 1 == r) 1 0 + cond (value == r) 1 0
    negated_count next value [] = omega arith
    negated_count next value (a ∷ []) = omega arith
    negated_count next value (a ∷ none ∷ more) = let one = single next in let two = single (next + 1) in let last = single value in omega (arith, one, two, last)

    absolute_writes : (value : ℕ) (pool : Pool) (ty : Ty) (ops : List (Ty × Operand)) → Writes value pool (absolute globals pool value ty ops)
    absolute_writes value pool ty ops =
        let d = (behind_all globals pool ops).next in
        let all = loads_then_count pool ops (negated globals d value (registers globals pool ops)) in
        let turned = negated_count d value (registers globals pool ops) in
        let next = below_next d in
        let next' = below_next (d + 1) in
        let more : below (d + 1 + 1) ≡ below (d + 2) = ap below (let z : d + 1 + 1 ≡ d + 2 = omega arith in z) in
        let long = further_long pool ops (type_of ty ∷ S 1 ∷ []) in
        (omega (arith, all, turned, next, next', more), omega (arith, long))

    address_writes : (wide : Bool) (value : ℕ) (pool : Pool) (ops : List (Ty × Operand)) → Writes value pool (address globals wide pool value ops)
    address_writes true value pool ops = one_writes value pool ops g.IntToPtr 0 []
    address_writes false value pool ops =
        let d = (behind_all globals pool ops).next in
        let all = loads_then_count pool ops (plain g.ZExt (d ∷ []) (registers globals pool ops) 0 ∷ plain g.IntToPtr (value ∷ []) (d ∷ []) 0 ∷ []) in
        let next = below_next d in
        let one = single d in
        let last = single value in
        let long = further_long pool ops (S 64 ∷ []) in
        (omega (arith, all, next, one, last), omega (arith, long))

    -- ---- each instruction

    -- the number of the next value behind one of a type
    abbrev pub value_behind : Ty → ℕ → ℕ
    value_behind ty value = if is_result ty then value + 1 else value

    abbrev pub PieceWrites : ℕ → Pool → Ty → Piece → Type 0
    PieceWrites value pool ty piece = (count piece.code + (below value + below pool.next) ≤ below (value_behind ty value) + below piece.pool.next) × (piece.pool.next ≡ pool.next + length piece.types)

    with_value : (value : ℕ) (pool : Pool) (ty : Ty) (piece : Piece) → is_result ty ≡ true → Writes value pool piece → PieceWrites value pool ty piece
    with_value value pool ty piece e h =
        let low = h.0 in
        let next = below_next value in
        let is : below (value_behind ty value) ≡ below (value + 1) = ap (λ (b : Bool). below (if b then value + 1 else value)) e in
        (omega (arith, low, next, is), h.1)

    value_more : (value : ℕ) (ty : Ty) → below value ≤ below (value_behind ty value)
    value_more value ty = by_test (is_result ty)
      where
        by_test : (b : Bool) → below value ≤ below (if b then value + 1 else value)
        by_test true = below_more value (value + 1) (omega arith)
        by_test false = omega arith

    without : (value : ℕ) (pool : Pool) (ty : Ty) (piece : Piece) → WritesNone pool piece → PieceWrites value pool ty piece
    without value pool ty piece h = let low = h.0 in let more = value_more value ty in (omega (arith, low, more), h.1)

    call_writes : (value : ℕ) (pool : Pool) (ty : Ty) (arguments : List (Ty × Operand)) (callee : ℕ) → PieceWrites value pool ty (one globals pool arguments g.Call (result ty value) 0 (callee ∷ []))
    call_writes value pool Void arguments callee = without value pool Void (one globals pool arguments g.Call [] 0 (callee ∷ [])) (one_none pool arguments g.Call 0 (callee ∷ []))
    call_writes value pool (Int w) arguments callee = with_value value pool (Int w) (one globals pool arguments g.Call (value ∷ []) 0 (callee ∷ [])) refl (one_writes value pool arguments g.Call 0 (callee ∷ []))
    call_writes value pool Ptr arguments callee = with_value value pool Ptr (one globals pool arguments g.Call (value ∷ []) 0 (callee ∷ [])) refl (one_writes value pool arguments g.Call 0 (callee ∷ []))

    cast_writes : (value : ℕ) (pool : Pool) (from : Ty) (a : Operand) (o : CastOp) → Writes value pool (cast globals pool value from a o)
    cast_writes value pool from a c.Trunc = one_writes value pool ((from, a) ∷ []) g.Trunc 0 []
    cast_writes value pool from a c.ZExt = one_writes value pool ((from, a) ∷ []) g.ZExt 0 []
    cast_writes value pool from a c.SExt = one_writes value pool ((from, a) ∷ []) g.SExt 0 []
    cast_writes value pool from a c.PtrToInt = one_writes value pool ((from, a) ∷ []) g.PtrToInt 0 []
    cast_writes value pool from a c.IntToPtr = address_writes (width from == 64) value pool ((from, a) ∷ [])
    cast_writes value pool from a c.Same = one_writes value pool ((from, a) ∷ []) g.Copy 0 []

    built_writes : (value : ℕ) (pool : Pool) (ty : Ty) (arguments : List (Ty × Operand)) (which : BuiltIn) (given : List Ty) → IsBuiltIn which given ty → PieceWrites value pool ty (built_in globals pool value ty arguments which)
    built_writes value pool ty arguments MemCpy given is = without value pool ty (one globals pool (take 3 arguments) g.CopyBytes [] 0 []) (one_none pool (take 3 arguments) g.CopyBytes 0 [])
    built_writes value pool ty arguments MemMove given is = without value pool ty (one globals pool (take 3 arguments) g.CopyBytes [] 0 []) (one_none pool (take 3 arguments) g.CopyBytes 0 [])
    built_writes value pool ty arguments MemSet given is = without value pool ty (one globals pool (take 3 arguments) g.FillBytes [] 0 []) (one_none pool (take 3 arguments) g.FillBytes 0 [])
    built_writes value pool ty arguments SMax given is = with_value value pool ty (choice globals pool value arguments (chooses SMax)) (int_result ty is.1) (choice_writes value pool arguments (chooses SMax))
    built_writes value pool ty arguments SMin given is = with_value value pool ty (choice globals pool value arguments (chooses SMin)) (int_result ty is.1) (choice_writes value pool arguments (chooses SMin))
    built_writes value pool ty arguments UMax given is = with_value value pool ty (choice globals pool value arguments (chooses UMax)) (int_result ty is.1) (choice_writes value pool arguments (chooses UMax))
    built_writes value pool ty arguments UMin given is = with_value value pool ty (choice globals pool value arguments (chooses UMin)) (int_result ty is.1) (choice_writes value pool arguments (chooses UMin))
    built_writes value pool ty arguments Abs given is = with_value value pool ty (absolute globals pool value ty (take 1 arguments ++ (ty, Num 0) ∷ [])) (int_result ty is.1) (absolute_writes value pool ty (take 1 arguments ++ (ty, Num 0) ∷ []))

    pub piece_writes : (program : Program) (function : Function) (value : ℕ) (pool : Pool) (ty : Ty) (op : Op) → IsOp program function ty op → PieceWrites value pool ty (piece_of globals function.ret value pool ty op)
    piece_writes program function value pool ty (Binary o flags x y) is = with_value value pool ty (piece_of globals function.ret value pool ty (Binary o flags x y)) (int_result ty is.0) (one_writes value pool ((ty, x) ∷ (ty, y) ∷ []) _ 0 [])
    piece_writes program function value pool ty (Icmp pred flags of x y) is = with_value value pool ty (piece_of globals function.ret value pool ty (Icmp pred flags of x y)) (ap is_result is.0) (one_writes value pool ((of, x) ∷ (of, y) ∷ []) g.Icmp (predicate pred) [])
    piece_writes program function value pool ty (Cast o flags from a) is = with_value value pool ty (cast globals pool value from a o) (some_value ty (cast_to o from ty is.0)).1 (cast_writes value pool from a o)
    piece_writes program function value pool ty (Select x y z) is = with_value value pool ty (piece_of globals function.ret value pool ty (Select x y z)) (some_value ty is.0).1 (one_writes value pool ((Int 1, x) ∷ (ty, y) ∷ (ty, z) ∷ []) g.Select 0 [])
    piece_writes program function value pool ty (Freeze x) is = with_value value pool ty (piece_of globals function.ret value pool ty (Freeze x)) (some_value ty is.0).1 (one_writes value pool ((ty, x) ∷ []) g.Copy 0 [])
    piece_writes program function value pool ty (Phi pairs) is = without value pool ty (one globals pool [] g.Trap [] 0 []) (one_none pool [] g.Trap 0 [])
    piece_writes program function value pool ty (Alloca of n) is = with_value value pool ty (piece_of globals function.ret value pool ty (Alloca of n)) (ap is_result is) (one_writes value pool [] g.TakeData (aligned (size of * n) 16) [])
    piece_writes program function value pool ty (Load x) is = with_value value pool ty (piece_of globals function.ret value pool ty (Load x)) (some_value ty (stored_value ty is.0)).1 (one_writes value pool ((Ptr, x) ∷ []) g.Load (8 * byte_count ty) [])
    piece_writes program function value pool ty (Store of x y) is = without value pool ty (piece_of globals function.ret value pool ty (Store of x y)) (one_none pool ((of, x) ∷ (Ptr, y) ∷ []) g.Store (8 * byte_count of) [])
    piece_writes program function value pool ty (Gep of base indices) is =
        let pool' = behind_all globals pool ((Ptr, base) ∷ []) in
        let from = first_register (registers globals pool ((Ptr, base) ∷ [])) in
        let all = in_order (addends_of of indices) in
        let first = loads_then_count pool ((Ptr, base) ∷ []) (sum_code globals value from pool' all) in
        let sum = sum_count value from pool' all in
        let long = loads_long pool ((Ptr, base) ∷ []) in
        let long' = sum_long pool' all in
        let both = append_long (all_loaded globals pool ((Ptr, base) ∷ [])) (sum_types globals pool' all) in
        with_value value pool ty (piece_of globals function.ret value pool ty (Gep of base indices)) (ap is_result is.0) (omega (arith, first, sum), omega (arith, long, long', both))
    piece_writes program function value pool ty (Call callee arguments) is = call_writes value pool ty arguments callee
    piece_writes program function value pool ty (CallBuiltIn which arguments) is = built_writes value pool ty arguments which _ is.0
    piece_writes program function value pool ty (Ret None) is = without value pool ty (one globals pool [] g.Return [] 0 []) (one_none pool [] g.Return 0 [])
    piece_writes program function value pool ty (Ret (Some a)) is = without value pool ty (one globals pool ((function.ret, a) ∷ []) g.Return [] 0 []) (one_none pool ((function.ret, a) ∷ []) g.Return 0 [])
    piece_writes program function value pool ty (Br to) is = without value pool ty (one globals pool [] g.Trap [] 0 []) (one_none pool [] g.Trap 0 [])
    piece_writes program function value pool ty (CondBr x y z) is = without value pool ty (one globals pool [] g.Trap [] 0 []) (one_none pool [] g.Trap 0 [])
    piece_writes program function value pool ty (Switch of x otherwise cases) is = without value pool ty (one globals pool [] g.Trap [] 0 []) (one_none pool [] g.Trap 0 [])
    piece_writes program function value pool ty Unreachable is = without value pool ty (one globals pool [] g.Trap [] 0 []) (one_none pool [] g.Trap 0 [])

    -- ---- ends of blocks

    -- an ending writes the registers that it takes
    abbrev pub EndWrites : ℕ → Ending → Type 0
    EndWrites next e = count e.code + (count_all e.later + below next) ≤ below (next + length e.types)

    module _ (function : Function) (from : ℕ) where
      edge_count : (pool : Pool) (to : ℕ) → count (edge_code globals function from pool to) + below pool.next ≤ below (pool.next + length (edge_types globals function from pool to))
      edge_count pool to =
          let all = loads_then_count pool (edge_operands globals function from to) (record { op = g.Br; defs = []; uses = []; num = 0; to = to ∷ [] } ∷ []) in
          let none : times r [] ≡ 0 = refl in
          let long = ap below (loads_long pool (edge_operands globals function from to)) in
          omega (arith, all, none, long)

      block_count : (next to : ℕ) → count_all (edge_blocks globals function from next to) + below next ≤ below (next + length (edge_types globals function from (empty_pool next) to))
      block_count next to = by_phis (no_phis globals function to)
        where
          by_phis : (n : Bool) → count_all (if n then [] else edge_code globals function from (empty_pool next) to ∷ []) + below next ≤ below (next + length (edge_types globals function from (empty_pool next) to))
          by_phis true = let more = below_more next (next + length (edge_types globals function from (empty_pool next) to)) (omega arith) in omega (arith, more)
          by_phis false = let low = edge_count (empty_pool next) to in omega (arith, low)

      branch_writes : (at next own bit if_one if_zero : ℕ) → EndWrites next (branch globals function from at next own bit if_one if_zero)
      branch_writes at next own bit if_one if_zero =
          let first = edge_types globals function from (empty_pool next) if_one in
          let second = next + length first in
          let last = edge_types globals function from (empty_pool second) if_zero in
          let one = block_count next if_one in
          let two = block_count second if_zero in
          let both = count_all_both (edge_blocks globals function from next if_one) (edge_blocks globals function from second if_zero) in
          let long = append_long first last in
          let same : below (second + length last) ≡ below (next + length (first ++ last)) = ap below (let z : second + length last ≡ next + length (first ++ last) = omega (arith, long) in z) in
          let none : times r [] ≡ 0 = refl in
          omega (arith, one, two, both, same, none)

      -- a test, with what stands behind it
      test_count : (of : Ty) (reg : ℕ) (pool : Pool) (n : ℕ) (code : List GInst) → count (test_code globals function from of reg pool n ++ code) + below pool.next ≤ below ((behind_all globals pool ((of, Num n) ∷ [])).next + 1) + count code
      test_count of reg pool n code =
          let d = (behind_all globals pool ((of, Num n) ∷ [])).next in
          let all = loads_then_count pool ((of, Num n) ∷ []) (plain g.Icmp (d ∷ []) (reg ∷ registers globals pool ((of, Num n) ∷ [])) 0 ∷ []) in
          let both = count_both (test_code globals function from of reg pool n) code in
          let one = single d in
          let next = below_next d in
          omega (arith, all, both, one, next)

      test_long : (of : Ty) (pool : Pool) (n : ℕ) (more : List GType) → (behind_all globals pool ((of, Num n) ∷ [])).next + 1 + length more ≡ pool.next + length (test_types globals function from of pool n ++ more)
      test_long of pool n more =
          let long = further_long pool ((of, Num n) ∷ []) (S 1 ∷ []) in
          let both = append_long (test_types globals function from of pool n) more in
          omega (arith, long, both)

      tests_writes : (cases : List (ℕ × ℕ)) (of : Ty) (reg otherwise at : ℕ) (pool : Pool) (own : ℕ) → EndWrites pool.next (tests globals function from of reg otherwise at pool own cases)
      tests_writes [] of reg otherwise at pool own = let low = edge_count pool otherwise in omega (arith, low)
      tests_writes (one ∷ []) of reg otherwise at pool own =
          let bit = (behind_all globals pool ((of, Num one.0) ∷ [])).next in
          let way = branch globals function from at (bit + 1) own bit one.1 otherwise in
          let first = test_count of reg pool one.0 way.code in
          let rest = branch_writes at (bit + 1) own bit one.1 otherwise in
          let same : below (bit + 1 + length way.types) ≡ below (pool.next + length (test_types globals function from of pool one.0 ++ way.types)) = ap below (test_long of pool one.0 way.types) in
          omega (arith, first, rest, same)
      tests_writes (one ∷ two ∷ cases) of reg otherwise at pool own =
          let bit = (behind_all globals pool ((of, Num one.0) ∷ [])).next in
          let edge_tys = edge_types globals function from (empty_pool (bit + 1)) one.1 in
          let next = bit + 1 + length edge_tys in
          let on = own + spare globals function one.1 in
          let rest = tests globals function from of reg otherwise on (empty_pool next) (on + 1) (two ∷ cases) in
          let ih = tests_writes (two ∷ cases) of reg otherwise on (empty_pool next) (on + 1) in
          let jump : GInst = record { op = g.BrCond; defs = []; uses = bit ∷ []; num = 0; to = goes_to globals function from own one.1 ∷ on ∷ [] } in
          let first = test_count of reg pool one.0 (jump ∷ []) in
          let edge = block_count (bit + 1) one.1 in
          let both = count_all_both (edge_blocks globals function from (bit + 1) one.1) (rest.code ∷ rest.later) in
          let long = test_long of pool one.0 (edge_tys ++ rest.types) in
          let inner = append_long edge_tys rest.types in
          let flat = append_long (test_types globals function from of pool one.0 ++ edge_tys) rest.types in
          let flat' = append_long (test_types globals function from of pool one.0) edge_tys in
          let outer = append_long (test_types globals function from of pool one.0) (edge_tys ++ rest.types) in
          let same : below (next + length rest.types) ≡ below (pool.next + length ((test_types globals function from of pool one.0 ++ edge_tys) ++ rest.types)) = ap below (let z : next + length rest.types ≡ pool.next + length ((test_types globals function from of pool one.0 ++ edge_tys) ++ rest.types) = omega (arith, long, inner, flat, flat', outer) in z) in
          let none : times r [] ≡ 0 = refl in
          omega (arith, ih, first, edge, both, same, none)

      pub ending_writes : (pool : Pool) (own : ℕ) (op : Op) → EndWrites pool.next (ending_of globals function from pool own op)
      ending_writes pool own (Br to) = let low = edge_count pool to in omega (arith, low)
      ending_writes pool own (CondBr x y z) =
          let way = branch globals function from from (behind_all globals pool ((Int 1, x) ∷ [])).next own (first_register (registers globals pool ((Int 1, x) ∷ []))) y z in
          let rest = branch_writes from (behind_all globals pool ((Int 1, x) ∷ [])).next own (first_register (registers globals pool ((Int 1, x) ∷ []))) y z in
          let first = loads_then_count pool ((Int 1, x) ∷ []) way.code in
          let same = ap below (further_long pool ((Int 1, x) ∷ []) way.types) in
          omega (arith, rest, first, same)
      ending_writes pool own (Switch of a otherwise cases) =
          let way = tests globals function from of (first_register (registers globals pool ((of, a) ∷ []))) otherwise from (behind_all globals pool ((of, a) ∷ [])) own cases in
          let rest = tests_writes cases of (first_register (registers globals pool ((of, a) ∷ []))) otherwise from (behind_all globals pool ((of, a) ∷ [])) own in
          let first = loads_then_count pool ((of, a) ∷ []) way.code in
          let same = ap below (further_long pool ((of, a) ∷ []) way.types) in
          omega (arith, rest, first, same)
      ending_writes pool own op = let same = ap below (let z : pool.next ≡ pool.next + 0 = omega arith in z) in omega (arith, same)
