-- Each instruction of a piece has the form of its operation: sums of addresses, built-ins, casts, and each kind of instruction.
use Rattle.std.proofs.Common.{◌≡◌, refl, sym, ap, subst, ◌∙◌, ℕ, ◌+◌, ◌%◌, ◌^◌, ◌<◌, ◌≤◌, Bool, true, false, List, [], ◌∷◌, ◌++◌, Option, Some, None, arith}
use Rattle.std.specs.Prelude.{slice_get, ◌==◌, ◌&&◌, nat_lt, take, if◌then◌else◌}
use Rattle.std.specs.Int.{w64, trailing_zeros}
use Rattle.std.proofs.lemmas.Bool.{and_parts}
use Rattle.ir_core.specs.Program.{Program}
use Rattle.ir_core.specs.Units.{types_of_arguments, is_result}
use Rattle.ir_core.specs.declared.types.Ty.{Ty}
use Rattle.ir_core.specs.declared.types.Ty.TheVariants.{Void, Int, Ptr}
use Rattle.ir_core.specs.declared.code.Operand.{Operand}
use Rattle.ir_core.specs.declared.code.Operand.TheVariants.{Num}
use Rattle.ir_core.specs.declared.code.BinOp.TheVariants as b
use Rattle.ir_core.specs.declared.code.Pred.{Pred}
use Rattle.ir_core.specs.declared.code.Pred.TheVariants as p
use Rattle.ir_core.specs.declared.code.CastOp.{CastOp}
use Rattle.ir_core.specs.declared.code.CastOp.TheVariants as c
use Rattle.ir_core.specs.declared.code.BuiltIn.{BuiltIn}
use Rattle.ir_core.specs.declared.code.BuiltIn.TheVariants.{MemCpy, MemMove, MemSet, SMax, SMin, UMax, UMin, Abs}
use Rattle.ir_core.specs.declared.program.Function.{Function}
use Rattle.ir_core.specs.declared.program.Global.{Global}
use Rattle.ir_meaning.specs.Operators.{width}
use Rattle.ir_meaning.specs.Typed.{types, IsOperand, IsInteger, IsValueType, IsBuiltIn, AreArguments, IsCast}
use Rattle.ir_verify.proofs.Lists.{Every, every_both}
use Rattle.gmir.specs.declared.code.GType.{GType}
use Rattle.gmir.specs.declared.code.GType.TheVariants.{S, P0}
use Rattle.gmir.specs.declared.code.GOp.{GOp}
use Rattle.gmir.specs.declared.code.GOp.TheVariants as g
use Rattle.gmir.specs.declared.code.GInst.{GInst}
use Rattle.gmir.specs.declared.code.GFunction.{GFunction}
use Rattle.walks.specs.Registers.{Registers, write}
use Rattle.walks.specs.Bits.{free}
use Rattle.generic_code.specs.Literals.{Pool, plain, type_of, skip, loads, all_loaded, registers, behind_all}
use Rattle.generic_code.specs.Parts.{Addend, Bytes, Times, Left, extended, exponent, scale_by, literal_64, with_literal, multiplied, left_of, sum_code, sum_types}
use Rattle.generic_code.specs.Code.{predicate, one, address, cast, choice, absolute, built_in}
use Rattle.generic_code.proofs.Loads.{Stand, stand_front, stand_first, stand_tail, stand_behind, Known, known_next, ValuesTyped, AreTyped}
use Rattle.generic_code.proofs.Computes.{integer_value, cast_value}
use Rattle.generic_code.proofs.Pieces.{two_of, four_of, length_value}
use Rattle.generic_code.proofs.Addresses.{left_stand, AreShort}
use Rattle.generic_code.proofs.Distances.{IsAddend, AreAddends}
use Rattle.generic_code.proofs.Wide.{narrow}
use Rattle.generic_laws.proofs.Typing.{HeldBehind, registers_have, behind_ops, behind_one, two_typed, three_typed, abs_typed}
use Rattle.generic_laws.proofs.Forms.{Good, good_binary, good_icmp, good_select, good_copy, good_zext, good_sext, good_trunc, good_to_number, good_to_address, good_add, good_copy_bytes, good_fill_bytes, loads_good}

pub predicate_low : (o : Pred) → predicate o < 10
predicate_low p.Eq = omega arith
predicate_low p.Ne = omega arith
predicate_low p.Ugt = omega arith
predicate_low p.Uge = omega arith
predicate_low p.Ult = omega arith
predicate_low p.Ule = omega arith
predicate_low p.Sgt = omega arith
predicate_low p.Sge = omega arith
predicate_low p.Slt = omega arith
predicate_low p.Sle = omega arith

-- the scale of a size is a number of 64 bits
scale_low : (size : ℕ) → size < 2 ^ 64 → (scale_by (exponent size) size).1 < 2 ^ 64
scale_low size l = by_test (nat_lt (trailing_zeros w64 size) 64 && size == 2 ^ trailing_zeros w64 size) refl
  where
    by_test : (t : Bool) → (nat_lt (trailing_zeros w64 size) 64 && size == 2 ^ trailing_zeros w64 size) ≡ t → (scale_by (if t then Some (trailing_zeros w64 size) else None) size).1 < 2 ^ 64
    by_test false e = l
    by_test true e =
        let first = (and_parts (nat_lt (trailing_zeros w64 size) 64) (size == 2 ^ trailing_zeros w64 size) e).0 in
        let low : trailing_zeros w64 size < 64 = grind (arith, first) in omega (arith, low)

pub int_result : (ty : Ty) → IsInteger ty → is_result ty ≡ true
int_result Void h = absurd h
int_result (Int w) h = refl
int_result Ptr h = absurd h

module _ (program : Program) (function : Function) (f : GFunction) (typed : ValuesTyped program f (types function) []) where
  abbrev gl : List Global
  gl = program.module_.globals

  abbrev G : GInst → Type 0
  G i = Good f i

  abbrev HB : Pool → Type 0
  HB pool = HeldBehind program function f typed pool

  literal_are : (n : ℕ) → n < 2 ^ 64 → AreTyped program f (types function) [] (literal_64 n)
  literal_are n l = ((omega arith, omega arith), l, tt)

  -- ---- one addend

  record LeftGood (left : Left) : Type 0 where
    code : Every G left.code
    register : slice_get f.types left.register ≡ Some (S 64)
    held : HB left.pool

  scaled_good : (o : Option ℕ) (size d x y : ℕ) → slice_get f.types d ≡ Some (S 64) → slice_get f.types x ≡ Some (S 64) → slice_get f.types y ≡ Some (S 64) → G (plain (scale_by o size).0 (d ∷ []) (x ∷ y ∷ []) 0)
  scaled_good None size d x y h i j = good_binary f b.Mul d x y 64 h i j
  scaled_good (Some k) size d x y h i j = good_binary f b.Shl d x y 64 h i j

  multiplied_good : (size : ℕ) (pool : Pool) (regs : Registers) (number : ℕ) → size < 2 ^ 64 → Known f (types function) pool regs → slice_get f.types number ≡ Some (S 64) → Stand f.types pool.next (multiplied gl size pool number).types → LeftGood (multiplied gl size pool number)
  multiplied_good size pool regs number l held has stand = by_one (size == 1) stand
    where
      scale : GOp × ℕ
      scale = scale_by (exponent size) size

      by_one : (t : Bool) → Stand f.types pool.next (if t then record { code = []; types = []; register = number; pool = pool } else with_literal gl (scale_by (exponent size) size) pool number).types
          → LeftGood (if t then record { code = []; types = []; register = number; pool = pool } else with_literal gl (scale_by (exponent size) size) pool number)
      by_one true stand = record { code = tt; register = has; held = (regs, held) }
      by_one false stand =
          let n = (scale_by (exponent size) size).1 in
          let are = literal_are (scale_by (exponent size) size).1 (scale_low size l) in
          let front = stand_front f.types pool.next (all_loaded gl pool (literal_64 n)) (S 64 ∷ []) stand in
          let last = stand_first f.types (behind_all gl pool (literal_64 n)).next (S 64) [] (stand_behind gl f.types (literal_64 n) pool (S 64 ∷ []) stand) in
          let have = registers_have program function f typed (literal_64 (scale_by (exponent size) size).1) pool regs are held front in
          record {
            code = every_both G (loads gl pool (literal_64 n)) (plain (scale_by (exponent size) size).0 ((behind_all gl pool (literal_64 n)).next ∷ []) (number ∷ registers gl pool (literal_64 n)) 0 ∷ [])
                (loads_good program function f typed (literal_64 (scale_by (exponent size) size).1) pool are front) (scaled_good (exponent size) size _ number _ last has have.0, tt);
            register = last;
            held = behind_one program function f typed pool regs held (literal_64 (scale_by (exponent size) size).1) (S 64) are stand;
          }

  extended_good : (w : ℕ) (t : Bool) (pool : Pool) (regs : Registers) (number : ℕ) → (w == 64) ≡ t → w ≤ 64 → Known f (types function) pool regs → slice_get f.types number ≡ Some (S w) → Stand f.types pool.next (extended t pool number).types → LeftGood (extended t pool number)
  extended_good w true pool regs number e most held has stand =
      let same : w ≡ 64 = grind (arith, e) in record { code = tt; register = subst (λ (v : ℕ). slice_get f.types number ≡ Some (S v)) same has; held = (regs, held) }
  extended_good w false pool regs number e most held has stand =
      let less : w < 64 = grind (arith, e, most) in
      let next = stand_first f.types pool.next (S 64) [] stand in
      record { code = (good_sext f pool.next number 64 w next has less, tt); register = next; held = (write regs pool.next free, known_next f (types function) pool regs free held) }

  left_good : (a : Addend) (pool : Pool) (regs : Registers) → IsAddend (types function) a → ((count : ℕ) → a ≡ Bytes count → count < 2 ^ 64) → Known f (types function) pool regs → Stand f.types pool.next (left_of gl a pool).types → LeftGood (left_of gl a pool)
  left_good (Bytes count) pool regs is short held stand =
      let are = literal_are count (short count refl) in
      record {
        code = loads_good program function f typed (literal_64 count) pool are stand;
        register = (registers_have program function f typed (literal_64 count) pool regs are held stand).0;
        held = behind_ops program function f typed pool regs held (literal_64 count) are stand;
      }
  left_good (Times w number size) pool regs is short held stand =
      let first = extended gl_width pool number in
      let low : size % 2 ^ 64 < 2 ^ 64 = omega arith in
      let one = extended_good w (w == 64) pool regs number refl is.2 held (typed number (Int w) is.0) (stand_front f.types pool.next (extended (w == 64) pool number).types (multiplied gl (size % 2 ^ 64) (extended (w == 64) pool number).pool (extended (w == 64) pool number).register).types stand) in
      let two = multiplied_good (size % 2 ^ 64) (extended (w == 64) pool number).pool one.held.0 (extended (w == 64) pool number).register low one.held.1 one.register (behind_extended (w == 64) stand) in
      record { code = every_both G (extended (w == 64) pool number).code (multiplied gl (size % 2 ^ 64) (extended (w == 64) pool number).pool (extended (w == 64) pool number).register).code one.code two.code; register = two.register; held = two.held }
    where
      gl_width : Bool
      gl_width = w == 64

      behind_extended : (t : Bool) → Stand f.types pool.next ((extended t pool number).types ++ (multiplied gl (size % 2 ^ 64) (extended t pool number).pool (extended t pool number).register).types)
          → Stand f.types (extended t pool number).pool.next (multiplied gl (size % 2 ^ 64) (extended t pool number).pool (extended t pool number).register).types
      behind_extended true st = st
      behind_extended false st = stand_tail f.types pool.next (S 64) (multiplied gl (size % 2 ^ 64) (extended false pool number).pool (extended false pool number).register).types st

  -- ---- all addends

  pub sum_good : (all : List Addend) (result from : ℕ) (pool : Pool) (regs : Registers) → AreAddends (types function) all → AreShort program f (types function) [] typed all → Known f (types function) pool regs
      → slice_get f.types result ≡ Some P0 → slice_get f.types from ≡ Some P0 → Stand f.types pool.next (sum_types gl pool all) → Every G (sum_code gl result from pool all)
  sum_good [] result from pool regs are short held h i stand = (good_copy f result from P0 h i, tt)
  sum_good (a ∷ []) result from pool regs are short held h i stand =
      let left = left_good a pool regs are.0 short.0 held stand in
      every_both G (left_of gl a pool).code (plain g.PtrAdd (result ∷ []) (from ∷ (left_of gl a pool).register ∷ []) 0 ∷ []) left.code (good_add f result from (left_of gl a pool).register h i left.register, tt)
  sum_good (a ∷ two ∷ more) result from pool regs are short held h i stand =
      let target = left_of gl a pool in
      let rest_types = sum_types gl (skip 1 (left_of gl a pool).pool) (two ∷ more) in
      let left = left_good a pool regs are.0 short.0 held (stand_front f.types pool.next target.types (P0 ∷ rest_types) stand) in
      let behind = left_stand program f (types function) [] typed a pool (P0 ∷ rest_types) stand in
      let next = stand_first f.types target.pool.next P0 rest_types behind in
      let rest = sum_good (two ∷ more) result target.pool.next (skip 1 target.pool) (write left.held.0 target.pool.next free) are.1 short.1 (known_next f (types function) target.pool left.held.0 free left.held.1) h next
      (stand_tail f.types target.pool.next P0 rest_types behind) in
      every_both G target.code (plain g.PtrAdd (target.pool.next ∷ []) (from ∷ target.register ∷ []) 0 ∷ sum_code gl result target.pool.next (skip 1 target.pool) (two ∷ more)) left.code
      (good_add f target.pool.next from target.register next i left.register, rest)

  -- ---- built-ins and casts

  int_type : (ty : Ty) → IsInteger ty → type_of ty ≡ S (width ty)
  int_type Void h = absurd h
  int_type (Int w) h = refl
  int_type Ptr h = absurd h

  -- the register of an integer type
  pub int_has : (r : ℕ) (ty : Ty) → IsInteger ty → slice_get f.types r ≡ Some (type_of ty) → slice_get f.types r ≡ Some (S (width ty))
  int_has r ty integer e = e ∙ ap (λ (t : GType). Some t) (int_type ty integer)

  pointer_has : (r : ℕ) (ty : Ty) → ty ≡ Ptr → slice_get f.types r ≡ Some (type_of ty) → slice_get f.types r ≡ Some P0
  pointer_has r ty is e = e ∙ ap (λ (t : Ty). Some (type_of t)) is

  module _ (pool : Pool) (regs : Registers) (held : Known f (types function) pool regs) where
    pub loads_then_good : (ops : List (Ty × Operand)) (code : List GInst) → AreTyped program f (types function) [] ops → Stand f.types pool.next (all_loaded gl pool ops) → Every G code → Every G (loads gl pool ops ++ code)
    loads_then_good ops code are stand h = every_both G (loads gl pool ops) code (loads_good program function f typed ops pool are stand) h

    choice_two : (value place : ℕ) (ty : Ty) (x y : Operand) → IsInteger ty → place < 10 → AreTyped program f (types function) [] ((ty, x) ∷ (ty, y) ∷ []) → slice_get f.types value ≡ Some (type_of ty)
        → Stand f.types pool.next (choice gl pool value ((ty, x) ∷ (ty, y) ∷ []) place).types → Every G (choice gl pool value ((ty, x) ∷ (ty, y) ∷ []) place).code
    choice_two value place ty x y integer low are h stand =
        let ops : List (Ty × Operand) = (ty, x) ∷ (ty, y) ∷ [] in
        let front = stand_front f.types pool.next (all_loaded gl pool ((ty, x) ∷ (ty, y) ∷ [])) (S 1 ∷ []) stand in
        let bit = stand_first f.types (behind_all gl pool ((ty, x) ∷ (ty, y) ∷ [])).next (S 1) [] (stand_behind gl f.types ((ty, x) ∷ (ty, y) ∷ []) pool (S 1 ∷ []) stand) in
        let have = registers_have program function f typed ((ty, x) ∷ (ty, y) ∷ []) pool regs are held front in
        loads_then_good ((ty, x) ∷ (ty, y) ∷ []) _ are front (good_icmp f _ _ _ 1 place (type_of ty) bit have.0 have.1.0 low, (good_select f value _ _ _ 1 (type_of ty) h bit have.0 have.1.0, tt))

    choice_good : (value place : ℕ) (ty : Ty) (arguments : List (Ty × Operand)) → types_of_arguments arguments ≡ ty ∷ ty ∷ [] → IsInteger ty → place < 10 → AreArguments (types function) arguments → slice_get f.types value ≡ Some (type_of ty)
        → Stand f.types pool.next (choice gl pool value arguments place).types → Every G (choice gl pool value arguments place).code
    choice_good value place ty arguments e integer low are h stand =
        let two = two_of arguments ty ty e in
        let all = two_typed program function f typed pool regs held ty arguments e integer are in
        (subst (λ (xs : List (Ty × Operand)). AreTyped program f (types function) [] xs → Stand f.types pool.next (choice gl pool value xs place).types → Every G (choice gl pool value xs place).code) (sym two.is)
        (λ all stand. choice_two value place ty two.x two.y integer low all h stand)) all stand

    abs_two : (value : ℕ) (ty : Ty) (x : Operand) → IsInteger ty → AreTyped program f (types function) [] ((ty, x) ∷ (ty, Num 0) ∷ []) → slice_get f.types value ≡ Some (type_of ty)
        → Stand f.types pool.next (absolute gl pool value ty ((ty, x) ∷ (ty, Num 0) ∷ [])).types → Every G (absolute gl pool value ty ((ty, x) ∷ (ty, Num 0) ∷ [])).code
    abs_two value ty x integer are h stand =
        let ops : List (Ty × Operand) = (ty, x) ∷ (ty, Num 0) ∷ [] in
        let next = (behind_all gl pool ((ty, x) ∷ (ty, Num 0) ∷ [])).next in
        let front = stand_front f.types pool.next (all_loaded gl pool ((ty, x) ∷ (ty, Num 0) ∷ [])) (type_of ty ∷ S 1 ∷ []) stand in
        let more = stand_behind gl f.types ((ty, x) ∷ (ty, Num 0) ∷ []) pool (type_of ty ∷ S 1 ∷ []) stand in
        let turned = stand_first f.types next (type_of ty) (S 1 ∷ []) more in
        let bit = stand_first f.types (next + 1) (S 1) [] (stand_tail f.types next (type_of ty) (S 1 ∷ []) more) in
        let have = registers_have program function f typed ((ty, x) ∷ (ty, Num 0) ∷ []) pool regs are held front in
        loads_then_good ((ty, x) ∷ (ty, Num 0) ∷ []) _ are front (
          good_binary f b.Sub next _ _ (width ty) (int_has next ty integer turned) (int_has _ ty integer have.1.0) (int_has _ ty integer have.0),
          (good_icmp f (next + 1) _ _ 1 8 (type_of ty) bit have.0 have.1.0 (omega arith), (good_select f value (next + 1) next _ 1 (type_of ty) h bit turned have.0, tt)),
        )

    abs_good : (value : ℕ) (ty : Ty) (arguments : List (Ty × Operand)) → types_of_arguments arguments ≡ ty ∷ Int 1 ∷ [] → IsInteger ty → AreArguments (types function) arguments → slice_get f.types value ≡ Some (type_of ty)
        → Stand f.types pool.next (absolute gl pool value ty (take 1 arguments ++ (ty, Num 0) ∷ [])).types → Every G (absolute gl pool value ty (take 1 arguments ++ (ty, Num 0) ∷ [])).code
    abs_good value ty arguments e integer are h stand =
        let two = two_of arguments ty (Int 1) e in
        let all = abs_typed program function f typed pool regs held ty arguments e integer are in
        (subst (λ (xs : List (Ty × Operand)). AreTyped program f (types function) [] (take 1 xs ++ (ty, Num 0) ∷ []) → Stand f.types pool.next (absolute gl pool value ty (take 1 xs ++ (ty, Num 0) ∷ [])).types
        → Every G (absolute gl pool value ty (take 1 xs ++ (ty, Num 0) ∷ [])).code) (sym two.is) (λ all stand. abs_two value ty two.x integer all h stand)) all stand

    copy_good : (w : ℕ) (arguments : List (Ty × Operand)) → types_of_arguments arguments ≡ Ptr ∷ Ptr ∷ Int w ∷ Int 1 ∷ [] → AreTyped program f (types function) [] (take 3 arguments)
        → Stand f.types pool.next (all_loaded gl pool (take 3 arguments)) → Every G (one gl pool (take 3 arguments) g.CopyBytes [] 0 []).code
    copy_good w arguments e are stand =
        let four = four_of arguments Ptr Ptr (Int w) (Int 1) e in
        (subst (λ (xs : List (Ty × Operand)). AreTyped program f (types function) [] (take 3 xs) → Stand f.types pool.next (all_loaded gl pool (take 3 xs)) → Every G (one gl pool (take 3 xs) g.CopyBytes [] 0 []).code) (sym four.is)
        (λ are stand. let have = registers_have program function f typed ((Ptr, four.x) ∷ (Ptr, four.y) ∷ (Int w, four.z) ∷ []) pool regs are held stand in
        loads_then_good ((Ptr, four.x) ∷ (Ptr, four.y) ∷ (Int w, four.z) ∷ []) _ are stand (good_copy_bytes f _ _ _ w have.0 have.1.0 have.1.1.0, tt))) are stand

    fill_good : (w : ℕ) (arguments : List (Ty × Operand)) → types_of_arguments arguments ≡ Ptr ∷ Int 8 ∷ Int w ∷ Int 1 ∷ [] → AreTyped program f (types function) [] (take 3 arguments)
        → Stand f.types pool.next (all_loaded gl pool (take 3 arguments)) → Every G (one gl pool (take 3 arguments) g.FillBytes [] 0 []).code
    fill_good w arguments e are stand =
        let four = four_of arguments Ptr (Int 8) (Int w) (Int 1) e in
        (subst (λ (xs : List (Ty × Operand)). AreTyped program f (types function) [] (take 3 xs) → Stand f.types pool.next (all_loaded gl pool (take 3 xs)) → Every G (one gl pool (take 3 xs) g.FillBytes [] 0 []).code) (sym four.is)
        (λ are stand. let have = registers_have program function f typed ((Ptr, four.x) ∷ (Int 8, four.y) ∷ (Int w, four.z) ∷ []) pool regs are held stand in
        loads_then_good ((Ptr, four.x) ∷ (Int 8, four.y) ∷ (Int w, four.z) ∷ []) _ are stand (good_fill_bytes f _ _ _ w have.0 have.1.0 have.1.1.0, tt))) are stand

    eight : IsValueType (Int 8)
    eight = (omega arith, omega arith)

    pub built_good : (value : ℕ) (ty : Ty) (arguments : List (Ty × Operand)) (which : BuiltIn) → IsBuiltIn which (types_of_arguments arguments) ty → AreArguments (types function) arguments → (is_result ty ≡ true → slice_get f.types value ≡ Some (type_of ty))
        → Stand f.types pool.next (built_in gl pool value ty arguments which).types → Every G (built_in gl pool value ty arguments which).code
    built_good value ty arguments MemCpy is are h stand = copy_good is.0 arguments is.2 (three_typed program function f typed pool regs held Ptr Ptr (Int is.0) (Int 1) arguments is.2 tt tt (length_value is.0 is.1) are) stand
    built_good value ty arguments MemMove is are h stand = copy_good is.0 arguments is.2 (three_typed program function f typed pool regs held Ptr Ptr (Int is.0) (Int 1) arguments is.2 tt tt (length_value is.0 is.1) are) stand
    built_good value ty arguments MemSet is are h stand = fill_good is.0 arguments is.2 (three_typed program function f typed pool regs held Ptr (Int 8) (Int is.0) (Int 1) arguments is.2 tt eight (length_value is.0 is.1) are) stand
    built_good value ty arguments SMax is are h stand = choice_good value (predicate p.Sge) ty arguments is.0 is.1 (omega arith) are (h (int_result ty is.1)) stand
    built_good value ty arguments SMin is are h stand = choice_good value (predicate p.Sle) ty arguments is.0 is.1 (omega arith) are (h (int_result ty is.1)) stand
    built_good value ty arguments UMax is are h stand = choice_good value (predicate p.Uge) ty arguments is.0 is.1 (omega arith) are (h (int_result ty is.1)) stand
    built_good value ty arguments UMin is are h stand = choice_good value (predicate p.Ule) ty arguments is.0 is.1 (omega arith) are (h (int_result ty is.1)) stand
    built_good value ty arguments Abs is are h stand = abs_good value ty arguments is.0 is.1 are (h (int_result ty is.1)) stand

    address_good : (wide : Bool) (value : ℕ) (from : Ty) (a : Operand) → (width from == 64) ≡ wide → IsInteger from → IsOperand (types function) from a → slice_get f.types value ≡ Some P0
        → Stand f.types pool.next (address gl wide pool value ((from, a) ∷ [])).types → Every G (address gl wide pool value ((from, a) ∷ [])).code
    address_good true value from a e integer is h stand =
        let some = integer_value from integer in
        let have = registers_have program function f typed ((from, a) ∷ []) pool regs (some, is, tt) held stand in
        loads_then_good ((from, a) ∷ []) _ (some, is, tt) stand (good_to_address f value _ (width from) h (int_has _ from integer have.0), tt)
    address_good false value from a e integer is h stand =
        let some = integer_value from integer in
        let front = stand_front f.types pool.next (all_loaded gl pool ((from, a) ∷ [])) (S 64 ∷ []) stand in
        let last = stand_first f.types (behind_all gl pool ((from, a) ∷ [])).next (S 64) [] (stand_behind gl f.types ((from, a) ∷ []) pool (S 64 ∷ []) stand) in
        let have = registers_have program function f typed ((from, a) ∷ []) pool regs (some, is, tt) held front in
        loads_then_good ((from, a) ∷ []) _ (some, is, tt) front (good_zext f _ _ 64 (width from) last (int_has _ from integer have.0) (narrow from integer e), (good_to_address f value _ 64 h last, tt))

    pub cast_good : (value : ℕ) (from to : Ty) (a : Operand) (o : CastOp) → IsCast o from to → IsOperand (types function) from a → slice_get f.types value ≡ Some (type_of to) → Stand f.types pool.next (cast gl pool value from a o).types
        → Every G (cast gl pool value from a o).code
    cast_good value from to a c.Trunc is h t stand =
        let some = cast_value c.Trunc from to is in let have = registers_have program function f typed ((from, a) ∷ []) pool regs (some, h, tt) held stand in
        loads_then_good ((from, a) ∷ []) _ (some, h, tt) stand (good_trunc f value _ (width to) (width from) (int_has value to is.1 t) (int_has _ from is.0 have.0) is.2, tt)
    cast_good value from to a c.ZExt is h t stand =
        let some = cast_value c.ZExt from to is in let have = registers_have program function f typed ((from, a) ∷ []) pool regs (some, h, tt) held stand in
        loads_then_good ((from, a) ∷ []) _ (some, h, tt) stand (good_zext f value _ (width to) (width from) (int_has value to is.1 t) (int_has _ from is.0 have.0) is.2, tt)
    cast_good value from to a c.SExt is h t stand =
        let some = cast_value c.SExt from to is in let have = registers_have program function f typed ((from, a) ∷ []) pool regs (some, h, tt) held stand in
        loads_then_good ((from, a) ∷ []) _ (some, h, tt) stand (good_sext f value _ (width to) (width from) (int_has value to is.1 t) (int_has _ from is.0 have.0) is.2, tt)
    cast_good value from to a c.PtrToInt is h t stand =
        let some = cast_value c.PtrToInt from to is in let have = registers_have program function f typed ((from, a) ∷ []) pool regs (some, h, tt) held stand in
        loads_then_good ((from, a) ∷ []) _ (some, h, tt) stand (good_to_number f value _ (width to) (int_has value to is.1 t) (pointer_has _ from is.0 have.0), tt)
    cast_good value from to a c.IntToPtr is h t stand = address_good (width from == 64) value from a refl is.0 h (pointer_has value to is.1 t) stand
    cast_good value from to a c.Same is h t stand =
        let some = cast_value c.Same from to is in let have = registers_have program function f typed ((from, a) ∷ []) pool regs (some, h, tt) held stand in
        loads_then_good ((from, a) ∷ []) _ (some, h, tt) stand (good_copy f value _ (type_of from) (t ∙ ap (λ (z : Ty). Some (type_of z)) (sym is.1)) have.0, tt)
