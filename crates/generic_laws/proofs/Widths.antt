-- The registers of the code of a function have from 1 to 64 bits.
use Rattle.std.proofs.Common.{◌≡◌, refl, sym, subst, ℕ, zero, suc, ◌+◌, ◌%◌, ◌^◌, ◌≤◌, Bool, true, false, List, [], ◌∷◌, ◌++◌, length, map, Option, Some, None, arith}
use Rattle.std.specs.Prelude.{◌&&◌, slice_get, drop, take, flat_map, ◌==◌, nat_le, if◌then◌else◌}
use Rattle.ir_core.specs.Program.{Program}
use Rattle.ir_core.specs.declared.types.TheConstants.{MAX_WIDTH}
use Rattle.ir_core.specs.Units.{instructions, types_in, has_result, types_of_arguments, values as value_count}
use Rattle.ir_core.specs.declared.types.Ty.{Ty}
use Rattle.ir_core.specs.declared.types.Ty.TheVariants.{Void, Int, Ptr}
use Rattle.ir_core.specs.declared.code.Operand.{Operand}
use Rattle.ir_core.specs.declared.code.Operand.TheVariants.{Num}
use Rattle.ir_core.specs.declared.code.CastOp.{CastOp}
use Rattle.ir_core.specs.declared.code.CastOp.TheVariants as c
use Rattle.ir_core.specs.declared.code.BuiltIn.{BuiltIn}
use Rattle.ir_core.specs.declared.code.BuiltIn.TheVariants.{MemCpy, MemMove, MemSet, SMax, SMin, UMax, UMin, Abs}
use Rattle.ir_core.specs.declared.code.Op.{Op}
use Rattle.ir_core.specs.declared.code.Op.TheVariants.{Binary, Icmp, Cast, Select, Freeze, Phi, Alloca, Load, Store, Gep, Call, BuiltIn as CallBuiltIn, Ret, Br, CondBr, Switch, Unreachable}
use Rattle.ir_core.specs.declared.code.Inst.{Inst}
use Rattle.ir_core.specs.declared.program.Function.{Function}
use Rattle.ir_core.specs.declared.program.Global.{Global}
use Rattle.ir_flow.specs.Code.{places, blocks_named}
use Rattle.ir_meaning.specs.Operators.{width}
use Rattle.ir_meaning.specs.Step.{function_at, insts_at, number_at}
use Rattle.ir_meaning.specs.Typed.{types, result_types, IsValueType, IsResultType, IsTypedFunction}
use Rattle.ir_verify.specs.Ranges.{has_width, all_have_widths, all_named, all_below, names_more}
use Rattle.ir_verify.specs.Verdict.{IsChecked}
use Rattle.ir_verify.specs.Laws.{IsWellFormed}
use Rattle.ir_verify.proofs.Lists.{Every, every_both, every_at, and_both}
use Rattle.ir_verify.proofs.Typing.{checked-typed}
use Rattle.ir_verify.proofs.WellFormed.{well_formed}
use Rattle.gmir.specs.declared.code.GType.{GType}
use Rattle.gmir.specs.declared.code.GType.TheVariants.{S, P0}
use Rattle.gmir.specs.declared.code.GFunction.{GFunction}
use Rattle.generic_code.specs.Literals.{Pool, type_of, skip, literal, scalar_width, find, write_types, loaded, behind, all_loaded, behind_all, registers, empty_pool}
use Rattle.generic_code.specs.Parts.{Addend, Bytes, Times, extended, exponent, scale_by, literal_64, with_literal, multiplied, left_of, sum_types, addends_of, in_order, first_register}
use Rattle.generic_code.specs.Code.{address, cast, built_in, piece_of}
use Rattle.generic_code.specs.Edges.{Ending, heads, spare, edge_operands, edge_types, test_types, branch, tests, ending_of}
use Rattle.generic_code.specs.Whole.{Body, bodies, is_jump, insts_ending, translated}
use Rattle.generic_code.proofs.Loads.{AreTyped}
use Rattle.generic_code.proofs.Arrivals.{heads_at, heads_typed}
use Rattle.generic_laws.specs.Laws.{TranslatedHasWidths}
use Rattle.generic_laws.proofs.Counts.{get_drop}
use Rattle.generic_laws.proofs.Paths.{every_in}
use Rattle.generic_laws.proofs.Blocks.{body_of, every_by, every_flat}

-- a register's type has from 1 to 64 bits
abbrev pub IsFine : GType → Type 0
IsFine P0 = Unit {0}
IsFine (S w) = (1 ≤ w) × (w ≤ 64)

value_fine : (ty : Ty) → IsValueType ty → IsFine (type_of ty)
value_fine Void h = absurd h
value_fine (Int w) h = h
value_fine Ptr h = tt

wide_fine : IsFine (S 64)
wide_fine = (omega arith, omega arith)

bit_fine : IsFine (S 1)
bit_fine = (omega arith, omega arith)

-- the types of these operands are fine
abbrev pub FineOps : List (Ty × Operand) → Type 0
FineOps ops = Every (λ (one : Ty × Operand). IsFine (type_of one.0)) ops

module _ (globals : List Global) where
  write_fine : (o : Option ℕ) (ty : GType) → IsFine ty → Every IsFine (write_types o ty)
  write_fine None ty h = (h, tt)
  write_fine (Some r) ty h = tt

  load_fine : (o : Option ℕ) (ty : Ty) (pool : Pool) → IsFine (type_of ty) → Every IsFine (loaded o ty pool)
  load_fine None ty pool h = tt
  load_fine (Some n) ty pool h = write_fine (find pool (scalar_width ty, n)) (type_of ty) h

  pub loads_fine : (pool : Pool) (ops : List (Ty × Operand)) → FineOps ops → Every IsFine (all_loaded globals pool ops)
  loads_fine pool [] h = tt
  loads_fine pool (one ∷ more) h =
      every_both IsFine (loaded (literal globals one.1) one.0 pool) (all_loaded globals (behind (literal globals one.1) one.0 pool) more) (load_fine (literal globals one.1) one.0 pool h.0)
      (loads_fine (behind (literal globals one.1) one.0 pool) more h.1)

  loads_then_fine : (pool : Pool) (ops : List (Ty × Operand)) (more : List GType) → FineOps ops → Every IsFine more → Every IsFine (all_loaded globals pool ops ++ more)
  loads_then_fine pool ops more h h' = every_both IsFine (all_loaded globals pool ops) more (loads_fine pool ops h) h'

  extended_fine : (t : Bool) (pool : Pool) (number : ℕ) → Every IsFine (extended t pool number).types
  extended_fine true pool number = tt
  extended_fine false pool number = (wide_fine, tt)

  multiplied_fine : (size : ℕ) (pool : Pool) (number : ℕ) → Every IsFine (multiplied globals size pool number).types
  multiplied_fine size pool number = by_one (size == 1)
    where
      by_one : (t : Bool) → Every IsFine (if t then record { code = []; types = []; register = number; pool = pool } else with_literal globals (scale_by (exponent size) size) pool number).types
      by_one true = tt
      by_one false = loads_then_fine pool (literal_64 (scale_by (exponent size) size).1) (S 64 ∷ []) (wide_fine, tt) (wide_fine, tt)

  left_fine : (a : Addend) (pool : Pool) → Every IsFine (left_of globals a pool).types
  left_fine (Bytes n) pool = loads_fine pool (literal_64 n) (wide_fine, tt)
  left_fine (Times w number size) pool =
      every_both IsFine (extended (w == 64) pool number).types (multiplied globals (size % 2 ^ 64) (extended (w == 64) pool number).pool (extended (w == 64) pool number).register).types (extended_fine (w == 64) pool number)
      (multiplied_fine (size % 2 ^ 64) (extended (w == 64) pool number).pool (extended (w == 64) pool number).register)

  sum_fine : (pool : Pool) (all : List Addend) → Every IsFine (sum_types globals pool all)
  sum_fine pool [] = tt
  sum_fine pool (a ∷ []) = left_fine a pool
  sum_fine pool (a ∷ two ∷ more) = every_both IsFine (left_of globals a pool).types (P0 ∷ sum_types globals (skip 1 (left_of globals a pool).pool) (two ∷ more)) (left_fine a pool) (tt, sum_fine (skip 1 (left_of globals a pool).pool) (two ∷ more))

  -- ---- pieces, whose types have widths

  width_fine : (ty : Ty) → has_width ty ≡ true → IsFine (type_of ty)
  width_fine Void h = tt
  width_fine (Int w) h = let parts = and_both (nat_le 1 w) (nat_le w MAX_WIDTH) h in let a = parts.0 in let b = parts.1 in (grind (arith, a), grind (arith, b))
  width_fine Ptr h = tt

  take_fine : (n : ℕ) (ops : List (Ty × Operand)) → FineOps ops → FineOps (take n ops)
  take_fine zero [] h = tt
  take_fine zero (x ∷ xs) h = tt
  take_fine (suc n) [] h = tt
  take_fine (suc n) (x ∷ xs) h = (h.0, take_fine n xs h.1)

  arguments_fine : (ops : List (Ty × Operand)) → all_have_widths (types_of_arguments ops) ≡ true → FineOps ops
  arguments_fine [] h = tt
  arguments_fine (x ∷ xs) h = let parts = and_both (has_width x.0) (all_have_widths (types_of_arguments xs)) h in (width_fine x.0 parts.0, arguments_fine xs parts.1)

  built_fine : (value : ℕ) (pool : Pool) (ty : Ty) (arguments : List (Ty × Operand)) (which : BuiltIn) → IsFine (type_of ty) → FineOps arguments → Every IsFine (built_in globals pool value ty arguments which).types
  built_fine value pool ty arguments MemCpy h are = loads_fine pool (take 3 arguments) (take_fine 3 arguments are)
  built_fine value pool ty arguments MemMove h are = loads_fine pool (take 3 arguments) (take_fine 3 arguments are)
  built_fine value pool ty arguments MemSet h are = loads_fine pool (take 3 arguments) (take_fine 3 arguments are)
  built_fine value pool ty arguments Abs h are =
      loads_then_fine pool (take 1 arguments ++ (ty, Num 0) ∷ []) (type_of ty ∷ S 1 ∷ []) (every_both (λ (one : Ty × Operand). IsFine (type_of one.0)) (take 1 arguments) ((ty, Num 0) ∷ []) (take_fine 1 arguments are) (h, tt)) (h, (bit_fine, tt))
  built_fine value pool ty arguments SMax h are = loads_then_fine pool arguments (S 1 ∷ []) are (bit_fine, tt)
  built_fine value pool ty arguments SMin h are = loads_then_fine pool arguments (S 1 ∷ []) are (bit_fine, tt)
  built_fine value pool ty arguments UMax h are = loads_then_fine pool arguments (S 1 ∷ []) are (bit_fine, tt)
  built_fine value pool ty arguments UMin h are = loads_then_fine pool arguments (S 1 ∷ []) are (bit_fine, tt)

  address_fine : (wide : Bool) (value : ℕ) (pool : Pool) (ops : List (Ty × Operand)) → FineOps ops → Every IsFine (address globals wide pool value ops).types
  address_fine true value pool ops h = loads_fine pool ops h
  address_fine false value pool ops h = loads_then_fine pool ops (S 64 ∷ []) h (wide_fine, tt)

  cast_fine : (value : ℕ) (pool : Pool) (from : Ty) (a : Operand) (o : CastOp) → IsFine (type_of from) → Every IsFine (cast globals pool value from a o).types
  cast_fine value pool from a c.IntToPtr h = address_fine (width from == 64) value pool ((from, a) ∷ []) (h, tt)
  cast_fine value pool from a o h = loads_fine pool ((from, a) ∷ []) (h, tt)

  pub piece_fine : (ret : Ty) (value : ℕ) (pool : Pool) (ty : Ty) (op : Op) → IsFine (type_of ret) → IsFine (type_of ty) → all_have_widths (types_in op) ≡ true → Every IsFine (piece_of globals ret value pool ty op).types
  piece_fine ret value pool ty (Binary o flags x y) r h w = loads_fine pool ((ty, x) ∷ (ty, y) ∷ []) (h, (h, tt))
  piece_fine ret value pool ty (Icmp pred flags of x y) r h w = let a = width_fine of (and_both (has_width of) true w).0 in loads_fine pool ((of, x) ∷ (of, y) ∷ []) (a, (a, tt))
  piece_fine ret value pool ty (Cast o flags from a) r h w = cast_fine value pool from a o (width_fine from (and_both (has_width from) true w).0)
  piece_fine ret value pool ty (Select x y z) r h w = loads_fine pool ((Int 1, x) ∷ (ty, y) ∷ (ty, z) ∷ []) (bit_fine, (h, (h, tt)))
  piece_fine ret value pool ty (Freeze x) r h w = loads_fine pool ((ty, x) ∷ []) (h, tt)
  piece_fine ret value pool ty (Phi pairs) r h w = tt
  piece_fine ret value pool ty (Alloca of n) r h w = tt
  piece_fine ret value pool ty (Load x) r h w = loads_fine pool ((Ptr, x) ∷ []) (tt, tt)
  piece_fine ret value pool ty (Store of x y) r h w = loads_fine pool ((of, x) ∷ (Ptr, y) ∷ []) (width_fine of (and_both (has_width of) true w).0, (tt, tt))
  piece_fine ret value pool ty (Gep of base indices) r h w = loads_then_fine pool ((Ptr, base) ∷ []) _ (tt, tt) (sum_fine (behind_all globals pool ((Ptr, base) ∷ [])) (in_order (addends_of of indices)))
  piece_fine ret value pool ty (Call callee arguments) r h w = loads_fine pool arguments (arguments_fine arguments w)
  piece_fine ret value pool ty (CallBuiltIn which arguments) r h w = built_fine value pool ty arguments which h (arguments_fine arguments w)
  piece_fine ret value pool ty (Ret None) r h w = tt
  piece_fine ret value pool ty (Ret (Some a)) r h w = loads_fine pool ((ret, a) ∷ []) (r, tt)
  piece_fine ret value pool ty (Br to) r h w = tt
  piece_fine ret value pool ty (CondBr x y z) r h w = tt
  piece_fine ret value pool ty (Switch of x otherwise cases) r h w = tt
  piece_fine ret value pool ty Unreachable r h w = tt

  module _ (function : Function) (from : ℕ) (phis_fine : (to : ℕ) → FineOps (edge_operands globals function from to)) where
    edge_fine : (pool : Pool) (to : ℕ) → Every IsFine (edge_types globals function from pool to)
    edge_fine pool to = loads_fine pool (edge_operands globals function from to) (phis_fine to)

    branch_fine : (at next own bit if_one if_zero : ℕ) → Every IsFine (branch globals function from at next own bit if_one if_zero).types
    branch_fine at next own bit if_one if_zero = every_both IsFine (edge_types globals function from (empty_pool next) if_one) _ (edge_fine (empty_pool next) if_one) (edge_fine (empty_pool (next + length (edge_types globals function from (empty_pool next) if_one))) if_zero)

    test_fine : (of : Ty) (pool : Pool) (n : ℕ) → IsFine (type_of of) → Every IsFine (test_types globals function from of pool n)
    test_fine of pool n h = loads_then_fine pool ((of, Num n) ∷ []) (S 1 ∷ []) (h, tt) (bit_fine, tt)

    tests_fine : (cases : List (ℕ × ℕ)) (of : Ty) (r otherwise at : ℕ) (pool : Pool) (own : ℕ) → IsFine (type_of of) → Every IsFine (tests globals function from of r otherwise at pool own cases).types
    tests_fine [] of r otherwise at pool own h = edge_fine pool otherwise
    tests_fine (one ∷ []) of r otherwise at pool own h =
        let bit = (behind_all globals pool ((of, Num one.0) ∷ [])).next in
        every_both IsFine (test_types globals function from of pool one.0) (branch globals function from at (bit + 1) own bit one.1 otherwise).types (test_fine of pool one.0 h) (branch_fine at (bit + 1) own bit one.1 otherwise)
    tests_fine (one ∷ two ∷ cases) of r otherwise at pool own h =
        let bit = (behind_all globals pool ((of, Num one.0) ∷ [])).next in
        let edge_tys = edge_types globals function from (empty_pool (bit + 1)) one.1 in
        let next = bit + 1 + length edge_tys in
        let on = own + spare globals function one.1 in
        let rest = tests globals function from of r otherwise on (empty_pool next) (on + 1) (two ∷ cases) in
        every_both IsFine (test_types globals function from of pool one.0 ++ edge_tys) rest.types (every_both IsFine (test_types globals function from of pool one.0) edge_tys (test_fine of pool one.0 h) (edge_fine (empty_pool (bit + 1)) one.1))
        (tests_fine (two ∷ cases) of r otherwise on (empty_pool next) (on + 1) h)

    ending_fine : (pool : Pool) (own : ℕ) (op : Op) → all_have_widths (types_in op) ≡ true → Every IsFine (ending_of globals function from pool own op).types
    ending_fine pool own (Br to) w = edge_fine pool to
    ending_fine pool own (CondBr x y z) w = loads_then_fine pool ((Int 1, x) ∷ []) _ (bit_fine, tt) (branch_fine from (behind_all globals pool ((Int 1, x) ∷ [])).next own (first_register (registers globals pool ((Int 1, x) ∷ []))) y z)
    ending_fine pool own (Switch of a otherwise cases) w =
        let h = width_fine of (and_both (has_width of) true w).0 in
        loads_then_fine pool ((of, a) ∷ []) _ (h, tt) (tests_fine cases of (first_register (registers globals pool ((of, a) ∷ []))) otherwise from (behind_all globals pool ((of, a) ∷ [])) own h)
    ending_fine pool own op w = tt

    -- an instruction whose types have widths
    abbrev pub HasWidths : Inst → Type 0
    HasWidths inst = (has_width inst.gives ≡ true) × (all_have_widths (types_in inst.op) ≡ true)

    pub insts_fine : (insts : List Inst) (value : ℕ) (pool : Pool) (own : ℕ) → IsFine (type_of function.ret) → ((k : ℕ) (inst : Inst) → slice_get insts k ≡ Some inst → HasWidths inst) → Every IsFine (insts_ending globals function from value pool own insts).types
    insts_fine [] value pool own r h = tt
    insts_fine (inst ∷ insts) value pool own r h =
        by_jump (is_jump inst.op) refl (insts_fine insts (if has_result inst then value + 1 else value) (piece_of globals function.ret value pool inst.gives inst.op).pool own r (λ k x e. h (suc k) x e))
      where
        rest : Ending
        rest = insts_ending globals function from (if has_result inst then value + 1 else value) (piece_of globals function.ret value pool inst.gives inst.op).pool own insts

        here : HasWidths inst
        here = h 0 inst refl

        by_jump : (j : Bool) → is_jump inst.op ≡ j → Every IsFine (insts_ending globals function from (if has_result inst then value + 1 else value) (piece_of globals function.ret value pool inst.gives inst.op).pool own insts).types
            → Every IsFine (insts_ending globals function from value pool own (inst ∷ insts)).types
        by_jump true e ih = rw e (ending_fine pool own inst.op here.1)
        by_jump false e ih = rw e (every_both IsFine (piece_of globals function.ret value pool inst.gives inst.op).types rest.types (piece_fine function.ret value pool inst.gives inst.op r (width_fine inst.gives here.0) here.1) ih)

-- ---- the whole

module _ (program : Program) (checked : IsChecked program) (symbol : ℕ) (function : Function) (there : function_at program symbol ≡ Some function) where
  abbrev gl : List Global
  gl = program.module_.globals

  abbrev f : GFunction
  f = translated program symbol function

  well : IsTypedFunction program function
  well = (checked-typed program checked).typed symbol function there

  formed : IsWellFormed program.module_ function
  formed = (well_formed program checked).2 symbol function there

  abbrev Ranged : Inst → Type 0
  Ranged inst = (has_width inst.gives ≡ true) × (all_have_widths (types_in inst.op) ≡ true)

  ranged_all : Every Ranged (instructions function.blocks)
  ranged_all =
      every_by Ranged (instructions function.blocks) (λ i inst e.
      let a = and_both (has_width inst.gives && all_have_widths (types_in inst.op) && all_named program.module_ (value_count function) (places function.ret inst.gives inst.op) && all_below (length function.blocks) (blocks_named inst.op)) (names_more program.module_ inst.op) (formed.in_range i inst e) in
      let b = and_both (has_width inst.gives && all_have_widths (types_in inst.op) && all_named program.module_ (value_count function) (places function.ret inst.gives inst.op)) (all_below (length function.blocks) (blocks_named inst.op)) a.0 in
      let c = and_both (has_width inst.gives && all_have_widths (types_in inst.op)) (all_named program.module_ (value_count function) (places function.ret inst.gives inst.op)) b.0 in
      and_both (has_width inst.gives) (all_have_widths (types_in inst.op)) c.0)

  -- ---- registers of values

  params_fine : (tys : List Ty) → ((k : ℕ) (ty : Ty) → slice_get tys k ≡ Some ty → IsValueType ty) → Every IsFine (map type_of tys)
  params_fine [] h = tt
  params_fine (ty ∷ tys) h = (value_fine ty (h 0 ty refl), params_fine tys (λ k t e. h (suc k) t e))

  results_fine : (insts : List Inst) → Every Ranged insts → Every IsFine (map type_of (result_types insts))
  results_fine [] h = tt
  results_fine (inst ∷ insts) h = by_test (has_result inst) (results_fine insts h.1)
    where
      by_test : (b : Bool) → Every IsFine (map type_of (result_types insts)) → Every IsFine (map type_of (if b then inst.gives ∷ result_types insts else result_types insts))
      by_test true ih = (width_fine gl inst.gives h.0.0, ih)
      by_test false ih = ih

  map_both : (xs ys : List Ty) → Every IsFine (map type_of xs) → Every IsFine (map type_of ys) → Every IsFine (map type_of (xs ++ ys))
  map_both [] ys h h' = h'
  map_both (x ∷ xs) ys h h' = (h.0, map_both xs ys h.1 h')

  -- ---- further registers

  operands_fine : (ops : List (Ty × Operand)) → AreTyped program f (types function) [] ops → FineOps ops
  operands_fine [] h = tt
  operands_fine (one ∷ more) h = (value_fine one.0 h.0, operands_fine more h.2)

  phis_fine : (from to : ℕ) → FineOps (edge_operands gl function from to)
  phis_fine from to = operands_fine (edge_operands gl function from to) (heads_typed program function well from to f [] 0 (heads gl function to) (heads_at program function well from to))

  result_fine : (ty : Ty) → IsResultType ty → IsFine (type_of ty)
  result_fine Void h = tt
  result_fine (Int w) h = h
  result_fine Ptr h = tt

  body_fine : (k : ℕ) (body : Body) → slice_get (bodies gl function) k ≡ Some body → Every IsFine body.ending.types
  body_fine k body e =
      let b = body_of program checked symbol function there k body e in
      let p = b.at in
      subst (λ (x : Body). Every IsFine x.ending.types) b.same
      (subst (λ (z : Ending). Every IsFine z.types) (sym p.ending_is)
      (insts_fine gl function k (phis_fine k) (drop (length (heads gl function k)) (insts_at function k)) (number_at function k (length (heads gl function k))) (empty_pool p.next) p.own (result_fine function.ret well.ret)
      (λ i inst at. every_in Ranged function.blocks k (length (heads gl function k) + i) inst ranged_all (get_drop (length (heads gl function k)) (insts_at function k) i inst at))))

  all_fine : Every IsFine f.types
  all_fine =
      every_both IsFine (map type_of (types function)) (flat_map (λ body. body.ending.types) (bodies gl function))
      (map_both function.params (result_types (instructions function.blocks)) (params_fine function.params well.params) (results_fine (instructions function.blocks) ranged_all))
      (every_flat IsFine (λ (body : Body). body.ending.types) (bodies gl function) body_fine)

  pub widths : (r w : ℕ) → slice_get f.types r ≡ Some (S w) → (1 ≤ w) × (w ≤ 64)
  widths r w e = every_at IsFine f.types r (S w) all_fine e

pub translated_has_widths : TranslatedHasWidths
translated_has_widths program symbol function checked there = widths program checked symbol function there
