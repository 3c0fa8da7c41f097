-- Each instruction of the code of a function has the form of its operation, over registers that there are.
use Rattle.std.proofs.Common.{◌≡◌, refl, ap, subst, ◌∙◌, ℕ, suc, ◌+◌, ◌*◌, ◌/◌, ◌^◌, ◌<◌, ◌≤◌, ◌⊎◌, inl, inr, Bool, true, false, List, [], ◌∷◌, ◌++◌, length, Option, Some, None, arith}
use Rattle.std.specs.Prelude.{slice_get, ◌==◌, ◌||◌, nat_le, if◌then◌else◌}
use Rattle.std.proofs.lemmas.Bool.{and_parts}
use Rattle.std.proofs.lemmas.List.{append_assoc}
use Rattle.ir_core.specs.Program.{Program}
use Rattle.ir_core.specs.Layout.{is_memory_width}
use Rattle.ir_core.specs.declared.types.TheConstants.{MAX_WIDTH}
use Rattle.ir_core.specs.declared.layout.Extent.{Extent}
use Rattle.ir_core.specs.Units.{types_of_arguments, has_result, is_result}
use Rattle.ir_core.specs.declared.types.Ty.{Ty}
use Rattle.ir_core.specs.declared.types.Ty.TheVariants.{Void, Int, Ptr}
use Rattle.ir_core.specs.declared.code.Operand.{Operand}
use Rattle.ir_core.specs.declared.code.Operand.TheVariants.{Num}
use Rattle.ir_core.specs.declared.code.Op.{Op}
use Rattle.ir_core.specs.declared.code.Op.TheVariants.{Binary, Icmp, Cast, Select, Freeze, Phi, Alloca, Load, Store, Gep, Call, BuiltIn as CallBuiltIn, Ret, Br, CondBr, Switch, Unreachable}
use Rattle.ir_core.specs.declared.code.Inst.{Inst}
use Rattle.ir_core.specs.declared.program.Function.{Function}
use Rattle.ir_core.specs.declared.program.Global.{Global}
use Rattle.ir_meaning.specs.Memory.{byte_count}
use Rattle.ir_meaning.specs.Operators.{width}
use Rattle.ir_meaning.specs.Step.{function_at}
use Rattle.ir_meaning.specs.Typed.{types, IsInteger, IsValueType, IsStored, IsOp, IsCallee, AreCases, IsTyped, IsTypedFunction}
use Rattle.ir_verify.proofs.Lists.{Every, every_both, is_below}
use Rattle.gmir.specs.declared.code.GType.{GType}
use Rattle.gmir.specs.declared.code.GType.TheVariants.{S, P0}
use Rattle.gmir.specs.declared.code.GOp.TheVariants as g
use Rattle.gmir.specs.declared.code.GInst.{GInst}
use Rattle.gmir.specs.declared.code.GFunction.{GFunction}
use Rattle.gmir.specs.Formed.{AllExist, IsSize}
use Rattle.walks.specs.Registers.{Registers}
use Rattle.walks.specs.Bits.{free}
use Rattle.generic_code.specs.Literals.{Pool, type_of, loads, all_loaded, registers, behind_all, empty_pool}
use Rattle.generic_code.specs.Parts.{addends_of, in_order, sum_types, first_register}
use Rattle.generic_code.specs.Code.{predicate, result, piece_of}
use Rattle.generic_code.proofs.Loads.{Stand, stand_front, stand_first, stand_tail, stand_rest, stand_behind, Known, known_empty, ValuesTyped, AreTyped}
use Rattle.generic_code.proofs.Computes.{integer_value, cast_to}
use Rattle.generic_code.proofs.Touches.{stored_value}
use Rattle.generic_code.proofs.Addresses.{order_short}
use Rattle.generic_code.proofs.Distances.{typed_addends, order_addends}
use Rattle.generic_code.specs.Edges.{Edge, Ending, ending_behind, jump_to, branch_on, heads, no_phis, spare, edge_operands, edge_code, edge_types, edge_uses, edge_blocks, goes_to, test_code, test_types, branch, tests, ending_of}
use Rattle.generic_code.specs.Whole.{is_jump, insts_ending}
use Rattle.generic_code.proofs.Flow.{piece_stand}
use Rattle.generic_code.proofs.Arrivals.{heads_at, heads_typed}
use Rattle.generic_laws.proofs.Lists.{get_below}
use Rattle.generic_laws.proofs.Typing.{AllHave, registers_have, behind_ops, call_typed, piece_held}
use Rattle.generic_laws.proofs.Along.{Along}
use Rattle.generic_laws.proofs.Forms.{Good, good_binary, good_icmp, good_select, good_copy, good_take, good_load, good_store, good_trap}
use Rattle.generic_laws.proofs.Pieces.{predicate_low, int_result, int_has, loads_then_good, sum_good, built_good, cast_good}

-- ---- sizes in memory

one_of : (x y : Bool) → (x || y) ≡ true → (x ≡ true) ⊎ (y ≡ true)
one_of true y e = inl refl
one_of false y e = inr e

equal : (w n : ℕ) → (w == n) ≡ true → w ≡ n
equal w n e = grind arith

memory_widths : (w : ℕ) → is_memory_width w ≡ true → (w ≡ 8) ⊎ (w ≡ 16) ⊎ (w ≡ 32) ⊎ (w ≡ 64)
memory_widths w h = by_128 (one_of (w == 8 || w == 16 || w == 32 || w == 64) (w == 128) parts.0)
  where
    parts : ((w == 8 || w == 16 || w == 32 || w == 64 || w == 128) ≡ true) × (nat_le w MAX_WIDTH ≡ true)
    parts = and_parts (w == 8 || w == 16 || w == 32 || w == 64 || w == 128) (nat_le w MAX_WIDTH) h

    by_8 : ((w == 8) ≡ true) ⊎ ((w == 16) ≡ true) → (w ≡ 8) ⊎ (w ≡ 16) ⊎ (w ≡ 32) ⊎ (w ≡ 64)
    by_8 (inl e) = inl (equal w 8 e)
    by_8 (inr e) = inr (inl (equal w 16 e))

    by_32 : ((w == 8 || w == 16) ≡ true) ⊎ ((w == 32) ≡ true) → (w ≡ 8) ⊎ (w ≡ 16) ⊎ (w ≡ 32) ⊎ (w ≡ 64)
    by_32 (inl e) = by_8 (one_of (w == 8) (w == 16) e)
    by_32 (inr e) = inr (inr (inl (equal w 32 e)))

    by_64 : ((w == 8 || w == 16 || w == 32) ≡ true) ⊎ ((w == 64) ≡ true) → (w ≡ 8) ⊎ (w ≡ 16) ⊎ (w ≡ 32) ⊎ (w ≡ 64)
    by_64 (inl e) = by_32 (one_of (w == 8 || w == 16) (w == 32) e)
    by_64 (inr e) = inr (inr (inr (equal w 64 e)))

    by_128 : ((w == 8 || w == 16 || w == 32 || w == 64) ≡ true) ⊎ ((w == 128) ≡ true) → (w ≡ 8) ⊎ (w ≡ 16) ⊎ (w ≡ 32) ⊎ (w ≡ 64)
    by_128 (inl e) = by_64 (one_of (w == 8 || w == 16 || w == 32) (w == 64) e)
    by_128 (inr e) = let big : w ≡ 128 = equal w 128 e in let low = parts.1 in absurd (let bad : ⊥ = grind (arith, big, low) in bad)

abbrev size_by : Bool → ℕ → ℕ
size_by b w = let one : Extent = if b then record { size = w / 8; align = w / 8 } else record { size = 0; align = 1 } in one.size

size_is : (f : GFunction) (ty : Ty) → IsStored ty → IsSize f (8 * byte_count ty) (type_of ty)
size_is f Void h = absurd h
size_is f Ptr h = (inr (inr (inr refl)), omega arith)
size_is f (Int w) h =
    let size : byte_count (Int w) ≡ w / 8 = ap (λ (b : Bool). size_by b w) h in
    by_width (memory_widths w h) size
  where
    by_width : (w ≡ 8) ⊎ (w ≡ 16) ⊎ (w ≡ 32) ⊎ (w ≡ 64) → byte_count (Int w) ≡ w / 8 → IsSize f (8 * byte_count (Int w)) (S w)
    by_width (inl e) size = (inl (omega (arith, e, size)), omega (arith, e, size))
    by_width (inr (inl e)) size = (inr (inl (omega (arith, e, size))), omega (arith, e, size))
    by_width (inr (inr (inl e))) size = (inr (inr (inl (omega (arith, e, size)))), omega (arith, e, size))
    by_width (inr (inr (inr e))) size = (inr (inr (inr (omega (arith, e, size)))), omega (arith, e, size))

module _ (program : Program) (all : IsTyped program) (few : (callee : ℕ) (called : Function) → function_at program callee ≡ Some called → length called.params ≤ 8)
    (function : Function) (f : GFunction) (typed : ValuesTyped program f (types function) []) where
  abbrev gl : List Global
  gl = program.module_.globals

  abbrev G : GInst → Type 0
  G i = Good f i

  all_exist : (ops : List (Ty × Operand)) (rs : List ℕ) → AllHave program function f typed ops rs → AllExist f rs
  all_exist [] [] h = tt
  all_exist [] (r ∷ rs) h = absurd h
  all_exist (one ∷ more) [] h = absurd h
  all_exist (one ∷ more) (r ∷ rs) h = (get_below f.types r (type_of one.0) h.0, all_exist more rs h.1)

  have_long : (ops : List (Ty × Operand)) (rs : List ℕ) → AllHave program function f typed ops rs → length rs ≡ length ops
  have_long [] [] h = refl
  have_long [] (r ∷ rs) h = absurd h
  have_long (one ∷ more) [] h = absurd h
  have_long (one ∷ more) (r ∷ rs) h = ap suc (have_long more rs h.1)

  arguments_long : (arguments : List (Ty × Operand)) → length (types_of_arguments arguments) ≡ length arguments
  arguments_long [] = refl
  arguments_long (one ∷ more) = ap suc (arguments_long more)

  module _ (pool : Pool) (regs : Registers) (held : Known f (types function) pool regs) where
    have : (ops : List (Ty × Operand)) → AreTyped program f (types function) [] ops → Stand f.types pool.next (all_loaded gl pool ops) → AllHave program function f typed ops (registers gl pool ops)
    have ops are stand = registers_have program function f typed ops pool regs are held stand

    then_good : (ops : List (Ty × Operand)) (i : GInst) → AreTyped program f (types function) [] ops → Stand f.types pool.next (all_loaded gl pool ops) → Good f i → Every G (loads gl pool ops ++ i ∷ [])
    then_good ops i are stand h = loads_then_good program function f typed pool regs held ops (i ∷ []) are stand (h, tt)

    call_good : (value callee : ℕ) (arguments : List (Ty × Operand)) (ty : Ty) (called : Option Function) → function_at program callee ≡ called → IsCallee called (types_of_arguments arguments) ty → AreTyped program f (types function) [] arguments
        → (is_result ty ≡ true → slice_get f.types value ≡ Some (type_of ty)) → Stand f.types pool.next (all_loaded gl pool arguments)
        → Good f (record { op = g.Call; defs = result ty value; uses = registers gl pool arguments; num = 0; to = callee ∷ [] })
    call_good value callee arguments ty None e is are h stand = absurd is
    call_good value callee arguments ty (Some called) e is are h stand = by_type ty h
      where
        there_all : AllHave program function f typed arguments (registers gl pool arguments)
        there_all = have arguments are stand

        low : callee < 1024
        low = let a = is_below program.module_.functions callee called e in let b = all.functions in omega (arith, a, b)

        uses_few : length (registers gl pool arguments) ≤ 8
        uses_few =
            let a = have_long arguments (registers gl pool arguments) there_all in
            let b = arguments_long arguments in
            let c : length (types_of_arguments arguments) ≡ length called.params = ap length is.0 in
            let d = few callee called e in
            omega (arith, a, b, c, d)

        by_type : (ty : Ty) → (is_result ty ≡ true → slice_get f.types value ≡ Some (type_of ty)) → Good f (record { op = g.Call; defs = result ty value; uses = registers gl pool arguments; num = 0; to = callee ∷ [] })
        by_type Void h = record { form = (callee, omega arith, uses_few, refl, low); defs = tt; uses = all_exist arguments (registers gl pool arguments) there_all }
        by_type (Int w) h = record { form = (callee, omega arith, uses_few, refl, low); defs = (get_below f.types value (S w) (h refl), tt); uses = all_exist arguments (registers gl pool arguments) there_all }
        by_type Ptr h = record { form = (callee, omega arith, uses_few, refl, low); defs = (get_below f.types value P0 (h refl), tt); uses = all_exist arguments (registers gl pool arguments) there_all }

    value_result : (ty : Ty) → IsValueType ty → is_result ty ≡ true
    value_result Void h = absurd h
    value_result (Int w) h = refl
    value_result Ptr h = refl

    pub piece_good : (value : ℕ) (ty : Ty) (op : Op) → IsOp program function ty op → (is_result ty ≡ true → slice_get f.types value ≡ Some (type_of ty)) → Stand f.types pool.next (piece_of gl function.ret value pool ty op).types
        → Every G (piece_of gl function.ret value pool ty op).code
    piece_good value ty (Binary o flags x y) is h stand =
        let some = integer_value ty is.0 in let are : AreTyped program f (types function) [] ((ty, x) ∷ (ty, y) ∷ []) = (some, is.1, (some, is.2, tt)) in let t = have ((ty, x) ∷ (ty, y) ∷ []) are stand in
        then_good ((ty, x) ∷ (ty, y) ∷ []) _ are stand (good_binary f o value _ _ (width ty) (int_has program function f typed value ty is.0 (h (int_result ty is.0))) (int_has program function f typed _ ty is.0 t.0) (int_has program function f typed _ ty is.0 t.1.0))
    piece_good value ty (Icmp pred flags of x y) is h stand =
        let are : AreTyped program f (types function) [] ((of, x) ∷ (of, y) ∷ []) = (is.1, is.2, (is.1, is.3, tt)) in let t = have ((of, x) ∷ (of, y) ∷ []) are stand in
        let bit : slice_get f.types value ≡ Some (S 1) = h (ap is_result is.0) ∙ ap (λ (z : Ty). Some (type_of z)) is.0 in
        then_good ((of, x) ∷ (of, y) ∷ []) _ are stand (good_icmp f value _ _ 1 (predicate pred) (type_of of) bit t.0 t.1.0 (predicate_low pred))
    piece_good value ty (Cast o flags from a) is h stand = cast_good program function f typed pool regs held value from ty a o is.0 is.1 (h (value_result ty (cast_to o from ty is.0))) stand
    piece_good value ty (Select x y z) is h stand =
        let are : AreTyped program f (types function) [] ((Int 1, x) ∷ (ty, y) ∷ (ty, z) ∷ []) = ((omega arith, omega arith), is.1, (is.0, is.2, (is.0, is.3, tt))) in let t = have ((Int 1, x) ∷ (ty, y) ∷ (ty, z) ∷ []) are stand in
        then_good ((Int 1, x) ∷ (ty, y) ∷ (ty, z) ∷ []) _ are stand (good_select f value _ _ _ 1 (type_of ty) (h (value_result ty is.0)) t.0 t.1.0 t.1.1.0)
    piece_good value ty (Freeze x) is h stand =
        let are : AreTyped program f (types function) [] ((ty, x) ∷ []) = (is.0, is.1, tt) in let t = have ((ty, x) ∷ []) are stand in
        then_good ((ty, x) ∷ []) _ are stand (good_copy f value _ (type_of ty) (h (value_result ty is.0)) t.0)
    piece_good value ty (Phi pairs) is h stand = (good_trap f, tt)
    piece_good value ty (Alloca of count) is h stand = (good_take f value _ (h (ap is_result is) ∙ ap (λ (z : Ty). Some (type_of z)) is), tt)
    piece_good value ty (Load x) is h stand =
        let are : AreTyped program f (types function) [] ((Ptr, x) ∷ []) = (tt, is.1, tt) in let t = have ((Ptr, x) ∷ []) are stand in
        then_good ((Ptr, x) ∷ []) _ are stand (good_load f value _ (8 * byte_count ty) (type_of ty) (h (value_result ty (stored_value ty is.0))) t.0 (size_is f ty is.0))
    piece_good value ty (Store of x y) is h stand =
        let are : AreTyped program f (types function) [] ((of, x) ∷ (Ptr, y) ∷ []) = (stored_value of is.1, is.2, (tt, is.3, tt)) in let t = have ((of, x) ∷ (Ptr, y) ∷ []) are stand in
        then_good ((of, x) ∷ (Ptr, y) ∷ []) _ are stand (good_store f _ _ (8 * byte_count of) (type_of of) t.0 t.1.0 (size_is f of is.1))
    piece_good value ty (Gep of base indices) is h stand =
        let are : AreTyped program f (types function) [] ((Ptr, base) ∷ []) = (tt, is.1, tt) in
        let rest = sum_types gl (behind_all gl pool ((Ptr, base) ∷ [])) (in_order (addends_of of indices)) in
        let front = stand_front f.types pool.next (all_loaded gl pool ((Ptr, base) ∷ [])) rest stand in
        let t = have ((Ptr, base) ∷ []) are front in
        let next = behind_ops program function f typed pool regs held ((Ptr, base) ∷ []) are front in
        let pointer : slice_get f.types value ≡ Some P0 = h (ap is_result is.0) ∙ ap (λ (z : Ty). Some (type_of z)) is.0 in
        loads_then_good program function f typed pool regs held ((Ptr, base) ∷ []) _ are front
        (sum_good program function f typed (in_order (addends_of of indices)) value _ (behind_all gl pool ((Ptr, base) ∷ [])) next.0 (order_addends (types function) (addends_of of indices) (typed_addends (types function) of indices is.2))
        (order_short program f (types function) [] typed (addends_of of indices)) next.1 pointer t.0 (stand_behind gl f.types ((Ptr, base) ∷ []) pool rest stand))
    piece_good value ty (Call callee arguments) is h stand =
        let are = call_typed program function f typed pool regs held all callee arguments ty (function_at program callee) refl is.0 is.1 in
        then_good arguments _ are stand (call_good value callee arguments ty (function_at program callee) refl is.0 are h stand)
    piece_good value ty (CallBuiltIn which arguments) is h stand = built_good program function f typed pool regs held value ty arguments which is.0 is.1 h stand
    piece_good value ty (Ret None) is h stand = (record { form = (refl, omega arith); defs = tt; uses = tt }, tt)
    piece_good value ty (Ret (Some a)) is h stand =
        let are : AreTyped program f (types function) [] ((function.ret, a) ∷ []) = (is.1.0, is.1.1, tt) in let t = have ((function.ret, a) ∷ []) are stand in
        then_good ((function.ret, a) ∷ []) _ are stand (record { form = (refl, omega arith); defs = tt; uses = all_exist ((function.ret, a) ∷ []) (registers gl pool ((function.ret, a) ∷ [])) t })
    piece_good value ty (Br to) is h stand = (good_trap f, tt)
    piece_good value ty (CondBr x y z) is h stand = (good_trap f, tt)
    piece_good value ty (Switch of x otherwise cases) is h stand = (good_trap f, tt)
    piece_good value ty Unreachable is h stand = (good_trap f, tt)

  -- ---- ends of blocks

  -- all of this ending
  abbrev pub AllGood : Ending → Type 0
  AllGood e = Every G e.code × Every (Every G) e.later

  -- the registers that phis read on edges have their types
  abbrev pub UsesHave : ℕ → Edge → Type 0
  UsesHave from e = AllHave program function f typed (edge_operands gl function from e.to) e.uses

  abbrev pub AllUses : ℕ → List Edge → Type 0
  AllUses from es = Every (λ (e : Edge). UsesHave from e) es

  module _ (well : IsTypedFunction program function) (from : ℕ) where
    edge_typed : (to : ℕ) → AreTyped program f (types function) [] (edge_operands gl function from to)
    edge_typed to = heads_typed program function well from to f [] 0 (heads gl function to) (heads_at program function well from to)

    good_jump : (to : ℕ) → Good f (jump_to to)
    good_jump to = record { form = (to, refl, refl, refl); defs = tt; uses = tt }

    good_branch : (bit if_one if_zero : ℕ) → slice_get f.types bit ≡ Some (S 1) → Good f (branch_on bit if_one if_zero)
    good_branch bit if_one if_zero h = record { form = (bit, if_one, if_zero, refl, refl, (1, h), refl); defs = tt; uses = (get_below f.types bit (S 1) h, tt) }

    edge_good : (pool : Pool) (regs : Registers) (to : ℕ) → Known f (types function) pool regs → Stand f.types pool.next (edge_types gl function from pool to) → Every G (edge_code gl function from pool to)
    edge_good pool regs to held stand = loads_then_good program function f typed pool regs held (edge_operands gl function from to) (jump_to to ∷ []) (edge_typed to) stand (good_jump to, tt)

    edge_have : (pool : Pool) (regs : Registers) (to at : ℕ) → Known f (types function) pool regs → Stand f.types pool.next (edge_types gl function from pool to) → UsesHave from (record { to = to; at = at; uses = edge_uses gl function from pool to })
    edge_have pool regs to at held stand = registers_have program function f typed (edge_operands gl function from to) pool regs (edge_typed to) held stand

    none_held : (next : ℕ) → length (types function) ≤ next → Known f (types function) (empty_pool next) (λ r. free)
    none_held next low = known_empty f (types function) next (λ r. free) low

    block_good : (next to : ℕ) → length (types function) ≤ next → Stand f.types next (edge_types gl function from (empty_pool next) to) → Every (Every G) (edge_blocks gl function from next to)
    block_good next to low stand = by_phis (no_phis gl function to) (edge_good (empty_pool next) (λ r. free) to (none_held next low) stand)
      where
        by_phis : (n : Bool) → Every G (edge_code gl function from (empty_pool next) to) → Every (Every G) (if n then [] else edge_code gl function from (empty_pool next) to ∷ [])
        by_phis true h = tt
        by_phis false h = (h, tt)

    branch_good : (at next own bit if_one if_zero : ℕ) → length (types function) ≤ next → slice_get f.types bit ≡ Some (S 1) → Stand f.types next (branch gl function from at next own bit if_one if_zero).types
        → AllGood (branch gl function from at next own bit if_one if_zero) × AllUses from (branch gl function from at next own bit if_one if_zero).edges
    branch_good at next own bit if_one if_zero low h stand =
        let first = edge_types gl function from (empty_pool next) if_one in
        let second = next + length (edge_types gl function from (empty_pool next) if_one) in
        let stand_one = stand_front f.types next first (edge_types gl function from (empty_pool second) if_zero) stand in
        let stand_two = stand_rest f.types next first (edge_types gl function from (empty_pool second) if_zero) stand in
        let low_two : length (types function) ≤ second = omega (arith, low) in (
          ((good_branch bit _ _ h, tt), every_both (Every G) (edge_blocks gl function from next if_one) (edge_blocks gl function from second if_zero) (block_good next if_one low stand_one) (block_good second if_zero low_two stand_two)),
          (edge_have (empty_pool next) (λ r. free) if_one 0 (none_held next low) stand_one, (edge_have (empty_pool second) (λ r. free) if_zero 0 (none_held second low_two) stand_two, tt)),
        )

    -- a test of a register against a number of its type
    record Tested (of : Ty) (r : ℕ) (pool : Pool) (n : ℕ) (more : List GType) : Type 0 where
      code : Every G (test_code gl function from of r pool n)
      bit : slice_get f.types (behind_all gl pool ((of, Num n) ∷ [])).next ≡ Some (S 1)
      behind : Stand f.types ((behind_all gl pool ((of, Num n) ∷ [])).next + 1) more
      low : length (types function) ≤ (behind_all gl pool ((of, Num n) ∷ [])).next + 1

    test_good : (of : Ty) (r : ℕ) (pool : Pool) (regs : Registers) (n : ℕ) (more : List GType) → IsInteger of → n < 2 ^ width of → slice_get f.types r ≡ Some (type_of of) → Known f (types function) pool regs
        → Stand f.types pool.next (test_types gl function from of pool n ++ more) → Tested of r pool n more
    test_good of r pool regs n more integer l h held stand =
        let are : AreTyped program f (types function) [] ((of, Num n) ∷ []) = (integer_value of integer, l, tt) in
        let loaded = all_loaded gl pool ((of, Num n) ∷ []) in
        let flat = subst (λ (z : List GType). Stand f.types pool.next z) (append_assoc loaded (S 1 ∷ []) more) stand in
        let front = stand_front f.types pool.next loaded (S 1 ∷ more) flat in
        let next = stand_behind gl f.types ((of, Num n) ∷ []) pool (S 1 ∷ more) flat in
        let bit = stand_first f.types (behind_all gl pool ((of, Num n) ∷ [])).next (S 1) more next in
        let t = registers_have program function f typed ((of, Num n) ∷ []) pool regs are held front in
        let behind_held = behind_ops program function f typed pool regs held ((of, Num n) ∷ []) are front in
        let low' = behind_held.1.low in
        record {
          code = loads_then_good program function f typed pool regs held ((of, Num n) ∷ []) _ are front (good_icmp f _ r _ 1 0 (type_of of) bit h t.0 (omega arith), tt);
          bit = bit;
          behind = stand_tail f.types (behind_all gl pool ((of, Num n) ∷ [])).next (S 1) more next;
          low = omega (arith, low');
        }

    tests_good : (cases : List (ℕ × ℕ)) (of : Ty) (r otherwise at : ℕ) (pool : Pool) (regs : Registers) (own : ℕ) → IsInteger of → slice_get f.types r ≡ Some (type_of of) → AreCases (length function.blocks) of cases → Known f (types function) pool regs
        → Stand f.types pool.next (tests gl function from of r otherwise at pool own cases).types
        → AllGood (tests gl function from of r otherwise at pool own cases) × AllUses from (tests gl function from of r otherwise at pool own cases).edges
    tests_good [] of r otherwise at pool regs own integer h are held stand = ((edge_good pool regs otherwise held stand, tt), (edge_have pool regs otherwise at held stand, tt))
    tests_good (one ∷ []) of r otherwise at pool regs own integer h are held stand =
        let bit = (behind_all gl pool ((of, Num one.0) ∷ [])).next in
        let way = branch gl function from at (bit + 1) own bit one.1 otherwise in
        let t = test_good of r pool regs one.0 way.types integer are.0 h held stand in
        let rest = branch_good at (bit + 1) own bit one.1 otherwise t.low t.bit t.behind in
        ((every_both G (test_code gl function from of r pool one.0) way.code t.code rest.0.0, rest.0.1), rest.1)
    tests_good (one ∷ two ∷ cases) of r otherwise at pool regs own integer h are held stand =
        let bit = (behind_all gl pool ((of, Num one.0) ∷ [])).next in
        let edge_tys = edge_types gl function from (empty_pool (bit + 1)) one.1 in
        let next = bit + 1 + length edge_tys in
        let on = own + spare gl function one.1 in
        let rest = tests gl function from of r otherwise on (empty_pool next) (on + 1) (two ∷ cases) in
        let flat = subst (λ (z : List GType). Stand f.types pool.next z) (append_assoc (test_types gl function from of pool one.0) edge_tys rest.types) stand in
        let t = test_good of r pool regs one.0 (edge_tys ++ rest.types) integer are.0 h held flat in
        let low = t.low in
        let stand_edge = stand_front f.types (bit + 1) edge_tys rest.types t.behind in
        let low' : length (types function) ≤ next = omega (arith, low) in
        let ih = tests_good (two ∷ cases) of r otherwise on (empty_pool next) (λ r. free) (on + 1) integer h are.2 (none_held next low') (stand_rest f.types (bit + 1) edge_tys rest.types t.behind) in (
          (
            every_both G (test_code gl function from of r pool one.0) (branch_on bit (goes_to gl function from own one.1) on ∷ []) t.code (good_branch bit _ on t.bit, tt),
            every_both (Every G) (edge_blocks gl function from (bit + 1) one.1) (rest.code ∷ rest.later) (block_good (bit + 1) one.1 low stand_edge) (ih.0.0, ih.0.1),
          ),
          (edge_have (empty_pool (bit + 1)) (λ r. free) one.1 0 (none_held (bit + 1) low) stand_edge, ih.1),
        )

    ending_good : (pool : Pool) (regs : Registers) (own : ℕ) (ty : Ty) (op : Op) → IsOp program function ty op → Known f (types function) pool regs → Stand f.types pool.next (ending_of gl function from pool own op).types
        → AllGood (ending_of gl function from pool own op) × AllUses from (ending_of gl function from pool own op).edges
    ending_good pool regs own ty (Br to) is held stand = ((edge_good pool regs to held stand, tt), (edge_have pool regs to from held stand, tt))
    ending_good pool regs own ty (CondBr x y z) is held stand =
        let are : AreTyped program f (types function) [] ((Int 1, x) ∷ []) = ((omega arith, omega arith), is.1, tt) in
        let way = branch gl function from from (behind_all gl pool ((Int 1, x) ∷ [])).next own (first_register (registers gl pool ((Int 1, x) ∷ []))) y z in
        let front = stand_front f.types pool.next (all_loaded gl pool ((Int 1, x) ∷ [])) way.types stand in
        let t = registers_have program function f typed ((Int 1, x) ∷ []) pool regs are held front in
        let next = behind_ops program function f typed pool regs held ((Int 1, x) ∷ []) are front in
        let rest = branch_good from (behind_all gl pool ((Int 1, x) ∷ [])).next own (first_register (registers gl pool ((Int 1, x) ∷ []))) y z next.1.low t.0 (stand_behind gl f.types ((Int 1, x) ∷ []) pool way.types stand) in
        ((loads_then_good program function f typed pool regs held ((Int 1, x) ∷ []) way.code are front rest.0.0, rest.0.1), rest.1)
    ending_good pool regs own ty (Switch of a otherwise cases) is held stand =
        let are : AreTyped program f (types function) [] ((of, a) ∷ []) = (integer_value of is.1, is.2, tt) in
        let way = tests gl function from of (first_register (registers gl pool ((of, a) ∷ []))) otherwise from (behind_all gl pool ((of, a) ∷ [])) own cases in
        let front = stand_front f.types pool.next (all_loaded gl pool ((of, a) ∷ [])) way.types stand in
        let t = registers_have program function f typed ((of, a) ∷ []) pool regs are held front in
        let next = behind_ops program function f typed pool regs held ((of, a) ∷ []) are front in
        let rest = tests_good cases of (first_register (registers gl pool ((of, a) ∷ []))) otherwise from (behind_all gl pool ((of, a) ∷ [])) next.0 own is.1 t.0 is.4 next.1 (stand_behind gl f.types ((of, a) ∷ []) pool way.types stand) in
        ((loads_then_good program function f typed pool regs held ((of, a) ∷ []) way.code are front rest.0.0, rest.0.1), rest.1)
    ending_good pool regs own ty op is held stand = ((tt, tt), tt)

    pub insts_good : (insts : List Inst) (value : ℕ) (pool : Pool) (own : ℕ) (regs : Registers) → Known f (types function) pool regs → Along program function f typed value insts
        → Stand f.types pool.next (insts_ending gl function from value pool own insts).types
        → AllGood (insts_ending gl function from value pool own insts) × AllUses from (insts_ending gl function from value pool own insts).edges
    insts_good [] value pool own regs held along stand = ((tt, tt), tt)
    insts_good (inst ∷ insts) value pool own regs held along stand =
        by_jump (is_jump inst.op) refl stand (λ regs' held' stand'. insts_good insts (if has_result inst then value + 1 else value) (piece_of gl function.ret value pool inst.gives inst.op).pool own regs' held' along.2 stand')
      where
        rest : Ending
        rest = insts_ending gl function from (if has_result inst then value + 1 else value) (piece_of gl function.ret value pool inst.gives inst.op).pool own insts

        by_jump : (j : Bool) → is_jump inst.op ≡ j
            → Stand f.types pool.next (if j then ending_of gl function from pool own inst.op else (let piece = piece_of gl function.ret value pool inst.gives inst.op in
            ending_behind piece.code piece.types (insts_ending gl function from (if has_result inst then value + 1 else value) piece.pool own insts))).types
            → ((regs' : Registers) → Known f (types function) (piece_of gl function.ret value pool inst.gives inst.op).pool regs'
            → Stand f.types (piece_of gl function.ret value pool inst.gives inst.op).pool.next (insts_ending gl function from (if has_result inst then value + 1 else value) (piece_of gl function.ret value pool inst.gives inst.op).pool own insts).types
            → AllGood (insts_ending gl function from (if has_result inst then value + 1 else value) (piece_of gl function.ret value pool inst.gives inst.op).pool own insts)
            × AllUses from (insts_ending gl function from (if has_result inst then value + 1 else value) (piece_of gl function.ret value pool inst.gives inst.op).pool own insts).edges)
            → AllGood (insts_ending gl function from value pool own (inst ∷ insts)) × AllUses from (insts_ending gl function from value pool own (inst ∷ insts)).edges
        by_jump true e stand more = rw e (ending_good pool regs own inst.gives inst.op along.0 held stand)
        by_jump false e stand more =
            let piece = piece_of gl function.ret value pool inst.gives inst.op in
            let front = stand_front f.types pool.next piece.types rest.types stand in
            let next = piece_held program function f typed pool regs held all value inst.gives inst.op along.0 along.1 front in
            let ih = more next.0 next.1 (piece_stand program f (types function) [] typed function.ret value pool rest.types inst.gives inst.op stand) in
            rw e ((every_both G piece.code rest.code (piece_good pool regs held value inst.gives inst.op along.0 along.1 front) ih.0.0, ih.0.1), ih.1)
