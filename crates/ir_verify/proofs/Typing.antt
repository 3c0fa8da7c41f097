-- What passes is well typed.
use Rattle.std.proofs.Common.{◌≡◌, ℕ, zero, suc, ◌+◌, ◌^◌, ◌<◌, ◌≤◌, ◌⊎◌, inl, inr, List, [], ◌∷◌, ◌++◌, length, refl, sym, ◌∙◌, ap, subst, Bool, true, false, ◌&&◌, ◌||◌, ◌==◌, not, nat_lt, nat_le, arith, Option, Some, None, if◌then◌else◌}
use Rattle.std.specs.Prelude.{slice_get}
use Rattle.std.proofs.lemmas.Bool.{false≢true}
use Rattle.std.proofs.lemmas.Bool.Decides.{nat_tests}
use Rattle.ir_core.specs.declared.types.TheConstants.{MAX_WIDTH}
use Rattle.ir_core.specs.declared.types.Ty.{Ty}
use Rattle.ir_core.specs.declared.types.Ty.TheVariants.{Void, Int, Ptr}
use Rattle.ir_core.specs.declared.code.Operand.{Operand}
use Rattle.ir_core.specs.declared.code.Operand.TheVariants.{Value as Local, Num, Null, Place, Poison}
use Rattle.ir_core.specs.declared.code.BinOp.{BinOp}
use Rattle.ir_core.specs.declared.code.CastOp.{CastOp}
use Rattle.ir_core.specs.declared.code.CastOp.TheVariants.{Trunc, ZExt, SExt, PtrToInt, IntToPtr, Same}
use Rattle.ir_core.specs.declared.code.BuiltIn.{BuiltIn}
use Rattle.ir_core.specs.declared.code.BuiltIn.TheVariants.{MemCpy, MemMove, MemSet, SMax, SMin, UMax, UMin, Abs}
use Rattle.ir_core.specs.declared.code.Op.{Op}
use Rattle.ir_core.specs.declared.code.Op.TheVariants.{Binary, Icmp, Cast, Select, Freeze, Phi, Alloca, Load, Store, Gep, Call, BuiltIn as CallBuiltIn, Ret, Br, CondBr, Switch, Unreachable}
use Rattle.ir_core.specs.declared.types.MemTy.{MemTy}
use Rattle.ir_core.specs.declared.code.Inst.{Inst}
use Rattle.ir_core.specs.declared.code.Block.{Block}
use Rattle.ir_core.specs.declared.program.Function.{Function}
use Rattle.ir_core.specs.declared.program.Module.{Module}
use Rattle.ir_core.specs.Units.{instructions, types_in, types_of_arguments, values}
use Rattle.ir_meaning.specs.Operators.{width}
use Rattle.ir_meaning.specs.Step.{Program, function_at, insts_at, insts_of}
use Rattle.ir_meaning.specs.Typed.{types, IsInteger, IsValueType, IsResultType, IsStored, IsOperand, AreArguments, AreIndices, ArePairs, AreCases, IsCast, IsLength, IsBuiltIn, IsCallee, IsReturned, IsOp, IsTypedFunction, IsTyped}
use Rattle.ir_flow.specs.First.{first_refused, or_then}
use Rattle.ir_flow.specs.Code.{places, typed_pairs, pair_blocks, case_blocks, blocks_named}
use Rattle.ir_verify.specs.Ranges.{is_width, has_width, all_have_widths, names_what_is, all_named, number_fits_width, all_below, all_cases_fit, names_more, is_in_range, is_parameter, all_parameters, at_first, out_of_range}
use Rattle.ir_verify.specs.Types.{is_void, is_ptr, is_int, is_int_of, same_type, has_type, fits_place, all_fit_places, width_of, is_narrow, is_cast, is_stored, is_length, is_number, is_zero, is_false, is_built_in, all_int, leads_into, is_part, is_returned, gives_type, is_typed, mistyped}
use Rattle.ir_verify.specs.Calls.{takes, is_call_of, wrong_callee, numbered, first_wrong_call, wrong_call}
use Rattle.ir_verify.specs.Verdict.{IsChecked}
use Rattle.ir_verify.proofs.Lists.{Every, every_left, every_right, every_and, every_at, and_both, lt_is, le_is, or_none_left, or_none_right, none_refused}
use Rattle.ir_verify.proofs.Usable.{InRange, insts_in_range, range_parts, few_functions}
use Rattle.ir_verify.proofs.Rows.{no_limit, in_range, typed, called}

none_some : {A : Type 0} (x : A) → None ≡ Some x → ⊥
none_some x e = cc

-- ---- types

ptr_is : (ty : Ty) → is_ptr ty ≡ true → ty ≡ Ptr
ptr_is Void h = absurd (false≢true h)
ptr_is (Int w) h = absurd (false≢true h)
ptr_is Ptr h = refl

void_is : (ty : Ty) → is_void ty ≡ true → ty ≡ Void
void_is Void h = refl
void_is (Int w) h = absurd (false≢true h)
void_is Ptr h = absurd (false≢true h)

same_number : (a b : ℕ) → (a == b) ≡ true → a ≡ b
same_number a b h = grind (arith, nat_tests)

int_is : (w : ℕ) (ty : Ty) → is_int_of w ty ≡ true → ty ≡ Int w
int_is w Void h = absurd (false≢true h)
int_is w (Int v) h = ap (λ n. Int n) (same_number v w h)
int_is w Ptr h = absurd (false≢true h)

same_is : (a b : Ty) → same_type a b ≡ true → a ≡ b
same_is Void b h = sym (void_is b h)
same_is (Int w) b h = sym (int_is w b h)
same_is Ptr b h = sym (ptr_is b h)

width_parts : (w : ℕ) → is_width w ≡ true → (1 ≤ w) × (w ≤ MAX_WIDTH)
width_parts w h = let two = and_both (nat_le 1 w) (nat_le w MAX_WIDTH) h in (le_is 1 w two.0, le_is w MAX_WIDTH two.1)

integer_is : (ty : Ty) → is_int ty ≡ true → has_width ty ≡ true → IsInteger ty
integer_is Void h g = absurd (false≢true h)
integer_is (Int w) h g = width_parts w g
integer_is Ptr h g = absurd (false≢true h)

value_is : (ty : Ty) → not (is_void ty) ≡ true → has_width ty ≡ true → IsValueType ty
value_is Void h g = absurd (false≢true h)
value_is (Int w) h g = width_parts w g
value_is Ptr h g = tt

result_is : (ty : Ty) → has_width ty ≡ true → IsResultType ty
result_is Void h = tt
result_is (Int w) h = width_parts w h
result_is Ptr h = tt

parameter_is : (ty : Ty) → is_parameter ty ≡ true → IsValueType ty
parameter_is Void h = absurd (false≢true h)
parameter_is (Int w) h = width_parts w h
parameter_is Ptr h = tt

parameters_are : (tys : List Ty) → all_parameters tys ≡ true → Every IsValueType tys
parameters_are [] h = tt
parameters_are (ty ∷ tys) h = let two = and_both (is_parameter ty) (all_parameters tys) h in (parameter_is ty two.0, parameters_are tys two.1)

stored_is : (ty : Ty) → is_stored ty ≡ true → IsStored ty
stored_is Void h = absurd (false≢true h)
stored_is (Int w) h = h
stored_is Ptr h = tt

length_is : (ty : Ty) → is_length ty ≡ true → (w : ℕ) × IsLength w × (ty ≡ Int w)
length_is ty h = by_test (is_int_of 32 ty) refl
  where
    by_test : (b : Bool) → is_int_of 32 ty ≡ b → (w : ℕ) × IsLength w × (ty ≡ Int w)
    by_test true g = (32, inl refl, int_is 32 ty g)
    by_test false g = (64, inr refl, int_is 64 ty (rw g at h))

widths_are : (ty : Ty) → is_int ty ≡ true → width_of ty ≡ width ty
widths_are Void h = absurd (false≢true h)
widths_are (Int w) h = refl
widths_are Ptr h = absurd (false≢true h)

-- ---- operands

module _ (module_ : Module) (count : ℕ) (tys : List Ty) where
  found_is : (ty : Ty) (found : Option Ty) → has_type ty found ≡ true → found ≡ Some ty
  found_is ty None h = absurd (false≢true h)
  found_is ty (Some other) h = ap (λ (t : Ty). Some t) (sym (same_is ty other h))

  operand_is : (ty : Ty) (operand : Operand) → names_what_is module_ count ty operand ≡ true → fits_place tys ty operand ≡ true → IsOperand tys ty operand
  operand_is ty (Local number) h g = found_is ty (slice_get tys number) g
  operand_is ty (Num n) h g = lt_is n (2 ^ width ty) h
  operand_is ty Null h g = ptr_is ty g
  operand_is ty (Place global offset) h g = ptr_is ty g
  operand_is ty Poison h g = tt

  pub arguments_are : (all : List (Ty × Operand)) → all_named module_ count all ≡ true → all_fit_places tys all ≡ true → AreArguments tys all
  arguments_are [] h g = tt
  arguments_are (one ∷ more) h g =
      let a = and_both (names_what_is module_ count one.0 one.1) (all_named module_ count more) h in
      let b = and_both (fits_place tys one.0 one.1) (all_fit_places tys more) g in
      (operand_is one.0 one.1 a.0 b.0, arguments_are more a.1 b.1)

indices_are : (tys : List Ty) (indices : List (Ty × Operand)) → all_have_widths (types_of_arguments indices) ≡ true → all_int indices ≡ true
    → AreArguments tys indices → AreIndices tys indices
indices_are tys [] h g are = tt
indices_are tys (index ∷ indices) h g are =
    let a = and_both (has_width index.0) (all_have_widths (types_of_arguments indices)) h in
    let b = and_both (is_int index.0) (all_int indices) g in
    (integer_is index.0 b.0 a.0, are.0, indices_are tys indices a.1 b.1 are.1)

pairs_are : (tys : List Ty) (blocks : ℕ) (ty : Ty) (pairs : List (Operand × ℕ)) → all_below blocks (pair_blocks pairs) ≡ true
    → AreArguments tys (typed_pairs ty pairs) → ArePairs tys blocks ty pairs
pairs_are tys blocks ty [] h are = tt
pairs_are tys blocks ty (pair ∷ pairs) h are =
    let a = and_both (nat_lt pair.1 blocks) (all_below blocks (pair_blocks pairs)) h in
    (are.0, lt_is pair.1 blocks a.0, pairs_are tys blocks ty pairs a.1 are.1)

cases_are : (blocks : ℕ) (ty : Ty) (cases : List (ℕ × ℕ)) → all_below blocks (case_blocks cases) ≡ true → all_cases_fit ty cases ≡ true → AreCases blocks ty cases
cases_are blocks ty [] h g = tt
cases_are blocks ty (one ∷ cases) h g =
    let a = and_both (nat_lt one.1 blocks) (all_below blocks (case_blocks cases)) h in
    let b = and_both (number_fits_width one.0 ty) (all_cases_fit ty cases) g in
    (lt_is one.0 (2 ^ width ty) b.0, lt_is one.1 blocks a.0, cases_are blocks ty cases a.1 b.1)

-- ---- operations

module _ (from to : Ty) (h : has_width from ≡ true) (g : has_width to ≡ true) where
  narrower : (is_int from && is_int to && nat_lt (width_of to) (width_of from)) ≡ true → IsInteger from × IsInteger to × (width to < width from)
  narrower is =
      let a = and_both (is_int from && is_int to) (nat_lt (width_of to) (width_of from)) is in
      let b = and_both (is_int from) (is_int to) a.0 in
      (integer_is from b.0 h, integer_is to b.1 g, rw (← widths_are to b.1, ← widths_are from b.0) (lt_is (width_of to) (width_of from) a.1))

  wider : (is_int from && is_int to && nat_lt (width_of from) (width_of to)) ≡ true → IsInteger from × IsInteger to × (width from < width to)
  wider is =
      let a = and_both (is_int from && is_int to) (nat_lt (width_of from) (width_of to)) is in
      let b = and_both (is_int from) (is_int to) a.0 in
      (integer_is from b.0 h, integer_is to b.1 g, rw (← widths_are from b.0, ← widths_are to b.1) (lt_is (width_of from) (width_of to) a.1))

  cast_is : (op : CastOp) → is_cast op from to ≡ true → IsCast op from to
  cast_is Trunc is = narrower is
  cast_is ZExt is = wider is
  cast_is SExt is = wider is
  cast_is PtrToInt is = let a = and_both (is_ptr from) (is_int to) is in (ptr_is from a.0, integer_is to a.1 g)
  cast_is IntToPtr is = let a = and_both (is_int from) (is_ptr to) is in (integer_is from a.0 h, ptr_is to a.1)
  cast_is Same is = let a = and_both (same_type from to) (not (is_void from)) is in (value_is from a.1 h, same_is from to a.0)

list_2 : (a b c d : Ty) → a ≡ c → b ≡ d → a ∷ b ∷ [] ≡ c ∷ d ∷ []
list_2 a b c d e f = cc

list_4 : (a b c d a' b' c' d' : Ty) → a ≡ a' → b ≡ b' → c ≡ c' → d ≡ d' → a ∷ b ∷ c ∷ d ∷ [] ≡ a' ∷ b' ∷ c' ∷ d' ∷ []
list_4 a b c d a' b' c' d' e f g h = cc

false_is : (argument : Ty × Operand) → is_false argument ≡ true → argument.0 ≡ Int 1
false_is argument h = int_is 1 argument.0 (and_both (is_int_of 1 argument.0) (is_zero argument.1) h).0

module _ (ty : Ty) (g : has_width ty ≡ true) where
  moving_is : (to from count volatile : Ty × Operand) → (is_ptr to.0 && is_ptr from.0 && is_length count.0 && is_false volatile && is_void ty) ≡ true
      → (w : ℕ) × IsLength w × (to.0 ∷ from.0 ∷ count.0 ∷ volatile.0 ∷ [] ≡ Ptr ∷ Ptr ∷ Int w ∷ Int 1 ∷ []) × (ty ≡ Void)
  moving_is to from count volatile h =
      let a = and_both (is_ptr to.0 && is_ptr from.0 && is_length count.0 && is_false volatile) (is_void ty) h in
      let b = and_both (is_ptr to.0 && is_ptr from.0 && is_length count.0) (is_false volatile) a.0 in
      let d = and_both (is_ptr to.0 && is_ptr from.0) (is_length count.0) b.0 in
      let e = and_both (is_ptr to.0) (is_ptr from.0) d.0 in
      let l = length_is count.0 d.1 in
      (l.0, l.1, list_4 _ _ _ _ _ _ _ _ (ptr_is to.0 e.0) (ptr_is from.0 e.1) l.2 (false_is volatile b.1), void_is ty a.1)

  filling_is : (to byte count volatile : Ty × Operand) → (is_ptr to.0 && is_int_of 8 byte.0 && is_length count.0 && is_false volatile && is_void ty) ≡ true
      → (w : ℕ) × IsLength w × (to.0 ∷ byte.0 ∷ count.0 ∷ volatile.0 ∷ [] ≡ Ptr ∷ Int 8 ∷ Int w ∷ Int 1 ∷ []) × (ty ≡ Void)
  filling_is to byte count volatile h =
      let a = and_both (is_ptr to.0 && is_int_of 8 byte.0 && is_length count.0 && is_false volatile) (is_void ty) h in
      let b = and_both (is_ptr to.0 && is_int_of 8 byte.0 && is_length count.0) (is_false volatile) a.0 in
      let d = and_both (is_ptr to.0 && is_int_of 8 byte.0) (is_length count.0) b.0 in
      let e = and_both (is_ptr to.0) (is_int_of 8 byte.0) d.0 in
      let l = length_is count.0 d.1 in
      (l.0, l.1, list_4 _ _ _ _ _ _ _ _ (ptr_is to.0 e.0) (int_is 8 byte.0 e.1) l.2 (false_is volatile b.1), void_is ty a.1)

  greatest_is : (a b : Ty × Operand) → (is_int ty && same_type a.0 ty && same_type b.0 ty) ≡ true → (a.0 ∷ b.0 ∷ [] ≡ ty ∷ ty ∷ []) × IsInteger ty
  greatest_is a b h =
      let x = and_both (is_int ty && same_type a.0 ty) (same_type b.0 ty) h in
      let y = and_both (is_int ty) (same_type a.0 ty) x.0 in
      (list_2 _ _ _ _ (same_is a.0 ty y.1) (same_is b.0 ty x.1), integer_is ty y.0 g)

  abs_is : (a b : Ty × Operand) → (is_int ty && same_type a.0 ty && is_int_of 1 b.0 && is_number b.1) ≡ true → (a.0 ∷ b.0 ∷ [] ≡ ty ∷ Int 1 ∷ []) × IsInteger ty
  abs_is a b h =
      let w = and_both (is_int ty && same_type a.0 ty && is_int_of 1 b.0) (is_number b.1) h in
      let x = and_both (is_int ty && same_type a.0 ty) (is_int_of 1 b.0) w.0 in
      let y = and_both (is_int ty) (same_type a.0 ty) x.0 in
      (list_2 _ _ _ _ (same_is a.0 ty y.1) (int_is 1 b.0 x.1), integer_is ty y.0 g)

  built_in_is : (which : BuiltIn) (arguments : List (Ty × Operand)) → is_built_in which arguments ty ≡ true → IsBuiltIn which (types_of_arguments arguments) ty
  built_in_is MemCpy (to ∷ from ∷ count ∷ volatile ∷ []) h = moving_is to from count volatile h
  built_in_is MemCpy _ h = absurd (false≢true h)
  built_in_is MemMove (to ∷ from ∷ count ∷ volatile ∷ []) h = moving_is to from count volatile h
  built_in_is MemMove _ h = absurd (false≢true h)
  built_in_is MemSet (to ∷ byte ∷ count ∷ volatile ∷ []) h = filling_is to byte count volatile h
  built_in_is MemSet _ h = absurd (false≢true h)
  built_in_is SMax (a ∷ b ∷ []) h = greatest_is a b h
  built_in_is SMax _ h = absurd (false≢true h)
  built_in_is SMin (a ∷ b ∷ []) h = greatest_is a b h
  built_in_is SMin _ h = absurd (false≢true h)
  built_in_is UMax (a ∷ b ∷ []) h = greatest_is a b h
  built_in_is UMax _ h = absurd (false≢true h)
  built_in_is UMin (a ∷ b ∷ []) h = greatest_is a b h
  built_in_is UMin _ h = absurd (false≢true h)
  built_in_is Abs (a ∷ b ∷ []) h = abs_is a b h
  built_in_is Abs _ h = absurd (false≢true h)

takes_is : (params : List Ty) (arguments : List (Ty × Operand)) → takes params arguments ≡ true → types_of_arguments arguments ≡ params
takes_is [] [] h = refl
takes_is [] (a ∷ arguments) h = absurd (false≢true h)
takes_is (ty ∷ tys) [] h = absurd (false≢true h)
takes_is (ty ∷ tys) (a ∷ arguments) h =
    let two = and_both (same_type ty a.0) (takes tys arguments) h in
    let head : a.0 ≡ ty = sym (same_is ty a.0 two.0) in
    let tail : types_of_arguments arguments ≡ tys = takes_is tys arguments two.1 in
    cc

callee_is : (found : Option Function) (arguments : List (Ty × Operand)) (ty : Ty) → is_call_of found arguments ty ≡ true
    → IsCallee found (types_of_arguments arguments) ty
callee_is None arguments ty h = absurd (false≢true h)
callee_is (Some callee) arguments ty h =
    let two = and_both (takes callee.params arguments) (same_type callee.ret ty) h in
    (takes_is callee.params arguments two.0, sym (same_is callee.ret ty two.1))

called_well : (callee : ℕ) (b : Bool) → (if b then None else Some callee) ≡ None → b ≡ true
called_well callee true h = refl
called_well callee false h = absurd (none_some callee (sym h))

part_int : (of : MemTy) (indices : List (Ty × Operand)) → is_part of indices ≡ true → all_int indices ≡ true
part_int of [] h = absurd (false≢true h)
part_int of (index ∷ indices) h = (and_both (all_int (index ∷ indices)) (leads_into indices of) h).0

module _ (program : Program) (function : Function) (ret : has_width function.ret ≡ true) where
  returned_is : (value : Option Operand) → is_returned function.ret value ≡ true → (ty : Ty) → AreArguments (types function) (places function.ret ty (Ret value))
      → IsReturned (types function) function.ret value
  returned_is None h ty are = void_is function.ret h
  returned_is (Some a) h ty are = (value_is function.ret h ret, are.0)

  op_is : (ty : Ty) (op : Op) → has_width ty ≡ true → all_have_widths (types_in op) ≡ true → AreArguments (types function) (places function.ret ty op)
      → all_below (length function.blocks) (blocks_named op) ≡ true → names_more program.module_ op ≡ true → gives_type function.ret ty op ≡ true
      → wrong_callee program.module_ ty op ≡ None → IsOp program function ty op
  op_is ty (Binary op flags a b) w ws are below more g call = (integer_is ty (and_both (is_int ty) (is_narrow op (width_of ty)) g).0 w, are.0, are.1.0)
  op_is ty (Icmp pred flags of a b) w ws are below more g call =
      let two = and_both (is_int_of 1 ty) (not (is_void of)) g in
      (int_is 1 ty two.0, value_is of two.1 (and_both (has_width of) true ws).0, are.0, are.1.0)
  op_is ty (Cast op flags from a) w ws are below more g call = (cast_is from ty (and_both (has_width from) true ws).0 w op g, are.0)
  op_is ty (Select condition a b) w ws are below more g call = (value_is ty g w, are.0, are.1.0, are.1.1.0)
  op_is ty (Freeze a) w ws are below more g call = (value_is ty g w, are.0)
  op_is ty (Phi pairs) w ws are below more g call = (value_is ty g w, pairs_are (types function) (length function.blocks) ty pairs below are)
  op_is ty (Alloca of count) w ws are below more g call = ptr_is ty g
  op_is ty (Load address) w ws are below more g call = (stored_is ty g, are.0)
  op_is ty (Store of a address) w ws are below more g call =
      let two = and_both (is_void ty) (is_stored of) g in
      (void_is ty two.0, stored_is of two.1, are.0, are.1.0)
  op_is ty (Gep of base indices) w ws are below more g call =
      let two = and_both (is_ptr ty) (is_part of indices) g in
      (ptr_is ty two.0, are.0, indices_are (types function) indices ws (part_int of indices two.1) are.1)
  op_is ty (Call callee arguments) w ws are below more g call =
      (callee_is (function_at program callee) arguments ty (called_well callee (is_call_of (function_at program callee) arguments ty) call), are)
  op_is ty (CallBuiltIn which arguments) w ws are below more g call = (built_in_is ty w which arguments g, are)
  op_is ty (Ret a) w ws are below more g call =
      let two = and_both (is_void ty) (is_returned function.ret a) g in
      (void_is ty two.0, returned_is a two.1 ty are)
  op_is ty (Br to) w ws are below more g call = (void_is ty g, lt_is to (length function.blocks) (and_both (nat_lt to (length function.blocks)) true below).0)
  op_is ty (CondBr condition if_true if_false) w ws are below more g call =
      let a = and_both (nat_lt if_true (length function.blocks)) (nat_lt if_false (length function.blocks) && true) below in
      (void_is ty g, are.0, lt_is if_true (length function.blocks) a.0, lt_is if_false (length function.blocks) (and_both (nat_lt if_false (length function.blocks)) true a.1).0)
  op_is ty (Switch of a otherwise cases) w ws are below more g call =
      let two = and_both (is_void ty) (is_int of) g in
      let b = and_both (nat_lt otherwise (length function.blocks)) (all_below (length function.blocks) (case_blocks cases)) below in
      (void_is ty two.0, integer_is of two.1 (and_both (has_width of) true ws).0, are.0, lt_is otherwise (length function.blocks) b.0, cases_are (length function.blocks) of cases b.1 more)
  op_is ty Unreachable w ws are below more g call = void_is ty g

-- ---- functions

calls_well : (module_ : Module) (at : ℕ) (insts : List Inst) → first_wrong_call module_ at insts ≡ None → Every (λ inst. wrong_callee module_ inst.gives inst.op ≡ None) insts
calls_well module_ at [] e = tt
calls_well module_ at (inst ∷ insts) e = (
  unnumbered (wrong_callee module_ inst.gives inst.op) (or_none_left (numbered at (wrong_callee module_ inst.gives inst.op)) _ e),
  calls_well module_ (at + 1) insts (or_none_right (numbered at (wrong_callee module_ inst.gives inst.op)) _ e),
)
  where
    unnumbered : (found : Option ℕ) → numbered at found ≡ None → found ≡ None
    unnumbered None h = refl
    unnumbered (Some n) h = absurd (none_some _ (sym h))

every_in : (P : Inst → Type 0) (blocks : List Block) (block place : ℕ) (inst : Inst) → Every P (instructions blocks)
    → slice_get (insts_of (slice_get blocks block)) place ≡ Some inst → P inst
every_in P [] block place inst h e = absurd (none_some inst e)
every_in P (first ∷ blocks) zero place inst h e = every_at P first.insts place inst (every_left P first.insts (instructions blocks) h) e
every_in P (first ∷ blocks) (suc block) place inst h e = every_in P blocks block place inst (every_right P first.insts (instructions blocks) h) e

at_first_none : (b : Bool) → at_first b ≡ None → b ≡ true
at_first_none true e = refl
at_first_none false e = absurd (none_some 0 (sym e))

module _ (program : Program) (function : Function) (range : out_of_range program.module_ function ≡ None) (well : mistyped function ≡ None)
    (calls : wrong_call program.module_ function ≡ None) where
  signature : (all_parameters function.params ≡ true) × (has_width function.ret ≡ true)
  signature =
      and_both (all_parameters function.params) (has_width function.ret)
      (at_first_none (all_parameters function.params && has_width function.ret)
      (or_none_left (at_first (all_parameters function.params && has_width function.ret)) _ range))

  abbrev Passing : Inst → Type 0
  Passing inst = InRange program.module_ function inst × ((is_typed (types function) function.ret inst ≡ true) × (wrong_callee program.module_ inst.gives inst.op ≡ None))

  passing : Every Passing (instructions function.blocks)
  passing =
      every_and (InRange program.module_ function) (λ inst. (is_typed (types function) function.ret inst ≡ true) × (wrong_callee program.module_ inst.gives inst.op ≡ None))
      (instructions function.blocks) (insts_in_range program.module_ function range)
      (every_and (λ inst. is_typed (types function) function.ret inst ≡ true) (λ inst. wrong_callee program.module_ inst.gives inst.op ≡ None) (instructions function.blocks)
      (none_refused (is_typed (types function) function.ret) 0 (instructions function.blocks) well)
      (calls_well program.module_ 0 (instructions function.blocks) calls))

  inst_is : (inst : Inst) → Passing inst → IsOp program function inst.gives inst.op
  inst_is inst h =
      let parts = range_parts program.module_ function inst h.0 in
      let two = and_both (gives_type function.ret inst.gives inst.op) (all_fit_places (types function) (places function.ret inst.gives inst.op)) h.1.0 in
      op_is program function signature.1 inst.gives inst.op parts.0 parts.1
      (arguments_are program.module_ (values function) (types function) (places function.ret inst.gives inst.op) parts.2 two.1) parts.3 parts.4 two.0 h.1.1

  pub function_typed : IsTypedFunction program function
  function_typed = record {
    params = λ i ty e. every_at IsValueType function.params i ty (parameters_are function.params signature.0) e;
    ret = result_is function.ret signature.1;
    insts = λ block place inst e. inst_is inst (every_in Passing function.blocks block place inst passing e);
  }

pub checked-typed : (program : Program) → IsChecked program → IsTyped program
checked-typed program is = record {
  functions = few_functions program.module_ (no_limit program.module_ is.passes.rows);
  room = is.room.1;
  typed = λ symbol function e.
      function_typed program function
      (every_at (λ f. out_of_range program.module_ f ≡ None) program.module_.functions symbol function (in_range program.module_ is.passes.rows) e)
      (every_at (λ f. mistyped f ≡ None) program.module_.functions symbol function (typed program.module_ is.passes.rows) e)
      (every_at (λ f. wrong_call program.module_ f ≡ None) program.module_.functions symbol function (called program.module_ is.passes.rows) e);
}
