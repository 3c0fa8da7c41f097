-- Each function of a checked module is taken.
use Rattle.std.proofs.Common.{◌≡◌, refl, sym, ap, subst, ℕ, zero, suc, ◌^◌, ◌≤◌, List, [], ◌∷◌, length, ◌⊎◌, inl, inr, Option, Some, None, Bool, true, false, arith}
use Rattle.std.specs.Prelude.{slice_get, ◌&&◌, ◌==◌, nat_lt, nat_le}
use Rattle.std.proofs.Math.Pow.{pow_mono}
use Rattle.std.proofs.lemmas.Bool.{lt-ltb, le-leb, eq-eqb, and_parts}
use Rattle.std.proofs.lemmas.List.{length-map}
use Rattle.ir_core.specs.declared.types.Ty.{Ty}
use Rattle.ir_core.specs.declared.types.Ty.TheVariants.{Void, Int, Ptr}
use Rattle.ir_core.specs.declared.types.MemTy.{MemTy}
use Rattle.ir_core.specs.declared.code.Operand.{Operand}
use Rattle.ir_core.specs.declared.code.Operand.TheVariants.{Value as Local, Num, Null, Place, Poison}
use Rattle.ir_core.specs.declared.code.BuiltIn.{BuiltIn}
use Rattle.ir_core.specs.declared.code.BuiltIn.TheVariants.{MemCpy, MemMove, MemSet, SMax, SMin, UMax, UMin, Abs}
use Rattle.ir_core.specs.declared.code.Op.{Op}
use Rattle.ir_core.specs.declared.code.Op.TheVariants.{Binary, Icmp, Cast, Select, Freeze, Phi, Alloca, Load, Store, Gep, Call, BuiltIn as CallBuiltIn, Ret, Br, CondBr, Switch, Unreachable}
use Rattle.ir_core.specs.declared.code.Inst.{Inst}
use Rattle.ir_core.specs.declared.code.Block.{Block}
use Rattle.ir_core.specs.declared.program.Function.{Function}
use Rattle.ir_core.specs.declared.program.What.TheVariants.{Nodes}
use Rattle.ir_core.specs.Units.{is_result, instructions, types_of_arguments, values as value_count}
use Rattle.ir_flow.specs.Limits.{op_limit, above, nodes}
use Rattle.ir_meaning.specs.Operators.{width}
use Rattle.ir_meaning.specs.Step.{Program, function_at, insts_of, moves_bytes}
use Rattle.ir_meaning.specs.Typed.{types, IsTyped, IsOp, IsCallee, IsBuiltIn, IsInteger, IsValueType, IsResultType, IsReturned, IsOperand, AreArguments, AreIndices, ArePairs, AreCases}
use Rattle.ir_verify.specs.Types.{mistyped, is_typed, gives_type, all_fit_places, is_part, is_ptr}
use Rattle.ir_flow.specs.Code.{places}
use Rattle.ir_verify.specs.Small.{IsSmall, HasFewBlocks}
use Rattle.ir_verify.specs.Verdict.{refusal}
use Rattle.ir_verify.proofs.Lists.{Every, every_at, every_left, every_right, none_refused, or_none_left, is_below}
use Rattle.ir_verify.proofs.Usable.{within}
use Rattle.ir_verify.proofs.Rows.{typed as well_typed, small, few_blocks}
use Rattle.ir_verify.proofs.Typing.{checked-typed}
use Rattle.quick_code.specs.Operations.{IsSlotOperand}
use Rattle.quick_code.specs.Parts.{is_path}
use Rattle.quick_code.proofs.Numbers.{operand-inside, width-small, gives-some}
use Rattle.quick_code.proofs.Typing.{integer-value, cast-from, cast-to}
use Rattle.quick_code.proofs.DataMemory.{stored-value}
use Rattle.fast_isel_emit.specs.Operands.{is_width, are_widths, is_given, is_operand, are_arguments, is_answer, is_integer, is_index, is_index_at, are_indices, is_built_in}
use Rattle.fast_isel.specs.Taken.{are_edge_operands, are_cases, is_form, are_forms, are_blocks, is_taken, are_taken, IsTaken}
use Rattle.fast_isel.proofs.Limits.{limited-at}
use Rattle.fast_isel.specs.BlockLaws.{EveryCheckedIsTaken}
use Rattle.fast_isel.proofs.Leading.{path-is}

both : (a b : Bool) → a ≡ true → b ≡ true → (a && b) ≡ true
both true b h k = k
both false b h k = h

-- ---- types

width-is : (ty : Ty) → IsValueType ty → is_width ty ≡ true
width-is Void h = absurd h
width-is (Int w) h = both (nat_le 1 w) (nat_le w 64) (le-leb 1 w h.0) (le-leb w 64 h.1)
width-is Ptr h = refl

integer-is : (ty : Ty) → IsInteger ty → is_integer ty ≡ true
integer-is Void h = absurd h
integer-is (Int w) h = both (nat_le 1 w) (nat_le w 64) (le-leb 1 w h.0) (le-leb w 64 h.1)
integer-is Ptr h = absurd h

given-is : (ty : Ty) → IsResultType ty → is_given ty ≡ true
given-is Void h = refl
given-is (Int w) h = width-is (Int w) h
given-is Ptr h = refl

widths-are : (tys : List Ty) → ((i : ℕ) (ty : Ty) → slice_get tys i ≡ Some ty → IsValueType ty) → are_widths tys ≡ true
widths-are [] h = refl
widths-are (ty ∷ tys) h = both (is_width ty) (are_widths tys) (width-is ty (h 0 ty refl)) (widths-are tys (λ i t e. h (suc i) t e))

-- types of at most 64 bits
abbrev AreNarrow : List Ty → Type 0
AreNarrow [] = Unit {0}
AreNarrow (ty ∷ tys) = (width ty ≤ 64) × AreNarrow tys

narrow-are : (tys : List Ty) → ((i : ℕ) (ty : Ty) → slice_get tys i ≡ Some ty → IsValueType ty) → AreNarrow tys
narrow-are [] h = tt
narrow-are (ty ∷ tys) h = (width-small ty (h 0 ty refl), narrow-are tys (λ i t e. h (suc i) t e))

-- ---- operands

slot-is : (n : ℕ) (o : Operand) → IsSlotOperand n o → is_operand n o ≡ true
slot-is n (Local number) h = lt-ltb number n h
slot-is n (Num k) h = lt-ltb k (2 ^ 64) h
slot-is n Null h = refl
slot-is n (Place global offset) h = refl
slot-is n Poison h = refl

module _ (function : Function) where
  abbrev n : ℕ
  n = value_count function

  abbrev blocks : ℕ
  blocks = length function.blocks

  operand-is : (ty : Ty) (o : Operand) → width ty ≤ 64 → IsOperand (types function) ty o → is_operand n o ≡ true
  operand-is ty o small h = slot-is n o (operand-inside function ty o small h)

  value-is : (ty : Ty) (o : Operand) → IsValueType ty → IsOperand (types function) ty o → is_operand n o ≡ true
  value-is ty o is h = operand-is ty o (width-small ty is) h

  arguments-are : (arguments : List (Ty × Operand)) → AreNarrow (types_of_arguments arguments) → AreArguments (types function) arguments → are_arguments n arguments ≡ true
  arguments-are [] small h = refl
  arguments-are (x ∷ xs) small h = both (is_operand n x.1) (are_arguments n xs) (operand-is x.0 x.1 small.0 h.0) (arguments-are xs small.1 h.1)

  pairs-are : (ty : Ty) (pairs : List (Operand × ℕ)) → IsValueType ty → ArePairs (types function) blocks ty pairs → are_edge_operands n pairs ≡ true
  pairs-are ty [] is h = refl
  pairs-are ty (pair ∷ pairs) is h = both (is_operand n pair.0) (are_edge_operands n pairs) (value-is ty pair.0 is h.0) (pairs-are ty pairs is h.2)

  cases-are : (ty : Ty) (cases : List (ℕ × ℕ)) → width ty ≤ 64 → AreCases blocks ty cases → are_cases blocks cases ≡ true
  cases-are ty [] small h = refl
  cases-are ty (one ∷ cases) small h =
      let wide : 2 ^ width ty ≤ 2 ^ 64 = pow_mono small in
      let low = h.0 in
      both (nat_lt one.0 (2 ^ 64) && nat_lt one.1 blocks) (are_cases blocks cases)
      (both (nat_lt one.0 (2 ^ 64)) (nat_lt one.1 blocks) (lt-ltb one.0 (2 ^ 64) (omega (arith, low, wide))) (lt-ltb one.1 blocks h.1)) (cases-are ty cases small h.2)

  answer-is : (ty : Ty) (a : Option Operand) → IsReturned (types function) ty a → is_answer n a ≡ true
  answer-is ty None h = refl
  answer-is ty (Some a) h = value-is ty a h.0 h.1

  index-is : (ty : Ty) (o : Operand) → IsInteger ty → IsOperand (types function) ty o → is_index n (width ty) o ≡ true
  index-is ty (Local number) is h = lt-ltb number n (operand-inside function ty (Local number) (width-small ty (integer-value ty is)) h)
  index-is ty (Num k) is h = lt-ltb k (2 ^ width ty) h
  index-is ty Null is h = absurd (subst IsInteger h is)
  index-is ty (Place global offset) is h = absurd (subst IsInteger h is)
  index-is ty Poison is h = refl

  indices-are : (indices : List (Ty × Operand)) → AreIndices (types function) indices → are_indices n indices ≡ true
  indices-are [] h = refl
  indices-are (index ∷ indices) h =
      both (is_index_at n index) (are_indices n indices) (both (is_integer index.0) (is_index n (width index.0) index.1) (integer-is index.0 h.0) (index-is index.0 index.1 h.0 h.1)) (indices-are indices h.2)

  -- ---- built-ins

  two-many : (arguments : List (Ty × Operand)) (a b : Ty) → types_of_arguments arguments ≡ a ∷ b ∷ [] → (length arguments == 2) ≡ true
  two-many arguments a b e =
      let many = length-map arguments (λ (argument : Ty × Operand). argument.0) in
      let two = ap length e in
      eq-eqb (length arguments) 2 (omega (arith, many, two))

  value-built_in : (gives other : Ty) (arguments : List (Ty × Operand)) → types_of_arguments arguments ≡ gives ∷ other ∷ [] → IsInteger gives → width other ≤ 64 → AreArguments (types function) arguments
      → ((is_width gives && length arguments == 2) && are_arguments n arguments) ≡ true
  value-built_in gives other arguments e is small h =
      let value = integer-value gives is in
      both (is_width gives && length arguments == 2) (are_arguments n arguments) (both (is_width gives) (length arguments == 2) (width-is gives value) (two-many arguments gives other e))
      (arguments-are arguments (subst AreNarrow (sym e) (width-small gives value, (small, tt))) h)

  length-small : (w : ℕ) → (w ≡ 32) ⊎ (w ≡ 64) → w ≤ 64
  length-small w (inl e) = omega (arith, e)
  length-small w (inr e) = omega (arith, e)

  built_in-is : (gives : Ty) (which : BuiltIn) (arguments : List (Ty × Operand)) → IsBuiltIn which (types_of_arguments arguments) gives → AreArguments (types function) arguments
      → (is_built_in gives (moves_bytes which) arguments && are_arguments n arguments) ≡ true
  built_in-is gives MemCpy arguments is h = arguments-are arguments (subst AreNarrow (sym is.2) (omega arith, (omega arith, (length-small is.0 is.1, (omega arith, tt))))) h
  built_in-is gives MemMove arguments is h = arguments-are arguments (subst AreNarrow (sym is.2) (omega arith, (omega arith, (length-small is.0 is.1, (omega arith, tt))))) h
  built_in-is gives MemSet arguments is h = arguments-are arguments (subst AreNarrow (sym is.2) (omega arith, (omega arith, (length-small is.0 is.1, (omega arith, tt))))) h
  built_in-is gives SMax arguments is h = value-built_in gives gives arguments is.0 is.1 (width-small gives (integer-value gives is.1)) h
  built_in-is gives SMin arguments is h = value-built_in gives gives arguments is.0 is.1 (width-small gives (integer-value gives is.1)) h
  built_in-is gives UMax arguments is h = value-built_in gives gives arguments is.0 is.1 (width-small gives (integer-value gives is.1)) h
  built_in-is gives UMin arguments is h = value-built_in gives gives arguments is.0 is.1 (width-small gives (integer-value gives is.1)) h
  built_in-is gives Abs arguments is h = value-built_in gives (Int 1) arguments is.0 is.1 (omega arith) h

  -- ---- instructions

  module _ (program : Program) (all : IsTyped program) (few : (symbol : ℕ) (f : Function) → function_at program symbol ≡ Some f → length f.params ≤ 8) where
    call-is : (callee : ℕ) (arguments : List (Ty × Operand)) (gives : Ty) (f : Option Function) → function_at program callee ≡ f → IsCallee f (types_of_arguments arguments) gives
        → AreArguments (types function) arguments → (is_given gives && nat_lt callee 1024 && nat_le (length arguments) 8 && are_arguments n arguments) ≡ true
    call-is callee arguments gives None e is h = absurd is
    call-is callee arguments gives (Some f) e is h =
        let one = all.typed callee f e in
        let below = is_below program.module_.functions callee f e in
        let most = all.functions in
        let many = length-map arguments (λ (argument : Ty × Operand). argument.0) in
        let same = ap length is.0 in
        let eight = few callee f e in
        both (is_given gives && nat_lt callee 1024 && nat_le (length arguments) 8) (are_arguments n arguments)
        (both (is_given gives && nat_lt callee 1024) (nat_le (length arguments) 8)
        (both (is_given gives) (nat_lt callee 1024) (given-is gives (subst IsResultType (sym is.1) one.ret)) (lt-ltb callee 1024 (omega (arith, below, most))))
        (le-leb (length arguments) 8 (omega (arith, many, same, eight))))
        (arguments-are arguments (subst AreNarrow (sym is.0) (narrow-are f.params one.params)) h)

    part-is : (gives : Ty) (of : MemTy) (base : Operand) (indices : List (Ty × Operand)) → gives ≡ Ptr → IsOperand (types function) Ptr base → AreIndices (types function) indices → op_limit (Gep of base indices) ≡ None
        → is_part of indices ≡ true → (is_width gives && is_operand n base && are_indices n indices && is_path of indices) ≡ true
    part-is gives of base indices e h typed limit part =
        both (is_width gives && is_operand n base && are_indices n indices) (is_path of indices)
        (both (is_width gives && is_operand n base) (are_indices n indices)
        (both (is_width gives) (is_operand n base) (subst (λ (t : Ty). is_width t ≡ true) (sym e) refl) (operand-is Ptr base (omega arith) h)) (indices-are indices typed))
        (path-is (types function) of indices (within Nodes 4096 (nodes of) (or_none_left (above Nodes 4096 (nodes of)) _ limit)) typed part)

    form-is : (gives : Ty) (op : Op) → IsOp program function gives op → op_limit op ≡ None → gives_type function.ret gives op ≡ true → is_form n blocks gives op ≡ true
    form-is gives (Binary op flags a b) h limit g =
        let is = integer-value gives h.0 in
        both (is_width gives && is_operand n a) (is_operand n b) (both (is_width gives) (is_operand n a) (width-is gives is) (value-is gives a is h.1)) (value-is gives b is h.2)
    form-is gives (Icmp pred flags of a b) h limit g =
        both (is_result gives && is_width of && is_operand n a) (is_operand n b)
        (both (is_result gives && is_width of) (is_operand n a) (both (is_result gives) (is_width of) (subst (λ (t : Ty). is_result t ≡ true) (sym h.0) refl) (width-is of h.1)) (value-is of a h.1 h.2)) (value-is of b h.1 h.3)
    form-is gives (Cast op flags from a) h limit g =
        both (is_width gives && is_width from) (is_operand n a) (both (is_width gives) (is_width from) (width-is gives (cast-to op from gives h.0)) (width-is from (cast-from op from gives h.0))) (value-is from a (cast-from op from gives h.0) h.1)
    form-is gives (Select condition a b) h limit g =
        both (is_width gives && is_operand n condition && is_operand n a) (is_operand n b)
        (both (is_width gives && is_operand n condition) (is_operand n a) (both (is_width gives) (is_operand n condition) (width-is gives h.0) (operand-is (Int 1) condition (omega arith) h.1)) (value-is gives a h.0 h.2)) (value-is gives b h.0 h.3)
    form-is gives (Freeze a) h limit g = both (is_width gives) (is_operand n a) (width-is gives h.0) (value-is gives a h.0 h.1)
    form-is gives (Phi pairs) h limit g = both (is_result gives) (are_edge_operands n pairs) (gives-some gives h.0) (pairs-are gives pairs h.0 h.1)
    form-is gives (Alloca of count) h limit g = refl
    form-is gives (Load address) h limit g = both (is_width gives) (is_operand n address) (width-is gives (stored-value gives h.0)) (operand-is Ptr address (omega arith) h.1)
    form-is gives (Store of a address) h limit g =
        let is = stored-value of h.1 in
        both (is_width of && is_operand n a) (is_operand n address) (both (is_width of) (is_operand n a) (width-is of is) (value-is of a is h.2)) (operand-is Ptr address (omega arith) h.3)
    form-is gives (Gep of base indices) h limit g = part-is gives of base indices h.0 h.1 h.2 limit (and_parts (is_ptr gives) (is_part of indices) g).1
    form-is gives (Call callee arguments) h limit g = call-is callee arguments gives (function_at program callee) refl h.0 h.1
    form-is gives (CallBuiltIn which arguments) h limit g = built_in-is gives which arguments h.0 h.1
    form-is gives (Ret a) h limit g = answer-is function.ret a h.1
    form-is gives (Br to) h limit g = lt-ltb to blocks h.1
    form-is gives (CondBr condition if_true if_false) h limit g =
        both (is_operand n condition && nat_lt if_true blocks) (nat_lt if_false blocks) (both (is_operand n condition) (nat_lt if_true blocks) (operand-is (Int 1) condition (omega arith) h.1) (lt-ltb if_true blocks h.2)) (lt-ltb if_false blocks h.3)
    form-is gives (Switch of a otherwise cases) h limit g =
        let is = integer-value of h.1 in
        both (is_width of && is_operand n a && nat_lt otherwise blocks) (are_cases blocks cases)
        (both (is_width of && is_operand n a) (nat_lt otherwise blocks) (both (is_width of) (is_operand n a) (width-is of is) (value-is of a is h.2)) (lt-ltb otherwise blocks h.3)) (cases-are of cases (width-small of is) h.4)
    form-is gives Unreachable h limit g = refl

-- ---- functions

forms-are : (n many : ℕ) (insts : List Inst) → ((place : ℕ) (inst : Inst) → slice_get insts place ≡ Some inst → is_form n many inst.gives inst.op ≡ true) → are_forms n many insts ≡ true
forms-are n many [] h = refl
forms-are n many (inst ∷ insts) h = both (is_form n many inst.gives inst.op) (are_forms n many insts) (h 0 inst refl) (forms-are n many insts (λ place i e. h (suc place) i e))

blocks-are : (n many : ℕ) (blocks : List Block) → ((block place : ℕ) (inst : Inst) → slice_get (insts_of (slice_get blocks block)) place ≡ Some inst → is_form n many inst.gives inst.op ≡ true) → are_blocks n many blocks ≡ true
blocks-are n many [] h = refl
blocks-are n many (block ∷ blocks) h =
    both (are_forms n many block.insts) (are_blocks n many blocks) (forms-are n many block.insts (λ place i e. h 0 place i e)) (blocks-are n many blocks (λ b place i e. h (suc b) place i e))

none-there : (inst : Inst) → None ≡ Some inst → ⊥
none-there inst e = cc

every-in : (P : Inst → Type 0) (blocks : List Block) (block place : ℕ) (inst : Inst) → Every P (instructions blocks) → slice_get (insts_of (slice_get blocks block)) place ≡ Some inst → P inst
every-in P [] block place inst h e = absurd (none-there inst e)
every-in P (first ∷ blocks) zero place inst h e = every_at P first.insts place inst (every_left P first.insts (instructions blocks) h) e
every-in P (first ∷ blocks) (suc block) place inst h e = every-in P blocks block place inst (every_right P first.insts (instructions blocks) h) e

module _ (program : Program) (rows : refusal program.module_ ≡ None) (all : IsTyped program) where
  few-params : (symbol : ℕ) (f : Function) → function_at program symbol ≡ Some f → length f.params ≤ 8
  few-params symbol f e = (every_at IsSmall program.module_.functions symbol f (small program.module_ rows) e).0

  function-is : (symbol : ℕ) (function : Function) → function_at program symbol ≡ Some function → is_taken function ≡ true
  function-is symbol function e =
      let few = every_at IsSmall program.module_.functions symbol function (small program.module_ rows) e in
      let one = all.typed symbol function e in
      let limited = limited-at program.module_ symbol function rows e in
      let kinds = none_refused (is_typed (types function) function.ret) 0 (instructions function.blocks) (every_at (λ (f : Function). mistyped f ≡ None) program.module_.functions symbol function (well_typed program.module_ rows) e) in
      let values-few = few.2 in
      let blocks-few = (every_at HasFewBlocks program.module_.functions symbol function (few_blocks program.module_ rows) e).1 in
      both (are_widths function.params && nat_le (length function.params) 8 && nat_le (value_count function) 32764 && nat_le (length function.blocks) 16384) (are_blocks (value_count function) (length function.blocks) function.blocks)
      (both (are_widths function.params && nat_le (length function.params) 8 && nat_le (value_count function) 32764) (nat_le (length function.blocks) 16384)
      (both (are_widths function.params && nat_le (length function.params) 8) (nat_le (value_count function) 32764)
      (both (are_widths function.params) (nat_le (length function.params) 8) (widths-are function.params one.params) (le-leb (length function.params) 8 few.0))
      (le-leb (value_count function) 32764 (omega (arith, values-few))))
      (le-leb (length function.blocks) 16384 blocks-few))
      (blocks-are (value_count function) (length function.blocks) function.blocks (λ block place inst at.
      form-is function program all few-params inst.gives inst.op (one.insts block place inst at) (limited block place inst at)
      (and_parts (gives_type function.ret inst.gives inst.op) (all_fit_places (types function) (places function.ret inst.gives inst.op))
      (every-in (λ (i : Inst). is_typed (types function) function.ret i ≡ true) function.blocks block place inst kinds at)).0))

functions-are : (functions : List Function) → ((symbol : ℕ) (function : Function) → slice_get functions symbol ≡ Some function → is_taken function ≡ true) → are_taken functions ≡ true
functions-are [] h = refl
functions-are (f ∷ fs) h = both (is_taken f) (are_taken fs) (h 0 f refl) (functions-are fs (λ symbol g e. h (suc symbol) g e))

pub taken-of : (program : Program) → refusal program.module_ ≡ None → IsTyped program → IsTaken program.module_
taken-of program rows all = functions-are program.module_.functions (function-is program rows all)

pub every-taken : EveryCheckedIsTaken
every-taken program is = taken-of program is.passes.rows (checked-typed program is)
