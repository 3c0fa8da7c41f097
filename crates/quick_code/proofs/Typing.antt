-- What typing says of operands, casts and calls.
use Rattle.std.proofs.Common.{◌≡◌, ◌≢◌, refl, sym, ap, subst, ◌∙◌, ℕ, zero, suc, ◌≤◌, List, [], ◌∷◌, length, Option, Some, None, Bool, true, false, cond, arith}
use Rattle.std.specs.Prelude.{◌==◌, map, drop, slice_get}
use Rattle.ir_core.specs.declared.types.Ty.{Ty}
use Rattle.ir_core.specs.declared.types.Ty.TheVariants.{Void, Int, Ptr}
use Rattle.ir_core.specs.declared.code.Operand.{Operand}
use Rattle.ir_core.specs.declared.code.CastOp.{CastOp}
use Rattle.ir_core.specs.declared.code.CastOp.TheVariants.{Trunc, ZExt, SExt, PtrToInt, IntToPtr, Same}
use Rattle.ir_core.specs.declared.code.BuiltIn.{BuiltIn}
use Rattle.ir_core.specs.declared.code.BuiltIn.TheVariants.{MemCpy, MemMove, MemSet, SMax, SMin, UMax, UMin, Abs}
use Rattle.ir_core.specs.declared.code.Op.{Op}
use Rattle.ir_core.specs.declared.code.Op.TheVariants.{Binary, Icmp, Cast, Select, Freeze, Phi, Alloca, Load, Store, Gep, Call, BuiltIn as CallBuiltIn, Ret, Br, CondBr, Switch, Unreachable}
use Rattle.ir_core.specs.declared.code.Inst.{Inst}
use Rattle.ir_core.specs.declared.program.Function.{Function}
use Rattle.ir_meaning.specs.Value.{Value}
use Rattle.ir_meaning.specs.Step.{Program, operand, arguments_of, on_edge, phi_value, function_at, moves_bytes}
use Rattle.ir_meaning.specs.Meaning.{result_width, of_function}
use Rattle.ir_meaning.specs.Typed.{types, IsTyped, IsOp, IsCallee, IsBuiltIn, IsCast, IsInteger, IsValueType, IsResultType, ArePairs, AreArguments, IsOperand}
use Rattle.quick_code.specs.Operations.{AreSlotOperands}
use Rattle.ir_meaning.specs.Operators.{width}
use Rattle.ir_meaning.specs.Ranges.{FitsWidth}
use Rattle.ir_core.specs.Units.{values as value_count, types_of_arguments}
use Rattle.ir_meaning.proofs.Keeping.{ValuesFit, operand-fits}
use Rattle.quick_code.proofs.Numbers.{IsPhi, width-small, operand-inside}
use Rattle.quick_code.proofs.Edges.{IsPhiOperand}

pub integer-value : (ty : Ty) → IsInteger ty → IsValueType ty
integer-value Void h = absurd h
integer-value (Int w) h = h
integer-value Ptr h = absurd h

pub cast-from : (op : CastOp) (from to : Ty) → IsCast op from to → IsValueType from
cast-from Trunc from to h = integer-value from h.0
cast-from ZExt from to h = integer-value from h.0
cast-from SExt from to h = integer-value from h.0
cast-from PtrToInt from to h = subst IsValueType (sym h.0) tt
cast-from IntToPtr from to h = integer-value from h.0
cast-from Same from to h = h.0

pub cast-to : (op : CastOp) (from to : Ty) → IsCast op from to → IsValueType to
cast-to Trunc from to h = integer-value to h.1
cast-to ZExt from to h = integer-value to h.1
cast-to SExt from to h = integer-value to h.1
cast-to PtrToInt from to h = integer-value to h.1
cast-to IntToPtr from to h = subst IsValueType (sym h.1) tt
cast-to Same from to h = subst IsValueType h.1 h.0

-- an operand that a phi takes from a block has its type, or is poison
pub edge-typed : (tys : List Ty) (blocks from : ℕ) (ty : Ty) (pairs : List (Operand × ℕ)) → ArePairs tys blocks ty pairs → IsOperand tys ty (on_edge from pairs)
edge-typed tys blocks from ty [] h = tt
edge-typed tys blocks from ty (pair ∷ pairs) h = by_test (pair.1 == from) (edge-typed tys blocks from ty pairs h.2)
  where
    by_test : (b : Bool) → IsOperand tys ty (on_edge from pairs) → IsOperand tys ty (cond b pair.0 (on_edge from pairs))
    by_test true rest = h.0
    by_test false rest = rest

-- what a built-in that gives a value takes
pub record TwoTyped (which : BuiltIn) (gives one other : Ty) : Type 0 where
  pub integer : IsInteger gives
  pub left : one ≡ gives
  pub right : which ≢ Abs → other ≡ gives
  pub narrow : width other ≤ 64

both-typed : (which : BuiltIn) (gives one other : Ty) → one ∷ other ∷ [] ≡ gives ∷ gives ∷ [] → IsInteger gives → TwoTyped which gives one other
both-typed which gives one other e is =
    let same : other ≡ gives = cc in
    record {
      integer = is;
      left = cc;
      right = λ ne. same;
      narrow = subst (λ (u : Ty). width u ≤ 64) (sym same) (width-small gives (integer-value gives is));
    }

pub two-typed : (which : BuiltIn) (gives one other : Ty) → moves_bytes which ≡ false → IsBuiltIn which (one ∷ other ∷ []) gives → TwoTyped which gives one other
two-typed SMax gives one other h is = both-typed SMax gives one other is.0 is.1
two-typed SMin gives one other h is = both-typed SMin gives one other is.0 is.1
two-typed UMax gives one other h is = both-typed UMax gives one other is.0 is.1
two-typed UMin gives one other h is = both-typed UMin gives one other is.0 is.1
two-typed Abs gives one other h is =
    let same : other ≡ Int 1 = (let e = is.0 in cc) in
    record {
      integer = is.1;
      left = (let e = is.0 in cc);
      right = λ ne. absurd (ne refl);
      narrow = subst (λ (u : Ty). width u ≤ 64) (sym same) (omega arith);
    }
two-typed MemCpy gives one other h is = absurd (let bad : true ≡ false = h in cc)
two-typed MemMove gives one other h is = absurd (let bad : true ≡ false = h in cc)
two-typed MemSet gives one other h is = absurd (let bad : true ≡ false = h in cc)

pub callee-result : (f : Option Function) (tys : List Ty) (gives : Ty) → IsCallee f tys gives → of_function None (λ (h : Function). result_width h.ret) f ≡ result_width gives
callee-result None tys gives h = absurd h
callee-result (Some f) tys gives h = ap result_width (sym h.1)

pub values-of : (program : Program) (values : List Value) (arguments : List (Ty × Operand)) → map (operand program values) (map (λ argument. argument.1) arguments) ≡ arguments_of program values arguments
values-of program values [] = refl
values-of program values (argument ∷ arguments) = ap (λ (vs : List Value). operand program values argument.1 ∷ vs) (values-of program values arguments)

pub arguments-many : (arguments : List (Ty × Operand)) → length (map (λ argument. argument.1) arguments) ≡ length arguments
arguments-many [] = refl
arguments-many (argument ∷ arguments) = ap suc (arguments-many arguments)

pub nothing-behind : (insts : List Inst) (k : ℕ) → length insts ≡ k → drop k insts ≡ []
nothing-behind [] zero e = refl
nothing-behind [] (suc k) e = refl
nothing-behind (x ∷ xs) zero e = absurd (let bad : ⊥ = omega (arith, e) in bad)
nothing-behind (x ∷ xs) (suc k) e = nothing-behind xs k (omega (arith, e))

-- what typing says of a phi
pub phi-typed : (program : Program) (function : Function) (values : List Value) (from : ℕ) (gives : Ty) (op : Op) → ValuesFit (types function) values → IsOp program function gives op → IsPhi op
    → IsValueType gives × FitsWidth (width gives) (phi_value program values from op)
phi-typed program function values from gives (Phi pairs) fit ty is-phi = (ty.0, operand-fits program (types function) values gives (on_edge from pairs) fit (edge-typed (types function) (length function.blocks) from gives pairs ty.1))
phi-typed program function values from gives (Binary op flags x y) fit ty is-phi = absurd is-phi
phi-typed program function values from gives (Icmp pred flags of x y) fit ty is-phi = absurd is-phi
phi-typed program function values from gives (Cast op flags of x) fit ty is-phi = absurd is-phi
phi-typed program function values from gives (Select c x y) fit ty is-phi = absurd is-phi
phi-typed program function values from gives (Freeze x) fit ty is-phi = absurd is-phi
phi-typed program function values from gives (Alloca of count) fit ty is-phi = absurd is-phi
phi-typed program function values from gives (Load x) fit ty is-phi = absurd is-phi
phi-typed program function values from gives (Store of x y) fit ty is-phi = absurd is-phi
phi-typed program function values from gives (Gep of x indices) fit ty is-phi = absurd is-phi
phi-typed program function values from gives (Call g arguments) fit ty is-phi = absurd is-phi
phi-typed program function values from gives (CallBuiltIn which arguments) fit ty is-phi = absurd is-phi
phi-typed program function values from gives (Ret x) fit ty is-phi = absurd is-phi
phi-typed program function values from gives (Br x) fit ty is-phi = absurd is-phi
phi-typed program function values from gives (CondBr c x y) fit ty is-phi = absurd is-phi
phi-typed program function values from gives (Switch of x otherwise cases) fit ty is-phi = absurd is-phi
phi-typed program function values from gives Unreachable fit ty is-phi = absurd is-phi

pub phi-form : (program : Program) (function : Function) (from : ℕ) (gives : Ty) (op : Op) → IsOp program function gives op → IsPhi op → IsPhiOperand (value_count function) from op
phi-form program function from gives (Phi pairs) form is-phi = operand-inside function gives (on_edge from pairs) (width-small gives form.0) (edge-typed (types function) (length function.blocks) from gives pairs form.1)
phi-form program function from gives (Binary op flags x y) form is-phi = tt
phi-form program function from gives (Icmp pred flags of x y) form is-phi = tt
phi-form program function from gives (Cast op flags of x) form is-phi = tt
phi-form program function from gives (Select c x y) form is-phi = tt
phi-form program function from gives (Freeze x) form is-phi = tt
phi-form program function from gives (Alloca of count) form is-phi = tt
phi-form program function from gives (Load x) form is-phi = tt
phi-form program function from gives (Store of x y) form is-phi = tt
phi-form program function from gives (Gep of x indices) form is-phi = tt
phi-form program function from gives (Call g arguments) form is-phi = tt
phi-form program function from gives (CallBuiltIn which arguments) form is-phi = tt
phi-form program function from gives (Ret x) form is-phi = tt
phi-form program function from gives (Br x) form is-phi = tt
phi-form program function from gives (CondBr c x y) form is-phi = tt
phi-form program function from gives (Switch of x otherwise cases) form is-phi = tt
phi-form program function from gives Unreachable form is-phi = tt

-- what it says of a call
pub callee-gives : (program : Program) (typed : IsTyped program) (g : ℕ) (tys : List Ty) (gives : Ty) (f : Option Function) → function_at program g ≡ f → IsCallee f tys gives → IsResultType gives
callee-gives program typed g tys gives None e h = absurd h
callee-gives program typed g tys gives (Some f) e h = subst IsResultType (sym h.1) (typed.typed g f e).ret

pub arguments-inside : (function : Function) (arguments : List (Ty × Operand)) → ((k : ℕ) (ty : Ty) → slice_get (types_of_arguments arguments) k ≡ Some ty → IsValueType ty) → AreArguments (types function) arguments → AreSlotOperands (value_count function) (map (λ argument. argument.1) arguments)
arguments-inside function [] are h = tt
arguments-inside function (argument ∷ arguments) are h =
    (operand-inside function argument.0 argument.1 (width-small argument.0 (are 0 argument.0 refl)) h.0, arguments-inside function arguments (λ k ty e. are (suc k) ty e) h.1)

pub callee-takes : (program : Program) (typed : IsTyped program) (g : ℕ) (tys : List Ty) (gives : Ty) (f : Option Function) → function_at program g ≡ f → IsCallee f tys gives → (k : ℕ) (ty : Ty) → slice_get tys k ≡ Some ty → IsValueType ty
callee-takes program typed g tys gives None e h k ty at = absurd h
callee-takes program typed g tys gives (Some f) e h k ty at = (typed.typed g f e).params k ty (ap (λ (ts : List Ty). slice_get ts k) (sym h.0) ∙ at)
