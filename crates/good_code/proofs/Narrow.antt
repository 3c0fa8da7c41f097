-- Functions of typed modules with narrow types are narrow.
use Rattle.std.proofs.Common.{◌≡◌, refl, sym, ap, subst, ◌∙◌, ℕ, suc, ◌≤◌, List, [], ◌∷◌, length, Option, Some, None, arith}
use Rattle.std.specs.Prelude.{slice_get, map}
use Rattle.std.proofs.lemmas.List.{length-map}
use Rattle.ir_core.specs.Program.{Program}
use Rattle.ir_core.specs.declared.types.Ty.{Ty}
use Rattle.ir_core.specs.declared.types.Ty.TheVariants.{Void, Int, Ptr}
use Rattle.ir_core.specs.declared.program.Function.{Function}
use Rattle.ir_core.specs.declared.code.Inst.{Inst}
use Rattle.ir_core.specs.declared.code.Op.TheVariants.{Call}
use Rattle.ir_core.specs.Units.{types_of_arguments}
use Rattle.ir_meaning.specs.Operators.{width}
use Rattle.ir_meaning.specs.Step.{function_at}
use Rattle.ir_meaning.specs.Meaning.{meaning, of_function, parameter_widths, result_width}
use Rattle.ir_meaning.specs.Typed.{IsTyped, IsResultType, IsCallee, IsOp}
use Rattle.ir_meaning.proofs.Ranges.{is-meaning}
use Rattle.good_code.specs.Narrow.{AllNarrow, TakesNarrow, HasNarrowTypes, IsNarrow}
use Rattle.good_code.specs.Laws.{NarrowTypesAreNarrow, TypedIsNarrow}
use Rattle.good_code.proofs.TextCalls.{CallStands, play-calls}

all_narrow : (ws : List ℕ) → ((i w : ℕ) → slice_get ws i ≡ Some w → w ≤ 64) → AllNarrow ws
all_narrow [] h = tt
all_narrow (w ∷ ws) h = (h 0 w refl, all_narrow ws (λ i. h (suc i)))

result_narrow : (ty : Ty) (w : ℕ) → IsResultType ty → result_width ty ≡ Some w → w ≤ 64
result_narrow Void w h e = absurd (let bad : ⊥ = cc in bad)
result_narrow (Int v) w h e = let same : v ≡ w = cc in subst (λ (n : ℕ). n ≤ 64) same h.1
result_narrow Ptr w h e = let same : 64 ≡ w = cc in omega (arith, same)

results_narrow : (program : Program) → IsTyped program → (callee : ℕ) (o : Option Function) → function_at program callee ≡ o → (w : ℕ)
    → of_function None (λ (f : Function). result_width f.ret) o ≡ Some w → w ≤ 64
results_narrow program typed callee None there w h = absurd (let bad : ⊥ = cc in bad)
results_narrow program typed callee (Some function) there w h = result_narrow function.ret w ((typed.typed callee function there).ret) h

-- the widths of a function's parameters are as many as these
as_many : (program : Program) (symbol : ℕ) (function : Function) → function_at program symbol ≡ Some function → length function.params ≤ 8 → length ((meaning program).parameters symbol) ≤ 8
as_many program symbol function there few =
    let same = length-map function.params width in
    subst (λ (o : Option Function). length (of_function [] parameter_widths o) ≤ 8) (sym there) (omega (arith, few, same))

takes_narrow : (program : Program) → IsTyped program → (symbol : ℕ) → TakesNarrow (meaning program) symbol
takes_narrow program typed symbol =
    (all_narrow ((meaning program).parameters symbol) ((is-meaning program typed).widths symbol), results_narrow program typed symbol (function_at program symbol) refl)

pub typed_is_narrow : TypedIsNarrow
typed_is_narrow program symbol function typed there few = record {
  few = as_many program symbol function there few;
  own = takes_narrow program typed symbol;
  callees = λ a rs t callee args memory own h. takes_narrow program typed callee;
}

-- ---- by the text

width_known : (ty : Ty) (w : ℕ) → result_width ty ≡ Some w → width ty ≡ w
width_known Void w e = absurd (let bad : ⊥ = cc in bad)
width_known (Int v) w e = cc
width_known Ptr w e = cc

-- what a function takes and gives, by its types
abbrev TakesTypes : List Ty → Ty → Type 0
TakesTypes params ret = AllNarrow (map width params) × (width ret ≤ 64)

takes_types : (program : Program) (symbol : ℕ) (function : Function) → function_at program symbol ≡ Some function → TakesTypes function.params function.ret → TakesNarrow (meaning program) symbol
takes_types program symbol function there h = (
  subst (λ (o : Option Function). AllNarrow (of_function [] parameter_widths o)) (sym there) h.0,
  λ w e. let same = width_known function.ret w (sym (ap (of_function None (λ (f : Function). result_width f.ret)) there) ∙ e) in let small = h.1 in omega (arith, same, small),
)

module _ (program : Program) (symbol : ℕ) (function : Function) (typed : IsTyped program) (there : function_at program symbol ≡ Some function) (types : HasNarrowTypes function) where
  -- a callee has the types of the call
  callee_narrow : (callee : ℕ) (inst : Inst) (given : List Ty) (o : Option Function) → function_at program callee ≡ o → IsCallee o given inst.gives → TakesTypes given inst.gives
      → TakesNarrow (meaning program) callee
  callee_narrow callee inst given None e is h = absurd is
  callee_narrow callee inst given (Some f) e is h =
      takes_types program callee f e (subst (λ (tys : List Ty). AllNarrow (map width tys)) is.0 h.0, subst (λ (ty : Ty). width ty ≤ 64) is.1 h.1)

  call_narrow : (callee : ℕ) → CallStands function callee → TakesNarrow (meaning program) callee
  call_narrow callee c =
      let is : IsOp program function c.inst.gives (Call callee c.arguments) = subst (IsOp program function c.inst.gives) c.calls ((typed.typed symbol function there).insts c.block c.place c.inst c.at) in
      callee_narrow callee c.inst (types_of_arguments c.arguments) (function_at program callee) refl is.0 (types.calls c.block c.place callee c.inst c.arguments c.at c.calls)

  narrow : IsNarrow (meaning program) symbol
  narrow = record {
    few = as_many program symbol function there types.few;
    own = takes_types program symbol function there (types.parameters, types.result);
    callees = λ a rs t callee args memory own h. call_narrow callee (play-calls program function a rs t callee args memory (ap (function_at program) own ∙ there) h);
  }

pub narrow_types_are_narrow : NarrowTypesAreNarrow
narrow_types_are_narrow program symbol function typed there types = narrow program symbol function typed there types
