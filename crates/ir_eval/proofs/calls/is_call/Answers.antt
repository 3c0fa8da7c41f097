use Rattle.std.proofs.Common.{◌≡◌, ◌∙◌, ap, sym, subst, arith, List, ℕ, Some, map}
use Rattle.std.specs.Prelude.{slice_get}
use Rattle.ir_core.specs.declared.types.Ty.{Ty}
use Rattle.ir_core.specs.declared.program.Function.{Function}
use Rattle.ir_meaning.specs.Operators.{width}
use Rattle.ir_meaning.specs.Ranges.{AreArgs}
use Rattle.ir_meaning.specs.Step.{function_at}
use Rattle.ir_eval.specs.Entries.{are_args}
use Rattle.ir_eval.proofs.Calling.{args_are, args_only, function_same}
use Rattle.ir_eval.proofs.calls.is_call.Goals as goal

pub returns : goal.returns
returns c =
    let found : function_at c.args.program.now c.args.call.now.symbol ≡ Some c.in-Some.function.now =
    sym (c.in-Some.ensures.value ∙ ap (λ (fs : List Function). slice_get fs c.args.call.now.symbol) (ap (λ m. m.functions) c.module-all.ensures.value)) in
    let is : c.are_args.result ≡ are_args c.in-Some.function.now.params c.args.call.now.args =
    c.are_args.ensures ∙ ap (λ (tys : List Ty). are_args tys c.as_slice-2.result.now) c.as_slice.ensures ∙ ap (λ (ns : List ℕ). are_args c.in-Some.function.now.params ns) c.as_slice-2.ensures in (
      λ t. record {
        function = c.in-Some.function.now;
        found = found;
        args = args_are c.in-Some.function.now.params c.args.call.now.args (sym is ∙ t);
        low = omega arith;
        high = omega arith;
      },
      λ h.
          let same : h.function ≡ c.in-Some.function.now = function_same h.function c.in-Some.function.now (sym h.found ∙ found) in
          is ∙ args_only c.in-Some.function.now.params c.args.call.now.args
          (subst (λ (f : Function). AreArgs (map width f.params) (map Some c.args.call.now.args)) same h.args),
    )
