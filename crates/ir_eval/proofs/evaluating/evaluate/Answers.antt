use Rattle.std.proofs.Common.{◌≡◌, ◌∙◌, ap, sym, List, get_or, Option, Some, ◌<◌, length}
use Rattle.std.specs.Prelude.{slice_get}
use Rattle.ir_core.specs.declared.types.Ty.{Ty}
use Rattle.ir_core.specs.declared.program.Function.{Function}
use Rattle.ir_meaning.specs.Eval.{result_type}
use Rattle.ir_meaning.specs.Step.{function_at}
use Rattle.ir_verify.proofs.Lists.{some_at, is_below}
use Rattle.ir_eval.specs.Entries.{end_outcome}
use Rattle.ir_eval.proofs.Going.{outcome_of_end}
use Rattle.ir_eval.proofs.evaluating.evaluate.Goals as goal

pub returns-in-Ok : goal.returns-in-Ok
returns-in-Ok c =
    let functions : c.as_slice.result.now ≡ c.args.program.now.module_.functions = c.as_slice.ensures ∙ ap (λ m. m.functions) c.module-all.ensures.value in
    let below : c.args.call.now.symbol < length c.args.program.now.module_.functions = is_below c.args.program.now.module_.functions c.args.call.now.symbol c.requires.call.function c.requires.call.found in
    let there : slice_get c.args.program.now.module_.functions c.args.call.now.symbol ≡ Some c.index-as_slice-call.result =
    some_at c.args.program.now.module_.functions c.args.call.now.symbol c.index-as_slice-call.result below
    (c.index-as_slice-call.is ∙ ap (λ (fs : List Function). get_or fs c.args.call.now.symbol c.index-as_slice-call.result) functions) in
    let ret : c.index-as_slice-call.result.ret ≡ result_type (function_at c.args.program.now c.args.call.now.symbol) = sym (ap (λ (f : Option Function). result_type f) there) in
    c.outcome_of.ensures
    ∙ ap (λ (f : Function). end_outcome f.ret c.in-Ok.it.end) (sym c.index-as_slice-call.is)
    ∙ ap (λ (ty : Ty). end_outcome ty c.in-Ok.it.end) ret
    ∙ sym (outcome_of_end c.args.program.now c.module-all.result.now c.room.result c.args.call.now c.module-all.ensures.value c.room.ensures.value c.in-Ok.it.end c.in-Ok.it.counts c.in-Ok.ensures)
