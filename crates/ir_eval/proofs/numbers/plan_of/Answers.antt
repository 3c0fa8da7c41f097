use Rattle.std.proofs.Common.{◌≡◌, ◌∙◌, ap, sym, List, Some}
use Rattle.std.specs.Prelude.{slice_get}
use Rattle.ir_core.specs.declared.program.Function.{Function}
use Rattle.ir_verify.proofs.Lists.{some_at}
use Rattle.ir_eval.proofs.Numbered.{plan_more, plan_whole}
use Rattle.ir_eval.proofs.numbers.plan_of.Goals as goal

pub function_numbers-requires : goal.function_numbers-requires
function_numbers-requires c =
    let there : slice_get c.as_slice-functions.result.now c.loop-function.function-index ≡ Some c.function-item.result =
    some_at c.as_slice-functions.result.now c.loop-function.function-index c.function-item.result c.loop-function-test.true c.function-item.is in
    c.requires.bounded c.loop-function.function-index c.function-item.result
    (ap (λ (fs : List Function). slice_get fs c.loop-function.function-index) (sym c.as_slice-functions.ensures) ∙ there)

pub loop-function-preserved : goal.loop-function-preserved
loop-function-preserved c =
    plan_more c.as_slice-functions.result.now c.loop-function.plan c.push.new.self c.in_ok-function_numbers.field-0 c.loop-function.function-index c.function-item.result
    c.loop-function-test.true c.function-item.is c.in_ok-function_numbers.ensures c.in_ok-push.ensures.ok c.loop-function.invariant

pub returns : goal.returns
returns c = λ symbol function there.
    plan_whole c.as_slice-functions.result.now c.loop-function.plan c.loop-function.function-index c.loop-function-test.false c.loop-function.invariant symbol function
    (ap (λ (fs : List Function). slice_get fs symbol) c.as_slice-functions.ensures ∙ there)
