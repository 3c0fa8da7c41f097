use Rattle.std.proofs.Common.{◌≡◌, ◌∙◌, sym, ap, true, false, Option, drop, ◌+◌}
use Rattle.ir_core.specs.Units.{instructions}
use Rattle.ir_flow.specs.First.{or_then}
use Rattle.ir_flow.specs.Limits.{Passed, insts_limit}
use Rattle.ir_flow.proofs.Stops.{limit_step, or_given, or_missing}
use Rattle.ir_flow.proofs.limits.insts_limit.Goals as goal

pub returns-then-is_some : goal.returns-then-is_some
returns-then-is_some c =
    let step = limit_step c.as_slice-block-items.result.now c.loop-block.block-index c.block-item.result c.loop-block-test.true c.block-item.is in
    let found : c.in_ok-found.found ≡ insts_limit c.block-item.result.insts = c.in_ok-found.ensures ∙ ap insts_limit c.as_slice.ensures in
    let some = c.if-is_some.ensures in
    found ∙ sym (or_given (insts_limit c.block-item.result.insts) _ (rw found at some)) ∙ sym step ∙ c.loop-block.invariant

pub loop-block-preserved : goal.loop-block-preserved
loop-block-preserved c =
    let step = limit_step c.as_slice-block-items.result.now c.loop-block.block-index c.block-item.result c.loop-block-test.true c.block-item.is in
    let found : c.in_ok-found.found ≡ insts_limit c.block-item.result.insts = c.in_ok-found.ensures ∙ ap insts_limit c.as_slice.ensures in
    let none = c.if-is_some.ensures in
    sym (or_missing (insts_limit c.block-item.result.insts) _ (rw found at none)) ∙ sym step ∙ c.loop-block.invariant
