use Rattle.jit_main.proofs.Listing.{next_listed, one_outcome}
use Rattle.jit_main.proofs.eval.outcomes_of.Goals as goal

pub outcome_of-requires-clause-call : goal.outcome_of-requires-clause-call
outcome_of-requires-clause-call c = (next_listed _ c.args.calls.now c.loop-call.call-index c.call-item.result c.loop-call-test.true c.call-item.is c.loop-call.invariant.0).0

pub loop-call-preserved : goal.loop-call-preserved
loop-call-preserved c = rw c.in_ok-push.ensures.items (
  (next_listed _ c.args.calls.now c.loop-call.call-index c.call-item.result c.loop-call-test.true c.call-item.is c.loop-call.invariant.0).1,
  one_outcome c.args.checked.now c.args.calls.now c.loop-call.all.items c.loop-call.call-index c.call-item.result c.in_ok-outcome_of.field-0 c.loop-call-test.true c.call-item.is c.loop-call.invariant.1 c.in_ok-outcome_of.ensures,
)
