use Rattle.std.proofs.Common.{ℕ}
use Rattle.std.proofs.lemmas.Result.{err_from_is_err_and}
use Rattle.ir_types.proofs.Walks.{goes, refused, ended}
use Rattle.ir_types.proofs.lists.walk.Goals as goal

pub returns-in_err-step : goal.returns-in_err-step
returns-in_err-step g c =
    let p = err_from_is_err_and c.from_residual.result c.from_residual.ensures.1 in
    rw (p.1, p.2) (refused (g.S.Step.steps c.args.context.now) c.loop-one.state c.args.given.now c.loop-one.one-index c.one-item.result _ _ c.loop-one-test.true c.one-item.is c.loop-one.invariant c.in_err-step.ensures)

pub loop-one-preserved : goal.loop-one-preserved
loop-one-preserved g c = goes (g.S.Step.steps c.args.context.now) c.loop-one.state c.step.new.self c.args.given.now c.loop-one.one-index c.one-item.result _ c.loop-one-test.true c.one-item.is c.loop-one.invariant c.in_ok-step.ensures

pub returns : goal.returns
returns g c = ended (g.S.Step.steps c.args.context.now) c.loop-one.state c.args.given.now c.loop-one.one-index _ c.loop-one-test.false c.loop-one.invariant
