use Rattle.std.proofs.lemmas.Result.{IfOk-weaker}
use Rattle.gisel.proofs.Good.{placed-good}
use Rattle.gisel.proofs.placed.placed.Goals as goal

pub returns-in-Ok-clause-good : goal.returns-in-Ok-clause-good
returns-in-Ok-clause-good c =
    IfOk-weaker c.laid_out.result _ _ (λ words good. placed-good c.args.function c.in-Ok.lowered words c.compiled_may_be_refined.ensures c.in-Ok.ensures.refines good) c.laid_out.ensures.good
