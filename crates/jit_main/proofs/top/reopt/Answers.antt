use Rattle.jit_main.proofs.Musts.{must}
use Rattle.jit_main.proofs.top.reopt.Goals as goal

pub returns-clause-must : goal.returns-clause-must
returns-clause-must g c = must (g.P.ReoptPolicy.marks c.args.policy) c.quick_need_is_one.ensures _ _ _ _ _ c.program.result c.program.ensures.finished
