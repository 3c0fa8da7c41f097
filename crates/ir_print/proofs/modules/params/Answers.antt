use Rattle.std.proofs.Common.{refl}
use Rattle.ir_print.proofs.Lines.{param_step, params_end}
use Rattle.ir_print.proofs.modules.params.Goals as goal

pub loop-number-preserved : goal.loop-number-preserved
loop-number-preserved c = param_step c.loop-number.number c.args.params.now _ _ c.loop-number.page c.param.new.page _ c.loop-number-test.true refl c.in_ok-param.ensures c.loop-number.invariant

pub returns : goal.returns
returns c = params_end c.loop-number.number c.loop-number.number c.args.params.now c.loop-number.page _ c.loop-number-test.false c.loop-number.invariant
