use Rattle.jit_main.proofs.Stopping.{without_module}
use Rattle.jit_main.proofs.front.front_of.Goals as goal

pub returns-in-Err-clause-stop : goal.returns-in-Err-clause-stop
returns-in-Err-clause-stop c = without_module c.args.module_text.now c.args.calls_text.now c.args.room _ c.in-Err.ensures.stop

pub returns-in-Err-image_of-clause-stop : goal.returns-in-Err-image_of-clause-stop
returns-in-Err-image_of-clause-stop c = c.in-Err-image_of.ensures.stop c.args.calls_text.now
