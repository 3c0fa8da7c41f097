use Rattle.jit_main.proofs.Few.{few_calls}
use Rattle.jit_main.proofs.front.calls_in.Goals as goal

pub returns-in-Ok-clause-few : goal.returns-in-Ok-clause-few
returns-in-Ok-clause-few c = few_calls c.args.checked.now.module_ c.args.calls_text.now c.in-Ok.list c.in-Ok.ensures.calls
