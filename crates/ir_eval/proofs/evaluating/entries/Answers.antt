use Rattle.ir_eval.proofs.Going.{entries_of_end}
use Rattle.ir_eval.proofs.evaluating.entries.Goals as goal

pub returns-in-Ok : goal.returns-in-Ok
returns-in-Ok c =
    entries_of_end c.args.program.now c.module-all.result.now c.room.result c.args.call.now c.module-all.ensures.value c.room.ensures.value c.in-Ok.it.end c.in-Ok.it.counts c.in-Ok.ensures
