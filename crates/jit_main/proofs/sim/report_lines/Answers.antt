use Rattle.jit_main.proofs.Firsts.{as_many}
use Rattle.jit_main.proofs.sim.report_lines.Goals as goal

pub answer_text-requires : goal.answer_text-requires
answer_text-requires c = rw c.deref.ensures.value (as_many c.args.checked.now c.args.calls.now c.args.report.now.answers.items c.requires)
