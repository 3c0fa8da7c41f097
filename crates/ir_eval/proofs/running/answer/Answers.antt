use Rattle.std.proofs.Common.{sym}
use Rattle.ir_eval.proofs.running.answer.Goals as goal

pub pass-requires-clause-bounded : goal.pass-requires-clause-bounded
pass-requires-clause-bounded c = c.requires.usable.bounded c.args.now.now.symbol c.in-Some.function.now (sym c.in-Some.ensures.value)
