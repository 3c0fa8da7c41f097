use Rattle.ir_print_laws.proofs.ManyCallsLists.{calls_read}
use Rattle.ir_print_laws.proofs.many_calls_laws.calls_read.Goals as goal

pub returns : goal.returns
returns c = calls_read
