use Rattle.ir_print.proofs.Lines.{five_written}
use Rattle.ir_print.proofs.instructions.address.Goals as goal

pub returns : goal.returns
returns c = five_written c.more_arguments.result _ _ _ _ _ _ _ _ _ _ _ c.in_ok-write.ensures c.in_ok-memory.ensures c.in_ok-write-2.ensures c.in_ok-typed.ensures c.more_arguments.ensures
