use Rattle.ir_print.proofs.Lines.{five_written}
use Rattle.ir_print.proofs.values.far_place.Goals as goal

pub returns : goal.returns
returns c = five_written c.write-3.result _ _ _ _ _ _ _ _ _ _ _ c.in_ok-write.ensures c.in_ok-global.ensures c.in_ok-write-2.ensures c.in_ok-number.ensures c.write-3.ensures
