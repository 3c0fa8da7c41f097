use Rattle.std.proofs.lemmas.Slice.Zip.{either_empty_from_Zip}
use Rattle.inst_select.proofs.Answering.{all_pairs}
use Rattle.inst_select.proofs.operands.pairs.Goals as goal

-- src/operands.rt:131:1
pub returns : goal.returns
returns c = all_pairs _ _ _ _ (either_empty_from_Zip _ c.next.new.self _ c.in-None.is c.next.ensures.steps) c.loop-register.invariant.pairs
