use Rattle.std.proofs.Common.{refl}
use Rattle.code_emit.proofs.Put.{labelled_more}
use Rattle.code_emit.proofs.labels.with_labels.Goals as goal

pub loop-label-preserved : goal.loop-label-preserved
loop-label-preserved c = labelled_more c.loop-label.asm c.label.new.self c.loop-label._label _ refl c.loop-label.invariant c.in_ok-label.ensures.added
