use Rattle.regalloc.proofs.Stages.{Stage}
use Rattle.regalloc.proofs.place.place.Given as goal

abbrev pub invariant-loop-start : goal.invariant-loop-start
invariant-loop-start l = Stage l.spans l.start-items l.start-index l.ends l.at.items l.limit
