use Rattle.liveness.specs.Scan.{AreSources}
use Rattle.liveness.proofs.graph.sources.Given as goal

abbrev pub invariant-loop-from : goal.invariant-loop-from
invariant-loop-from l = AreSources l.blocks l.from l.sources.items
