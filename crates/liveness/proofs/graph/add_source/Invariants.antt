use Rattle.std.proofs.Common.{take}
use Rattle.liveness.specs.Scan.{AddsSource}
use Rattle.liveness.proofs.graph.add_source.Given as goal

abbrev pub invariant-loop-to : goal.invariant-loop-to
invariant-loop-to l = AddsSource l.initial.sources.items (take l.to-index l.targets) l.from l.sources.items
