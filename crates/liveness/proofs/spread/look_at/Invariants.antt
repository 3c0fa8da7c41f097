use Rattle.std.proofs.Common.{take}
use Rattle.liveness.specs.Scan.{LooksAt}
use Rattle.liveness.proofs.spread.look_at.Given as goal

abbrev pub invariant-loop-from : goal.invariant-loop-from
invariant-loop-from l = LooksAt l.initial.search l.written (take l.from-index l.sources) l.numbers l.register l.search
