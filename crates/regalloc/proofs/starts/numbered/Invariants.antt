use Rattle.std.proofs.Common.{◌≡◌, ◌++◌, drop}
use Rattle.regalloc.specs.Steps.{starts_from}
use Rattle.regalloc.proofs.starts.numbered.Given as goal

abbrev pub invariant-loop-register : goal.invariant-loop-register
invariant-loop-register l = l.starts.items ++ starts_from l.register (drop l.register l.spans) ≡ starts_from 0 l.spans
