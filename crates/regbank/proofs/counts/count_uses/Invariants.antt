use Rattle.std.proofs.Common.{take}
use Rattle.gmir.specs.Formed.{times}
use Rattle.regbank.specs.Counts.{Counts}
use Rattle.regbank.proofs.counts.count_uses.Given as goal

abbrev pub invariant-loop-register : goal.invariant-loop-register
invariant-loop-register l = Counts (λ r. times r (take l.register-index l.registers)) l.initial.counts.items l.counts.items
