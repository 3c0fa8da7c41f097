use Rattle.std.proofs.Common.{take}
use Rattle.regbank.specs.Counts.{uses_in, Counts}
use Rattle.regbank.proofs.counts.count_block.Given as goal

abbrev pub invariant-loop-inst : goal.invariant-loop-inst
invariant-loop-inst l = Counts (λ r. uses_in r (take l.inst-index l.insts)) l.initial.counts.items l.counts.items
