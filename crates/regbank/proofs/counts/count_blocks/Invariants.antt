use Rattle.std.proofs.Common.{take}
use Rattle.regbank.specs.Counts.{uses_in_blocks, Counts}
use Rattle.regbank.proofs.counts.count_blocks.Given as goal

abbrev pub invariant-loop-block : goal.invariant-loop-block
invariant-loop-block l = Counts (λ r. uses_in_blocks r (take l.block-index l.blocks)) l.initial.counts.items l.counts.items
