use Rattle.std.proofs.Common.{◌≡◌, drop}
use Rattle.fast_isel.specs.Taken.{are_blocks}
use Rattle.fast_isel.proofs.taken.are_blocks.Given as goal

abbrev pub invariant-loop-block : goal.invariant-loop-block
invariant-loop-block l = are_blocks l.values l.many (drop l.block-index l.blocks) ≡ are_blocks l.values l.many l.blocks
