use Rattle.std.proofs.Common.{◌<◌, length, arith}
use Rattle.regbank.proofs.Counting.{block_counted}
use Rattle.regbank.proofs.counts.count_blocks.Goals as goal

pub loop-block-preserved : goal.loop-block-preserved
loop-block-preserved c =
    block_counted c.args.blocks.now c.loop-block.block-index c.block-item.result _ c.args.counts.now.items c.loop-block.counts.items _ (let z : c.loop-block.block-index < length c.args.blocks.now = omega arith in z) c.block-item.is c.as_slice.ensures c.loop-block.invariant c.count_block.ensures
