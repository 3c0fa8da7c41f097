use Rattle.std.proofs.Common.{◌<◌, length, arith}
use Rattle.ir_translator.proofs.Types.{block-added}
use Rattle.ir_translator.proofs.known.types_of.Goals as goal

pub loop-block-preserved : goal.loop-block-preserved
loop-block-preserved c =
    block-added c.loop-block.all c.add_results.new.types _ c.as_slice-block-items.result.now c.loop-block.block-index c.block-item.result c.as_slice.result.now
    (let lt : c.loop-block.block-index < length c.as_slice-block-items.result.now = omega arith in lt) c.block-item.is c.as_slice.ensures c.loop-block.invariant c.in_ok-add_results.ensures
