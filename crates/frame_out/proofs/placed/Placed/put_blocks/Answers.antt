use Rattle.std.proofs.Common.{arith}
use Rattle.frame_out.proofs.Joining.{blocks_more, blocks_done, block_free}
use Rattle.frame_out.proofs.placed.Placed.put_blocks.Goals as goal

pub loop-block-preserved : goal.loop-block-preserved
loop-block-preserved c =
    let f = c.args.self.now.function.now in
    let count = c.requires.count in
    record {
      free = block_free f c.args.self.now.places.now c.args.count c.loop-block.asm c.put_block.new.asm c.loop-block.block c.in_ok-put_block.ensures c.loop-block.invariant.free;
      code = blocks_more f c.args.self.now.places.now c.loop-block.asm c.put_block.new.asm _ c.loop-block.block (omega (arith, count, c.loop-block-test.true)) c.loop-block.invariant.code c.in_ok-put_block.ensures;
    }

pub returns : goal.returns
returns c = let count = c.requires.count in blocks_done c.args.self.now.function.now c.args.self.now.places.now c.loop-block.asm _ c.loop-block.block (omega (arith, count, c.loop-block-test.false)) c.loop-block.invariant.code
