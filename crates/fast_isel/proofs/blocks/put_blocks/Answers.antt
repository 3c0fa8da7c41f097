use Rattle.std.proofs.Common.{arith, length}
use Rattle.ir_core.specs.Units.{frame}
use Rattle.fast_isel.proofs.Joins.{blocks_more, blocks_done, blocks_free}
use Rattle.fast_isel.proofs.blocks.put_blocks.Goals as goal

pub loop-block-preserved : goal.loop-block-preserved
loop-block-preserved c =
    let f = c.args.function.now in
    record {
      free = blocks_free c.args.globals.now f c.args.room c.requires.flow c.loop-block.asm c.put_block.new.asm (frame f) c.loop-block.block c.in_ok-put_block.ensures c.loop-block.invariant.free;
      code = blocks_more c.args.globals.now f c.args.room c.loop-block.asm c.put_block.new.asm _ (frame f) c.loop-block.block (length f.blocks) (omega arith) c.loop-block.invariant.code c.in_ok-put_block.ensures;
    }

pub returns : goal.returns
returns c = blocks_done c.args.globals.now c.args.function.now c.args.room c.loop-block.asm _ (frame c.args.function.now) c.loop-block.block (length c.args.function.now.blocks) (let end = c.len-block-end.ensures in omega (arith, end, c.loop-block-test.false)) c.loop-block.invariant.code
