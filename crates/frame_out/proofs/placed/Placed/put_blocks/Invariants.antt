use Rattle.std.proofs.Common.{◌≡◌, drop}
use Rattle.code_pieces.specs.Assembly.{put}
use Rattle.frame_code.specs.Code.{blocks_items}
use Rattle.frame_out.specs.Ready.{AreFree}
use Rattle.frame_out.proofs.placed.Placed.put_blocks.Given as goal

abbrev pub invariant-loop-block : goal.invariant-loop-block
invariant-loop-block l = record {
  free : AreFree l.fn.count l.block l.asm;
  code : put l.asm (blocks_items l.fn.self.function.now l.fn.self.places.now l.block (drop l.block l.fn.self.function.now.blocks)) ≡ put l.fn.asm (blocks_items l.fn.self.function.now l.fn.self.places.now 0 l.fn.self.function.now.blocks);
}
