use Rattle.std.proofs.Common.{◌≡◌, ◌-◌, length}
use Rattle.ir_core.specs.Units.{frame}
use Rattle.quick_code.specs.Blocks.{blocks_items, block_label}
use Rattle.code_pieces.specs.Assembly.{put}
use Rattle.fast_isel.specs.Written.{AreFree}
use Rattle.fast_isel.proofs.blocks.put_blocks.Given as goal

abbrev pub invariant-loop-block : goal.invariant-loop-block
invariant-loop-block l = record {
  free : AreFree l.fn.function (block_label l.fn.function l.block) l.asm;
  code : put l.asm (blocks_items l.fn.globals l.fn.function l.fn.room (frame l.fn.function) l.block (length l.fn.function.blocks - l.block)) ≡ put l.fn.asm (blocks_items l.fn.globals l.fn.function l.fn.room (frame l.fn.function) 0 (length l.fn.function.blocks));
}
