use Rattle.std.proofs.Common.{◌≡◌, ◌+◌, ◌⊎◌, drop, []}
use Rattle.ir_core.specs.Units.{frame}
use Rattle.ir_meaning.specs.Step.{number_at}
use Rattle.quick_code.specs.Blocks.{insts_items, edge_label}
use Rattle.code_pieces.specs.Assembly.{put}
use Rattle.fast_isel.specs.Written.{AreFree}
use Rattle.fast_isel.proofs.blocks.put_insts.Given as goal

abbrev pub invariant-loop-inst : goal.invariant-loop-inst
invariant-loop-inst l = record {
  value : l.value ≡ number_at l.fn.function l.fn.block (l.fn.place + l.inst-index);
  free : (drop l.inst-index l.insts ≡ []) ⊎ (AreFree l.fn.function (edge_label l.fn.function l.fn.block) l.asm);
  code : put l.asm (insts_items l.fn.globals l.fn.function l.fn.room (frame l.fn.function) l.fn.block (l.fn.place + l.inst-index) (drop l.inst-index l.insts)) ≡ put l.fn.asm (insts_items l.fn.globals l.fn.function l.fn.room (frame l.fn.function) l.fn.block l.fn.place l.insts);
}
