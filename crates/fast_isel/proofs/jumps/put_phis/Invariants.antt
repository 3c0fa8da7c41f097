use Rattle.std.proofs.Common.{◌≡◌, ◌+◌, drop, true, length}
use Rattle.ir_meaning.specs.Step.{insts_at, number_at, phis}
use Rattle.quick_code.specs.Blocks.{phis_code}
use Rattle.fast_isel.specs.Taken.{are_forms}
use Rattle.code_emit.specs.Written.{put_code}
use Rattle.fast_isel.proofs.jumps.put_phis.Given as goal

abbrev pub invariant-loop-inst : goal.invariant-loop-inst
invariant-loop-inst l = record {
  heads : l.heads ≡ l.inst-index;
  value : l.first + l.heads ≡ number_at l.function l.block l.inst-index;
  forms : are_forms l.values (length l.function.blocks) (drop l.inst-index l.insts) ≡ true;
  many : l.heads + length (phis (drop l.inst-index l.insts)) ≡ length (phis (insts_at l.function l.block));
  code : put_code l.asm (phis_code l.function l.block l.inst-index (phis (drop l.inst-index l.insts))) ≡ put_code l.fn.asm (phis_code l.function l.block 0 (phis (insts_at l.function l.block)));
}
