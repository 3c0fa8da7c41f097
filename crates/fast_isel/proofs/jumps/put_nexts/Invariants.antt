use Rattle.std.proofs.Common.{◌≡◌, drop, true, length}
use Rattle.ir_meaning.specs.Step.{number_at, phis}
use Rattle.quick_code.specs.Blocks.{nexts_code, edge_code}
use Rattle.fast_isel.specs.Taken.{are_forms}
use Rattle.code_emit.specs.Written.{put_code}
use Rattle.fast_isel.proofs.jumps.put_nexts.Given as goal

abbrev pub invariant-loop-inst : goal.invariant-loop-inst
invariant-loop-inst l = record {
  value : l.value ≡ number_at l.function l.to l.inst-index;
  forms : are_forms l.values (length l.function.blocks) (drop l.inst-index l.insts) ≡ true;
  code : put_code l.asm (nexts_code l.globals l.function l.from l.to l.inst-index (phis (drop l.inst-index l.insts))) ≡ put_code l.fn.asm (edge_code l.globals l.function l.from l.to);
}
