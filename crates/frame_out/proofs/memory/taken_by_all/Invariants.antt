use Rattle.std.proofs.Common.{◌≡◌, ◌≤◌, ◌+◌, ◌^◌, drop}
use Rattle.code_pieces.specs.Bytes.{taken_bytes}
use Rattle.frame_code.specs.Code.{taken_in}
use Rattle.frame_out.proofs.memory.taken_by_all.Given as goal

abbrev pub invariant-loop-inst : goal.invariant-loop-inst
invariant-loop-inst l = record {
  value : taken_bytes (l.bytes + taken_in (drop l.inst-index l.insts)) ≡ taken_bytes (taken_in l.insts);
  small : l.bytes ≤ 2 ^ 32;
}
