use Rattle.std.proofs.Common.{◌≡◌, ◌+◌, ◌++◌, ◌≤◌, ◌<◌, ◌⊎◌, ℕ, length, drop, take, map, ◌||◌, ◌&&◌, Bool, true, false, if◌then◌else◌}
use Rattle.std.specs.Prelude.{slice_index}
use Rattle.ir_flow.specs.Assigned.{uses_in_block}
use Rattle.ir_flow.proofs.uses.add_block.Given as goal

abbrev pub invariant-loop-inst : goal.invariant-loop-inst
invariant-loop-inst l = record {
  grown : l.before ≤ slice_index l.firsts l.block + l.inst-index;
  rest : l.uses.items ++ uses_in_block l.firsts l.ret l.block l.before (drop l.inst-index l.insts)
      ≡ l.initial.uses.items ++ uses_in_block l.firsts l.ret l.block (slice_index l.firsts l.block) l.insts;
}
