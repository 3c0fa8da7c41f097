use Rattle.std.proofs.Common.{◌≡◌, ◌+◌, ◌++◌, drop, take, map, ◌||◌, ◌&&◌, Bool, true, false, if◌then◌else◌}
use Rattle.ir_core.specs.Units.{results}
use Rattle.ir_flow.proofs.uses.count_results.Given as goal

abbrev pub invariant-loop-inst : goal.invariant-loop-inst
invariant-loop-inst l = l.count + results (drop l.inst-index l.fn.block.insts) ≡ results l.fn.block.insts
