use Rattle.std.proofs.Common.{◌≡◌, ◌+◌, ◌++◌, drop, take, map, ◌||◌, ◌&&◌, Bool, true, false, if◌then◌else◌}
use Rattle.ir_flow.specs.Code.{edges}
use Rattle.ir_flow.proofs.uses.function_edges.Given as goal

abbrev pub invariant-loop-block : goal.invariant-loop-block
invariant-loop-block l = l.graph.items ≡ map edges (take l.block-index l.fn.function.blocks)
