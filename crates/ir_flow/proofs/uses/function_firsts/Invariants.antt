use Rattle.std.proofs.Common.{◌≡◌, ◌+◌, ◌++◌, ◌≤◌, ◌<◌, ◌⊎◌, ℕ, length, drop, take, map, ◌||◌, ◌&&◌, Bool, true, false, if◌then◌else◌}
use Rattle.ir_core.specs.Units.{results, instructions, values}
use Rattle.ir_flow.specs.Assigned.{first_values, firsts_of}
use Rattle.ir_flow.proofs.uses.function_firsts.Given as goal

abbrev pub invariant-loop-block : goal.invariant-loop-block
invariant-loop-block l = record {
  rest : l.firsts.items ++ first_values l.next (drop l.block-index l.fn.function.blocks) ≡ firsts_of l.fn.function;
  count : l.next + results (instructions (drop l.block-index l.fn.function.blocks)) ≡ values l.fn.function;
}
