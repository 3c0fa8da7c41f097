use Rattle.std.proofs.Common.{◌≡◌, ◌+◌, ◌++◌, drop, take, map, ◌||◌, ◌&&◌, Bool, true, false, if◌then◌else◌}
use Rattle.ir_flow.specs.Assigned.{uses_of_pairs}
use Rattle.ir_flow.proofs.uses.add_pairs.Given as goal

abbrev pub invariant-loop-operand : goal.invariant-loop-operand
invariant-loop-operand l = l.uses.items ++ uses_of_pairs l.firsts (drop l.operand-index l.pairs) ≡ l.initial.uses.items ++ uses_of_pairs l.firsts l.pairs
