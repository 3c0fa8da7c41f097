use Rattle.std.proofs.Common.{◌≡◌, ◌+◌, ◌++◌, drop, take, map, ◌||◌, ◌&&◌, Bool, true, false, if◌then◌else◌}
use Rattle.ir_flow.specs.Assigned.{uses_of_places}
use Rattle.ir_flow.proofs.uses.add_arguments.Given as goal

abbrev pub invariant-loop-operand : goal.invariant-loop-operand
invariant-loop-operand l = l.uses.items ++ uses_of_places l.block l.before (drop l.operand-index l.arguments) ≡ l.initial.uses.items ++ uses_of_places l.block l.before l.arguments
