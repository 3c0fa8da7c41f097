use Rattle.std.proofs.Common.{◌≡◌, ◌+◌, ◌++◌, ◌≤◌, ◌<◌, ◌⊎◌, ℕ, length, drop, take, map, ◌||◌, ◌&&◌, Bool, true, false, if◌then◌else◌}
use Rattle.ir_flow.specs.Assigned.{uses_in_blocks}
use Rattle.ir_flow.proofs.uses.function_uses.Given as goal

abbrev pub invariant-loop-i : goal.invariant-loop-i
invariant-loop-i l = l.uses.items ++ uses_in_blocks l.firsts l.fn.function.ret l.i (drop l.i l.blocks) ≡ uses_in_blocks l.firsts l.fn.function.ret 0 l.blocks
