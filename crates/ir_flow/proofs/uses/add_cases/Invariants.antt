use Rattle.std.proofs.Common.{◌≡◌, ◌+◌, ◌++◌, drop, take, map, ◌||◌, ◌&&◌, Bool, true, false, if◌then◌else◌}
use Rattle.ir_flow.specs.Code.{case_blocks}
use Rattle.ir_flow.proofs.uses.add_cases.Given as goal

abbrev pub invariant-loop-block : goal.invariant-loop-block
invariant-loop-block l = l.into.items ++ case_blocks (drop l.block-index l.cases) ≡ l.initial.into.items ++ case_blocks l.cases
