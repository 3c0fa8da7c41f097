use Rattle.std.proofs.Common.{◌≡◌, ◌+◌, ◌++◌, ◌≤◌, ◌<◌, ◌⊎◌, ℕ, length, drop, take, map, ◌||◌, ◌&&◌, not, Bool, true, false, if◌then◌else◌}
use Rattle.ir_verify.specs.Ranges.{all_parameters, all_named, all_below}
use Rattle.ir_flow.specs.Code.{pair_blocks, case_blocks}
use Rattle.ir_verify.proofs.ranges.cases_below.Given as goal

abbrev pub invariant-loop-block : goal.invariant-loop-block
invariant-loop-block l = all_below l.count (case_blocks (drop l.block-index l.cases)) ≡ all_below l.count (case_blocks l.cases)
