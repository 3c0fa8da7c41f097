use Rattle.std.proofs.Common.{◌≡◌, ◌+◌, ◌++◌, ◌≤◌, ◌<◌, ◌⊎◌, ℕ, length, drop, take, map, ◌||◌, ◌&&◌, not, Bool, true, false, if◌then◌else◌}
use Rattle.ir_verify.specs.Ranges.{all_parameters, all_named, all_below}
use Rattle.ir_flow.specs.Code.{pair_blocks, case_blocks}
use Rattle.ir_verify.proofs.ranges.all_named.Given as goal

abbrev pub invariant-loop-ty : goal.invariant-loop-ty
invariant-loop-ty l = all_named l.all l.count (drop l.ty-index l.places) ≡ all_named l.all l.count l.places
