use Rattle.std.proofs.Common.{◌≡◌, ◌+◌, ◌++◌, length, drop, map, replicate}
use Rattle.ir_core.specs.Units.{types_of_arguments}
use Rattle.ir_verify.specs.Ranges.{all_have_widths}
use Rattle.ir_verify.proofs.ranges.have_widths.Given as goal

abbrev pub invariant-loop-ty : goal.invariant-loop-ty
invariant-loop-ty l = all_have_widths (types_of_arguments (drop l.ty-index l.arguments)) ≡ all_have_widths (types_of_arguments l.arguments)
