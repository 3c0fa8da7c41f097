use Rattle.std.proofs.Common.{◌≡◌, drop}
use Rattle.fast_isel_emit.specs.Operands.{are_arguments}
use Rattle.fast_isel.proofs.taken.are_arguments.Given as goal

abbrev pub invariant-loop-operand : goal.invariant-loop-operand
invariant-loop-operand l = are_arguments l.values (drop l.operand-index l.arguments) ≡ are_arguments l.values l.arguments
