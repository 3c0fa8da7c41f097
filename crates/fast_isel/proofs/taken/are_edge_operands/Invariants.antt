use Rattle.std.proofs.Common.{◌≡◌, drop}
use Rattle.fast_isel.specs.Taken.{are_edge_operands}
use Rattle.fast_isel.proofs.taken.are_edge_operands.Given as goal

abbrev pub invariant-loop-operand : goal.invariant-loop-operand
invariant-loop-operand l = are_edge_operands l.values (drop l.operand-index l.pairs) ≡ are_edge_operands l.values l.pairs
