use Rattle.std.proofs.Common.{◌≡◌, drop, true}
use Rattle.ir_meaning.specs.Step.{on_edge}
use Rattle.fast_isel.specs.Taken.{are_edge_operands}
use Rattle.fast_isel.proofs.jumps.operand_on.Given as goal

abbrev pub invariant-loop-operand : goal.invariant-loop-operand
invariant-loop-operand l = record {
  value : on_edge l.from (drop l.operand-index l.pairs) ≡ on_edge l.from l.pairs;
  small : are_edge_operands l.values (drop l.operand-index l.pairs) ≡ true;
}
