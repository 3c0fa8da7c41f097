use Rattle.std.proofs.Common.{◌≡◌, drop}
use Rattle.ir_meaning.specs.Step.{on_edge}
use Rattle.ir_translator_emit.proofs.operands.operand_among.Given as goal

abbrev pub invariant-loop-operand : goal.invariant-loop-operand
invariant-loop-operand l = on_edge l.from (drop l.operand-index l.pairs) ≡ on_edge l.from l.pairs
