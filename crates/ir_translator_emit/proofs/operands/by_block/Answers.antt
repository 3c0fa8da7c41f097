use Rattle.ir_core.specs.declared.code.Operand.TheVariants.{Value as Local}
use Rattle.ir_translator_emit.proofs.Maps.{finds_more, finds_all}
use Rattle.ir_translator_emit.proofs.operands.by_block.Goals as goal

pub loop-operand-preserved : goal.loop-operand-preserved
loop-operand-preserved c = finds_more c.loop-operand.first.entries c.add.new.first.entries c.args.pairs.now c.loop-operand.operand-index (Local 0, 0) c.loop-operand-test.true c.loop-operand.invariant c.in_ok-add.ensures

pub returns : goal.returns
returns c = finds_all c.loop-operand.first.entries c.args.pairs.now c.loop-operand.operand-index c.loop-operand-test.false c.loop-operand.invariant
