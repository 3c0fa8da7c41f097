use Rattle.ir_print.proofs.Lines.{inst_step, insts_end, result_step}
use Rattle.ir_print.proofs.blocks.insts.Goals as goal

pub loop-one-preserved : goal.loop-one-preserved
loop-one-preserved c = record {
  text = inst_step c.args.program.now c.args.result_ty c.loop-one.value c.in_ok-value.value c.loop-one.one-index c.args.insts.now c.one-item.result c.loop-one.page c.inst.new.page _ c.loop-one-test.true c.one-item.is c.in_ok-value.ensures c.in_ok-inst.ensures c.loop-one.invariant.text;
  next = result_step c.loop-one.value c.in_ok-value.value c.loop-one.one-index _ c.args.insts.now c.one-item.result c.loop-one-test.true c.one-item.is c.in_ok-value.ensures c.loop-one.invariant.next;
}

pub returns-clause-text : goal.returns-clause-text
returns-clause-text c = insts_end c.args.program.now c.args.result_ty c.loop-one.value c.loop-one.one-index c.args.insts.now c.loop-one.page _ c.loop-one-test.false c.loop-one.invariant.text
