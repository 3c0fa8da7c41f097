use Rattle.ir_print.proofs.Lines.{block_step, blocks_end}
use Rattle.ir_print.proofs.blocks.blocks.Goals as goal

pub loop-number-preserved : goal.loop-number-preserved
loop-number-preserved c =
    block_step c.args.program.now c.args.result_ty c.loop-number.value c.in_ok-value.value c.loop-number.number c.args.blocks.now c.index-blocks-number.result c.loop-number.page c.label.new.page c.insts.new.page _
    c.loop-number-test.true c.index-blocks-number.is (rw c.as_slice.ensures at c.in_ok-value.ensures.next) c.in_ok-label.ensures (rw c.as_slice.ensures at c.in_ok-value.ensures.text) c.loop-number.invariant

pub returns : goal.returns
returns c = blocks_end c.args.program.now c.args.result_ty c.loop-number.number c.loop-number.value c.loop-number.number c.args.blocks.now c.loop-number.page _ c.loop-number-test.false c.loop-number.invariant
