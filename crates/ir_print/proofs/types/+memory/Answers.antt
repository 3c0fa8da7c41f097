use Rattle.std.proofs.Common.{arith, append_assoc}
use Rattle.ir_print.specs.Types.{memory_text}
use Rattle.ir_print.proofs.Lines.{listed_step, listed_end}
use Rattle.ir_print.proofs.types.+memory.Goals as goal

pub structure-loop-index-preserved : goal.structure-loop-index-preserved
structure-loop-index-preserved t c =
    listed_step memory_text c.loop-index.index c.args.fields.now c.index-fields-index.result c.index-fields-index.result c.loop-index.page c.comma.new.page c.memory.new.page _
    c.loop-index-test.true c.index-fields-index.is c.in_ok-comma.ensures c.in_ok-memory.ensures c.loop-index.invariant

pub structure-returns : goal.structure-returns
structure-returns t c =
    let e = listed_end memory_text c.loop-index.index c.loop-index.index c.args.fields.now c.loop-index.page _ c.loop-index-test.false c.loop-index.invariant in
    grind (arith, append_assoc, e, c.tail.ensures, c.is_empty-2.ensures)
