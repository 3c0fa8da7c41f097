use Rattle.std.proofs.Common.{length, ap, arith, List}
use Rattle.ir_core.specs.declared.code.Block.{Block}
use Rattle.ir_eval.proofs.Numbered.{all_rows, has_numbers}
use Rattle.ir_eval.proofs.numbers.function_numbers.Goals as goal

pub returns : goal.returns
returns c =
    let same = ap (λ (bs : List Block). length bs) c.as_slice-block-items.ensures in
    let end = c.loop-block-test.false in
    has_numbers c.args.function.now c.loop-block.rows
    (all_rows c.args.function.now.blocks c.loop-block.block-index c.loop-block.rows _ c.loop-block.next (omega (arith, same, end)) c.loop-block.invariant.rows)
