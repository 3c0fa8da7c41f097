use Rattle.std.proofs.Common.{◌≡◌, ◌+◌, length, get_or, [], arith, ap, ◌∙◌}
use Rattle.std.proofs.lemmas.List.{get_or_default}
use Rattle.mir.specs.Code.{count_before}
use Rattle.liveness.proofs.Graphing.{one_number}
use Rattle.liveness.proofs.Covering.{count_more}
use Rattle.liveness.proofs.graph.numbers.Goals as goal

pub loop-block-preserved : goal.loop-block-preserved
loop-block-preserved c =
    let item : c.block-item.result ≡ get_or c.args.blocks.now c.loop-block.block-index [] =
    c.block-item.is ∙ get_or_default c.args.blocks.now c.loop-block.block-index c.block-item.result [] c.loop-block-test.true in
    let counts : c.in_ok-number.number ≡ count_before c.args.blocks.now (c.loop-block.block-index + 1) =
    omega (arith, c.in_ok-number.ensures.next, c.loop-block.invariant.number_is, ap length item, count_more c.args.blocks.now c.loop-block.block-index) in
    record {
      numbering = rw c.in_ok-number.ensures.pushed
          (one_number c.args.blocks.now c.loop-block.block-index c.loop-block.numbers.items c.in_ok-number.number c.loop-block.invariant.numbering counts c.in_ok-number.ensures.below);
      number_is = counts;
      below = c.in_ok-number.ensures.below;
    }
