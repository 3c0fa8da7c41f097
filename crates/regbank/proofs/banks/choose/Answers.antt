use Rattle.std.proofs.Common.{◌≡◌, ◌<◌, length, get_or, subst, sym, ap, ◌∙◌}
use Rattle.regbank.specs.Counts.{uses_of, AreCounts}
use Rattle.regbank.proofs.Choosing.{block_chosen, block_below}
use Rattle.regbank.proofs.banks.choose.Goals as goal

pub choose_block-requires : goal.choose_block-requires
choose_block-requires c =
    block_below c.args.function.now c.loop-block.block-index (length c.as_slice-in-loop-block.result.now) c.block-item.result c.as_slice.result.now c.requires
    (subst (λ xs. c.loop-block.block-index < length xs) c.as_slice-block-items.ensures c.loop-block-test.true)
    (subst (λ xs. c.block-item.result ≡ get_or xs c.loop-block.block-index c.block-item.result) c.as_slice-block-items.ensures c.block-item.is)
    c.as_slice.ensures
    (ap length c.as_slice-in-loop-block.ensures.value ∙ c.in_ok-counts.ensures.long)

pub loop-block-preserved : goal.loop-block-preserved
loop-block-preserved c =
    block_chosen c.args.function.now.blocks c.loop-block.block-index c.block-item.result c.as_slice.result.now (uses_of c.args.function.now) c.loop-block.kept.items c.choose_block.new.kept.items
    (subst (λ xs. c.loop-block.block-index < length xs) c.as_slice-block-items.ensures c.loop-block-test.true)
    (subst (λ xs. c.block-item.result ≡ get_or xs c.loop-block.block-index c.block-item.result) c.as_slice-block-items.ensures c.block-item.is)
    c.as_slice.ensures c.loop-block.invariant
    (c.in_ok-choose_block.ensures (uses_of c.args.function.now) (subst (AreCounts (uses_of c.args.function.now)) (sym c.as_slice-in-loop-block.ensures.value) c.in_ok-counts.ensures.counts))
