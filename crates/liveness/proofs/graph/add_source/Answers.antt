use Rattle.std.proofs.Common.{◌<◌, ◌++◌, ◌∷◌, [], length, get_or, arith, ap, ◌∙◌}
use Rattle.std.proofs.lemmas.List.{get_or_default}
use Rattle.liveness.proofs.Noting.{is_register}
use Rattle.liveness.proofs.Graphing.{source_more}
use Rattle.liveness.proofs.graph.add_source.Goals as goal

pub index_mut-requires : goal.index_mut-requires
index_mut-requires c =
    let low : get_or c.args.targets.now c.loop-to.to-index 0 < length c.args.sources.now.items =
    is_register c.args.targets.now c.loop-to.to-index (length c.args.sources.now.items) c.loop-to-test.true c.requires in
    omega (arith, low, c.loop-to.invariant.size, c.loop-to.sources.ok.0)

pub loop-to-preserved : goal.loop-to-preserved
loop-to-preserved c =
    let old : get_or c.args.targets.now c.loop-to.to-index 0 < length c.args.sources.now.items =
    is_register c.args.targets.now c.loop-to.to-index (length c.args.sources.now.items) c.loop-to-test.true c.requires in
    let low : get_or c.args.targets.now c.loop-to.to-index 0 < length c.loop-to.sources.items = omega (arith, old, c.loop-to.invariant.size) in
    source_more c.args.sources.now.items c.loop-to.sources.items c.args.targets.now c.args.from c.loop-to.to-index c.loop-to-test.true low c.loop-to.invariant
    c.add.new.list (c.in_ok-add.ensures ∙ ap (λ xs. xs ++ c.args.from ∷ [])
    (c.index_mut.ensures.value ∙ get_or_default c.loop-to.sources.items (get_or c.args.targets.now c.loop-to.to-index 0) c.index_mut.result.now [] low))
