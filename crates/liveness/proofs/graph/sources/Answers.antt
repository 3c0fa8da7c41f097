use Rattle.std.proofs.Common.{◌≡◌, ◌++◌, [], length, get_or, arith, ap, ◌∙◌}
use Rattle.std.proofs.lemmas.List.{get_or_default}
use Rattle.liveness.specs.Scan.{last_targets}
use Rattle.liveness.proofs.Graphing.{sources_more}
use Rattle.liveness.proofs.graph.sources.Goals as goal

pub add_source-requires : goal.add_source-requires
add_source-requires c =
    let block : c.as_slice.result.now ≡ get_or c.args.blocks.now c.loop-from.from [] =
    c.as_slice.ensures ∙ c.index-blocks-from.is ∙ get_or_default c.args.blocks.now c.loop-from.from c.index-blocks-from.result [] c.loop-from-test.true in
    let list : c.as_slice-in-loop-from.result.now ≡ last_targets (get_or c.args.blocks.now c.loop-from.from []) =
    c.as_slice-in-loop-from.ensures.value ∙ c.in_ok-put_last_targets.ensures ∙ ap (λ xs. xs ++ last_targets c.as_slice.result.now) c.clear.ensures.items ∙ ap last_targets block in
    λ to in'. rw c.loop-from.invariant.size (c.requires.targets c.loop-from.from to (rw list at in'))

pub loop-from-preserved : goal.loop-from-preserved
loop-from-preserved c =
    let block : c.as_slice.result.now ≡ get_or c.args.blocks.now c.loop-from.from [] =
    c.as_slice.ensures ∙ c.index-blocks-from.is ∙ get_or_default c.args.blocks.now c.loop-from.from c.index-blocks-from.result [] c.loop-from-test.true in
    let list : c.as_slice-in-loop-from.result.now ≡ last_targets (get_or c.args.blocks.now c.loop-from.from []) =
    c.as_slice-in-loop-from.ensures.value ∙ c.in_ok-put_last_targets.ensures ∙ ap (λ xs. xs ++ last_targets c.as_slice.result.now) c.clear.ensures.items ∙ ap last_targets block in
    sources_more c.args.blocks.now c.loop-from.from c.loop-from.sources.items c.add_source.new.sources.items c.loop-from.invariant (rw list at c.in_ok-add_source.ensures)

pub returns : goal.returns
returns c =
    let all : c.loop-from.from ≡ length c.args.blocks.now = omega arith in
    rw all at c.loop-from.invariant
