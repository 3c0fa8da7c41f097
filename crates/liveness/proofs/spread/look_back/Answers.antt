use Rattle.std.proofs.Common.{◌≡◌, ◌*◌, ◌<◌, length, get_or, [], arith, ◌∙◌}
use Rattle.std.proofs.lemmas.List.{get_or_default}
use Rattle.liveness.proofs.Extending.{sized_then}
use Rattle.liveness.proofs.Looking.{looked_back}
use Rattle.liveness.proofs.spread.look_back.Goals as goal

pub look_at-requires-clause-register : goal.look_at-requires-clause-register
look_at-requires-clause-register c = omega (arith, c.hold.ensures.extends.grows.registers, c.requires.register)

pub look_at-requires-clause-sized : goal.look_at-requires-clause-sized
look_at-requires-clause-sized c = rw c.hold.ensures.extends.grows.registers
    (sized_then c.args.search.now c.hold.new.self (length c.args.written.now) (length c.args.search.now.spans.items) c.hold.ensures.extends.grows c.requires.sized)

pub look_at-requires-clause-sizes : goal.look_at-requires-clause-sizes
look_at-requires-clause-sizes c = rw c.hold.ensures.extends.grows.registers c.requires.sizes

pub look_at-requires-clause-sources : goal.look_at-requires-clause-sources
look_at-requires-clause-sources c =
    let low : c.args.block < length c.args.sources.now = omega (arith, c.requires.block.0, c.requires.block.1) in
    let from : c.as_slice-from.result.now ≡ get_or c.args.sources.now c.args.block [] =
    c.as_slice-from.ensures ∙ c.index-sources-place.is ∙ get_or_default c.args.sources.now c.args.block c.index-sources-place.result [] low in
    λ x in'. c.requires.sources x (rw from at in')

pub returns : goal.returns
returns c =
    let low : c.args.block < length c.args.sources.now = omega (arith, c.requires.block.0, c.requires.block.1) in
    let from : c.as_slice-from.result.now ≡ get_or c.args.sources.now c.args.block [] =
    c.as_slice-from.ensures ∙ c.index-sources-place.is ∙ get_or_default c.args.sources.now c.args.block c.index-sources-place.result [] low in
    looked_back c.args.search.now c.hold.new.self c.look_at.new.search c.args.written.now (get_or c.args.sources.now c.args.block []) c.args.numbers.now c.args.register
    (2 * get_or c.args.numbers.now c.args.block 0) c.hold.ensures.extends c.hold.ensures.holds c.hold.ensures.adds (rw from at c.in_ok-look_at.ensures)
