use Rattle.std.proofs.Common.{◌≡◌, ◌<◌, length, get_or, [], arith, ap, ◌∙◌}
use Rattle.std.proofs.lemmas.List.{get_or_default}
use Rattle.liveness.proofs.Noting.{is_register}
use Rattle.liveness.proofs.Looking.{no_looks, one_source}
use Rattle.liveness.proofs.spread.look_at.Goals as goal

pub loop-from-init : goal.loop-from-init
loop-from-init c = no_looks c.args.search.now c.args.written.now c.args.numbers.now c.args.register

pub hold-requires : goal.hold-requires
hold-requires c = omega (arith, c.loop-from.invariant.extends.grows.registers, c.requires.register)

pub reach_unless-requires-clause-block : goal.reach_unless-requires-clause-block
reach_unless-requires-clause-block c =
    let low : get_or c.args.sources.now c.loop-from.from-index 0 < length c.args.written.now =
    is_register c.args.sources.now c.loop-from.from-index (length c.args.written.now) c.loop-from-test.true c.requires.sources in
    omega (arith, low, c.loop-from.invariant.extends.grows.blocks, c.hold.ensures.extends.grows.blocks, c.requires.sized.blocks_sized)

pub reach_unless-requires-clause-register : goal.reach_unless-requires-clause-register
reach_unless-requires-clause-register c =
    let low : get_or c.args.sources.now c.loop-from.from-index 0 < length c.args.written.now =
    is_register c.args.sources.now c.loop-from.from-index (length c.args.written.now) c.loop-from-test.true c.requires.sources in
    omega (
      arith,
      low,
      c.requires.register,
      c.loop-from.invariant.extends.grows.sizes (get_or c.args.sources.now c.loop-from.from-index 0),
      c.hold.ensures.extends.grows.sizes (get_or c.args.sources.now c.loop-from.from-index 0),
      c.requires.sized.sizes (get_or c.args.sources.now c.loop-from.from-index 0) low,
    )

pub reach_unless-requires-clause-written : goal.reach_unless-requires-clause-written
reach_unless-requires-clause-written c =
    let low : get_or c.args.sources.now c.loop-from.from-index 0 < length c.args.written.now =
    is_register c.args.sources.now c.loop-from.from-index (length c.args.written.now) c.loop-from-test.true c.requires.sources in
    let own : c.index-written-place.result ≡ get_or c.args.written.now (get_or c.args.sources.now c.loop-from.from-index 0) [] =
    c.index-written-place.is ∙ get_or_default c.args.written.now (get_or c.args.sources.now c.loop-from.from-index 0) c.index-written-place.result [] low in
    omega (arith, c.requires.register, c.requires.sizes.each (get_or c.args.sources.now c.loop-from.from-index 0) low, ap length own)

pub loop-from-preserved : goal.loop-from-preserved
loop-from-preserved c =
    let low : get_or c.args.sources.now c.loop-from.from-index 0 < length c.args.written.now =
    is_register c.args.sources.now c.loop-from.from-index (length c.args.written.now) c.loop-from-test.true c.requires.sources in
    let own : c.index-written-place.result ≡ get_or c.args.written.now (get_or c.args.sources.now c.loop-from.from-index 0) [] =
    c.index-written-place.is ∙ get_or_default c.args.written.now (get_or c.args.sources.now c.loop-from.from-index 0) c.index-written-place.result [] low in
    one_source c.args.search.now c.loop-from.search c.hold.new.self c.reach_unless.new.self c.args.written.now c.args.sources.now c.args.numbers.now c.args.register
    c.loop-from.from-index c.loop-from-test.true c.loop-from.invariant c.hold.ensures.extends (rw c.saturating_sub.ensures at c.hold.ensures.holds)
    (rw c.saturating_sub.ensures at c.hold.ensures.adds) c.in_ok-reach_unless.ensures.extends (rw own at c.in_ok-reach_unless.ensures.found)
    (rw own at c.in_ok-reach_unless.ensures.adds)

pub bounds-numbers-place : goal.bounds-numbers-place
bounds-numbers-place c =
    let low : get_or c.args.sources.now c.loop-from.from-index 0 < length c.args.written.now =
    is_register c.args.sources.now c.loop-from.from-index (length c.args.written.now) c.loop-from-test.true c.requires.sources in
    omega (arith, low, c.requires.numbers)

pub bounds-written-place : goal.bounds-written-place
bounds-written-place c =
    is_register c.args.sources.now c.loop-from.from-index (length c.args.written.now) c.loop-from-test.true c.requires.sources
