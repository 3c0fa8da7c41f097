use Rattle.std.proofs.Common.{◌<◌, length, get_or, arith}
use Rattle.liveness.proofs.Noting.{no_reads, one_read, is_register}
use Rattle.liveness.proofs.scan.note_reads.Goals as goal

pub loop-register-init : goal.loop-register-init
loop-register-init c = no_reads c.args.search.now c.args.written.now c.args.block c.args.point

pub hold-requires : goal.hold-requires
hold-requires c =
    let low : get_or c.args.registers.now c.loop-register.register-index 0 < length c.args.written.now =
    is_register c.args.registers.now c.loop-register.register-index (length c.args.written.now) c.loop-register-test.true c.requires.registers in
    omega (arith, low, c.loop-register.invariant.extends.grows.registers, c.requires.sized.registers)

pub reach_unless-requires-clause-written : goal.reach_unless-requires-clause-written
reach_unless-requires-clause-written c =
    is_register c.args.registers.now c.loop-register.register-index (length c.args.written.now) c.loop-register-test.true c.requires.registers

pub reach_unless-requires-clause-block : goal.reach_unless-requires-clause-block
reach_unless-requires-clause-block c =
    omega (arith, c.loop-register.invariant.extends.grows.blocks, c.hold.ensures.extends.grows.blocks, c.requires.block)

pub reach_unless-requires-clause-register : goal.reach_unless-requires-clause-register
reach_unless-requires-clause-register c =
    let low : get_or c.args.registers.now c.loop-register.register-index 0 < length c.args.written.now =
    is_register c.args.registers.now c.loop-register.register-index (length c.args.written.now) c.loop-register-test.true c.requires.registers in
    omega (
      arith,
      low,
      c.loop-register.invariant.extends.grows.sizes c.args.block,
      c.hold.ensures.extends.grows.sizes c.args.block,
      c.requires.sized.sizes c.args.block c.requires.block,
    )

pub loop-register-preserved : goal.loop-register-preserved
loop-register-preserved c =
    one_read c.args.search.now c.loop-register.search c.hold.new.self c.reach_unless.new.self c.args.written.now c.args.registers.now c.args.block c.args.point
    c.loop-register.register-index c.loop-register-test.true c.loop-register.invariant c.hold.ensures.extends c.hold.ensures.holds c.hold.ensures.adds
    c.in_ok-reach_unless.ensures.extends c.in_ok-reach_unless.ensures.found c.in_ok-reach_unless.ensures.adds
