use Rattle.std.proofs.Common.{◌<◌, length, get_or, arith}
use Rattle.liveness.proofs.Noting.{no_writes, one_write, is_register}
use Rattle.liveness.proofs.scan.note_writes.Goals as goal

pub loop-register-init : goal.loop-register-init
loop-register-init c = no_writes c.args.search.now c.args.written.now c.args.point

pub hold-requires : goal.hold-requires
hold-requires c =
    let low : get_or c.args.registers.now c.loop-register.register-index 0 < length c.args.written.now =
    is_register c.args.registers.now c.loop-register.register-index (length c.args.written.now) c.loop-register-test.true c.requires.registers in
    omega (arith, low, c.loop-register.invariant.extends.grows.registers, c.requires.size)

pub insert-requires : goal.insert-requires
insert-requires c =
    let low : get_or c.args.registers.now c.loop-register.register-index 0 < length c.args.written.now =
    is_register c.args.registers.now c.loop-register.register-index (length c.args.written.now) c.loop-register-test.true c.requires.registers in
    omega (arith, low, c.loop-register.invariant.size)

pub loop-register-preserved : goal.loop-register-preserved
loop-register-preserved c =
    let low : get_or c.args.registers.now c.loop-register.register-index 0 < length c.args.written.now =
    is_register c.args.registers.now c.loop-register.register-index (length c.args.written.now) c.loop-register-test.true c.requires.registers in
    rw c.insert.ensures.after
    (one_write c.args.search.now c.loop-register.search c.hold.new.self c.args.written.now c.loop-register.written c.args.registers.now c.args.point
    c.loop-register.register-index c.loop-register-test.true (omega (arith, low, c.loop-register.invariant.size)) c.loop-register.invariant
    c.hold.ensures.extends c.hold.ensures.holds c.hold.ensures.adds)
