use Rattle.std.proofs.Common.{length, refl}
use Rattle.std.proofs.lemmas.Option.{slice_get_read}
use Rattle.frame_out.proofs.Joining.{insts_more, insts_done}
use Rattle.frame_out.proofs.placed.Placed.put_insts.Goals as goal

pub put_inst-requires-clause-ready : goal.put_inst-requires-clause-ready
put_inst-requires-clause-ready c =
    c.requires.ready c.loop-inst.inst-index c.inst-item.result (slice_get_read c.args.insts.now (length c.args.insts.now) c.loop-inst.inst-index c.inst-item.result refl c.loop-inst-test.true c.inst-item.is)

pub loop-inst-preserved : goal.loop-inst-preserved
loop-inst-preserved c =
    insts_more c.args.self.now.function.now c.args.self.now.places.now c.loop-inst.asm c.put_inst.new.asm _ c.args.block c.args.insts.now c.loop-inst.inst-index c.inst-item.result c.loop-inst-test.true c.inst-item.is c.loop-inst.invariant
    c.in_ok-put_inst.ensures

pub returns : goal.returns
returns c = insts_done c.args.self.now.function.now c.args.self.now.places.now c.loop-inst.asm _ c.args.block c.args.insts.now c.loop-inst.inst-index c.loop-inst-test.false c.loop-inst.invariant
