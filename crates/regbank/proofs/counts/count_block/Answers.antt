use Rattle.std.proofs.Common.{◌<◌, length, arith}
use Rattle.regbank.proofs.Counting.{inst_counted}
use Rattle.regbank.proofs.counts.count_block.Goals as goal

pub loop-inst-preserved : goal.loop-inst-preserved
loop-inst-preserved c =
    inst_counted c.args.insts.now c.loop-inst.inst-index c.inst-item.result _ c.args.counts.now.items c.loop-inst.counts.items _ (let z : c.loop-inst.inst-index < length c.args.insts.now = omega arith in z) c.inst-item.is c.as_slice.ensures c.loop-inst.invariant c.count_uses.ensures
