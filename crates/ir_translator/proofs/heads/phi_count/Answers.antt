use Rattle.std.proofs.Common.{ap, sym, arith, length}
use Rattle.ir_translator.proofs.Phis.{phi_first}
use Rattle.ir_translator.proofs.heads.phi_count.Goals as goal

pub loop-inst-preserved : goal.loop-inst-preserved
loop-inst-preserved c =
    let first = ap length (phi_first c.args.insts.now c.loop-inst.inst-index c.inst-item.result c.loop-inst-test.true c.inst-item.is (sym c.if-not-is_phi.ensures)) in
    let count = c.loop-inst.invariant.count in
    let many = c.loop-inst.invariant.many in
    record {
      count = omega (arith, count);
      many = omega (arith, many, first);
    }
