use Rattle.std.proofs.Common.{arith}
use Rattle.fast_isel.proofs.Counts.{edges_left, edges_none}
use Rattle.fast_isel.proofs.starts.edges_in.Goals as goal

pub edges_of-count-requires : goal.edges_of-count-requires
edges_of-count-requires c =
    let left = edges_left c.args.insts.now c.loop-inst.inst-index c.inst-item.result c.loop-inst-test.true c.inst-item.is in
    let all = c.loop-inst.invariant in
    let few = c.requires in
    omega (arith, left, all, few)

pub overflow_add-count : goal.overflow_add-count
overflow_add-count c =
    let left = edges_left c.args.insts.now c.loop-inst.inst-index c.inst-item.result c.loop-inst-test.true c.inst-item.is in
    let all = c.loop-inst.invariant in
    let few = c.requires in
    let one = c.edges_of-count.ensures in
    omega (arith, left, all, few, one)

pub loop-inst-preserved : goal.loop-inst-preserved
loop-inst-preserved c =
    let left = edges_left c.args.insts.now c.loop-inst.inst-index c.inst-item.result c.loop-inst-test.true c.inst-item.is in
    let all = c.loop-inst.invariant in
    let one = c.edges_of-count.ensures in
    omega (arith, left, all, one)

pub returns : goal.returns
returns c =
    let none = edges_none c.args.insts.now c.loop-inst.inst-index c.loop-inst-test.false in
    let all = c.loop-inst.invariant in
    omega (arith, none, all)
