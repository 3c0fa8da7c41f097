use Rattle.std.proofs.Common.{◌<◌, ◌≤◌, length, arith}
use Rattle.ir_translator.specs.Groups.{picked}
use Rattle.ir_translator.proofs.Assembling.{phis-next, phis-end}
use Rattle.ir_translator.proofs.assembled.put_phis.Goals as goal

pub loop-place-preserved : goal.loop-place-preserved
loop-place-preserved c = λ globals function.
    phis-next globals function c.loop-place.insts c.push.new.items _ c.args.value c.args.phis.now (picked c.args.edges.now c.args.places.now) c.loop-place.place c.in_ok-phi.phi
    (let t = c.loop-place-test.true in let lt : c.loop-place.place < length c.args.phis.now = omega arith in lt) (c.loop-place.invariant globals function) c.in_ok-push.ensures c.in_ok-phi.ensures

pub returns : goal.returns
returns c = λ globals function.
    phis-end globals function c.loop-place.insts _ c.args.value c.args.phis.now (picked c.args.edges.now c.args.places.now) c.loop-place.place
    (let t = c.loop-place-test.false in let le : length c.args.phis.now ≤ c.loop-place.place = omega arith in le) (c.loop-place.invariant globals function)
