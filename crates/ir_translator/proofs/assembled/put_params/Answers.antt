use Rattle.std.proofs.Common.{◌<◌, length, arith}
use Rattle.ir_translator.proofs.Assembling.{params-next}
use Rattle.ir_translator.proofs.assembled.put_params.Goals as goal

pub loop-place-preserved : goal.loop-place-preserved
loop-place-preserved c =
    params-next c.loop-place.insts c.push.new.items _ c.args.params.now c.loop-place.place c.in_ok-param.param
    (let t = c.loop-place-test.true in let lt : c.loop-place.place < length c.args.params.now = omega arith in lt) c.loop-place.invariant c.in_ok-push.ensures c.in_ok-param.ensures
