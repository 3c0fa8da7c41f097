use Rattle.std.proofs.Common.{arith}
use Rattle.ir_core.specs.declared.types.Ty.TheVariants.{Void}
use Rattle.fast_isel_emit.proofs.Put.{params_more, params_done}
use Rattle.fast_isel_emit.proofs.Left.{width_first}
use Rattle.fast_isel_emit.proofs.pieces.put_parameters.Goals as goal

pub loop-ty-preserved : goal.loop-ty-preserved
loop-ty-preserved c =
    let i = c.loop-ty.ty-index in
    let tys = c.args.tys.now in
    let widths = width_first tys i Void c.loop-ty-test.true c.loop-ty.invariant.widths in
    record {
      place = omega arith;
      widths = widths.1;
      code = params_more c.loop-ty.asm c.put_parameter.new.asm _ tys i c.loop-ty.place Void c.loop-ty-test.true c.loop-ty.invariant.code c.in_ok-put_parameter.ensures;
    }

pub returns : goal.returns
returns c = params_done c.loop-ty.asm _ c.args.tys.now c.loop-ty.ty-index c.loop-ty.place c.loop-ty-test.false c.loop-ty.invariant.code
