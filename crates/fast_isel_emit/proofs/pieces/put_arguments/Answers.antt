use Rattle.std.proofs.Common.{ap, ◌+◌, ◌∙◌, arith, get_or}
use Rattle.ir_core.specs.declared.types.Ty.TheVariants.{Void}
use Rattle.ir_core.specs.declared.code.Operand.TheVariants.{Value}
use Rattle.quick_code.specs.Operations.{value_code}
use Rattle.code_emit.specs.Written.{put_code}
use Rattle.fast_isel_emit.proofs.Put.{args_more, args_done}
use Rattle.fast_isel_emit.proofs.Left.{argument_first}
use Rattle.fast_isel_emit.proofs.pieces.put_arguments.Goals as goal

pub loop-argument-preserved : goal.loop-argument-preserved
loop-argument-preserved c =
    let i = c.loop-argument.argument-index in
    let arguments = c.args.arguments.now in
    let small = argument_first c.args.values arguments i (Void, Value 0) c.loop-argument-test.true c.loop-argument.invariant.small in
    record {
      place = omega arith;
      small = small.1;
      code = args_more c.args.globals.now c.loop-argument.asm c.put_value.new.asm _ arguments i c.loop-argument.place (Void, Value 0) c.loop-argument-test.true c.loop-argument.invariant.code
          (c.in_ok-put_value.ensures ∙ ap (λ r. put_code c.loop-argument.asm (value_code c.args.globals.now r (get_or arguments i (Void, Value 0)).1)) c.argument_register.ensures);
    }

pub returns : goal.returns
returns c = args_done c.args.globals.now c.loop-argument.asm _ c.args.arguments.now c.loop-argument.argument-index (10 + c.loop-argument.place) c.loop-argument-test.false c.loop-argument.invariant.code
