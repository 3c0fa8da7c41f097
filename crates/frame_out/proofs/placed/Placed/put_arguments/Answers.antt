use Rattle.std.proofs.Common.{ap₂, ◌∙◌, arith}
use Rattle.code_emit.specs.Written.{put_code}
use Rattle.frame_code.specs.Code.{load_place}
use Rattle.frame_out.proofs.Joining.{args_more, args_done}
use Rattle.frame_out.proofs.Readiness.{near_first}
use Rattle.frame_out.proofs.placed.Placed.put_arguments.Goals as goal

pub loop-argument-preserved : goal.loop-argument-preserved
loop-argument-preserved c =
    let i = c.loop-argument.argument-index in
    let near = near_first c.args.self.now.places.now c.args.arguments.now i 0 c.loop-argument-test.true c.loop-argument.invariant.near in
    let number = c.loop-argument.invariant.number in
    record {
      number = omega (arith, number);
      near = near.1;
      code = args_more c.args.self.now.function.now c.args.self.now.places.now c.loop-argument.asm c.put_load_place.new.asm _ c.args.arguments.now i c.loop-argument.number 0 c.loop-argument-test.true c.loop-argument.invariant.code
          (c.in_ok-put_load_place.ensures ∙ ap₂ (λ r place. put_code c.loop-argument.asm (load_place r place)) c.argument_register-register.ensures c.at.ensures);
    }

pub returns : goal.returns
returns c = args_done c.args.self.now.function.now c.args.self.now.places.now c.loop-argument.asm _ c.args.arguments.now c.loop-argument.argument-index c.loop-argument.number c.loop-argument-test.false c.loop-argument.invariant.code
