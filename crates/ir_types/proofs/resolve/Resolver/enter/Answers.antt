use Rattle.ir_types.specs.Replaced.{definition}
use Rattle.ir_types.proofs.Resolving.{entered, touches, some_of}
use Rattle.ir_types.proofs.resolve.Resolver.enter.Goals as goal

pub returns : goal.returns
returns c =
    let body = some_of (definition c.args.bodies.now c.args.number) c.requires.whole in (
      rw (c.set.ensures, c.in_ok-push-2.ensures.ok, c.in_ok-push.ensures.ok) (entered c.args.bodies.now c.args.self.now.entries c.args.self.now.frames c.args.frame c.requires.sound c.args.number c.args.left c.requires.here c.requires.fresh body.0 body.1),
      rw c.set.ensures (touches c.args.bodies.now c.args.self.now.entries c.args.self.now.frames c.args.frame c.requires.sound c.args.number c.args.left c.requires.here c.requires.fresh body.0 body.1),
    )
