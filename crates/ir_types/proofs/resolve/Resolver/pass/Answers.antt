use Rattle.std.proofs.Common.{◌≡◌, ◌+◌, rules}
use Rattle.ir_types.proofs.Resolving.{passed}
use Rattle.ir_types.proofs.resolve.Resolver.pass.Goals as goal

pub returns : goal.returns
returns c =
    let further : c.in-Some.position ≡ c.args.frame.position + 1 = search rules in
    (rw c.in_ok-push.ensures.ok (passed c.args.bodies.now c.args.self.now.entries c.args.self.now.frames c.args.frame c.requires.sound c.args.part c.args.summary c.in-Some.position c.requires.here c.requires.step further), λ n e. e)
