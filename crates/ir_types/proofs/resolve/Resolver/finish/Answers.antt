use Rattle.std.proofs.Common.{◌≡◌, ◌+◌, ◌∙◌, ap, rules}
use Rattle.ir_types.specs.Summaries.{root_of}
use Rattle.ir_types.proofs.Resolving.{finished, finish_touches}
use Rattle.ir_types.proofs.resolve.Resolver.finish.Goals as goal

pub returns : goal.returns
returns c =
    let above : c.in-Some.rank ≡ c.args.frame.summary.rank + 1 = search rules in
    let root = c.root_of-root.ensures ∙ ap (λ k. root_of k c.args.frame.ty c.args.frame.summary.rank c.args.body.now) c.as_slice.ensures in (
      rw c.set.ensures (finished c.args.bodies.now c.args.self.now.entries c.args.self.now.frames c.args.frame c.requires.sound c.args.body.now c.requires.whole c.requires.end c.in-Some.rank c.root_of-root.result above root),
      rw c.set.ensures (finish_touches c.args.bodies.now c.args.self.now.entries c.args.self.now.frames c.args.frame c.requires.sound c.args.body.now c.requires.whole c.requires.end c.in-Some.rank c.root_of-root.result above root),
    )
