use Rattle.std.proofs.Common.{[], subst}
use Rattle.ir_types.specs.Replaced.{definition}
use Rattle.ir_types.specs.Resolving.{Sound, Settled}
use Rattle.ir_types.proofs.Resolving.{begun, started_then, some_of}
use Rattle.ir_types.proofs.resolve.Resolver.begin.Goals as goal

pub run-requires : goal.run-requires
run-requires c =
    let body = some_of (definition c.args.bodies.now c.args.number) c.requires.whole in
    let alone : Sound c.args.bodies.now c.args.self.now.entries [] = subst (λ frames. Sound c.args.bodies.now c.args.self.now.entries frames) c.requires.settled c.requires.sound in
    record { sound = rw (c.set.ensures, c.in_ok-push.ensures.ok, c.requires.settled) (begun c.args.bodies.now c.args.self.now.entries alone c.args.number body.0 body.1 c.requires.fresh) }

pub returns : goal.returns
returns c =
    let body = some_of (definition c.args.bodies.now c.args.number) c.requires.whole in
    let alone : Sound c.args.bodies.now c.args.self.now.entries [] = subst (λ frames. Sound c.args.bodies.now c.args.self.now.entries frames) c.requires.settled c.requires.sound in
    let settled = subst (λ known. Settled c.args.bodies.now known c.run.new.self c.run.result) c.set.ensures c.run.ensures in
    started_then c.args.bodies.now c.args.self.now.entries alone c.args.number body.0 body.1 c.requires.fresh c.run.new.self c.run.result settled
