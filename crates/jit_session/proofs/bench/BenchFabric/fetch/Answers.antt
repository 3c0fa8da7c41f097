use Rattle.code_epochs.specs.declared.parts.Item.TheVariants.{Saw}
use Rattle.jit_session.proofs.Seats.{begun_of, has_begun_of, goes_on}
use Rattle.jit_session.proofs.bench.BenchFabric.fetch.Goals as goal

pub fetch-requires-clause-exists : goal.fetch-requires-clause-exists
fetch-requires-clause-exists g c = (c.requires.inside.0, c.requires.inside.2, c.requires.inside.1)

pub fetch-requires-clause-begun : goal.fetch-requires-clause-begun
fetch-requires-clause-begun g c = begun_of c.args.self.now.seat.seat.me.0.role c.requires.begun

pub returns-clause-begun : goal.returns-clause-begun
returns-clause-begun g c = has_begun_of c.fetch.new.self.seat.me.0.role c.fetch.ensures.same.1

pub returns-clause-stands : goal.returns-clause-stands
returns-clause-stands g c = λ since pass counted f. goes_on since.seat c.args.self.now.seat c.fetch.new.self since.counts c.args.self.now.counts pass counted (Saw c.args.address c.fetch.result) f
    (begun_of c.args.self.now.seat.seat.me.0.role c.requires.begun) c.fetch.ensures.same.0 c.fetch.ensures.number c.fetch.ensures.same.1 c.fetch.ensures.seen
