use Rattle.code_epochs.specs.declared.parts.Item.TheVariants.{Held}
use Rattle.jit_session.proofs.Seats.{begun_of, has_begun_of, goes_on}
use Rattle.jit_session.proofs.bench.BenchFabric.cell.Goals as goal

pub cell-self-requires-clause-begun : goal.cell-self-requires-clause-begun
cell-self-requires-clause-begun g c = begun_of c.args.self.now.seat.seat.me.0.role c.requires.begun

pub returns-clause-begun : goal.returns-clause-begun
returns-clause-begun g c = has_begun_of c.cell-self.new.self.seat.me.0.role c.cell-self.ensures.same.1

pub returns-clause-stands : goal.returns-clause-stands
returns-clause-stands g c = λ since pass counted f. goes_on since.seat c.args.self.now.seat c.cell-self.new.self since.counts c.args.self.now.counts pass counted (Held c.args.symbol c.cell-self.result) f
    (begun_of c.args.self.now.seat.seat.me.0.role c.requires.begun) c.cell-self.ensures.same.0 c.cell-self.ensures.number c.cell-self.ensures.same.1 c.cell-self.ensures.held
