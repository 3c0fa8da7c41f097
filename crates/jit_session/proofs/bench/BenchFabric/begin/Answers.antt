use Rattle.jit_session.proofs.Seats.{idle_of, has_begun_of, begins}
use Rattle.jit_session.proofs.bench.BenchFabric.begin.Goals as goal

pub begin-requires : goal.begin-requires
begin-requires g c = record { idle = idle_of c.args.self.now.seat.seat.me.0.role c.requires }

pub returns-clause-begun : goal.returns-clause-begun
returns-clause-begun g c = has_begun_of c.begin.new.self.seat.me.0.role c.begin.ensures.begun

pub returns-clause-stands : goal.returns-clause-stands
returns-clause-stands g c = begins c.args.self.now.seat c.begin.new.self c.args.self.now.counts (idle_of c.args.self.now.seat.seat.me.0.role c.requires) c.begin.ensures.table c.begin.ensures.number c.begin.ensures.begun c.begin.ensures.pass.0 c.begin.ensures.pass.1
