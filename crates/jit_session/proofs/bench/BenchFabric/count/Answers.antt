use Rattle.jit_session.proofs.Seats.{counts_on, stands_counted}
use Rattle.jit_session.proofs.bench.BenchFabric.count.Goals as goal

pub returns-clause-stands : goal.returns-clause-stands
returns-clause-stands g c = λ since pass counted f. stands_counted since.seat c.args.self.now.seat since.counts c.args.self.now.counts c.count.new.self pass counted _ f
    (counts_on since.counts c.args.self.now.counts c.count.new.self counted c.args.symbol f.count c.count.ensures.counts c.count.ensures.counted c.count.ensures.full)
