use Rattle.std.proofs.Common.{refl}
use Rattle.redirect_cells.specs.Kept.{number_in, word_in, part_of}
use Rattle.jit_session.proofs.Seats.{begun_of, has_not_begun, ends}
use Rattle.jit_session.proofs.bench.BenchFabric.end.Goals as goal

pub end-requires : goal.end-requires
end-requires g c = record { begun = begun_of c.args.self.now.seat.seat.me.0.role c.requires }

pub returns-clause-begun : goal.returns-clause-begun
returns-clause-begun g c = has_not_begun c.end.new.self.seat.me.0.role c.end.ensures.idle

pub returns-clause-stands : goal.returns-clause-stands
returns-clause-stands g c = λ since pass counted f. ends since.seat c.args.self.now.seat c.end.new.self since.counts c.args.self.now.counts pass counted f
    (begun_of c.args.self.now.seat.seat.me.0.role c.requires) c.end.ensures.table c.end.ensures.number c.end.ensures.idle c.end.ensures.ended
    (number_in c.args.self.now.seat.seat.me.0.role, word_in c.args.self.now.seat.seat.me.0.role, part_of c.args.self.now.seat.seat.me.0, refl, c.end.ensures.served)
