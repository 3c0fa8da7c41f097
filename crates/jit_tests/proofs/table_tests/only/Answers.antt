use Rattle.jit_tests.proofs.TableQuick.{only_seat}
use Rattle.jit_tests.proofs.table_tests.only.Goals as goal

pub invariant_of-result-clause-idle : goal.invariant_of-result-clause-idle
invariant_of-result-clause-idle c = (only_seat c.args.table.now c.args.seats.items c.pop.new.self.items c.in-Some.seat c.requires.seats c.in-Some.ensures.items).0

pub returns-then-symbols-gt0 : goal.returns-then-symbols-gt0
returns-then-symbols-gt0 c =
    let seat = only_seat c.args.table.now c.args.seats.items c.pop.new.self.items c.in-Some.seat c.requires.seats c.in-Some.ensures.items in
    (seat.1, seat.2)
