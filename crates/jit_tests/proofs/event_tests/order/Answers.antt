use Rattle.jit_core.specs.Cores.{meaning_of}
use Rattle.jit_tests.proofs.EventQuick.{symbol_low, good_here}
use Rattle.jit_tests.proofs.event_tests.order.Goals as goal

pub order-stepped-requires-clause-symbol : goal.order-stepped-requires-clause-symbol
order-stepped-requires-clause-symbol c = symbol_low (meaning_of c.args.core.now) c.args.all.now c.in-Ok.version c.requires.module c.requires.one c.in-Ok.ensures.version

pub order-stepped-requires-clause-good : goal.order-stepped-requires-clause-good
order-stepped-requires-clause-good c = good_here (meaning_of c.args.core.now) c.args.all.now c.in-Ok.version c.requires.module c.in-Ok.ensures.version
