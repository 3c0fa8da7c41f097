use Rattle.std.proofs.Common.{refl}
use Rattle.jit_core.proofs.simulation.happen.Goals as goal

pub returns-clause-makes : goal.returns-clause-makes
returns-clause-makes c = let s = c.step-stepped.ensures in (record { event = c.args.event; answer = c.step-stepped.result }, refl, record { answer = s.answer; same = s.same; stands = s.stands })
