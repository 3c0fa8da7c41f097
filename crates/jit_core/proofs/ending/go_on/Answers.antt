use Rattle.std.proofs.Common.{refl}
use Rattle.jit_core.specs.declared.event.Event.TheVariants as event
use Rattle.jit_core.proofs.Finishing.{not_moved, still_most}
use Rattle.jit_core.proofs.ending.go_on.Goals as goal

pub returns-clause-makes : goal.returns-clause-makes
returns-clause-makes c = let s = c.step_hart-stepped.ensures in (record { event = event.Hart c.args.number; answer = c.step_hart-stepped.result }, refl, record { answer = s.answer; same = s.same; stands = s.stands })

pub returns-clause-most : goal.returns-clause-most
returns-clause-most c = let s = c.step_hart-stepped.ensures in still_most c.args.core.now c.step_hart-stepped.new.self c.args.number c.step_hart-stepped.result s.fewer s.answer

pub returns-clause-fewer : goal.returns-clause-fewer
returns-clause-fewer c = λ r m. c.step_hart-stepped.ensures.fewer (c.has_moved.ensures.now r m)

pub returns-clause-over : goal.returns-clause-over
returns-clause-over c = λ r.
    let o = c.has_moved.ensures.none r in
    let n = not_moved c.args.core.now c.step_hart-stepped.new.self c.args.number c.step_hart-stepped.result o.1 c.step_hart-stepped.ensures.answer in
    (o.0, n.0, n.1, n.2)
