use Rattle.std.proofs.Common.{[], ◌∷◌, Option, refl, sym, ap, subst, ◌∙◌}
use Rattle.jit_core.specs.declared.event.Event.{Event}
use Rattle.jit_core.specs.Drawn.{listed, IsDrawn}
use Rattle.jit_core.proofs.Draws.{can_be_given}
use Rattle.jit_core.proofs.run.step.Goals as goal

pub step-requires-clause-event : goal.step-requires-clause-event
step-requires-clause-event c =
    can_be_given c.args.core.now c.args.versions.now c.args.harts c.in-Some.event c.requires.versions c.requires.harts.1
    (subst (λ (o : Option Event). IsDrawn c.args.versions.now c.args.harts o) c.in-Some.is c.in_ok-event.ensures.drawn)

pub returns-in-Some-clause-makes : goal.returns-in-Some-clause-makes
returns-in-Some-clause-makes c =
    let s = c.step.ensures in (
      record { event = c.in-Some.event; answer = c.step.result } ∷ [],
      sym (ap listed c.in-Some.is) ∙ c.in_ok-event.ensures.event,
      (c.step.new.self, record { answer = s.answer; same = s.same; stands = s.stands }, refl),
    )
