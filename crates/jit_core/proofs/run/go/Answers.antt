use Rattle.std.proofs.Common.{◌++◌, ◌-◌, ◌+◌, List, map, sym, ap, subst, ◌∙◌}
use Rattle.ir_meaning.specs.Meaning.{meaning}
use Rattle.jit_core.specs.declared.event.Event.{Event}
use Rattle.jit_core.specs.First.{AreQuick}
use Rattle.jit_core.specs.Simulated.{event_of}
use Rattle.jit_core.proofs.Simulating.{makes_then, events_then, same_more}
use Rattle.jit_core.specs.Drawn.{drawn}
use Rattle.jit_core.proofs.Draws.{go_more}
use Rattle.jit_core.proofs.run.go.Goals as goal

pub step-requires-clause-versions : goal.step-requires-clause-versions
step-requires-clause-versions c = subst (λ a. AreQuick (meaning a.now) c.args.versions.now) (sym c.loop.invariant.same.0) c.requires.versions

pub loop-preserved : goal.loop-preserved
loop-preserved c =
    let vs = c.args.versions.now in
    let plan = c.args.plan in
    let at = c.loop in
    let inv = at.invariant in
    let e = c.in_ok-step.ensures in
    let old = c.args.core.now in
    let new = c.step.new.core in
    let told = inv.makes.0 in
    let m = e.makes in
    let y = c.next-draw.result in record {
      kept = e.kept;
      same = same_more old at.core new inv.same e.same;
      makes = (
        told ++ m.0,
        ap (λ (l : List Event). l ++ drawn vs plan.harts y (plan.steps - (at.counter + 1))) (events_then told m.0)
            ∙ go_more vs plan.harts at.draw y plan.steps at.counter (map event_of told) (map event_of m.0) (drawn vs plan.harts plan.draw plan.steps) c.next-draw.ensures c.loop-test.true inv.makes.1 m.1,
        makes_then old at.core new told m.0 inv.makes.2 m.2,
      );
    }
