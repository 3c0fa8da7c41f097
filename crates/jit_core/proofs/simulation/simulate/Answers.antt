use Rattle.std.proofs.Common.{◌≡◌, ◌∷◌, [], ◌++◌, List, length, refl, sym, ap, ◌∙◌, append_assoc, append-nil, arith}
use Rattle.std.specs.Vec.Iter.{into_iter_items}
use Rattle.jit_core.specs.declared.event.Event.{Event}
use Rattle.jit_core.proofs.Opening.{at_front, nothing_left}
use Rattle.jit_core.proofs.Simulating.{makes_more, events_then, same_core, same_more, event_later, all_stand_for}
use Rattle.jit_core.proofs.simulation.simulate.Goals as goal

pub loop-event-init : goal.loop-event-init
loop-event-init c = record {
  order = c.into_iter-event-iterator.ensures.into_iter_gives.0;
  left = c.into_iter-event-iterator.ensures.into_iter_gives.1 ∙ c.args.events.ok.0 ∙ sym (ap length c.into_iter-event-iterator.ensures.into_iter_gives.0);
  kept = c.requires.kept;
  same = same_core c.args.core.now;
  makes = ([], refl, refl);
}

pub happen-requires-clause-event : goal.happen-requires-clause-event
happen-requires-clause-event c =
    let at = c.loop-event in
    let inv = at.invariant in
    let e = c.in-Some.event in
    let rest = into_iter_items c.next.new.self in
    let steps : into_iter_items at.event-iterator ≡ e ∷ rest = c.in-Some.ensures.steps.0 in
    let order : at.yielded ++ e ∷ rest ≡ c.args.events.items = rw steps at inv.order in
    event_later c.args.core.now at.core e inv.same (c.requires.events (length at.yielded) e (at_front at.yielded e rest c.args.events.items order))

pub loop-event-preserved : goal.loop-event-preserved
loop-event-preserved c =
    let at = c.loop-event in
    let inv = at.invariant in
    let e = c.in-Some.event in
    let rest = into_iter_items c.next.new.self in
    let steps : into_iter_items at.event-iterator ≡ e ∷ rest = c.in-Some.ensures.steps.0 in
    let order : at.yielded ++ e ∷ rest ≡ c.args.events.items = rw steps at inv.order in
    let s = c.happen.ensures in
    let old = c.args.core.now in
    let new = c.happen.new.core in
    let told = inv.makes.0 in
    let t = s.makes.0 in record {
      order = append_assoc at.yielded (e ∷ []) rest ∙ order;
      left = (let was = inv.left in
          let gone = c.in-Some.ensures.steps.1 in
          let short = ap length steps in
          omega arith);
      kept = s.kept;
      same = same_more old at.core new inv.same s.same;
      makes = (told ++ t ∷ [], events_then told (t ∷ []) ∙ ap (λ (l : List Event). l ++ t.event ∷ []) inv.makes.1 ∙ ap (λ (k : Event). at.yielded ++ k ∷ []) s.makes.1, makes_more old at.core new told t inv.makes.2 s.makes.2);
    }

pub returns-clause-makes : goal.returns-clause-makes
returns-clause-makes c =
    let at = c.loop-event in
    let inv = at.invariant in
    let none = c.in-None.ensures.steps in
    let empty : into_iter_items at.event-iterator ≡ [] = nothing_left _ (sym inv.left ∙ none.0) in
    let all : at.yielded ≡ c.args.events.items = sym (append-nil at.yielded) ∙ rw empty at inv.order in
    (inv.makes.0, inv.makes.1 ∙ all, inv.makes.2, all_stand_for c.args.core.now at.core inv.makes.0 inv.makes.2)
