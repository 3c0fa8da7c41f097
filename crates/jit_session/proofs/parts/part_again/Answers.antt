use Rattle.std.proofs.Common.{◌≡◌, [], ◌∷◌, ◌++◌, length, sym, ap, ◌∙◌, append_assoc, arith}
use Rattle.std.specs.Vec.Iter.{into_iter_items}
use Rattle.jit_session.specs.Parts.{harts_of, asking_in, or_else}
use Rattle.jit_session.proofs.Lists.{harts_before, harts_push, harts_worker, asking_hart, asking_worker}
use Rattle.jit_session.proofs.parts.part_again.Goals as goal

pub push_reserved-requires : goal.push_reserved-requires
push_reserved-requires g c =
    let at = c.loop-part in
    let inv = at.invariant in
    let rest = into_iter_items c.next.new.self in
    let r = c.in-Runs.runner in
    let steps : into_iter_items at.part-iterator ≡ c.in-Some.part ∷ rest = c.in-Some.ensures.steps.0 in
    let all : at.yielded ++ c.in-Some.part ∷ rest ≡ c.args.parts.items = rw steps at inv.order ∙ c.into_iter-part-iterator.ensures.into_iter_gives.0 in
    let same = ap (λ l. length (harts_of l)) (ap (λ p. at.yielded ++ p ∷ rest) (sym c.in-Runs.is) ∙ all) in
    let before = harts_before at.yielded rest r in
    let room = c.requires.room in
    let capacity = inv.room in
    let long = ap length inv.harts in
    let len = at.runners.ok.0 in
    omega (arith, same, before, room, capacity, long, len)

pub loop-part-preserved-in-Runs : goal.loop-part-preserved-in-Runs
loop-part-preserved-in-Runs g c =
    let at = c.loop-part in
    let inv = at.invariant in
    let r = c.in-Runs.runner in
    let x = c.in-Some.part in
    let steps : into_iter_items at.part-iterator ≡ x ∷ into_iter_items c.next.new.self = c.in-Some.ensures.steps.0 in record {
      order = append_assoc at.yielded (x ∷ []) _ ∙ rw steps at inv.order;
      left = (let was = inv.left in let gone = c.in-Some.ensures.steps.1 in let short = ap length steps in omega arith);
      harts = c.push_reserved.ensures.items ∙ ap (λ l. l ++ r ∷ []) inv.harts ∙ sym (harts_push at.yielded r) ∙ ap (λ p. harts_of (at.yielded ++ p ∷ [])) (sym c.in-Runs.is);
      found = inv.found ∙ sym (asking_hart at.yielded r) ∙ ap (λ p. asking_in (at.yielded ++ p ∷ [])) (sym c.in-Runs.is);
      room = c.push_reserved.ensures.capacity ∙ inv.room;
    }

pub loop-part-preserved : goal.loop-part-preserved
loop-part-preserved g c =
    let at = c.loop-part in
    let inv = at.invariant in
    let w = c.in-Works.worker in
    let x = c.in-Some.part in
    let steps : into_iter_items at.part-iterator ≡ x ∷ into_iter_items c.next.new.self = c.in-Some.ensures.steps.0 in record {
      order = append_assoc at.yielded (x ∷ []) _ ∙ rw steps at inv.order;
      left = (let was = inv.left in let gone = c.in-Some.ensures.steps.1 in let short = ap length steps in omega arith);
      harts = inv.harts ∙ sym (harts_worker at.yielded w) ∙ ap (λ p. harts_of (at.yielded ++ p ∷ [])) (sym c.in-Works.is);
      found = c.either-found.ensures ∙ ap (λ o. or_else o w.asking) inv.found ∙ sym (asking_worker at.yielded w) ∙ ap (λ p. asking_in (at.yielded ++ p ∷ [])) (sym c.in-Works.is);
      room = inv.room;
    }
