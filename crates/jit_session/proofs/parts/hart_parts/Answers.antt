use Rattle.std.proofs.Common.{◌≡◌, ◌+◌, ◌≤◌, [], ◌∷◌, length, length-append, refl, rules, ap, ◌∙◌, append_assoc, arith}
use Rattle.std.specs.Prelude.{vec_capacity}
use Rattle.std.specs.Vec.Iter.{into_iter_items, into_iter_len}
use Rattle.jit_session.proofs.Lists.{none_yet, hart_added, hart_asks_none}
use Rattle.jit_session.proofs.parts.hart_parts.Goals as goal

pub loop-runner-init : goal.loop-runner-init
loop-runner-init g c =
    let it = c.into_iter-runner-iterator in
    let items : c.in_ok-parts.parts.items ≡ [] = c.in_ok-parts.ensures.0 in
    let capacity : c.len.result + c.args.workers ≤ vec_capacity c.in_ok-parts.parts = c.in_ok-parts.ensures.1 in
    let left : into_iter_len it.result ≡ length (into_iter_items it.result) = search rules in
    let len = c.len.ensures in
    let taken = ap length it.ensures.into_iter_gives.0 in
    let whole = c.args.runners.ok.0 in
    let none = ap length items in
    let yet = none_yet c.in_ok-parts.parts.items items in record {
      order = refl;
      left = left;
      harts = yet.0;
      none = yet.1;
      room = omega (arith, capacity, left, len, taken, whole, none);
    }

pub push_reserved-requires : goal.push_reserved-requires
push_reserved-requires g c =
    let at = c.loop-runner in
    let inv = at.invariant in
    let steps : into_iter_items at.runner-iterator ≡ c.in-Some.runner ∷ into_iter_items c.next.new.self = c.in-Some.ensures.steps.0 in
    let long = ap length steps in
    let left = inv.left in
    let room = inv.room in
    let len = at.parts.ok.0 in
    omega (arith, long, left, room, len)

pub loop-runner-preserved : goal.loop-runner-preserved
loop-runner-preserved g c =
    let at = c.loop-runner in
    let inv = at.invariant in
    let x = c.in-Some.runner in
    let steps : into_iter_items at.runner-iterator ≡ x ∷ into_iter_items c.next.new.self = c.in-Some.ensures.steps.0 in
    let items = c.push_reserved.ensures.items in
    let longer = ap length items ∙ length-append at.parts.items _ in
    let capacity = c.push_reserved.ensures.capacity in
    let gone = c.in-Some.ensures.steps.1 in
    let short = ap length steps in
    let left = inv.left in
    let room = inv.room in record {
      order = append_assoc at.yielded (x ∷ []) _ ∙ rw steps at inv.order;
      left = omega (arith, left, gone, short);
      harts = hart_added at.parts.items _ x at.yielded items inv.harts;
      none = hart_asks_none at.parts.items _ x _ items inv.none;
      room = omega (arith, longer, capacity, left, gone, short, room);
    }
