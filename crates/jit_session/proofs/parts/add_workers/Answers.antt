use Rattle.std.proofs.Common.{◌≡◌, ◌∷◌, length, length-append, [], ap, ◌∙◌, arith}
use Rattle.std.specs.Vec.Iter.{into_iter_items}
use Rattle.jit_session.proofs.Lists.{worker_added, worker_kept}
use Rattle.jit_session.proofs.parts.add_workers.Goals as goal

pub push_reserved-requires : goal.push_reserved-requires
push_reserved-requires g c =
    let at = c.loop-maker in
    let inv = at.invariant in
    let steps : into_iter_items at.maker-iterator ≡ c.in-Some.maker ∷ into_iter_items c.next.new.self = c.in-Some.ensures.steps.0 in
    let long = ap length steps in
    let left = inv.left in
    let room = inv.room in
    let len = at.parts.ok.0 in
    omega (arith, long, left, room, len)

pub loop-maker-preserved : goal.loop-maker-preserved
loop-maker-preserved g c =
    let at = c.loop-maker in
    let inv = at.invariant in
    let steps : into_iter_items at.maker-iterator ≡ c.in-Some.maker ∷ into_iter_items c.next.new.self = c.in-Some.ensures.steps.0 in
    let items = c.push_reserved.ensures.items in
    let longer = ap length items ∙ length-append at.parts.items _ in
    let capacity = c.push_reserved.ensures.capacity in
    let gone = c.in-Some.ensures.steps.1 in
    let short = ap length steps in
    let left = inv.left in
    let room = inv.room in
    let enough = inv.seats in
    let popped = ap length c.in-Some-pop.ensures.items ∙ length-append c.pop.new.self.items (c.in-Some-pop.jobs ∷ []) in record {
      seats = omega (arith, gone, enough, popped);
      left = omega (arith, left, gone, short);
      harts = worker_kept at.parts.items _ _ _ items inv.harts;
      asking = worker_added at.parts.items _ _ _ items inv.asking;
      room = omega (arith, longer, capacity, left, gone, short, room);
    }
