use Rattle.std.proofs.Common.{◌+◌, ◌∷◌, [], length, length-append, ap, ◌∙◌}
use Rattle.ir_meaning.specs.Meaning.{meaning}
use Rattle.jit_core.proofs.Founding.{seats_more}
use Rattle.jit_core.proofs.first.new_seats.Goals as goal

pub loop-preserved : goal.loop-preserved
loop-preserved c =
    let inv = c.loop.invariant in
    let p = c.push_reserved.ensures in
    let old = c.loop.seats.items in
    let s = c.in_ok-new_seat.field-0 in record {
      count = ap length p.items ∙ length-append old (s ∷ []) ∙ ap (λ n. n + 1) inv.count;
      seats = seats_more (meaning c.args.all.now) c.args.harts c.args.calls old c.push_reserved.new.self.items s inv.seats c.in_ok-new_seat.ensures p.items;
      room = p.capacity ∙ inv.room;
    }
