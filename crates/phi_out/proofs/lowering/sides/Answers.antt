use Rattle.std.proofs.Common.{◌≡◌, ◌==◌, false, arith}
use Rattle.phi_out.proofs.Making.{both_sides}
use Rattle.phi_out.proofs.lowering.sides.Goals as goal

pub returns : goal.returns
returns c =
    let apart : (c.args.then == c.args.other) ≡ false = grind (arith, c.if-then-other.false) in
    both_sides c.args.function.now c.args.from c.args.then c.args.other c.args.edges.now.items c.side.new.edges.items c.side-2.new.edges.items c.in_ok-first.first c.in_ok-second.second apart
    c.in_ok-first.ensures.side c.in_ok-first.ensures.grows c.in_ok-second.ensures.side c.in_ok-second.ensures.grows
