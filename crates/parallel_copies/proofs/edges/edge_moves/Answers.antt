use Rattle.std.proofs.Common.{◌≤◌, ◌*◌, length, arith, ◌∙◌}
use Rattle.parallel_copies.specs.Edges.{copies_on, heads}
use Rattle.parallel_copies.proofs.Heading.{on_head}
use Rattle.parallel_copies.proofs.edges.edge_moves.Goals as goal

pub sequence-requires-clause-spare : goal.sequence-requires-clause-spare
sequence-requires-clause-spare c = rw c.in_ok-copies.ensures.are (on_head c.args.from c.args.spare c.args.insts.now c.requires.spare).0

pub returns-clause-made : goal.returns-clause-made
returns-clause-made c = λ has before x differs. c.in_ok-moves.ensures.made before x differs ∙ c.in_ok-copies.ensures.made has before x

pub returns-clause-only : goal.returns-clause-only
returns-clause-only c = rw c.in_ok-copies.ensures.are at c.in_ok-moves.ensures.only

pub returns-clause-short : goal.returns-clause-short
returns-clause-short c =
    let few : length (copies_on c.args.from c.args.insts.now) ≤ heads c.args.insts.now = (on_head c.args.from c.args.spare c.args.insts.now c.requires.spare).1 in
    let short : length c.in_ok-moves.moves.items ≤ 2 * length (copies_on c.args.from c.args.insts.now) = rw c.in_ok-copies.ensures.are at c.in_ok-moves.ensures.short in
    omega (arith, few, short)
