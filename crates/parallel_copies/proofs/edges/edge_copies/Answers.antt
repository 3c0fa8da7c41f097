use Rattle.std.proofs.Common.{◌≡◌, arith}
use Rattle.parallel_copies.specs.Edges.{copies_on}
use Rattle.parallel_copies.proofs.Edging.{copies_leave, copies_distinct}
use Rattle.parallel_copies.proofs.edges.edge_copies.Goals as goal

pub returns-clause-distinct : goal.returns-clause-distinct
returns-clause-distinct c =
    let none : c.loop-left.left ≡ 0 = omega arith in
    let are : c.loop-left.copies.items ≡ copies_on c.args.from c.args.insts.now = rw none at c.loop-left.invariant.are in
    rw are (copies_distinct c.args.from c.args.insts.now)

pub returns-clause-made : goal.returns-clause-made
returns-clause-made c =
    let none : c.loop-left.left ≡ 0 = omega arith in
    let are : c.loop-left.copies.items ≡ copies_on c.args.from c.args.insts.now = rw none at c.loop-left.invariant.are in
    λ has before x. rw are (copies_leave c.args.from before x c.args.insts.now has)
