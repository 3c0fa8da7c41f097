use Rattle.std.proofs.Common.{◌≡◌, ◌≤◌, length, drop}
use Rattle.parallel_copies.specs.Edges.{copies_on}
use Rattle.parallel_copies.proofs.edges.edge_copies.Given as goal

abbrev pub invariant-loop-left : goal.invariant-loop-left
invariant-loop-left l =
    record {
      within : l.left ≤ length l.insts;
      are : l.copies.items ≡ copies_on l.from (drop l.left l.insts);
    }

abbrev pub decreases-loop-left : goal.decreases-loop-left
decreases-loop-left l = l.left
