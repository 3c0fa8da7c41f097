use Rattle.std.proofs.Common.{length}
use Rattle.parallel_copies.proofs.Picking.{Kept}
use Rattle.parallel_copies.proofs.moves.moves_in_order.Given as goal

abbrev pub invariant-loop-pending : goal.invariant-loop-pending
invariant-loop-pending l = Kept l.fn.spare l.fn.copies.items l.pending.items l.moves.items

abbrev pub decreases-loop-pending : goal.decreases-loop-pending
decreases-loop-pending l = length l.pending.items
