use Rattle.std.proofs.Common.{length}
use Rattle.fast_isel.proofs.taken.+are_steps.Given as goal

abbrev pub decreases-are_steps : goal.decreases-are_steps
decreases-are_steps l = length l.indices.now
