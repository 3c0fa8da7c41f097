use Rattle.std.proofs.Common.{ℕ, ◌<◌}
use Rattle.std.specs.Prelude.{slice_index_or}
use Rattle.parallel_copies.specs.Moves.{IsReadBeside}
use Rattle.parallel_copies.proofs.moves.find_free.Given as goal

abbrev pub invariant-loop-i : goal.invariant-loop-i
invariant-loop-i l = (j : ℕ) → j < l.i → IsReadBeside l.copies j (slice_index_or l.copies j (0, 0)).0
