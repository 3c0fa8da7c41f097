use Rattle.std.proofs.Common.{◌≡◌, ℕ, ◌<◌}
use Rattle.std.specs.Prelude.{slice_index_or}
use Rattle.parallel_copies.proofs.moves.is_read_beside.Given as goal

abbrev pub invariant-loop-k : goal.invariant-loop-k
invariant-loop-k l = (j : ℕ) → j < l.k → (j ≡ l.place → ⊥) → (slice_index_or l.copies j (0, 0)).1 ≡ l.register → ⊥
