use Rattle.std.proofs.Common.{ℕ, ◌+◌, ◌<◌, ◌≡◌, ◌⊎◌, inl, inr, arith}
use Rattle.std.specs.Prelude.{slice_index_or}
use Rattle.parallel_copies.specs.Moves.{Copies, IsReadBeside}
use Rattle.parallel_copies.proofs.moves.find_free.Goals as goal

earlier_or_here : (j i : ℕ) → j < i + 1 → (j < i) ⊎ (j ≡ i)
earlier_or_here j i h = grind arith

one_more : (copies : Copies) (i : ℕ) → ((j : ℕ) → j < i → IsReadBeside copies j (slice_index_or copies j (0, 0)).0)
    → IsReadBeside copies i (slice_index_or copies i (0, 0)).0 → (j : ℕ) → j < i + 1 → IsReadBeside copies j (slice_index_or copies j (0, 0)).0
one_more copies i before own j below = elim (earlier_or_here j i below) [ inl less ↦ before j less | inr here ↦ rw here own ]

pub loop-i-preserved : goal.loop-i-preserved
loop-i-preserved c = one_more c.args.copies.now c.loop-i.i c.loop-i.invariant c.if-not-is_read_beside.ensures
