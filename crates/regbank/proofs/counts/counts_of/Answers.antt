use Rattle.std.proofs.Common.{◌≡◌, ◌+◌, subst, ap, ◌∙◌, sym, arith}
use Rattle.regbank.specs.Counts.{uses_in_blocks, uses_of, AreCounts}
use Rattle.regbank.proofs.Counting.{from_zeros, counts_same}
use Rattle.regbank.proofs.counts.counts_of.Goals as goal

pub returns-clause-counts : goal.returns-clause-counts
returns-clause-counts c =
    let zeros : AreCounts (λ r. 0) c.in_ok-counts.counts.items = subst (AreCounts (λ r. 0)) (sym c.in_ok-counts.ensures) (from_zeros c.len.result) in
    counts_same (λ r. 0 + uses_in_blocks r c.as_slice.result.now) (uses_of c.args.function.now) c.count_blocks.new.counts.items
    (λ r. (let z : 0 + uses_in_blocks r c.as_slice.result.now ≡ uses_in_blocks r c.as_slice.result.now = omega arith in z) ∙ ap (uses_in_blocks r) c.as_slice.ensures)
    (c.count_blocks.ensures.counts (λ r. 0) zeros)
