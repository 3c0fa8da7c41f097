use Rattle.std.proofs.Common.{ℕ, ◌<◌, ◌≤◌, get_or}
use Rattle.regalloc.proofs.ends.least_from.Given as goal

abbrev pub invariant-loop-place : goal.invariant-loop-place
invariant-loop-place l = (j : ℕ) → l.start ≤ j → j < l.place → l.least ≤ get_or l.numbers j 0
