use Rattle.std.proofs.Common.{◌≡◌, ◌%◌, ◌^◌, ◌+◌, sum_by, drop}
use Rattle.jit_text.specs.Counts.{value_of}
use Rattle.jit_text.proofs.counts.sum_of.Given as goal

-- what is summed and what is left come to the whole
abbrev pub invariant-loop-ended : goal.invariant-loop-ended
invariant-loop-ended l = (l.sum + sum_by value_of (drop l.ended-index l.list)) % (2 ^ 64) ≡ sum_by value_of l.fn.list % (2 ^ 64)
