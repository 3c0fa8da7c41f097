use Rattle.std.proofs.Common.{◌≡◌, replicate, None}
use Rattle.liveness.proofs.search.no_spans.Given as goal

abbrev pub invariant-loop : goal.invariant-loop
invariant-loop l = l.spans.items ≡ replicate l.counter None
