use Rattle.std.proofs.Common.{◌≡◌, [], replicate}
use Rattle.ir_translator.proofs.edges.none.Given as goal

abbrev pub invariant-loop : goal.invariant-loop
invariant-loop l = l.groups.items ≡ replicate l.counter []
