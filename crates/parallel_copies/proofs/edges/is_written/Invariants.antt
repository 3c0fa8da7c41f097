use Rattle.std.proofs.Common.{◌≡◌, drop}
use Rattle.parallel_copies.specs.Edges.{is_written}
use Rattle.parallel_copies.proofs.edges.is_written.Given as goal

abbrev pub invariant-loop-copy : goal.invariant-loop-copy
invariant-loop-copy l = is_written l.register l.copies ≡ is_written l.register (drop l.copy-index l.copies)
