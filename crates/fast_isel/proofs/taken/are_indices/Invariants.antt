use Rattle.std.proofs.Common.{◌≡◌, drop}
use Rattle.fast_isel_emit.specs.Operands.{are_indices}
use Rattle.fast_isel.proofs.taken.are_indices.Given as goal

abbrev pub invariant-loop-index : goal.invariant-loop-index
invariant-loop-index l = are_indices l.values (drop l.index-index l.indices) ≡ are_indices l.values l.indices
