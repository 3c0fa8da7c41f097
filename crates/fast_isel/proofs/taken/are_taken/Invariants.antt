use Rattle.std.proofs.Common.{◌≡◌, drop}
use Rattle.fast_isel.specs.Taken.{are_taken}
use Rattle.fast_isel.proofs.taken.are_taken.Given as goal

abbrev pub invariant-loop-function : goal.invariant-loop-function
invariant-loop-function l = are_taken (drop l.function-index l.functions) ≡ are_taken l.functions
