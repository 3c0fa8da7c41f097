use Rattle.std.proofs.Common.{◌≡◌, drop}
use Rattle.fast_isel.specs.Taken.{are_cases}
use Rattle.fast_isel.proofs.taken.are_cases.Given as goal

abbrev pub invariant-loop-number : goal.invariant-loop-number
invariant-loop-number l = are_cases l.blocks (drop l.number-index l.cases) ≡ are_cases l.blocks l.cases
