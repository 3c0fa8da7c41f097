use Rattle.std.proofs.Common.{◌≡◌, ◌+◌, ◌++◌, length, drop, map, replicate}
use Rattle.ir_verify.specs.Ranges.{all_cases_fit}
use Rattle.ir_verify.proofs.ranges.cases_fit.Given as goal

abbrev pub invariant-loop-number : goal.invariant-loop-number
invariant-loop-number l = all_cases_fit l.ty (drop l.number-index l.cases) ≡ all_cases_fit l.ty l.cases
