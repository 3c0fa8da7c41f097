use Rattle.std.proofs.Common.{◌≡◌, ◌++◌, drop, map}
use Rattle.ir_verify.proofs.shapes.case_numbers.Given as goal

abbrev pub invariant-loop-number : goal.invariant-loop-number
invariant-loop-number l = l.numbers.items ++ map (λ one. one.0) (drop l.number-index l.cases) ≡ map (λ one. one.0) l.cases
