use Rattle.std.proofs.Common.{◌≡◌, drop}
use Rattle.ir_flow.specs.First.{first_in}
use Rattle.ir_verify.specs.Calls.{wrong_call}
use Rattle.ir_verify.specs.Verdict.{of_call}
use Rattle.ir_verify.proofs.verdict.call_row.Given as goal

abbrev pub invariant-loop-i : goal.invariant-loop-i
invariant-loop-i l =
    first_in (λ f function. of_call f (wrong_call l.all function)) l.i (drop l.i l.functions) ≡ first_in (λ f function. of_call f (wrong_call l.all function)) 0 l.functions
