use Rattle.std.proofs.Common.{◌≡◌, drop}
use Rattle.ir_flow.specs.First.{first_in}
use Rattle.ir_verify.specs.Types.{mistyped}
use Rattle.ir_verify.specs.Verdict.{of_number}
use Rattle.ir_verify.specs.declared.refusal.VerifyRefusal.TheVariants.{BadType}
use Rattle.ir_verify.proofs.verdict.type_row.Given as goal

abbrev pub invariant-loop-i : goal.invariant-loop-i
invariant-loop-i l =
    first_in (λ f function. of_number BadType f (mistyped function)) l.i (drop l.i l.functions) ≡ first_in (λ f function. of_number BadType f (mistyped function)) 0 l.functions
