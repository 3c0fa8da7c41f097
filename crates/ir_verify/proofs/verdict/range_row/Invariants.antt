use Rattle.std.proofs.Common.{◌≡◌, drop}
use Rattle.ir_flow.specs.First.{first_in}
use Rattle.ir_verify.specs.Ranges.{out_of_range}
use Rattle.ir_verify.specs.Verdict.{of_number}
use Rattle.ir_verify.specs.declared.refusal.VerifyRefusal.TheVariants.{Range}
use Rattle.ir_verify.proofs.verdict.range_row.Given as goal

abbrev pub invariant-loop-i : goal.invariant-loop-i
invariant-loop-i l =
    first_in (λ f function. of_number Range f (out_of_range l.all function)) l.i (drop l.i l.functions) ≡ first_in (λ f function. of_number Range f (out_of_range l.all function)) 0 l.functions
