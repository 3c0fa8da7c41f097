use Rattle.std.proofs.Common.{◌≡◌, drop}
use Rattle.ir_flow.specs.First.{first_in}
use Rattle.ir_verify.specs.Shapes.{jumps_to_entry}
use Rattle.ir_verify.specs.Verdict.{of_number}
use Rattle.ir_verify.specs.declared.refusal.VerifyRefusal.TheVariants.{EntryEdge}
use Rattle.ir_verify.proofs.verdict.entry_row.Given as goal

abbrev pub invariant-loop-i : goal.invariant-loop-i
invariant-loop-i l =
    first_in (λ f function. of_number EntryEdge f (jumps_to_entry function)) l.i (drop l.i l.functions) ≡ first_in (λ f function. of_number EntryEdge f (jumps_to_entry function)) 0 l.functions
