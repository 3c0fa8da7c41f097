use Rattle.std.proofs.Common.{◌≡◌, ◌<◌, ℕ, Some}
use Rattle.std.specs.Prelude.{slice_get}
use Rattle.ir_core.specs.declared.program.Function.{Function}
use Rattle.ir_flow.specs.Assigned.{AllAssigned}
use Rattle.ir_verify.proofs.verdict.first_unassigned.Given as goal

abbrev pub invariant-loop-i : goal.invariant-loop-i
invariant-loop-i l = (symbol : ℕ) (function : Function) → symbol < l.i → slice_get l.functions symbol ≡ Some function → AllAssigned function
