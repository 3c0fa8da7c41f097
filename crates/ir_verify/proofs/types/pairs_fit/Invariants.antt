use Rattle.std.proofs.Common.{◌≡◌, ◌+◌, ◌++◌, ◌≤◌, ◌<◌, ◌⊎◌, ℕ, length, drop, take, map, ◌||◌, ◌&&◌, Bool, true, false, if◌then◌else◌}
use Rattle.ir_verify.specs.Types.{all_fit_places}
use Rattle.ir_flow.specs.Code.{typed_pairs}
use Rattle.ir_verify.proofs.types.pairs_fit.Given as goal

abbrev pub invariant-loop-operand : goal.invariant-loop-operand
invariant-loop-operand l = all_fit_places l.types (typed_pairs l.ty (drop l.operand-index l.pairs)) ≡ all_fit_places l.types (typed_pairs l.ty l.pairs)
