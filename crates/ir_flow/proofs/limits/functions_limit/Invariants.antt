use Rattle.std.proofs.Common.{◌≡◌, drop}
use Rattle.ir_flow.specs.Limits.{functions_limit}
use Rattle.ir_flow.proofs.limits.functions_limit.Given as goal

abbrev pub invariant-loop-function : goal.invariant-loop-function
invariant-loop-function l = functions_limit (drop l.function-index l.functions) ≡ functions_limit l.functions
