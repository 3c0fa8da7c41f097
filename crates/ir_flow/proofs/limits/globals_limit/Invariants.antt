use Rattle.std.proofs.Common.{◌≡◌, drop}
use Rattle.ir_flow.specs.Limits.{globals_limit}
use Rattle.ir_flow.proofs.limits.globals_limit.Given as goal

abbrev pub invariant-loop-global : goal.invariant-loop-global
invariant-loop-global l = globals_limit (drop l.global-index l.globals) ≡ globals_limit l.globals
