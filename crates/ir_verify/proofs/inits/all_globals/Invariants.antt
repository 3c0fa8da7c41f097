use Rattle.std.proofs.Common.{◌≡◌, ◌+◌, ◌++◌, length, drop, map, replicate}
use Rattle.ir_verify.specs.Ranges.{all_globals}
use Rattle.ir_verify.proofs.inits.all_globals.Given as goal

abbrev pub invariant-loop-global : goal.invariant-loop-global
invariant-loop-global l = all_globals l.count (drop l.global-index l.global-items) ≡ all_globals l.count l.fn.all.globals
