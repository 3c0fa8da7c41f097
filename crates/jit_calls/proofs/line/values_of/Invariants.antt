use Rattle.std.proofs.Common.{◌≡◌, drop}
use Rattle.jit_calls.specs.Line.{values_of, onto}
use Rattle.jit_calls.proofs.line.values_of.Given as goal

abbrev pub invariant-loop-i : goal.invariant-loop-i
invariant-loop-i l = onto l.values (values_of (drop l.i l.tys) (drop l.i l.args)) ≡ values_of l.tys l.args
