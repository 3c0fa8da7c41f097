use Rattle.std.proofs.Common.{◌≡◌, take, drop, map}
use Rattle.jit_calls.specs.Listed.{AllListed}
use Rattle.jit_main.specs.Evals.{outcome_of_call}
use Rattle.jit_main.proofs.eval.outcomes_of.Given as goal

abbrev pub invariant-loop-call : goal.invariant-loop-call
invariant-loop-call l =
    AllListed l.checked.module_.functions (drop l.call-index l.calls)
    × (l.all.items ≡ map (outcome_of_call l.checked) (take l.call-index l.calls))
