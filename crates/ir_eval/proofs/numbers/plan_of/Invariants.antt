use Rattle.ir_eval.proofs.Numbered.{PlansFirst}
use Rattle.ir_eval.proofs.numbers.plan_of.Given as goal

abbrev pub invariant-loop-function : goal.invariant-loop-function
invariant-loop-function l = PlansFirst l.functions l.plan l.function-index
