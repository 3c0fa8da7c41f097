use Rattle.std.proofs.Common.{◌≡◌, vec_capacity}
use Rattle.jit_core.specs.Ran.{AreAnswers}
use Rattle.jit_core.proofs.run.answers.Given as goal

abbrev pub invariant-loop-call : goal.invariant-loop-call
invariant-loop-call l = record {
  answers : AreAnswers l.core l.call l.ends.items;
  room : vec_capacity l.ends ≡ l.count;
}
