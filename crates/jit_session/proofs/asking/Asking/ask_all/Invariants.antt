use Rattle.jit_session.specs.Workers.{IsSameAsking}
use Rattle.jit_session.proofs.asking.Asking.ask_all.Given as goal

abbrev pub invariant-loop-symbol : goal.invariant-loop-symbol
invariant-loop-symbol g l = record {
  same : IsSameAsking g.P.ReoptPolicy.marks l.fn.self l.self;
}
