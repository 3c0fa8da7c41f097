use Rattle.jit_session.specs.Workers.{IsSameWorker}
use Rattle.jit_session.proofs.worker.Worker.run.Given as goal

abbrev pub invariant-loop : goal.invariant-loop
invariant-loop g l = record {
  same : IsSameWorker g.P.ReoptPolicy.marks l.fn.self l.self;
}
