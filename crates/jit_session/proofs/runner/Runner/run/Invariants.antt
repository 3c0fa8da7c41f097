use Rattle.std.proofs.Common.{◌≡◌, ◌-◌, length}
use Rattle.std.specs.Prelude.{vec_capacity}
use Rattle.ir_core.specs.Program.{Program}
use Rattle.jit_session.specs.Runners.{IsWork, CanRun}
use Rattle.jit_session.specs.Runs.{IsReady, IsSameSeat, IsSameCounts, place_of}
use Rattle.jit_session.specs.Served.{HasServed}
use Rattle.jit_session.proofs.Answering.{AreRight}
use Rattle.jit_session.proofs.runner.Runner.run.Given as goal

abbrev pub invariant-loop-place : goal.invariant-loop-place
invariant-loop-place g l = record {
  place : l.place ≡ place_of l.harts l.fn.self.number (length l.self.answers.items);
  each : (program : Program) → IsWork program l.image l.calls l.harts → CanRun program l.calls l.harts l.fn.self → AreRight program l.calls l.harts l.fn.self.number l.self.answers.items × IsReady program l.self.hart l.self.bench.seat × HasServed program l.calls l.harts l.fn.self.number l.fn.self.bench.seat l.self.bench.seat l.fn.self.bench.counts l.self.bench.counts l.self.answers.items;
  seat : IsSameSeat l.fn.self.bench.seat l.self.bench.seat;
  counts : IsSameCounts l.fn.self.bench.counts l.self.bench.counts;
  number : l.self.number ≡ l.fn.self.number;
  entries : l.self.entries ≡ l.fn.self.entries;
  room : vec_capacity l.self.answers ≡ vec_capacity l.fn.self.answers;
}

abbrev pub decreases-loop-place : goal.decreases-loop-place
decreases-loop-place g l = length l.calls - l.place
