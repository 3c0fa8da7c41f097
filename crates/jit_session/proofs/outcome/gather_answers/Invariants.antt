use Rattle.std.proofs.Common.{◌≡◌, take, length}
use Rattle.std.specs.Prelude.{vec_capacity}
use Rattle.ir_core.specs.Program.{Program}
use Rattle.jit_session.specs.Runs.{AllRight, Each, HasAnswered}
use Rattle.jit_session.specs.Settling.{AreAnswersOf}
use Rattle.jit_session.proofs.outcome.gather_answers.Given as goal

abbrev pub invariant-loop-place : goal.invariant-loop-place
invariant-loop-place g l = record {
  right : (program : Program) → Each (λ h r. HasAnswered program l.calls (length l.runners) h r.answers.items) l.runners → AllRight program (take l.place l.calls) l.answers.items;
  same : Each (λ h r. AreAnswersOf l.place (length l.runners) h l.answers.items r.answers.items) l.runners;
  len : length l.answers.items ≡ l.place;
  room : vec_capacity l.answers ≡ vec_capacity l.fn.answers;
}
