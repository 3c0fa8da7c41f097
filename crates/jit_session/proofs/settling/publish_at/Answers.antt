use Rattle.std.proofs.Common.{◌≡◌, ◌<◌, length, refl, sym, subst, Option, arith, false}
use Rattle.std.specs.Prelude.{MatchOption}
use Rattle.session_types.specs.declared.settled.RefusedJob.{RefusedJob}
use Rattle.jit_session.specs.Levels.{IsRaised, IsRefusedJob}
use Rattle.jit_session.proofs.Publishing.{good_of, raised, refused_publish}
use Rattle.jit_session.proofs.settling.publish_at.Goals.{in-Ok, in-Err}
use Rattle.jit_session.proofs.settling.publish_at.Goals as goal

pub publish-requires-clause-good : goal.publish-requires-clause-good
publish-requires-clause-good c = good_of c.args.keeper.now.desk.seat.table.now c.args.checked.now c.args.symbol c.args.level c.args.version c.requires.program c.requires.version

pub returns-clause-raised : goal.returns-clause-raised
returns-clause-raised c =
    let old = c.args.keeper.now.desk.shelf in
    let new = c.publish.new.self.desk.shelf in
    let symbol = c.args.symbol in
    let level = c.args.level in
    let program = c.args.checked.now in
    elim c.match-publish.branch [
      | in-Ok w ↦
          let low = c.requires.exists in
          let long = c.args.keeper.now.desk.functions_are in
          subst (λ (o : Option RefusedJob). MatchOption o (IsRaised old new symbol level) (IsRefusedJob false old program symbol level)) (sym w.result-is)
          (raised old new c.args.version program w.in-Ok.field-0 symbol level w.in-Ok.ensures.ok (omega (arith, low, long)) c.requires.version)
      | in-Err w ↦
          subst (λ (o : Option RefusedJob). MatchOption o (IsRaised old new symbol level) (IsRefusedJob false old program symbol level)) (sym w.result-is)
          (refused_publish false old program symbol level c.args.version w.in-Err.refusal record { symbol = symbol; level = level; cause = w.publish_cause.result } c.requires.version w.in-Err.ensures.cause refl refl w.publish_cause.ensures)
    ]
