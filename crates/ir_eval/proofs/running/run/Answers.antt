use Rattle.std.proofs.Common.{◌≡◌, subst, rules, Option, None}
use Rattle.ir_eval.specs.declared.ends.End.{End}
use Rattle.ir_eval.specs.Code.{program_with}
use Rattle.ir_eval.specs.Runs.{State, Leads}
use Rattle.ir_eval.proofs.Going.{led_on, ends_on}
use Rattle.ir_eval.proofs.running.run.Goals as goal

pub returns-in-Some : goal.returns-in-Some
returns-in-Some c =
    let old : State = record { now = c.loop-callers.now; callers = c.loop-callers.callers; memory = c.loop-callers.memory; counts = c.loop-callers.counts; left = c.loop-callers.left } in
    let new : State = record { now = c.advance.new.now; callers = c.advance.new.callers; memory = c.advance.new.memory; counts = c.advance.new.counts; left = c.advance.new.left } in
    ends_on (program_with c.args.all.now c.args.room) _ old c.in-Some.end c.advance.new.counts c.loop-callers.invariant
    (subst (λ (e : Option End). Leads (program_with c.args.all.now c.args.room) old e new) c.in-Some.is c.in_ok-next.ensures)

pub loop-callers-preserved : goal.loop-callers-preserved
loop-callers-preserved c =
    let old : State = record { now = c.loop-callers.now; callers = c.loop-callers.callers; memory = c.loop-callers.memory; counts = c.loop-callers.counts; left = c.loop-callers.left } in
    let new : State = record { now = c.advance.new.now; callers = c.advance.new.callers; memory = c.advance.new.memory; counts = c.advance.new.counts; left = c.advance.new.left } in
    let none : c.in_ok-next.next ≡ None = search rules in
    led_on (program_with c.args.all.now c.args.room) _ old new c.loop-callers.invariant
    (subst (λ (e : Option End). Leads (program_with c.args.all.now c.args.room) old e new) none c.in_ok-next.ensures)
