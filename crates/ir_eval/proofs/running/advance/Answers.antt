use Rattle.std.proofs.Common.{◌≡◌, ◌∙◌, ◌++◌, ◌∷◌, [], List, ℕ, Option, Some, ap, sym, subst, arith}
use Rattle.ir_meaning.specs.declared.activation.Activation.{Activation}
use Rattle.ir_meaning.specs.Step.{step}
use Rattle.ir_eval.specs.Code.{program_with}
use Rattle.ir_eval.specs.declared.done.Done.{Done}
use Rattle.ir_eval.specs.declared.done.Done.TheVariants.{Calls, Returns}
use Rattle.ir_eval.specs.declared.ends.Entered.{Entered}
use Rattle.ir_eval.specs.declared.ends.Entered.TheVariants.{Ends}
use Rattle.ir_eval.specs.Runs.{Led, Counted, Enters}
use Rattle.ir_eval.specs.Turns.{Paid, Inward, told, turn_of}
use Rattle.ir_eval.proofs.Going.{short_ends, goes_on, full_ends, breaks_ends, call_on, call_ends, return_ends, return_on}
use Rattle.ir_eval.proofs.running.advance.Goals as goal

pub turn-requires-clause-left : goal.turn-requires-clause-left
turn-requires-clause-left c = let few = c.requires.ready.few 0 in omega (arith, few)

pub returns-in-None : goal.returns-in-None
returns-in-None c =
    short_ends (program_with c.args.all.now c.args.room) c.requires.typed
    (record { now = c.args.now.now; callers = c.args.callers.now; memory = c.args.memory.now; counts = c.args.counts.now; left = c.args.left.now }) c.requires.ready
    (ap (λ (d : Option Done). told d c.turn.new.left c.turn.new.now c.turn.new.memory) (sym c.in-None.is) ∙ c.in_ok-turn.ensures)

pub returns-in-Some-Goes : goal.returns-in-Some-Goes
returns-in-Some-Goes c =
    goes_on (program_with c.args.all.now c.args.room) c.requires.typed
    (record { now = c.args.now.now; callers = c.args.callers.now; memory = c.args.memory.now; counts = c.args.counts.now; left = c.args.left.now }) c.requires.ready
    c.turn.new.left c.turn.new.now c.turn.new.memory
    (ap (λ (d : Option Done). told d c.turn.new.left c.turn.new.now c.turn.new.memory) (sym (c.in-Some-Goes.is ∙ ap (λ (d : Done). Some d) c.in-Some-Goes.field-0-is)) ∙ c.in_ok-turn.ensures)

pub returns-in-Some-Overflows : goal.returns-in-Some-Overflows
returns-in-Some-Overflows c =
    full_ends (program_with c.args.all.now c.args.room) c.requires.typed
    (record { now = c.args.now.now; callers = c.args.callers.now; memory = c.args.memory.now; counts = c.args.counts.now; left = c.args.left.now }) c.requires.ready
    c.turn.new.left
    (ap (λ (d : Option Done). told d c.turn.new.left c.turn.new.now c.turn.new.memory) (sym (c.in-Some-Overflows.is ∙ ap (λ (d : Done). Some d) c.in-Some-Overflows.field-0-is)) ∙ c.in_ok-turn.ensures)

pub returns-in-Some-Breaks : goal.returns-in-Some-Breaks
returns-in-Some-Breaks c =
    breaks_ends (program_with c.args.all.now c.args.room) c.requires.typed
    (record { now = c.args.now.now; callers = c.args.callers.now; memory = c.args.memory.now; counts = c.args.counts.now; left = c.args.left.now }) c.requires.ready
    c.turn.new.left
    (ap (λ (d : Option Done). told d c.turn.new.left c.turn.new.now c.turn.new.memory) (sym (c.in-Some-Breaks.is ∙ ap (λ (d : Done). Some d) c.in-Some-Breaks.field-0-is)) ∙ c.in_ok-turn.ensures)

pub returns-in-Ends : goal.returns-in-Ends
returns-in-Ends c =
    let some : c.in_ok-turn.field-0 ≡ Some c.in-Some-Calls.field-0 = c.in-Some-Calls.is in
    let done : c.in-Some-Calls.field-0 ≡ Calls c.in-Some-Calls.callee c.in-Some-Calls.given = c.in-Some-Calls.field-0-is in
    let paid : Paid c.turn.new.left (Inward c.in-Some-Calls.callee c.in-Some-Calls.given c.turn.new.now c.turn.new.memory)
    ≡ turn_of c.args.left.now c.args.now.now c.args.memory.now (step (program_with c.args.all.now c.args.room) c.args.now.now c.args.memory.now) =
    ap (λ (d : Option Done). told d c.turn.new.left c.turn.new.now c.turn.new.memory) (sym (some ∙ ap (λ (d : Done). Some d) done)) ∙ c.in_ok-turn.ensures in
    let counted : Counted (c.in-Some-Calls.callee ∷ []) c.args.counts.now c.enter.new.counts = c.in_ok-end-in-Some-Calls.ensures.counted in
    let enters : Enters (program_with c.args.all.now c.args.room) c.in-Some-Calls.callee c.in-Some-Calls.given c.turn.new.memory c.turn.new.now.sp c.turn.new.left c.in_ok-end-in-Some-Calls.field-0 c.enter.new.left =
    c.in_ok-end-in-Some-Calls.ensures.enters in
    let is : c.in_ok-end-in-Some-Calls.field-0 ≡ Ends c.in-Ends.end = c.in-Ends.is in
    call_ends (program_with c.args.all.now c.args.room) c.requires.typed
    (record { now = c.args.now.now; callers = c.args.callers.now; memory = c.args.memory.now; counts = c.args.counts.now; left = c.args.left.now }) c.requires.ready
    c.turn.new.left c.enter.new.left c.in-Some-Calls.callee c.in-Some-Calls.given c.turn.new.now c.turn.new.memory c.enter.new.counts c.in-Ends.end paid
    (subst (λ (e : Entered). Enters (program_with c.args.all.now c.args.room) c.in-Some-Calls.callee c.in-Some-Calls.given c.turn.new.memory c.turn.new.now.sp c.turn.new.left e c.enter.new.left) is enters)
    counted

pub returns-in_ok-push-in-Opens : goal.returns-in_ok-push-in-Opens
returns-in_ok-push-in-Opens c =
    let some : c.in_ok-turn.field-0 ≡ Some c.in-Some-Calls.field-0 = c.in-Some-Calls.is in
    let done : c.in-Some-Calls.field-0 ≡ Calls c.in-Some-Calls.callee c.in-Some-Calls.given = c.in-Some-Calls.field-0-is in
    let paid : Paid c.turn.new.left (Inward c.in-Some-Calls.callee c.in-Some-Calls.given c.turn.new.now c.turn.new.memory)
    ≡ turn_of c.args.left.now c.args.now.now c.args.memory.now (step (program_with c.args.all.now c.args.room) c.args.now.now c.args.memory.now) =
    ap (λ (d : Option Done). told d c.turn.new.left c.turn.new.now c.turn.new.memory) (sym (some ∙ ap (λ (d : Done). Some d) done)) ∙ c.in_ok-turn.ensures in
    let counted : Counted (c.in-Some-Calls.callee ∷ []) c.args.counts.now c.enter.new.counts = c.in_ok-end-in-Some-Calls.ensures.counted in
    let enters : Enters (program_with c.args.all.now c.args.room) c.in-Some-Calls.callee c.in-Some-Calls.given c.turn.new.memory c.turn.new.now.sp c.turn.new.left c.in_ok-end-in-Some-Calls.field-0 c.enter.new.left =
    c.in_ok-end-in-Some-Calls.ensures.enters in
    let on = call_on (program_with c.args.all.now c.args.room) c.requires.typed
    (record { now = c.args.now.now; callers = c.args.callers.now; memory = c.args.memory.now; counts = c.args.counts.now; left = c.args.left.now }) c.requires.ready
    c.turn.new.left c.enter.new.left c.in-Some-Calls.callee c.in-Some-Calls.given c.turn.new.now c.in-Opens.first c.turn.new.memory c.enter.new.counts paid
    (subst (λ (e : Entered). Enters (program_with c.args.all.now c.args.room) c.in-Some-Calls.callee c.in-Some-Calls.given c.turn.new.memory c.turn.new.now.sp c.turn.new.left e c.enter.new.left) c.in-Opens.is enters)
    counted in
    let callers : c.args.callers.now ++ c.turn.new.now ∷ [] ≡ c.push.new.self =
    sym (c.in_ok-push-in-Opens.ensures.ok ∙ ap (λ (a : Activation). c.args.callers.now ++ a ∷ []) c.replace-caller.ensures.value) in
    subst (λ (cs : List Activation). (added : List ℕ) × Led (program_with c.args.all.now c.args.room)
    (record { now = c.args.now.now; callers = c.args.callers.now; memory = c.args.memory.now; counts = c.args.counts.now; left = c.args.left.now })
    (record { now = c.replace-caller.new.dest; callers = cs; memory = c.turn.new.memory; counts = c.enter.new.counts; left = c.enter.new.left }) added) callers
    (subst (λ (a : Activation). (added : List ℕ) × Led (program_with c.args.all.now c.args.room)
    (record { now = c.args.now.now; callers = c.args.callers.now; memory = c.args.memory.now; counts = c.args.counts.now; left = c.args.left.now })
    (record { now = a; callers = c.args.callers.now ++ c.turn.new.now ∷ []; memory = c.turn.new.memory; counts = c.enter.new.counts; left = c.enter.new.left }) added)
    (sym c.replace-caller.ensures.after) on)

pub returns-in-None-pop : goal.returns-in-None-pop
returns-in-None-pop c =
    let some : c.in_ok-turn.field-0 ≡ Some c.in-Some-Returns.field-0 = c.in-Some-Returns.is in
    let done : c.in-Some-Returns.field-0 ≡ Returns c.in-Some-Returns.value = c.in-Some-Returns.field-0-is in
    return_ends (program_with c.args.all.now c.args.room) c.requires.typed
    (record { now = c.args.now.now; callers = c.args.callers.now; memory = c.args.memory.now; counts = c.args.counts.now; left = c.args.left.now }) c.requires.ready
    c.turn.new.left c.in-Some-Returns.value c.turn.new.memory
    (ap (λ (d : Option Done). told d c.turn.new.left c.turn.new.now c.turn.new.memory) (sym (some ∙ ap (λ (d : Done). Some d) done)) ∙ c.in_ok-turn.ensures)
    c.in-None-pop.ensures.0

pub returns-in-Some : goal.returns-in-Some
returns-in-Some c =
    let some : c.in_ok-turn.field-0 ≡ Some c.in-Some-Returns.field-0 = c.in-Some-Returns.is in
    let done : c.in-Some-Returns.field-0 ≡ Returns c.in-Some-Returns.value = c.in-Some-Returns.field-0-is in
    let on = return_on (program_with c.args.all.now c.args.room) c.requires.typed
    (record { now = c.args.now.now; callers = c.args.callers.now; memory = c.args.memory.now; counts = c.args.counts.now; left = c.args.left.now }) c.requires.ready
    c.turn.new.left c.in-Some-Returns.value c.turn.new.memory c.in-Some.caller c.pop.new.self
    (ap (λ (d : Option Done). told d c.turn.new.left c.turn.new.now c.turn.new.memory) (sym (some ∙ ap (λ (d : Done). Some d) done)) ∙ c.in_ok-turn.ensures)
    c.in-Some.ensures in
    subst (λ (a : Activation). (added : List ℕ) × Led (program_with c.args.all.now c.args.room)
    (record { now = c.args.now.now; callers = c.args.callers.now; memory = c.args.memory.now; counts = c.args.counts.now; left = c.args.left.now })
    (record { now = a; callers = c.pop.new.self; memory = c.turn.new.memory; counts = c.args.counts.now; left = c.turn.new.left }) added)
    (sym c.answer.ensures) on
