use Rattle.std.proofs.Common.{◌≡◌, ◌∙◌, ◌∷◌, [], ◌≤◌, ap, sym, subst, map, replicate, length, List, ℕ, Option, Some}
use Rattle.ir_core.specs.declared.program.Function.{Function}
use Rattle.ir_meaning.specs.Value.{Value}
use Rattle.ir_meaning.specs.Memory.{Memory}
use Rattle.ir_meaning.specs.Image.{first_memory}
use Rattle.ir_meaning.specs.Step.{Program, stack_end}
use Rattle.ir_meaning.specs.Eval.{run}
use Rattle.ir_meaning.specs.Meaning.{meaning, of_function, parameter_widths}
use Rattle.ir_meaning.specs.Ranges.{AreArgs}
use Rattle.ir_verify.proofs.Typing.{checked-typed}
use Rattle.ir_eval.specs.declared.ends.Entered.{Entered}
use Rattle.ir_eval.specs.Code.{program_with}
use Rattle.ir_eval.specs.Runs.{AreCounts, Counted, Enters, HasEnd}
use Rattle.ir_eval.proofs.Checking.{usable}
use Rattle.ir_eval.proofs.Going.{starts_ended, starts_ready, starts_on}
use Rattle.ir_eval.proofs.evaluating.evaluated.Goals as goal

pub plan_of-requires : goal.plan_of-requires
plan_of-requires c = usable (program_with c.args.all.now c.args.room) c.requires.checked

pub enter-requires-clause-usable : goal.enter-requires-clause-usable
enter-requires-clause-usable c = usable (program_with c.args.all.now c.args.room) c.requires.checked

pub run-requires-clause-usable : goal.run-requires-clause-usable
run-requires-clause-usable c = usable (program_with c.args.all.now c.args.room) c.requires.checked

pub run-requires-clause-typed : goal.run-requires-clause-typed
run-requires-clause-typed c = checked-typed (program_with c.args.all.now c.args.room) c.requires.checked

pub returns-in-Ends : goal.returns-in-Ends
returns-in-Ends c =
    let P : Program = program_with c.args.all.now c.args.room in
    let n : ℕ = length c.args.all.now.functions in
    let zeros : c.in_ok-counts.counts ≡ replicate n 0 = c.in_ok-counts.ensures ∙ ap (λ (k : ℕ). replicate k 0) c.len.ensures in
    let given : c.in_ok-given.given ≡ map Some c.args.call.now.args = c.in_ok-given.ensures ∙ ap (λ (xs : List ℕ). map Some xs) c.as_slice.ensures in
    let memory : c.in_ok-memory.memory ≡ first_memory c.args.all.now.globals = c.in_ok-memory.ensures in
    let counted : Counted (c.args.call.now.symbol ∷ []) c.in_ok-counts.counts c.enter.new.counts = c.in_ok-end.ensures.counted in
    let enters : Enters P c.args.call.now.symbol c.in_ok-given.given c.in_ok-memory.memory stack_end c.args.call.now.turns c.in_ok-end.field-0 c.enter.new.left = c.in_ok-end.ensures.enters in
    let ended = subst (λ (e : Entered). Enters P c.args.call.now.symbol c.in_ok-given.given c.in_ok-memory.memory stack_end c.args.call.now.turns e c.enter.new.left) c.in-Ends.is enters in
    let whole = starts_ended P c.args.call.now.symbol c.args.call.now.turns c.in_ok-given.given c.in_ok-memory.memory c.requires.call.high n c.in-Ends.end c.enter.new.left c.enter.new.counts ended
    (subst (λ (xs : List ℕ). Counted (c.args.call.now.symbol ∷ []) xs c.enter.new.counts) zeros counted) in
    subst (λ (m : Memory). (entered : List ℕ) × (HasEnd c.in-Ends.end entered (run P c.args.call.now.symbol (map Some c.args.call.now.args) m stack_end c.args.call.now.turns) × AreCounts n entered c.enter.new.counts)) memory
    (subst (λ (vs : List Value). (entered : List ℕ) × (HasEnd c.in-Ends.end entered (run P c.args.call.now.symbol vs c.in_ok-memory.memory stack_end c.args.call.now.turns) × AreCounts n entered c.enter.new.counts)) given whole)

pub run-requires-clause-ready : goal.run-requires-clause-ready
run-requires-clause-ready c =
    let P : Program = program_with c.args.all.now c.args.room in
    let n : ℕ = length c.args.all.now.functions in
    let zeros : c.in_ok-counts.counts ≡ replicate n 0 = c.in_ok-counts.ensures ∙ ap (λ (k : ℕ). replicate k 0) c.len.ensures in
    let given : c.in_ok-given.given ≡ map Some c.args.call.now.args = c.in_ok-given.ensures ∙ ap (λ (xs : List ℕ). map Some xs) c.as_slice.ensures in
    let memory : c.in_ok-memory.memory ≡ first_memory c.args.all.now.globals = c.in_ok-memory.ensures in
    let counted : Counted (c.args.call.now.symbol ∷ []) c.in_ok-counts.counts c.enter.new.counts = c.in_ok-end.ensures.counted in
    let enters : Enters P c.args.call.now.symbol c.in_ok-given.given c.in_ok-memory.memory stack_end c.args.call.now.turns c.in_ok-end.field-0 c.enter.new.left = c.in_ok-end.ensures.enters in
    let opened = subst (λ (e : Entered). Enters P c.args.call.now.symbol c.in_ok-given.given c.in_ok-memory.memory stack_end c.args.call.now.turns e c.enter.new.left) c.in-Opens.is enters in
    let args : AreArgs ((meaning P).parameters c.args.call.now.symbol) (map Some c.args.call.now.args) =
    subst (λ (f : Option Function). AreArgs (of_function [] parameter_widths f) (map Some c.args.call.now.args)) (sym c.requires.call.found) c.requires.call.args in
    let room : length c.in_ok-memory.memory ≤ c.args.room = subst (λ (m : Memory). length m ≤ c.args.room) (sym memory) c.requires.fits in
    starts_ready P c.args.call.now.symbol c.args.call.now.turns c.in_ok-given.given c.in_ok-memory.memory c.requires.call.high n c.in-Opens.first c.enter.new.left c.enter.new.counts opened
    (subst (λ (xs : List ℕ). Counted (c.args.call.now.symbol ∷ []) xs c.enter.new.counts) zeros counted)
    (subst (λ (vs : List Value). AreArgs ((meaning P).parameters c.args.call.now.symbol) vs) (sym given) args)
    c.keeps_ranges.ensures room

pub returns : goal.returns
returns c =
    let P : Program = program_with c.args.all.now c.args.room in
    let n : ℕ = length c.args.all.now.functions in
    let zeros : c.in_ok-counts.counts ≡ replicate n 0 = c.in_ok-counts.ensures ∙ ap (λ (k : ℕ). replicate k 0) c.len.ensures in
    let given : c.in_ok-given.given ≡ map Some c.args.call.now.args = c.in_ok-given.ensures ∙ ap (λ (xs : List ℕ). map Some xs) c.as_slice.ensures in
    let memory : c.in_ok-memory.memory ≡ first_memory c.args.all.now.globals = c.in_ok-memory.ensures in
    let counted : Counted (c.args.call.now.symbol ∷ []) c.in_ok-counts.counts c.enter.new.counts = c.in_ok-end.ensures.counted in
    let enters : Enters P c.args.call.now.symbol c.in_ok-given.given c.in_ok-memory.memory stack_end c.args.call.now.turns c.in_ok-end.field-0 c.enter.new.left = c.in_ok-end.ensures.enters in
    let opened = subst (λ (e : Entered). Enters P c.args.call.now.symbol c.in_ok-given.given c.in_ok-memory.memory stack_end c.args.call.now.turns e c.enter.new.left) c.in-Opens.is enters in
    let whole = starts_on P c.args.call.now.symbol c.args.call.now.turns c.in_ok-given.given c.in_ok-memory.memory c.requires.call.high n c.in-Opens.first c.enter.new.left c.enter.new.counts c.run.new.counts
    c.in_ok-end-in-Opens.end opened (subst (λ (xs : List ℕ). Counted (c.args.call.now.symbol ∷ []) xs c.enter.new.counts) zeros counted) c.in_ok-end-in-Opens.ensures in
    subst (λ (m : Memory). (entered : List ℕ) × (HasEnd c.in_ok-end-in-Opens.end entered (run P c.args.call.now.symbol (map Some c.args.call.now.args) m stack_end c.args.call.now.turns) × AreCounts n entered c.run.new.counts)) memory
    (subst (λ (vs : List Value). (entered : List ℕ) × (HasEnd c.in_ok-end-in-Opens.end entered (run P c.args.call.now.symbol vs c.in_ok-memory.memory stack_end c.args.call.now.turns) × AreCounts n entered c.run.new.counts)) given whole)
