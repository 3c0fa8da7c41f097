-- A run goes on from turn to turn.
use Rattle.std.proofs.Common.{◌≡◌, ℕ, zero, suc, ◌+◌, ◌-◌, ◌^◌, ◌<◌, ◌≤◌, Bool, true, false, nat_lt, List, [], ◌∷◌, ◌++◌, length, map, replicate, Some, sym, ◌∙◌, ap, subst, refl, arith, append_assoc, if◌then◌else◌}
use Rattle.std.specs.Prelude.{slice_index, slice_get, ◌==◌, cond}
use Rattle.ir_core.specs.declared.types.Ty.{Ty}
use Rattle.std.proofs.lemmas.Bool.{lt-ltb, le-ltb, ltb-false}
use Rattle.std.proofs.lemmas.List.Sums.{sum_by-append}
use Rattle.ir_meaning.specs.declared.activation.Activation.{Activation}
use Rattle.ir_core.specs.declared.program.Module.{Module}
use Rattle.ir_meaning.specs.declared.calls.ListedCall.{ListedCall}
use Rattle.ir_meaning.specs.Value.{Value}
use Rattle.ir_meaning.specs.Image.{first_memory}
use Rattle.ir_meaning.specs.Memory.{Memory}
use Rattle.ir_meaning.specs.Step.{Program, Does, Step, Goes, Calls, Returns, Overflows, Breaks, Opens, TooDeep, NoFunction, Entry, step, answered, entry, stack_end, function_at}
use Rattle.ir_meaning.specs.Eval.{Run, Ends, NoStack, NoUnits, NoMeaning, behind_entries, RunOn, run_on, run_call, run_entry, run_answer, run_after, run, evaluation_of, eval_call, result_type}
use Rattle.ir_meaning.specs.Meaning.{meaning}
use Rattle.ir_meaning.specs.Ranges.{IsMemory, AreArgs}
use Rattle.ir_meaning.specs.Typed.{IsTyped}
use Rattle.ir_meaning.proofs.Runs.{unpaid, running-paid, run-running, call-unpaid, call-paid}
use Rattle.ir_meaning.proofs.Steps.{step-costs, answered-stays}
use Rattle.ir_eval.specs.declared.ends.End.{End}
use Rattle.ir_eval.specs.declared.ends.End.TheVariants.{Answer, Stack, NotEnded, Undefined}
use Rattle.ir_eval.specs.declared.ends.Entered.TheVariants.{Opens as Opened, Ends as Ended}
use Rattle.ir_eval.specs.Code.{program_with}
use Rattle.ir_eval.specs.Runs.{running, State, resume, rest, Counted, HasEnd, Enters, Waiting, Chain, IsReady, Led, EndsWith, Going, AreCounts, times}
use Rattle.ir_eval.specs.Entries.{end_outcome}
use Rattle.ir_eval.specs.Turns.{Came, Onward, Inward, Outward, Full, Nowhere, came, Short, Paid, turn_of}
use Rattle.ir_eval.proofs.Keeping.{goes, calls, returns, opened_fits}

-- ---- what a turn tells

paid_short : (left : ℕ) (to : Came) → Paid left to ≡ Short → ⊥
paid_short left to e = cc

paid_left : (left left' : ℕ) (to to' : Came) → Paid left to ≡ Paid left' to' → left ≡ left'
paid_left left left' to to' e = cc

paid_to : (left left' : ℕ) (to to' : Came) → Paid left to ≡ Paid left' to' → to ≡ to'
paid_to left left' to to' e = cc

record WasPaid (left' : ℕ) (to : Came) (left : ℕ) (now : Activation) (memory : Memory) (one : Step) : Type 0 where
  enough : one.units ≤ left
  left_is : left' ≡ left - one.units
  to_is : to ≡ came now memory one.does

was_paid : (left' : ℕ) (to : Came) (left : ℕ) (now : Activation) (memory : Memory) (one : Step) → Paid left' to ≡ turn_of left now memory one → WasPaid left' to left now memory one
was_paid left' to left now memory one e = by_test (nat_lt left one.units) refl
  where
    by_test : (b : Bool) → nat_lt left one.units ≡ b → WasPaid left' to left now memory one
    by_test true t =
        let short : turn_of left now memory one ≡ Short = ap (λ (b : Bool). if b then Short else Paid (left - one.units) (came now memory one.does)) t in
        absurd (paid_short left' to (e ∙ short))
    by_test false t =
        let paid : turn_of left now memory one ≡ Paid (left - one.units) (came now memory one.does) =
        ap (λ (b : Bool). if b then Short else Paid (left - one.units) (came now memory one.does)) t in
        record {
          enough = ltb-false _ _ t;
          left_is = paid_left _ _ _ _ (e ∙ paid);
          to_is = paid_to _ _ _ _ (e ∙ paid);
        }

was_short : (left : ℕ) (now : Activation) (memory : Memory) (one : Step) → Short ≡ turn_of left now memory one → nat_lt left one.units ≡ true
was_short left now memory one e = by_test (nat_lt left one.units) refl
  where
    by_test : (b : Bool) → nat_lt left one.units ≡ b → nat_lt left one.units ≡ true
    by_test true t = t
    by_test false t =
        let paid : turn_of left now memory one ≡ Paid (left - one.units) (came now memory one.does) =
        ap (λ (b : Bool). if b then Short else Paid (left - one.units) (came now memory one.does)) t in
        absurd (paid_short _ _ (sym (e ∙ paid)))

abbrev the_calls : ℕ → List Value → Does
the_calls g given = Calls g given

onward_is : (next : Activation) (after : Memory) (now : Activation) (memory : Memory) (does : Does) → Onward next after ≡ came now memory does → does ≡ Goes next after
onward_is next after now memory (Goes n m) e = let a : n ≡ next = cc in let b : m ≡ after = cc in cc
onward_is next after now memory (Calls g given) e = absurd (let bad : ⊥ = cc in bad)
onward_is next after now memory (Returns v m) e = absurd (let bad : ⊥ = cc in bad)
onward_is next after now memory Overflows e = absurd (let bad : ⊥ = cc in bad)
onward_is next after now memory Breaks e = absurd (let bad : ⊥ = cc in bad)

calls_same : (h g : ℕ) (vs given : List Value) → h ≡ g → vs ≡ given → the_calls h vs ≡ the_calls g given
calls_same h g vs given a b = cc

inward_is : (g : ℕ) (given : List Value) (next : Activation) (after : Memory) (now : Activation) (memory : Memory) (does : Does) → Inward g given next after ≡ came now memory does
    → (does ≡ Calls g given) × (next ≡ now) × (after ≡ memory)
inward_is g given next after now memory (Calls h vs) e = let a : h ≡ g = cc in let b : vs ≡ given = cc in (calls_same h g vs given a b, let y : next ≡ now = cc in y, let x : after ≡ memory = cc in x)
inward_is g given next after now memory (Goes n m) e = absurd (let bad : ⊥ = cc in bad)
inward_is g given next after now memory (Returns v m) e = absurd (let bad : ⊥ = cc in bad)
inward_is g given next after now memory Overflows e = absurd (let bad : ⊥ = cc in bad)
inward_is g given next after now memory Breaks e = absurd (let bad : ⊥ = cc in bad)

outward_is : (value : Value) (after : Memory) (now : Activation) (memory : Memory) (does : Does) → Outward value after ≡ came now memory does → does ≡ Returns value after
outward_is value after now memory (Returns v m) e = let a : v ≡ value = cc in let b : m ≡ after = cc in cc
outward_is value after now memory (Goes n m) e = absurd (let bad : ⊥ = cc in bad)
outward_is value after now memory (Calls g given) e = absurd (let bad : ⊥ = cc in bad)
outward_is value after now memory Overflows e = absurd (let bad : ⊥ = cc in bad)
outward_is value after now memory Breaks e = absurd (let bad : ⊥ = cc in bad)

full_is : (now : Activation) (memory : Memory) (does : Does) → Full ≡ came now memory does → does ≡ Overflows
full_is now memory Overflows e = refl
full_is now memory (Returns v m) e = absurd (let bad : ⊥ = cc in bad)
full_is now memory (Goes n m) e = absurd (let bad : ⊥ = cc in bad)
full_is now memory (Calls g given) e = absurd (let bad : ⊥ = cc in bad)
full_is now memory Breaks e = absurd (let bad : ⊥ = cc in bad)

nowhere_is : (now : Activation) (memory : Memory) (does : Does) → Nowhere ≡ came now memory does → does ≡ Breaks
nowhere_is now memory Breaks e = refl
nowhere_is now memory (Returns v m) e = absurd (let bad : ⊥ = cc in bad)
nowhere_is now memory (Goes n m) e = absurd (let bad : ⊥ = cc in bad)
nowhere_is now memory (Calls g given) e = absurd (let bad : ⊥ = cc in bad)
nowhere_is now memory Overflows e = absurd (let bad : ⊥ = cc in bad)

-- ---- callers

pub behind_nil : (r : Run) → behind_entries [] r ≡ r
behind_nil (Ends value memory left entered) = refl
behind_nil (NoStack entered) = refl
behind_nil (NoUnits entered) = refl
behind_nil (NoMeaning entered) = refl

pub behind_behind : (a b : List ℕ) (r : Run) → behind_entries (a ++ b) r ≡ behind_entries a (behind_entries b r)
behind_behind a b (Ends value memory left entered) = ap (λ (es : List ℕ). Ends value memory left es) (append_assoc a b entered)
behind_behind a b (NoStack entered) = ap (λ (es : List ℕ). NoStack es) (append_assoc a b entered)
behind_behind a b (NoUnits entered) = ap (λ (es : List ℕ). NoUnits es) (append_assoc a b entered)
behind_behind a b (NoMeaning entered) = ap (λ (es : List ℕ). NoMeaning es) (append_assoc a b entered)

answer_behind : (program : Program) (on : RunOn) (caller : Activation) (es : List ℕ) (r : Run) → run_answer program on caller (behind_entries es r) ≡ behind_entries es (run_answer program on caller r)
answer_behind program on caller es (Ends value memory left entered) = behind_behind es entered (on left (answered program caller value) memory)
answer_behind program on caller es (NoStack entered) = refl
answer_behind program on caller es (NoUnits entered) = refl
answer_behind program on caller es (NoMeaning entered) = refl

resume_behind : (program : Program) (callers : List Activation) (es : List ℕ) (r : Run) → resume program callers (behind_entries es r) ≡ behind_entries es (resume program callers r)
resume_behind program [] es r = refl
resume_behind program (caller ∷ callers) es r =
    ap (λ (x : Run). run_answer program (running program) caller x) (resume_behind program callers es r) ∙ answer_behind program (running program) caller es (resume program callers r)

resume_push : (program : Program) (callers : List Activation) (caller : Activation) (r : Run) → resume program (callers ++ caller ∷ []) r ≡ resume program callers (run_answer program (running program) caller r)
resume_push program [] caller r = refl
resume_push program (c ∷ callers) caller r = ap (λ (x : Run). run_answer program (running program) c x) (resume_push program callers caller r)

resume_stack : (program : Program) (callers : List Activation) (es : List ℕ) → resume program callers (NoStack es) ≡ NoStack es
resume_stack program [] es = refl
resume_stack program (c ∷ callers) es = ap (λ (x : Run). run_answer program (running program) c x) (resume_stack program callers es)

resume_units : (program : Program) (callers : List Activation) (es : List ℕ) → resume program callers (NoUnits es) ≡ NoUnits es
resume_units program [] es = refl
resume_units program (c ∷ callers) es = ap (λ (x : Run). run_answer program (running program) c x) (resume_units program callers es)

resume_meaning : (program : Program) (callers : List Activation) (es : List ℕ) → resume program callers (NoMeaning es) ≡ NoMeaning es
resume_meaning program [] es = refl
resume_meaning program (c ∷ callers) es = ap (λ (x : Run). run_answer program (running program) c x) (resume_meaning program callers es)

chain_push : (program : Program) (callers : List Activation) (caller : Activation) (symbol : ℕ) → Chain program callers caller.symbol → Waiting program caller symbol → Chain program (callers ++ caller ∷ []) symbol
chain_push program [] caller symbol h w = (w, tt)
chain_push program (c ∷ []) caller symbol h w = (h.0, (w, tt))
chain_push program (c ∷ d ∷ callers) caller symbol h w = (h.0, chain_push program (d ∷ callers) caller symbol h.1 w)

chain_pop : (program : Program) (callers : List Activation) (caller : Activation) (symbol : ℕ) → Chain program (callers ++ caller ∷ []) symbol → Waiting program caller symbol × Chain program callers caller.symbol
chain_pop program [] caller symbol h = (h.0, tt)
chain_pop program (c ∷ []) caller symbol h = (h.1.0, (h.0, tt))
chain_pop program (c ∷ d ∷ callers) caller symbol h = let more = chain_pop program (d ∷ callers) caller symbol h.1 in (more.0, (h.0, more.1))

none_counted : (counts : List ℕ) → Counted [] counts counts
none_counted counts = record { long = refl; each = λ k below. nothing_more (slice_index counts k) }
  where
    nothing_more : (n : ℕ) → n ≡ n + 0
    nothing_more n = omega arith

running_short : (program : Program) (left : ℕ) (now : Activation) (memory : Memory) → nat_lt left (step program now memory).units ≡ true → running program left now memory ≡ NoUnits []
running_short program zero now memory t = refl
running_short program (suc n) now memory t = unpaid program (run_on program n) (suc n) now memory (step program now memory) t

no_count : (counts : List ℕ) (k : ℕ) → length counts ≤ k → slice_index counts k ≡ 0
no_count [] k h = refl
no_count (c ∷ cs) zero h = absurd (omega arith)
no_count (c ∷ cs) (suc k) h = no_count cs k (omega arith)

once : (k symbol : ℕ) → times k (symbol ∷ []) ≤ 1
once k symbol = by_test (symbol == k)
  where
    by_test : (b : Bool) → 0 + cond b 1 0 ≤ 1
    by_test true = omega arith
    by_test false = omega arith

-- ---- a turn of the run

module _ (program : Program) (typed : IsTyped program) (s : State) (ready : IsReady program s) where
  abbrev one : Step
  one = step program s.now s.memory

  -- what the run comes to behind a turn that is paid for
  run_on_paid : one.units ≤ s.left → rest program s ≡ resume program s.callers (run_after program (running program) (s.left - one.units) s.now s.memory one.does)
  run_on_paid enough = ap (λ (r : Run). resume program s.callers r) (running-paid program s.left s.now s.memory enough)

  pub short_ends : Short ≡ turn_of s.left s.now s.memory one → (added : List ℕ) × EndsWith program s NotEnded s.counts added
  short_ends e =
      let short = was_short s.left s.now s.memory one e in (
        [],
        record {
          end' = ap (λ (r : Run). resume program s.callers r) (running_short program s.left s.now s.memory short) ∙ resume_units program s.callers [];
          counts' = none_counted s.counts;
        },
      )

  abbrev after_turn : ℕ → Does → Run
  after_turn left does = resume program s.callers (run_after program (running program) left s.now s.memory does)

  -- a turn that was paid for, in words of what it leads to
  turned : (left' : ℕ) (to : Came) → WasPaid left' to s.left s.now s.memory one → (does : Does) → one.does ≡ does → rest program s ≡ after_turn left' does
  turned left' to paid does e = run_on_paid paid.enough ∙ ap (λ (l : ℕ). after_turn l one.does) (sym paid.left_is) ∙ ap (λ (d : Does). after_turn left' d) e

  fewer_left : (left' : ℕ) (to : Came) → WasPaid left' to s.left s.now s.memory one → left' < s.left
  fewer_left left' to paid =
      let cost : 1 ≤ one.units = step-costs program s.now s.memory in
      let enough = paid.enough in let is = paid.left_is in omega (arith, cost, enough, is)

  few_on : (left' : ℕ) → left' ≤ s.left → (k : ℕ) → slice_index s.counts k + left' ≤ 2 ^ 32
  few_on left' below k = let few = ready.few k in omega (arith, few, below)

  pub full_ends : (left' : ℕ) → Paid left' Full ≡ turn_of s.left s.now s.memory one → (added : List ℕ) × EndsWith program s Stack s.counts added
  full_ends left' e =
      let paid = was_paid left' Full s.left s.now s.memory one e in
      let is = full_is s.now s.memory one.does paid.to_is in
      ([], record { end' = turned left' Full paid Overflows is ∙ resume_stack program s.callers []; counts' = none_counted s.counts })

  pub breaks_ends : (left' : ℕ) → Paid left' Nowhere ≡ turn_of s.left s.now s.memory one → (added : List ℕ) × EndsWith program s Undefined s.counts added
  breaks_ends left' e =
      let paid = was_paid left' Nowhere s.left s.now s.memory one e in
      let is = nowhere_is s.now s.memory one.does paid.to_is in
      ([], record { end' = turned left' Nowhere paid Breaks is ∙ resume_meaning program s.callers []; counts' = none_counted s.counts })

  pub goes_on : (left' : ℕ) (next : Activation) (after : Memory) → Paid left' (Onward next after) ≡ turn_of s.left s.now s.memory one
      → (added : List ℕ) × Led program s (record { now = next; callers = s.callers; memory = after; counts = s.counts; left = left' }) added
  goes_on left' next after e =
      let paid = was_paid left' (Onward next after) s.left s.now s.memory one e in
      let is = onward_is next after s.now s.memory one.does paid.to_is in
      let kept = goes program typed s.now s.memory ready.fitting ready.bytes ready.room next after is in
      let fewer = fewer_left left' (Onward next after) paid in (
        [],
        record {
          same = turned left' (Onward next after) paid (Goes next after) is ∙ sym (behind_nil (resume program s.callers (running program left' next after)));
          counts = none_counted s.counts;
          fewer = fewer;
          ready = record {
            fitting = kept.fitting';
            chain = subst (Chain program s.callers) (sym kept.symbol) ready.chain;
            bytes = kept.bytes';
            room = kept.room';
            few = few_on left' (omega (arith, fewer));
          };
        },
      )

  -- ---- calls

  few_counted : (symbol : ℕ) (counts' : List ℕ) (left' left'' : ℕ) → Counted (symbol ∷ []) s.counts counts' → left' ≤ s.left → 2 ≤ left' → left'' ≡ left' - 2 → (k : ℕ) → slice_index counts' k + left'' ≤ 2 ^ 32
  few_counted symbol counts' left' left'' counted below two is k = by_place (nat_lt k (length s.counts)) refl
    where
      by_place : (b : Bool) → nat_lt k (length s.counts) ≡ b → slice_index counts' k + left'' ≤ 2 ^ 32
      by_place true t =
          let there : k < length s.counts = grind (arith, t) in
          let few = ready.few k in let each = counted.each k there in let one_more = once k symbol in omega (arith, few, each, below, two, is, one_more)
      by_place false t =
          let past : length s.counts ≤ k = ltb-false _ _ t in
          let long = counted.long in
          let none : slice_index counts' k ≡ 0 = no_count counts' k (omega (arith, past, long)) in
          let few = ready.few k in omega (arith, few, none, below, two, is)

  called : (left' g : ℕ) (given : List Value) (next : Activation) (after : Memory) → (paid : WasPaid left' (Inward g given next after) s.left s.now s.memory one)
      → rest program s ≡ resume program s.callers (run_answer program (running program) next (run_call program (running program) left' g given after next.sp))
  called left' g given next after paid =
      let is = inward_is g given next after s.now s.memory one.does paid.to_is in
      turned left' (Inward g given next after) paid (Calls g given) is.0
      ∙ ap (λ (n : Activation). resume program s.callers (run_answer program (running program) n (run_call program (running program) left' g given s.memory n.sp))) (sym is.1)
      ∙ ap (λ (m : Memory). resume program s.callers (run_answer program (running program) next (run_call program (running program) left' g given m next.sp))) (sym is.2)

  entered : (left' g : ℕ) (given : List Value) (after : Memory) (sp : ℕ) (e : Entry) → 2 ≤ left' → entry program g given after sp ≡ e
      → run_call program (running program) left' g given after sp ≡ run_entry (running program) (left' - 2) g after e
  entered left' g given after sp e two is =
      call-paid program (running program) left' g given after sp (le-ltb _ _ two) ∙ ap (λ (x : Entry). run_entry (running program) (left' - 2) g after x) is

  pub call_on : (left' left'' g : ℕ) (given : List Value) (next first : Activation) (after : Memory) (counts' : List ℕ) → Paid left' (Inward g given next after) ≡ turn_of s.left s.now s.memory one
      → Enters program g given after next.sp left' (Opened first) left'' → Counted (g ∷ []) s.counts counts'
      → (added : List ℕ) × Led program s (record { now = first; callers = s.callers ++ next ∷ []; memory = after; counts = counts'; left = left'' }) added
  call_on left' left'' g given next first after counts' e enters counted =
      let paid = was_paid left' (Inward g given next after) s.left s.now s.memory one e in
      let is = inward_is g given next after s.now s.memory one.does paid.to_is in
      let kept = calls program typed s.now s.memory ready.fitting ready.bytes ready.room g given is.0 in
      let opened = opened_fits program g given after next.sp first kept.args enters.2 in
      let fewer = fewer_left left' (Inward g given next after) paid in
      let two = enters.0 in let left_is = enters.1 in
      let run : run_call program (running program) left' g given after next.sp ≡ behind_entries (g ∷ []) (running program left'' first after) =
      entered left' g given after next.sp (Opens first) two enters.2 ∙ ap (λ (l : ℕ). behind_entries (g ∷ []) (running program l first after)) (sym left_is) in (
        g ∷ [],
        record {
          same =
              called left' g given next after paid
              ∙ ap (λ (r : Run). resume program s.callers (run_answer program (running program) next r)) run
              ∙ sym (resume_push program s.callers next (behind_entries (g ∷ []) (running program left'' first after)))
              ∙ resume_behind program (s.callers ++ next ∷ []) (g ∷ []) (running program left'' first after);
          counts = counted;
          fewer = omega (arith, fewer, two, left_is);
          ready = record {
            fitting = opened.fitting;
            chain = subst (Chain program (s.callers ++ next ∷ [])) (sym opened.symbol')
                (subst (λ (n : Activation). Chain program (s.callers ++ n ∷ []) g) (sym is.1) (chain_push program s.callers s.now g ready.chain kept.waits));
            bytes = subst IsMemory (sym is.2) ready.bytes;
            room = subst (λ (m : Memory). length m ≤ program.room) (sym is.2) ready.room;
            few = few_counted g counts' left' left'' counted (omega (arith, fewer)) two left_is;
          };
        },
      )

  answered_stack : (next : Activation) (g : ℕ) → resume program s.callers (run_answer program (running program) next (NoStack (g ∷ []))) ≡ NoStack (g ∷ [])
  answered_stack next g = resume_stack program s.callers (g ∷ [])

  pub call_ends : (left' left'' g : ℕ) (given : List Value) (next : Activation) (after : Memory) (counts' : List ℕ) (end : End) → Paid left' (Inward g given next after) ≡ turn_of s.left s.now s.memory one
      → Enters program g given after next.sp left' (Ended end) left'' → Counted (g ∷ []) s.counts counts' → (added : List ℕ) × EndsWith program s end counts' added
  call_ends left' left'' g given next after counts' (Answer value) e enters counted = absurd enters
  call_ends left' left'' g given next after counts' Stack e enters counted =
      let paid = was_paid left' (Inward g given next after) s.left s.now s.memory one e in (
        g ∷ [],
        record {
          end' =
              called left' g given next after paid
              ∙ ap (λ (r : Run). resume program s.callers (run_answer program (running program) next r)) (entered left' g given after next.sp TooDeep enters.0 enters.1)
              ∙ resume_stack program s.callers (g ∷ []);
          counts' = counted;
        },
      )
  call_ends left' left'' g given next after counts' NotEnded e enters counted =
      let paid = was_paid left' (Inward g given next after) s.left s.now s.memory one e in (
        g ∷ [],
        record {
          end' =
              called left' g given next after paid
              ∙ ap (λ (r : Run). resume program s.callers (run_answer program (running program) next r)) (call-unpaid program (running program) left' g given after next.sp (lt-ltb _ _ enters))
              ∙ resume_units program s.callers (g ∷ []);
          counts' = counted;
        },
      )
  call_ends left' left'' g given next after counts' Undefined e enters counted =
      let paid = was_paid left' (Inward g given next after) s.left s.now s.memory one e in (
        g ∷ [],
        record {
          end' =
              called left' g given next after paid
              ∙ ap (λ (r : Run). resume program s.callers (run_answer program (running program) next r)) (entered left' g given after next.sp NoFunction enters.0 enters.1)
              ∙ resume_meaning program s.callers (g ∷ []);
          counts' = counted;
        },
      )

  -- ---- returns

  pub return_ends : (left' : ℕ) (value : Value) (after : Memory) → Paid left' (Outward value after) ≡ turn_of s.left s.now s.memory one → s.callers ≡ []
      → (added : List ℕ) × EndsWith program s (Answer value) s.counts added
  return_ends left' value after e none =
      let paid = was_paid left' (Outward value after) s.left s.now s.memory one e in
      let is = outward_is value after s.now s.memory one.does paid.to_is in (
        [],
        record {
          end' = (after, (left', turned left' (Outward value after) paid (Returns value after) is ∙ ap (λ (cs : List Activation). resume program cs (Ends value after left' [])) none));
          counts' = none_counted s.counts;
        },
      )

  pub return_on : (left' : ℕ) (value : Value) (after : Memory) (caller : Activation) (callers' : List Activation) → Paid left' (Outward value after) ≡ turn_of s.left s.now s.memory one
      → s.callers ≡ callers' ++ caller ∷ []
      → (added : List ℕ) × Led program s (record { now = answered program caller value; callers = callers'; memory = after; counts = s.counts; left = left' }) added
  return_on left' value after caller callers' e split =
      let paid = was_paid left' (Outward value after) s.left s.now s.memory one e in
      let is = outward_is value after s.now s.memory one.does paid.to_is in
      let kept = returns program typed s.now s.memory ready.fitting ready.bytes ready.room value after is in
      let fewer = fewer_left left' (Outward value after) paid in
      let links = chain_pop program callers' caller s.now.symbol (subst (λ (cs : List Activation). Chain program cs s.now.symbol) split ready.chain) in (
        [],
        record {
          same =
              turned left' (Outward value after) paid (Returns value after) is
              ∙ ap (λ (cs : List Activation). resume program cs (Ends value after left' [])) split
              ∙ resume_push program callers' caller (Ends value after left' [])
              ∙ resume_behind program callers' [] (running program left' (answered program caller value) after);
          counts = none_counted s.counts;
          fewer = fewer;
          ready = record {
            fitting = links.0 value kept.result;
            chain = subst (Chain program callers') (sym (answered-stays program caller value).symbol) links.1;
            bytes = kept.bytes';
            room = kept.room';
            few = few_on left' (omega (arith, fewer));
          };
        },
      )

-- ---- from turn to turn

times_both : (k : ℕ) (a b : List ℕ) → times k (a ++ b) ≡ times k a + times k b
times_both k a b = sum_by-append (λ m. cond (m == k) 1 0) a b

counted_on : (a b x y z : List ℕ) → Counted a x y → Counted b y z → Counted (a ++ b) x z
counted_on a b x y z f g = record {
  long = g.long ∙ f.long;
  each = λ k below.
      let long = f.long in
      let one = f.each k below in let two = g.each k (omega (arith, below, long)) in let both = times_both k a b in omega (arith, one, two, both);
}

pub begins : (program : Program) (s : State) → IsReady program s → (added : List ℕ) × Going program s s added
begins program s ready = ([], record { same = sym (behind_nil (rest program s)); counts = none_counted s.counts; ready = ready })

pub led_on : (program : Program) (first now next : State) → (added : List ℕ) × Going program first now added → (added : List ℕ) × Led program now next added → (added : List ℕ) × Going program first next added
led_on program first now next g l = (
  g.0 ++ l.0,
  record {
    same = g.1.same ∙ ap (λ (r : Run). behind_entries g.0 r) l.1.same ∙ sym (behind_behind g.0 l.0 (rest program next));
    counts = counted_on g.0 l.0 first.counts now.counts next.counts g.1.counts l.1.counts;
    ready = l.1.ready;
  },
)

behind_end : (end : End) (a b : List ℕ) (r : Run) → HasEnd end b r → HasEnd end (a ++ b) (behind_entries a r)
behind_end (Answer value) a b r h = (h.0, (h.1.0, ap (λ (x : Run). behind_entries a x) h.1.1))
behind_end Stack a b r h = ap (λ (x : Run). behind_entries a x) h
behind_end NotEnded a b r h = ap (λ (x : Run). behind_entries a x) h
behind_end Undefined a b r h = ap (λ (x : Run). behind_entries a x) h

pub ends_on : (program : Program) (first now : State) (end : End) (counts : List ℕ) → (added : List ℕ) × Going program first now added → (added : List ℕ) × EndsWith program now end counts added
    → (added : List ℕ) × EndsWith program first end counts added
ends_on program first now end counts g l = (
  g.0 ++ l.0,
  record {
    end' = subst (HasEnd end (g.0 ++ l.0)) (sym g.1.same) (behind_end end g.0 l.0 (rest program now) l.1.end');
    counts' = counted_on g.0 l.0 first.counts now.counts counts g.1.counts l.1.counts';
  },
)

-- ---- a whole run

abbrev first_state : Activation → Memory → List ℕ → ℕ → State
first_state first memory counts left = record { now = first; callers = []; memory = memory; counts = counts; left = left }

abbrev no_counts : ℕ → List ℕ
no_counts n = replicate n 0

replicated : (n : ℕ) → length (no_counts n) ≡ n
replicated zero = refl
replicated (suc n) = ap suc (replicated n)

zero_at : (n k : ℕ) → slice_index (replicate n 0) k ≡ 0
zero_at zero k = refl
zero_at (suc n) zero = refl
zero_at (suc n) (suc k) = zero_at n k

get_at : (xs : List ℕ) (k : ℕ) → k < length xs → slice_get xs k ≡ Some (slice_index xs k)
get_at [] k h = absurd (omega arith)
get_at (x ∷ xs) zero h = refl
get_at (x ∷ xs) (suc k) h = get_at xs k (omega arith)

pub are_counts : (n : ℕ) (entered counts : List ℕ) → Counted entered (replicate n 0) counts → AreCounts n entered counts
are_counts n entered counts h =
    let long : length counts ≡ n = h.long ∙ replicated n in
    record {
      long = long;
      each = λ k below.
          let inside : k < length counts = omega (arith, below, long) in
          let zero_is = zero_at n k in
          let same : slice_index counts k ≡ slice_index (replicate n 0) k + times k entered = h.each k (let l = replicated n in omega (arith, below, l)) in
          get_at counts k inside ∙ ap (λ (m : ℕ). Some m) (let total : slice_index counts k ≡ times k entered = omega (arith, same, zero_is) in total);
    }

module _ (program : Program) (symbol turns : ℕ) (given : List Value) (memory : Memory) (high : turns ≤ 2 ^ 32) (n : ℕ) where
  abbrev whole : Run
  whole = run program symbol given memory stack_end turns

  whole_is : whole ≡ run_call program (running program) turns symbol given memory stack_end
  whole_is = run-running program symbol given memory stack_end turns

  opens : (e : Entry) → 2 ≤ turns → entry program symbol given memory stack_end ≡ e → whole ≡ run_entry (running program) (turns - 2) symbol memory e
  opens e two is = whole_is ∙ call-paid program (running program) turns symbol given memory stack_end (le-ltb _ _ two) ∙ ap (λ (x : Entry). run_entry (running program) (turns - 2) symbol memory x) is

  pub starts_ended : (end : End) (left : ℕ) (counts : List ℕ) → Enters program symbol given memory stack_end turns (Ended end) left → Counted (symbol ∷ []) (replicate n 0) counts
      → (entered : List ℕ) × (HasEnd end entered whole × AreCounts n entered counts)
  starts_ended (Answer value) left counts enters counted = absurd enters
  starts_ended Stack left counts enters counted = (symbol ∷ [], (opens TooDeep enters.0 enters.1, are_counts n (symbol ∷ []) counts counted))
  starts_ended NotEnded left counts enters counted =
      (symbol ∷ [], (whole_is ∙ call-unpaid program (running program) turns symbol given memory stack_end (lt-ltb _ _ enters), are_counts n (symbol ∷ []) counts counted))
  starts_ended Undefined left counts enters counted = (symbol ∷ [], (opens NoFunction enters.0 enters.1, are_counts n (symbol ∷ []) counts counted))

  pub starts_ready : (first : Activation) (left : ℕ) (counts : List ℕ) → Enters program symbol given memory stack_end turns (Opened first) left → Counted (symbol ∷ []) (replicate n 0) counts
      → AreArgs ((meaning program).parameters symbol) given → IsMemory memory → length memory ≤ program.room → IsReady program (first_state first memory counts left)
  starts_ready first left counts enters counted args bytes room =
      let opened = opened_fits program symbol given memory stack_end first args enters.2 in
      record {
        fitting = opened.fitting;
        chain = tt;
        bytes = bytes;
        room = room;
        few = λ k. by_place k (nat_lt k n) refl;
      }
    where
      by_place : (k : ℕ) (b : Bool) → nat_lt k n ≡ b → slice_index counts k + left ≤ 2 ^ 32
      by_place k true t =
          let below : k < n = grind (arith, t) in
          let l = replicated n in
          let each = counted.each k (omega (arith, below, l)) in let zero_is = zero_at n k in let one_more = once k symbol in
          let two = enters.0 in let left_is = enters.1 in omega (arith, each, zero_is, one_more, two, left_is, high)
      by_place k false t =
          let past : n ≤ k = ltb-false _ _ t in
          let l = replicated n in let long = counted.long in
          let none : slice_index counts k ≡ 0 = no_count counts k (omega (arith, past, long, l)) in
          let two = enters.0 in let left_is = enters.1 in omega (arith, none, two, left_is, high)

  pub starts_on : (first : Activation) (left : ℕ) (counts counts' : List ℕ) (end : End) → Enters program symbol given memory stack_end turns (Opened first) left → Counted (symbol ∷ []) (replicate n 0) counts
      → (added : List ℕ) × EndsWith program (first_state first memory counts left) end counts' added
      → (entered : List ℕ) × (HasEnd end entered whole × AreCounts n entered counts')
  starts_on first left counts counts' end enters counted ends =
      let run_is : whole ≡ behind_entries (symbol ∷ []) (running program left first memory) =
      opens (Opens first) enters.0 enters.2 ∙ ap (λ (l : ℕ). behind_entries (symbol ∷ []) (running program l first memory)) (sym enters.1) in (
        symbol ∷ ends.0,
        (
          subst (HasEnd end (symbol ∷ ends.0)) (sym run_is) (behind_end end (symbol ∷ []) ends.0 (running program left first memory) ends.1.end'),
          are_counts n (symbol ∷ ends.0) counts' (counted_on (symbol ∷ []) ends.0 (replicate n 0) counts counts' counted ends.1.counts'),
        ),
      )

-- ---- what an evaluation says

pub outcome_is : (ty : Ty) (end : End) (entered : List ℕ) (r : Run) → HasEnd end entered r → (evaluation_of ty r).outcome ≡ end_outcome ty end
outcome_is ty (Answer value) entered r h = ap (λ (x : Run). (evaluation_of ty x).outcome) h.1.1
outcome_is ty Stack entered r h = ap (λ (x : Run). (evaluation_of ty x).outcome) h
outcome_is ty NotEnded entered r h = ap (λ (x : Run). (evaluation_of ty x).outcome) h
outcome_is ty Undefined entered r h = ap (λ (x : Run). (evaluation_of ty x).outcome) h

pub entered_is : (ty : Ty) (end : End) (entered : List ℕ) (r : Run) → HasEnd end entered r → (evaluation_of ty r).entered ≡ entered
entered_is ty (Answer value) entered r h = ap (λ (x : Run). (evaluation_of ty x).entered) h.1.1
entered_is ty Stack entered r h = ap (λ (x : Run). (evaluation_of ty x).entered) h
entered_is ty NotEnded entered r h = ap (λ (x : Run). (evaluation_of ty x).entered) h
entered_is ty Undefined entered r h = ap (λ (x : Run). (evaluation_of ty x).entered) h

module _ (program : Program) (all : Module) (room : ℕ) (call : ListedCall) (module_is : all ≡ program.module_) (room_is : room ≡ program.room) where
  abbrev pub Finishes : Program → End → List ℕ → Type 0
  Finishes p end counts =
      (entered : List ℕ) × (HasEnd end entered (run p call.symbol (map Some call.args) (first_memory p.module_.globals) stack_end call.turns)
      × AreCounts (length p.module_.functions) entered counts)

  same_program : program_with all room ≡ program
  same_program = ap (λ (m : Module). program_with m room) module_is ∙ ap (λ (r : ℕ). program_with program.module_ r) room_is

  pub finished : (end : End) (counts : List ℕ) → Finishes (program_with all room) end counts → Finishes program end counts
  finished end counts h = subst (λ (p : Program). Finishes p end counts) same_program h

  pub outcome_of_end : (end : End) (counts : List ℕ) → Finishes (program_with all room) end counts → (eval_call program call call.turns).outcome ≡ end_outcome (result_type (function_at program call.symbol)) end
  outcome_of_end end counts h = let f = finished end counts h in outcome_is (result_type (function_at program call.symbol)) end f.0 _ f.1.0

  pub entries_of_end : (end : End) (counts : List ℕ) → Finishes (program_with all room) end counts → AreCounts (length program.module_.functions) (eval_call program call call.turns).entered counts
  entries_of_end end counts h =
      let f = finished end counts h in
      subst (λ (es : List ℕ). AreCounts (length program.module_.functions) es counts) (sym (entered_is (result_type (function_at program call.symbol)) end f.0 _ f.1.0)) f.1.1
