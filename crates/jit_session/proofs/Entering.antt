-- A run that ends enters at most as many symbols as it is given units.
use Rattle.std.specs.Prelude.{◌≡◌, ℕ, zero, suc, ◌+◌, ◌-◌, ◌≤◌, ◌==◌, if◌then◌else◌, Bool, true, false, nat_lt, List, [], ◌∷◌, ◌++◌, length, refl}
use Rattle.std.proofs.Common.{length-append, arith}
use Rattle.std.proofs.lemmas.Bool.Decides.{nat_tests}
use Rattle.ir_core.specs.Program.{Program}
use Rattle.ir_core.specs.declared.types.Ty.{Ty}
use Rattle.ir_meaning.specs.Value.{Value}
use Rattle.ir_meaning.specs.Memory.{Memory}
use Rattle.ir_meaning.specs.Image.{first_memory}
use Rattle.ir_meaning.specs.declared.activation.Activation.{Activation}
use Rattle.ir_meaning.specs.Step.{Does, Goes, Calls, Returns, Overflows, Breaks, Step, step, answered, Entry, Opens, TooDeep, NoFunction, entry, entry_units, function_at, stack_end}
use Rattle.ir_meaning.specs.Eval.{Run, Ends, NoStack, NoUnits, NoMeaning, behind_entries, RunOn, run_entry, run_call, run_answer, run_after, run_step, run_on, run, evaluation_of, result_type, eval_call}
use Rattle.ir_meaning.specs.declared.calls.ListedCall.{ListedCall}
use Rattle.ir_meaning.proofs.Runs.{unpaid, paid, call-unpaid, call-paid}
use Rattle.rv_play.specs.ListedCalls.{IsResult}
use Rattle.std.specs.Prelude.{map, Some}
use Rattle.entry_counts.specs.Tally.{times}

-- what a run that ends enters and leaves is at most so much
abbrev EntersAtMost : ℕ → Run → Type 0
EntersAtMost most (Ends value memory left entered) = length entered + left ≤ most
EntersAtMost most (NoStack entered) = length entered ≤ most
EntersAtMost most (NoUnits entered) = Unit {0}
EntersAtMost most (NoMeaning entered) = Unit {0}

enters-more : (most more : ℕ) (r : Run) → most ≤ more → EntersAtMost most r → EntersAtMost more r
enters-more most more (Ends value memory left entered) le h = omega arith
enters-more most more (NoStack entered) le h = omega arith
enters-more most more (NoUnits entered) le h = tt
enters-more most more (NoMeaning entered) le h = tt

enters-behind : (most more : ℕ) (earlier : List ℕ) (r : Run) → length earlier + most ≤ more → EntersAtMost most r → EntersAtMost more (behind_entries earlier r)
enters-behind most more earlier (Ends value memory left entered) le h = let both = length-append earlier entered in omega arith
enters-behind most more earlier (NoStack entered) le h = let both = length-append earlier entered in omega arith
enters-behind most more earlier (NoUnits entered) le h = tt
enters-behind most more earlier (NoMeaning entered) le h = tt

-- a way to run on that pays for its entries
abbrev Pays : RunOn → Type 0
Pays on = (left : ℕ) (now : Activation) (memory : Memory) → EntersAtMost left (on left now memory)

entry-enters : (on : RunOn) (left symbol : ℕ) (memory : Memory) (e : Entry) → Pays on → EntersAtMost (left + 1) (run_entry on left symbol memory e)
entry-enters on left symbol memory (Opens first) h = enters-behind left (left + 1) (symbol ∷ []) (on left first memory) (omega arith) (h left first memory)
entry-enters on left symbol memory TooDeep h = omega arith
entry-enters on left symbol memory NoFunction h = tt

is-paid : (left units : ℕ) → nat_lt left units ≡ false → units ≤ left
is-paid left units e = grind (arith, nat_tests)

call-enters : (program : Program) (on : RunOn) (left symbol : ℕ) (arguments : List Value) (memory : Memory) (sp : ℕ)
    → Pays on → EntersAtMost left (run_call program on left symbol arguments memory sp)
call-enters program on left symbol arguments memory sp h = by_test (nat_lt left entry_units) refl
  where
    by_test : (short : Bool) → nat_lt left entry_units ≡ short → EntersAtMost left (run_call program on left symbol arguments memory sp)
    by_test true e = rw (call-unpaid program on left symbol arguments memory sp e) tt
    by_test false e =
        let enough = is-paid left entry_units e in
        rw (call-paid program on left symbol arguments memory sp e)
        (enters-more (left - entry_units + 1) left (run_entry on (left - entry_units) symbol memory (entry program symbol arguments memory sp)) (omega arith)
        (entry-enters on (left - entry_units) symbol memory (entry program symbol arguments memory sp) h))

answer-enters : (program : Program) (on : RunOn) (most : ℕ) (now : Activation) (r : Run)
    → Pays on → EntersAtMost most r → EntersAtMost most (run_answer program on now r)
answer-enters program on most now (Ends value memory left entered) h k =
    enters-behind left most entered (on left (answered program now value) memory) k (h left (answered program now value) memory)
answer-enters program on most now (NoStack entered) h k = k
answer-enters program on most now (NoUnits entered) h k = tt
answer-enters program on most now (NoMeaning entered) h k = tt

after-enters : (program : Program) (on : RunOn) (left : ℕ) (now : Activation) (memory : Memory) (does : Does)
    → Pays on → EntersAtMost left (run_after program on left now memory does)
after-enters program on left now memory (Goes next after) h = h left next after
after-enters program on left now memory (Calls callee arguments) h =
    answer-enters program on left now (run_call program on left callee arguments memory now.sp) h
    (call-enters program on left callee arguments memory now.sp h)
after-enters program on left now memory (Returns value after) h = omega arith
after-enters program on left now memory Overflows h = omega arith
after-enters program on left now memory Breaks h = tt

step-enters : (program : Program) (on : RunOn) (left : ℕ) (now : Activation) (memory : Memory) (one : Step)
    → Pays on → EntersAtMost left (run_step program on left now memory one)
step-enters program on left now memory one h = by_test (nat_lt left one.units) refl
  where
    by_test : (short : Bool) → nat_lt left one.units ≡ short → EntersAtMost left (run_step program on left now memory one)
    by_test true e = rw (unpaid program on left now memory one e) tt
    by_test false e =
        rw (paid program on left now memory one e)
        (enters-more (left - one.units) left (run_after program on (left - one.units) now memory one.does) (omega arith)
        (after-enters program on (left - one.units) now memory one.does h))

pays : (program : Program) (n : ℕ) → Pays (run_on program n)
pays program zero left now memory = tt
pays program (suc n) left now memory = step-enters program (run_on program n) left now memory (step program now memory) (pays program n)

evaluation-enters : (ty : Ty) (most : ℕ) (r : Run) → EntersAtMost most r → IsResult (evaluation_of ty r).outcome → length (evaluation_of ty r).entered ≤ most
evaluation-enters ty most (Ends value memory left entered) h is = omega arith
evaluation-enters ty most (NoStack entered) h is = h
evaluation-enters ty most (NoUnits entered) h is = absurd is
evaluation-enters ty most (NoMeaning entered) h is = absurd is

-- an evaluation that ends enters at most as many symbols as it has turns
pub few_entered : (program : Program) (call : ListedCall) → IsResult (eval_call program call call.turns).outcome → length (eval_call program call call.turns).entered ≤ call.turns
few_entered program call is =
    let memory : Memory = first_memory program.module_.globals in
    evaluation-enters (result_type (function_at program call.symbol)) call.turns (run program call.symbol (map Some call.args) memory stack_end call.turns)
    (call-enters program (run_on program call.turns) call.turns call.symbol (map Some call.args) memory stack_end (pays program call.turns)) is

one-few : (b : Bool) → (if b then 1 else 0) ≤ 1
one-few true = omega arith
one-few false = omega arith

-- a symbol stands in a list at most as often as there are places
pub times_few : (k : ℕ) (l : List ℕ) → times k l ≤ length l
times_few k [] = omega arith
times_few k (x ∷ l) = let one = one-few (x == k) in let rest = times_few k l in omega arith
