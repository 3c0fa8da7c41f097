-- Calls that were read can be evaluated, one after another.
use Rattle.std.proofs.Common.{◌≡◌, refl, ℕ, suc, ap, sym, ◌∙◌, take, drop, map, get_or, ◌+◌, ◌<◌, List, [], ◌∷◌, ◌++◌, length, arith}
use Rattle.std.proofs.lemmas.List.{map-append}
use Rattle.std.proofs.Math.Seq.{drop-cons, take-suc}
use Rattle.ir_core.specs.Program.{Program}
use Rattle.ir_meaning.specs.declared.calls.ListedCall.{ListedCall}
use Rattle.ir_meaning.specs.declared.calls.Outcome.{Outcome}
use Rattle.ir_eval.specs.Entries.{IsCall}
use Rattle.ir_core.specs.declared.program.Function.{Function}
use Rattle.jit_calls.specs.Listed.{IsListed, AllListed}
use Rattle.jit_main.specs.Evals.{outcome_of_call}

pub is_call : (program : Program) (call : ListedCall) → IsListed program.module_.functions call → IsCall program call
is_call program call listed = record { function = listed.function; found = listed.found; args = listed.args; low = listed.low; high = listed.high }

-- one outcome more
pub one_outcome : (program : Program) (calls : List ListedCall) (all : List Outcome) (i : ℕ) (call : ListedCall) (outcome : Outcome) → i < length calls → call ≡ get_or calls i call
    → all ≡ map (outcome_of_call program) (take i calls) → outcome ≡ outcome_of_call program call → all ++ outcome ∷ [] ≡ map (outcome_of_call program) (take (i + 1) calls)
one_outcome program calls all i call outcome below at so_far is =
    let k : i + 1 ≡ suc i = omega arith in
    let e : take (i + 1) calls ≡ take i calls ++ call ∷ [] = ap (λ (n : ℕ). take n calls) k ∙ take-suc calls i call below ∙ ap (λ (c : ListedCall). take i calls ++ c ∷ []) (sym at) in
    rw (e, so_far, is, map-append (outcome_of_call program) (take i calls) (call ∷ [])) refl

-- the next call is a listed one, and so are those behind it
pub next_listed : (functions : List Function) (calls : List ListedCall) (i : ℕ) (call : ListedCall) → i < length calls → call ≡ get_or calls i call
    → AllListed functions (drop i calls) → IsListed functions call × AllListed functions (drop (i + 1) calls)
next_listed functions calls i call below at all =
    let k : i + 1 ≡ suc i = omega arith in
    let e : drop i calls ≡ call ∷ drop (i + 1) calls = drop-cons calls i call below ∙ ap (λ (c : ListedCall). c ∷ drop (suc i) calls) (sym at) ∙ ap (λ (n : ℕ). call ∷ drop n calls) (sym k) in
    rw e at all
