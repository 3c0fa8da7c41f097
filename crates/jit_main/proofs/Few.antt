-- A list of calls that was read has at most 65,536.
use Rattle.std.proofs.Common.{◌≡◌, ℕ, ◌+◌, ◌≤◌, List, [], ◌∷◌, length, take, Bool, true, false, Result, Ok, Err, refl, sym, subst, ◌∙◌, arith}
use Rattle.std.proofs.lemmas.Bool.{leb-true}
use Rattle.std.specs.Prelude.{nat_le, if◌then◌else◌, IfOk}
use Rattle.ir_core.specs.declared.program.Module.{Module}
use Rattle.ir_core.specs.declared.program.Function.{Function}
use Rattle.ir_core.specs.declared.program.Global.{Global}
use Rattle.ir_meaning.specs.declared.calls.ListedCall.{ListedCall}
use Rattle.jit_calls.specs.declared.lists.CallsRefusal.{CallsRefusal}
use Rattle.jit_calls.specs.declared.lists.CallsRefusal.TheVariants.{Limit, Syntax}
use Rattle.jit_calls.specs.Lists.{few, and_then, all_lines, cut_lines, lines, with_line, with_lines, calls_of, most_bytes}

abbrev AtMost : Result (List ListedCall) CallsRefusal → Type 0
AtMost r = IfOk r (λ list. length list ≤ 65536)

few-test : (b : Bool) (list : List ListedCall) → b ≡ nat_le (length list) 65536 → AtMost (if b then Ok list else Err (Limit (length list)))
few-test true list test = leb-true (length list) 65536 (sym test)
few-test false list test = tt

few-few : (list : List ListedCall) → AtMost (few list)
few-few list = few-test (nat_le (length list) 65536) list refl

then-few : (r : Result (List ListedCall) CallsRefusal) (k : List ListedCall → Result (List ListedCall) CallsRefusal) → ((list : List ListedCall) → AtMost (k list)) → AtMost (and_then r k)
then-few (Ok list) k each = each list
then-few (Err refusal) k each = tt

all-few : (functions : List Function) (globals : List Global) (text : List (List ℕ) × List ℕ) → AtMost (all_lines functions globals text)
all-few functions globals text =
    then-few (with_lines functions globals 1 [] text.0) (λ list. and_then (with_line functions globals (1 + length text.0) list text.1) few)
    (λ list. then-few (with_line functions globals (1 + length text.0) list text.1) few few-few)

cut-few : (functions : List Function) (globals : List Global) (text : List (List ℕ) × List ℕ) → AtMost (cut_lines functions globals text)
cut-few functions globals text = then-few (with_lines functions globals 1 [] text.0) (λ list. Err (Syntax (1 + length text.0))) (λ list. tt)

by-length : (b : Bool) (module_ : Module) (text : List ℕ)
    → AtMost (if b then all_lines module_.functions module_.globals (lines text) else cut_lines module_.functions module_.globals (lines (take most_bytes text)))
by-length true module_ text = all-few module_.functions module_.globals (lines text)
by-length false module_ text = cut-few module_.functions module_.globals (lines (take most_bytes text))

pub few_calls : (module_ : Module) (text : List ℕ) (list : List ListedCall) → calls_of module_ text ≡ Ok list → length list ≤ 65536
few_calls module_ text list is = subst AtMost is (by-length (nat_le (length text) most_bytes) module_ text)
