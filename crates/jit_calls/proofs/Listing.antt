-- What is read of a list of calls are calls that can be made.
use Rattle.std.proofs.Common.{◌≡◌, ℕ, ◌+◌, ◌<◌, ◌≤◌, ◌^◌, Bool, true, false, cond, List, [], ◌∷◌, ◌++◌, length, take, map, Option, Some, None, Ok, Err, Result, refl, sym, ap, subst, ◌∙◌, ◌⊎◌, inl, inr, get_or, arith}
use Rattle.std.specs.Prelude.{◌&&◌, nat_lt, nat_le, slice_get}
use Rattle.std.proofs.lemmas.Option.{slice_get_cases}
use Rattle.std.proofs.lemmas.Bool.{ltb-true, and_parts}
use Rattle.ir_core.specs.declared.types.Ty.{Ty}
use Rattle.ir_core.specs.declared.types.TheConstants.{MAX_WIDTH}
use Rattle.ir_core.specs.declared.program.Function.{Function}
use Rattle.ir_core.specs.declared.program.Global.{Global}
use Rattle.ir_core.specs.declared.program.Module.{Module}
use Rattle.ir_meaning.specs.Operators.{width}
use Rattle.ir_meaning.specs.Ranges.{AreArgs}
use Rattle.ir_meaning.specs.declared.calls.ListedCall.{ListedCall}
use Rattle.jit_calls.specs.declared.line.Written.{Written}
use Rattle.jit_calls.specs.declared.line.LineFault.{LineFault}
use Rattle.jit_calls.specs.declared.lists.CallsRefusal.{CallsRefusal}
use Rattle.jit_calls.specs.Form.{whole}
use Rattle.jit_calls.specs.Names.{function_named}
use Rattle.jit_calls.specs.Line.{Argument, is_same, of_width, value_of_type, before, values_of, parameters, by_values, by_symbol, by_form, call, line_call, is_skipped}
use Rattle.jit_calls.specs.Lists.{with_call, with_line, with_lines, and_then, all_lines, cut_lines, few, lines, calls_of, most_bytes, most_calls}
use Rattle.jit_calls.specs.Listed.{IsListed, AllListed}
use Rattle.jit_calls.proofs.Given.{written-turns}
use Rattle.jit_calls.proofs.Places.{function-below}

below : (w v n : ℕ) (b : Bool) → (nat_le w MAX_WIDTH && nat_lt v (2 ^ w)) ≡ b → cond b (Some v) None ≡ Some n → n < 2 ^ w
below w v n true t e = let same : v ≡ n = cc in rw (← same) (ltb-true v (2 ^ w) (and_parts (nat_le w MAX_WIDTH) (nat_lt v (2 ^ w)) t).1)
below w v n false t e = absurd cc

of-width : (w : ℕ) (o : Option ℕ) (n : ℕ) → of_width w o ≡ Some n → n < 2 ^ w
of-width w None n e = absurd cc
of-width w (Some v) n e = below w v n (nat_le w MAX_WIDTH && nat_lt v (2 ^ w)) refl e

of-type : (ty : Ty) (one : Argument) (b : Bool) (n : ℕ) → cond b (of_width (width ty) one.1) None ≡ Some n → n < 2 ^ width ty
of-type ty one true n e = of-width (width ty) one.1 n e
of-type ty one false n e = absurd cc

are-before : (ty : Ty) (tys : List Ty) (value : Option ℕ) (more : Option (List ℕ)) (values : List ℕ) → before value more ≡ Some values
    → ((n : ℕ) → value ≡ Some n → n < 2 ^ width ty) → ((ns : List ℕ) → more ≡ Some ns → AreArgs (map width tys) (map Some ns)) → AreArgs (map width (ty ∷ tys)) (map Some values)
are-before ty tys None more values e one all = absurd cc
are-before ty tys (Some n) None values e one all = absurd cc
are-before ty tys (Some n) (Some ns) values e one all = let same : n ∷ ns ≡ values = cc in rw (← same) (one n refl, all ns refl)

are-args : (tys : List Ty) (args : List Argument) (values : List ℕ) → values_of tys args ≡ Some values → AreArgs (map width tys) (map Some values)
are-args [] [] values e = let same : [] ≡ values = cc in rw (← same) tt
are-args [] (one ∷ args) values e = absurd cc
are-args (ty ∷ tys) [] values e = absurd cc
are-args (ty ∷ tys) (one ∷ args) values e = are-before ty tys (value_of_type ty one) (values_of tys args) values e (λ n is. of-type ty one (is_same ty one.0) n is) (λ ns is. are-args tys args ns is)

none-there : (functions : List Function) (symbol : ℕ) → symbol < length functions → slice_get functions symbol ≡ None → ⊥
none-there functions symbol below e = by (slice_get_cases functions symbol).1
  where
    by : ((x : Function) × (symbol < length functions) × (slice_get functions symbol ≡ Some x) × (get_or functions symbol x ≡ x)) ⊎ ((length functions ≤ symbol) × (slice_get functions symbol ≡ None)) → ⊥
    by (inl w) = let bad : Some w.0 ≡ None = sym w.2 ∙ e in cc
    by (inr w) = let above : length functions ≤ symbol = w.0 in omega arith

module _ (functions : List Function) (globals : List Global) where
  made : (written : Written) (symbol : ℕ) (f : Function) (args : List ℕ) → slice_get functions symbol ≡ Some f → AreArgs (map width f.params) (map Some args) → (1 ≤ written.turns) × (written.turns ≤ 2 ^ 32)
      → IsListed functions (record { symbol = symbol; args = args; turns = written.turns })
  made written symbol f args found are turns = record { function = f; found = found; args = are; low = turns.0; high = turns.1 }

  abbrev IsRight : Result ListedCall LineFault → Type 0
  IsRight (Ok call) = IsListed functions call
  IsRight (Err fault) = Unit {0}

  by-values : (written : Written) (symbol : ℕ) (f : Function) (o : Option (List ℕ)) → slice_get functions symbol ≡ Some f → ((args : List ℕ) → o ≡ Some args → AreArgs (map width f.params) (map Some args))
      → (1 ≤ written.turns) × (written.turns ≤ 2 ^ 32) → IsRight (by_values symbol written.turns o)
  by-values written symbol f None found are turns = tt
  by-values written symbol f (Some args) found are turns = made written symbol f args found (are args refl) turns

  by-function : (written : Written) (symbol : ℕ) (o : Option Function) → slice_get functions symbol ≡ o → symbol < length functions → (1 ≤ written.turns) × (written.turns ≤ 2 ^ 32)
      → IsRight (by_values symbol written.turns (values_of (parameters o) written.args))
  by-function written symbol (Some f) found below turns = by-values written symbol f (values_of f.params written.args) found (λ args e. are-args f.params written.args args e) turns
  by-function written symbol None found below turns = absurd (none-there functions symbol below found)

  by-name : (written : Written) (o : Option ℕ) → function_named functions written.name ≡ o → (1 ≤ written.turns) × (written.turns ≤ 2 ^ 32) → IsRight (by_symbol functions written o)
  by-name written None e turns = tt
  by-name written (Some symbol) e turns = by-function written symbol (slice_get functions symbol) refl (function-below functions written.name symbol e) turns

  by-line : (line : List ℕ) (o : Option Written) → whole (call globals) line ≡ o → IsRight (by_form functions o)
  by-line line None e = tt
  by-line line (Some written) e = by-name written (function_named functions written.name) refl (written-turns globals line written e)

  right-line : (line : List ℕ) → IsRight (line_call functions globals line)
  right-line line = by-line line (whole (call globals) line) refl

  abbrev AreRight : Result (List ListedCall) CallsRefusal → Type 0
  AreRight (Ok list) = AllListed functions list
  AreRight (Err refusal) = Unit {0}

  all-behind : (list : List ListedCall) (call : ListedCall) → AllListed functions list → IsListed functions call → AllListed functions (list ++ call ∷ [])
  all-behind [] call all one = (one, tt)
  all-behind (first ∷ list) call all one = (all.0, all-behind list call all.1 one)

  right-with : (n : ℕ) (list : List ListedCall) (found : Result ListedCall LineFault) → AllListed functions list → IsRight found → AreRight (with_call n list found)
  right-with n list (Ok call) all one = all-behind list call all one
  right-with n list (Err fault) all one = tt

  with-line-by : (n : ℕ) (list : List ListedCall) (line : List ℕ) (b : Bool) → AllListed functions list → AreRight (cond b (Ok list) (with_call n list (line_call functions globals line)))
  with-line-by n list line true all = all
  with-line-by n list line false all = right-with n list (line_call functions globals line) all (right-line line)

  right-then : (found : Result (List ListedCall) CallsRefusal) (k : List ListedCall → Result (List ListedCall) CallsRefusal) → AreRight found → ((list : List ListedCall) → AllListed functions list → AreRight (k list))
      → AreRight (and_then found k)
  right-then (Ok list) k all next = next list all
  right-then (Err refusal) k all next = tt

  right-lines : (n : ℕ) (list : List ListedCall) (lines_ : List (List ℕ)) → AllListed functions list → AreRight (with_lines functions globals n list lines_)
  right-lines n list [] all = all
  right-lines n list (line ∷ more) all =
      right-then (with_line functions globals n list line) (λ after. with_lines functions globals (n + 1) after more) (with-line-by n list line (is_skipped line) all) (λ after all'. right-lines (n + 1) after more all')

  few-by : (list : List ListedCall) (b : Bool) (refusal : CallsRefusal) → AllListed functions list → AreRight (cond b (Ok list) (Err refusal))
  few-by list true refusal all = all
  few-by list false refusal all = tt

  right-all : (text : List (List ℕ) × List ℕ) → AreRight (all_lines functions globals text)
  right-all text =
      right-then (with_lines functions globals 1 [] text.0) (λ list. and_then (with_line functions globals (1 + length text.0) list text.1) few) (right-lines 1 [] text.0 tt)
      (λ list all. right-then (with_line functions globals (1 + length text.0) list text.1) few (with-line-by (1 + length text.0) list text.1 (is_skipped text.1) all) (λ after all'. few-by after (nat_le (length after) most_calls) _ all'))

never-ok : (found : Result (List ListedCall) CallsRefusal) (refusal : CallsRefusal) (list : List ListedCall) → and_then {A = List ListedCall} found (λ _. Err refusal) ≡ Ok list → ⊥
never-ok (Ok found) refusal list e = absurd cc
never-ok (Err fault) refusal list e = absurd cc

by-size : (module_ : Module) (text : List ℕ) (b : Bool) (list : List ListedCall)
    → cond b (all_lines module_.functions module_.globals (lines text)) (cut_lines module_.functions module_.globals (lines (take most_bytes text))) ≡ Ok list → AllListed module_.functions list
by-size module_ text true list e = subst (λ (r : Result (List ListedCall) CallsRefusal). AreRight module_.functions module_.globals r) e (right-all module_.functions module_.globals (lines text))
by-size module_ text false list e = absurd (never-ok _ _ list e)

-- what is read are calls that can be made
pub calls_listed : (module_ : Module) (text : List ℕ) (list : List ListedCall) → calls_of module_ text ≡ Ok list → AllListed module_.functions list
calls_listed module_ text list e = by-size module_ text (nat_le (length text) most_bytes) list e
