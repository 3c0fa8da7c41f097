-- The names of the functions, and what they stand for.
use Rattle.std.proofs.Common.{◌≡◌, ℕ, zero, suc, ◌+◌, ◌<◌, ◌≤◌, ◌^◌, Bool, false, List, [], ◌∷◌, ◌++◌, map, slice_get, Option, Some, None, refl, sym, ◌∙◌, ap, append_assoc, append-nil, arith}
use Rattle.std.specs.Str.{bytes_eq}
use Rattle.std.specs.Option.{option_map}
use Rattle.ir_core.specs.declared.program.Function.{Function}
use Rattle.ir_types.specs.declared.tables.Target.{Target}
use Rattle.ir_types.specs.declared.tables.Target.TheVariants as targets
use Rattle.ir_types.specs.Tables.{target_named}
use Rattle.jit_calls.specs.Names.{function_name, table_from, place_of, function_named}
use Rattle.ir_print_laws.specs.Fits.{AllNew, function_entries}
use Rattle.ir_print_laws.proofs.Named.{Entries, all_found, not_last, is_new, values_apart}
use Rattle.ir_print_laws.specs.Modules.{name_of, function_of, functions_from}

names_apart : (v w : ℕ) → v < 10 ^ 64 → w < 10 ^ 64 → (v ≡ w → ⊥) → bytes_eq (name_of v) (name_of w) ≡ false
names_apart v w p q differ = values_apart v w p q differ

-- none of these entries bears the name of a function from this number on
abbrev Fresh : ℕ → Entries → Type 0
Fresh k before = (j : ℕ) → k ≤ j → j < 10 ^ 64 → target_named (name_of j) before ≡ None

none_first : Fresh 0 []
none_first = λ j le lt. refl

abbrev entry_of : ℕ → List ℕ × Target
entry_of k = (name_of k, targets.Function k)

still_fresh : (k : ℕ) (before : Entries) → k < 10 ^ 64 → Fresh k before → Fresh (k + 1) (before ++ entry_of k ∷ [])
still_fresh k before lt fresh = λ j le small.
    not_last (name_of j) (name_of k) (targets.Function k) before (fresh j (omega (arith, le)) small) (names_apart j k small lt (λ e. omega (arith, le, e)))

all_new : (k more : ℕ) (before : Entries) → k + more < 10 ^ 64 → Fresh k before → AllNew before (function_entries k (functions_from k more))
all_new k zero before lt fresh = tt
all_new k (suc more) before lt fresh =
    (fresh k (omega arith) (omega (arith, lt)), all_new (k + 1) more (before ++ entry_of k ∷ []) (omega (arith, lt)) (still_fresh k before (omega (arith, lt)) fresh))

-- each name is new
pub names_new : (count : ℕ) → count < 10 ^ 64 → AllNew [] (function_entries 0 (functions_from 0 count))
names_new count lt = all_new 0 count [] (omega (arith, lt)) none_first

-- in a list of calls the table of the functions' names is the list of these names
table_is : (k more : ℕ) (before : Entries) → k + more < 10 ^ 64 → Fresh k before
    → table_from k (map function_name (functions_from k more)) before ≡ before ++ function_entries k (functions_from k more)
table_is k zero before lt fresh = sym (append-nil before)
table_is k (suc more) before lt fresh =
    ap (λ (put : Bool × Entries). table_from (k + 1) (map function_name (functions_from (k + 1) more)) put.1) (is_new (name_of k) (targets.Function k) before (fresh k (omega arith) (omega (arith, lt))))
    ∙ table_is (k + 1) more (before ++ entry_of k ∷ []) (omega (arith, lt)) (still_fresh k before (omega (arith, lt)) fresh)
    ∙ append_assoc before (entry_of k ∷ []) (function_entries (k + 1) (functions_from (k + 1) more))

abbrev some_entry : ℕ → Option (List ℕ × Target)
some_entry k = Some (entry_of k)

entry_at : (k more i : ℕ) → i < more → slice_get (function_entries k (functions_from k more)) i ≡ some_entry (k + i)
entry_at k zero i lt = absurd (omega (arith, lt))
entry_at k (suc more) zero lt = ap (λ (n : ℕ). some_entry n) (let e : k ≡ k + 0 = omega arith in e)
entry_at k (suc more) (suc i) lt =
    entry_at (k + 1) more i (omega (arith, lt)) ∙ ap (λ (n : ℕ). some_entry n) (let e : k + 1 + i ≡ k + suc i = omega arith in e)

abbrev some_function : ℕ → Option Function
some_function k = Some (function_of k)

from_at : (k more i : ℕ) → i < more → slice_get (functions_from k more) i ≡ some_function (k + i)
from_at k zero i lt = absurd (omega (arith, lt))
from_at k (suc more) zero lt = ap (λ (n : ℕ). some_function n) (let e : k ≡ k + 0 = omega arith in e)
from_at k (suc more) (suc i) lt =
    from_at (k + 1) more i (omega (arith, lt)) ∙ ap (λ (n : ℕ). some_function n) (let e : k + 1 + i ≡ k + suc i = omega arith in e)

-- the function of a number
pub function_at : (count j : ℕ) → j < count → slice_get (functions_from 0 count) j ≡ Some (function_of j)
function_at count j lt = from_at 0 count j lt ∙ ap (λ (n : ℕ). some_function n) (let e : 0 + j ≡ j = omega arith in e)

found : (count j : ℕ) → count < 10 ^ 64 → j < count → target_named (name_of j) (function_entries 0 (functions_from 0 count)) ≡ Some (targets.Function j)
found count j few lt =
    all_found [] (function_entries 0 (functions_from 0 count)) j (name_of j) (targets.Function j) (names_new count few)
    (entry_at 0 count j lt ∙ ap (λ (n : ℕ). some_entry n) (let e : 0 + j ≡ j = omega arith in e))

-- the function of a name
pub function_is : (count j : ℕ) → count < 10 ^ 64 → j < count → function_named (functions_from 0 count) (name_of j) ≡ Some j
function_is count j few lt =
    ap (λ (table : Entries). option_map place_of (target_named (name_of j) table)) (table_is 0 count [] (omega (arith, few)) none_first)
    ∙ ap (λ (o : Option Target). option_map place_of o) (found count j few lt)
