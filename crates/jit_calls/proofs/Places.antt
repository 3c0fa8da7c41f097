-- Places in a table of names are below the number of names.
use Rattle.std.proofs.Common.{◌≡◌, ℕ, ◌+◌, ◌<◌, ◌≤◌, Bool, true, false, cond, List, [], ◌∷◌, ◌++◌, length, map, Option, Some, None, refl, arith}
use Rattle.std.specs.Prelude.{is_some}
use Rattle.std.specs.Option.{option_map}
use Rattle.std.specs.Str.{bytes_eq}
use Rattle.std.proofs.lemmas.List.{length-map}
use Rattle.ir_core.specs.declared.program.Function.{Function}
use Rattle.ir_core.specs.declared.program.Global.{Global}
use Rattle.ir_types.specs.declared.tables.Target.{Target}
use Rattle.ir_types.specs.declared.tables.Target.TheVariants as targets
use Rattle.ir_types.specs.Tables.{target_named, put_named}
use Rattle.jit_calls.specs.Names.{table_from, place_of, place_in, function_named, function_name, global_named, global_name}

abbrev AreBelow : ℕ → List (List ℕ × Target) → Type 0
AreBelow bound [] = Unit {0}
AreBelow bound (entry ∷ table) = (place_of entry.1 < bound) × AreBelow bound table

behind : (bound : ℕ) (table : List (List ℕ × Target)) (entry : List ℕ × Target) → AreBelow bound table → place_of entry.1 < bound → AreBelow bound (table ++ entry ∷ [])
behind bound [] entry all last = (last, tt)
behind bound (first ∷ table) entry all last = (all.0, behind bound table entry all.1 last)

put : (bound : ℕ) (b : Bool) (table : List (List ℕ × Target)) (entry : List ℕ × Target) → AreBelow bound table → place_of entry.1 < bound
    → AreBelow bound (cond {A = Bool × List (List ℕ × Target)} b (false, table) (true, table ++ entry ∷ [])).1
put bound true table entry all last = all
put bound false table entry all last = behind bound table entry all last

filled : (bound k : ℕ) (names : List (List ℕ)) (table : List (List ℕ × Target)) → AreBelow bound table → k + length names ≤ bound → AreBelow bound (table_from k names table)
filled bound k [] table all le = all
filled bound k (name ∷ names) table all le =
    filled bound (k + 1) names _ (put bound (is_some (target_named name table)) table (name, targets.Function k) all (omega arith)) (omega arith)

found-by : (bound : ℕ) (b : Bool) (entry : List ℕ × Target) (rest : Option Target) (target : Target) → cond b (Some entry.1) rest ≡ Some target → place_of entry.1 < bound
    → (rest ≡ Some target → place_of target < bound) → place_of target < bound
found-by bound true entry rest target e here else_ = let same : entry.1 ≡ target = cc in rw (← same) here
found-by bound false entry rest target e here else_ = else_ e

found : (bound : ℕ) (name : List ℕ) (table : List (List ℕ × Target)) (target : Target) → AreBelow bound table → target_named name table ≡ Some target → place_of target < bound
found bound name [] target all e = absurd cc
found bound name (entry ∷ table) target all e = found-by bound (bytes_eq name entry.0) entry (target_named name table) target e all.0 (λ rest. found bound name table target all.1 rest)

by-target : (bound k : ℕ) (o : Option Target) → option_map place_of o ≡ Some k → ((target : Target) → o ≡ Some target → place_of target < bound) → k < bound
by-target bound k None e all = absurd cc
by-target bound k (Some target) e all = let same : place_of target ≡ k = cc in rw (← same) (all target refl)

pub place-below : (names : List (List ℕ)) (name : List ℕ) (k : ℕ) → place_in names name ≡ Some k → k < length names
place-below names name k e =
    by-target (length names) k (target_named name (table_from 0 names [])) e (λ target is. found (length names) name (table_from 0 names []) target (filled (length names) 0 names [] tt (omega arith)) is)

pub global-below : (globals : List Global) (name : List ℕ) (k : ℕ) → global_named globals name ≡ Some k → k < length globals
global-below globals name k e =
    let below = place-below (map global_name globals) name k e in
    let same : length (map global_name globals) ≡ length globals = simp (length-map) in
    omega arith

pub function-below : (functions : List Function) (name : List ℕ) (k : ℕ) → function_named functions name ≡ Some k → k < length functions
function-below functions name k e =
    let below = place-below (map function_name functions) name k e in
    let same : length (map function_name functions) ≡ length functions = simp (length-map) in
    omega arith
