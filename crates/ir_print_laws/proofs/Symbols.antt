-- The names of globals and functions that are read.
use Rattle.std.proofs.Common.{◌≡◌, ℕ, zero, suc, ◌+◌, ◌<◌, Bool, true, false, cond, List, [], ◌∷◌, ◌++◌, length, Option, Some, None, Result, Ok, Err, refl, sym, ◌∙◌, ap, subst, arith, append_assoc, append-nil, if◌then◌else◌}
use Rattle.std.specs.Prelude.{slice_get, is_some}
use Rattle.std.specs.Str.{bytes_eq}
use Rattle.std.proofs.lemmas.Slice.Eq.{bytes_eq-Decides}
use Rattle.ir_core.specs.declared.program.Global.{Global}
use Rattle.ir_core.specs.declared.program.Function.{Function}
use Rattle.ir_tree.specs.declared.tree.Global.{Global as GlobalText}
use Rattle.ir_tree.specs.declared.tree.Function.{Function as FunctionText}
use Rattle.ir_types.specs.declared.fault.Fault.{Fault}
use Rattle.ir_types.specs.declared.fault.Fault.TheVariants as faults
use Rattle.ir_types.specs.declared.tables.Target.{Target}
use Rattle.ir_types.specs.declared.tables.Target.TheVariants as targets
use Rattle.ir_types.specs.Walk.{◌>>=◌, or_fault, walk}
use Rattle.ir_types.specs.Tables.{target_named, put_named}
use Rattle.ir_types.specs.Names.{Symbols, bytes_of, if_new, named_target}
use Rattle.ir_instructions.specs.declared.built_ins.NamedBuiltIn.{NamedBuiltIn}
use Rattle.ir_instructions.specs.BuiltIns.{built_in_of}
use Rattle.ir_resolve.specs.declared.globals.GlobalNames.{GlobalNames}
use Rattle.ir_resolve.specs.Globals.{global_name, global_names}
use Rattle.ir_functions.specs.declared.functions.SymbolList.{SymbolList}
use Rattle.ir_functions.specs.Functions.{no_built_in, symbol_step, symbols_of}
use Rattle.ir_print_laws.specs.Instructions.{AreTrees}
use Rattle.ir_print_laws.specs.Written.{Each}
use Rattle.ir_print_laws.specs.Fits.{AllNew, global_entries, function_entries, HasOwnName}
use Rattle.ir_print_laws.proofs.Inverting.{bind, same_ok, or_ok, known, first_walk, no_walk}

abbrev pub Entries : Type 0
Entries = List (List ℕ × Target)

-- ---- names that are new

new_is : (b : Bool) (left : ℕ) (after next : Entries) → if_new b left after ≡ Ok next → (b ≡ true) × (after ≡ next)
new_is true left after next e = (refl, same_ok after next e)
new_is false left after next e = absurd cc

put_is : (name : List ℕ) (target : Target) (before next : Entries) (left : ℕ) → if_new (put_named name target before).0 left (put_named name target before).1 ≡ Ok next → (target_named name before ≡ None) × (next ≡ before ++ (name, target) ∷ [])
put_is name target before next left e = by (target_named name before) refl e
  where
    by : (o : Option Target) → target_named name before ≡ o → if_new (if◌then◌else◌ {A = Bool × Entries} (is_some o) (false, before) (true, before ++ (name, target) ∷ [])).0 left (if◌then◌else◌ {A = Bool × Entries} (is_some o) (false, before) (true, before ++ (name, target) ∷ [])).1 ≡ Ok next → (target_named name before ≡ None) × (next ≡ before ++ (name, target) ∷ [])
    by None is h = (is, sym (same_ok (before ++ (name, target) ∷ []) next h))
    by (Some other) is h = absurd cc

-- ---- globals

abbrev pub GlobalNamed : Global → GlobalText → Type 0
GlobalNamed one given = bytes_of given.name ≡ Ok one.name

same_bytes : (x y : List ℕ) (r : Result (List ℕ) Fault) → r ≡ Ok x → r ≡ Ok y → x ≡ y
same_bytes x y r e f = same_ok x y (sym e ∙ f)

global_one : (before : GlobalNames) (given : GlobalText) (after : GlobalNames) → global_name before given ≡ Ok after → (name : List ℕ) × (bytes_of given.name ≡ Ok name) × (target_named name before.named ≡ None) × (after ≡ record { named = before.named ++ (name, targets.Global before.count) ∷ []; count = before.count + 1 })
unfolding global_name
global_one before given after e =
    let a = bind (bytes_of given.name) (λ bytes. if_new (put_named bytes (targets.Global before.count) before.named).0 given.name.left (put_named bytes (targets.Global before.count) before.named).1 >>= λ named. Ok (record { named = named; count = before.count + 1 })) after e in
    let b = bind (if_new (put_named a.0 (targets.Global before.count) before.named).0 given.name.left (put_named a.0 (targets.Global before.count) before.named).1) (λ named. Ok (record { named = named; count = before.count + 1 })) after a.2 in
    let p = put_is a.0 (targets.Global before.count) before.named b.0 given.name.left b.1 in
    (a.0, a.1, p.0, sym (same_ok (record { named = b.0; count = before.count + 1 }) after b.2) ∙ ap (λ (x : Entries). record { named = x; count = before.count + 1 }) p.1)

pub globals_listed : (xs : List Global) (given : List GlobalText) (before : Entries) (k : ℕ) (after : GlobalNames) → AreTrees GlobalNamed xs given → walk global_name (record { named = before; count = k }) given ≡ Ok after
    → (after.named ≡ before ++ global_entries k xs) × AllNew before (global_entries k xs)
globals_listed [] [] before k after are e = (sym (ap (λ (x : GlobalNames). x.named) (no_walk global_name (record { named = before; count = k }) after e)) ∙ sym (append-nil before), tt)
globals_listed [] (t ∷ ts) before k after are e = absurd are
globals_listed (x ∷ xs) [] before k after are e = absurd are
globals_listed (x ∷ xs) (t ∷ ts) before k after are e =
    let f = first_walk global_name (record { named = before; count = k }) after t ts e in
    let one = global_one (record { named = before; count = k }) t f.0 f.1 in
    let name = same_bytes one.0 x.name (bytes_of t.name) one.1 are.0 in
    let next : f.0 ≡ record { named = before ++ (x.name, targets.Global k) ∷ []; count = k + 1 } = one.3 ∙ ap (λ (n : List ℕ). record { named = before ++ (n, targets.Global k) ∷ []; count = k + 1 }) name in
    let rest = globals_listed xs ts (before ++ (x.name, targets.Global k) ∷ []) (k + 1) after are.1 (subst (λ (s : GlobalNames). walk global_name s ts ≡ Ok after) next f.2) in
    (rest.0 ∙ append_assoc before ((x.name, targets.Global k) ∷ []) (global_entries (k + 1) xs), (subst (λ (n : List ℕ). target_named n before ≡ None) name one.2, rest.1))

-- ---- functions

abbrev pub FunctionNamed : Function → FunctionText → Type 0
FunctionNamed one given = bytes_of given.name ≡ Ok one.name

no_own : (left : ℕ) (o : Option NamedBuiltIn) (u : Unit {0}) → no_built_in left o ≡ Ok u → o ≡ None
no_own left None u e = refl
no_own left (Some named) u e = absurd cc

function_one : (before : SymbolList) (given : FunctionText) (after : SymbolList) → symbol_step before given ≡ Ok after
    → (name : List ℕ) × (bytes_of given.name ≡ Ok name) × (built_in_of name ≡ None) × (target_named name before.named ≡ None) × (after ≡ record { named = before.named ++ (name, targets.Function before.functions) ∷ []; functions = before.functions + 1 })
unfolding symbol_step
function_one before given after e =
    let a = bind (bytes_of given.name) (λ bytes. no_built_in given.name.left (built_in_of bytes) >>= λ _. if_new (put_named bytes (targets.Function before.functions) before.named).0 given.name.left (put_named bytes (targets.Function before.functions) before.named).1 >>= λ named. Ok (record { named = named; functions = before.functions + 1 })) after e in
    let b = bind (no_built_in given.name.left (built_in_of a.0)) (λ _. if_new (put_named a.0 (targets.Function before.functions) before.named).0 given.name.left (put_named a.0 (targets.Function before.functions) before.named).1 >>= λ named. Ok (record { named = named; functions = before.functions + 1 })) after a.2 in
    let c = bind (if_new (put_named a.0 (targets.Function before.functions) before.named).0 given.name.left (put_named a.0 (targets.Function before.functions) before.named).1) (λ named. Ok (record { named = named; functions = before.functions + 1 })) after b.2 in
    let p = put_is a.0 (targets.Function before.functions) before.named c.0 given.name.left c.1 in
    (a.0, a.1, no_own given.name.left (built_in_of a.0) b.0 b.1, p.0, sym (same_ok (record { named = c.0; functions = before.functions + 1 }) after c.2) ∙ ap (λ (x : Entries). record { named = x; functions = before.functions + 1 }) p.1)

pub functions_listed : (xs : List Function) (given : List FunctionText) (before : Entries) (k : ℕ) (after : SymbolList) → AreTrees FunctionNamed xs given → walk symbol_step (record { named = before; functions = k }) given ≡ Ok after
    → (after.named ≡ before ++ function_entries k xs) × AllNew before (function_entries k xs) × Each HasOwnName xs
functions_listed [] [] before k after are e = (sym (ap (λ (x : SymbolList). x.named) (no_walk symbol_step (record { named = before; functions = k }) after e)) ∙ sym (append-nil before), tt, tt)
functions_listed [] (t ∷ ts) before k after are e = absurd are
functions_listed (x ∷ xs) [] before k after are e = absurd are
functions_listed (x ∷ xs) (t ∷ ts) before k after are e =
    let f = first_walk symbol_step (record { named = before; functions = k }) after t ts e in
    let one = function_one (record { named = before; functions = k }) t f.0 f.1 in
    let name = same_bytes one.0 x.name (bytes_of t.name) one.1 are.0 in
    let next : f.0 ≡ record { named = before ++ (x.name, targets.Function k) ∷ []; functions = k + 1 } = one.4 ∙ ap (λ (n : List ℕ). record { named = before ++ (n, targets.Function k) ∷ []; functions = k + 1 }) name in
    let rest = functions_listed xs ts (before ++ (x.name, targets.Function k) ∷ []) (k + 1) after are.1 (subst (λ (s : SymbolList). walk symbol_step s ts ≡ Ok after) next f.2) in (
      rest.0 ∙ append_assoc before ((x.name, targets.Function k) ∷ []) (function_entries (k + 1) xs),
      (subst (λ (n : List ℕ). target_named n before ≡ None) name one.3, rest.1),
      (subst (λ (n : List ℕ). built_in_of n ≡ None) name one.2, rest.2),
    )

-- the names of a module's globals and functions
abbrev pub symbols_in : List Global → List Function → Symbols
symbols_in globals functions = global_entries 0 globals ++ function_entries 0 functions

pub record AreListed (globals : List Global) (functions : List Function) (symbols : Symbols) : Type 0 where
  pub are : symbols ≡ symbols_in globals functions
  pub globals_new : AllNew [] (global_entries 0 globals)
  pub functions_new : AllNew (global_entries 0 globals) (function_entries 0 functions)
  pub own : Each HasOwnName functions

pub symbols_listed : (globals : List Global) (functions : List Function) (global_texts : List GlobalText) (function_texts : List FunctionText) (symbols : Symbols) → AreTrees GlobalNamed globals global_texts → AreTrees FunctionNamed functions function_texts
    → symbols_of global_texts function_texts ≡ Ok symbols → AreListed globals functions symbols
unfolding symbols_of global_names
symbols_listed globals functions global_texts function_texts symbols are more e =
    let a = bind (walk global_name (record { named = []; count = 0 }) global_texts >>= λ all. Ok all.named) (λ named. walk symbol_step (record { named = named; functions = 0 }) function_texts >>= λ all. Ok all.named) symbols e in
    let b = bind (walk global_name (record { named = []; count = 0 }) global_texts) (λ all. Ok all.named) a.0 a.1 in
    let c = bind (walk symbol_step (record { named = a.0; functions = 0 }) function_texts) (λ all. Ok all.named) symbols a.2 in
    let g = globals_listed globals global_texts [] 0 b.0 are b.1 in
    let before : a.0 ≡ global_entries 0 globals = sym (same_ok b.0.named a.0 b.2) ∙ g.0 in
    let f = functions_listed functions function_texts (global_entries 0 globals) 0 c.0 more (subst (λ (x : Entries). walk symbol_step (record { named = x; functions = 0 }) function_texts ≡ Ok c.0) before c.1) in
    record { are = sym (same_ok c.0.named symbols c.2) ∙ f.0; globals_new = g.1; functions_new = f.1; own = f.2 }

-- ---- what names stand for

same_target : (x y : Target) → ◌≡◌ {A = Option Target} (Some x) (Some y) → x ≡ y
same_target x y e = cc

abbrev number_in : Target → ℕ
number_in (targets.Value n) = n
number_in (targets.Block n) = n
number_in (targets.Global n) = n
number_in (targets.Function n) = n
number_in (targets.Type n) = n

no_global : (fs : List Function) (j : ℕ) (name : List ℕ) (n : ℕ) → target_named name (function_entries j fs) ≡ Some (targets.Global n) → ⊥
no_global [] j name n e = cc
no_global (f ∷ fs) j name n e = by (bytes_eq name f.name) (no_global fs (j + 1) name n) e
  where
    by : (b : Bool) → (target_named name (function_entries (j + 1) fs) ≡ Some (targets.Global n) → ⊥) → cond b (Some (targets.Function j)) (target_named name (function_entries (j + 1) fs)) ≡ Some (targets.Global n) → ⊥
    by true rest h = cc
    by false rest h = rest h

global_below : (gs : List Global) (i : ℕ) (fs : List Function) (j : ℕ) (name : List ℕ) (n : ℕ) → target_named name (global_entries i gs ++ function_entries j fs) ≡ Some (targets.Global n) → n < i + length gs
global_below [] i fs j name n e = absurd (no_global fs j name n e)
global_below (g ∷ gs) i fs j name n e = by (bytes_eq name g.name) (global_below gs (i + 1) fs j name n) e
  where
    by : (b : Bool) → (target_named name (global_entries (i + 1) gs ++ function_entries j fs) ≡ Some (targets.Global n) → n < i + 1 + length gs)
        → cond b (Some (targets.Global i)) (target_named name (global_entries (i + 1) gs ++ function_entries j fs)) ≡ Some (targets.Global n) → n < i + suc (length gs)
    by true rest h = let same : i ≡ n = ap number_in (same_target (targets.Global i) (targets.Global n) h) in omega (arith, same)
    by false rest h = let lt = rest h in omega (arith, lt)

-- a function with its number and name
abbrev Found : List Function → ℕ → List ℕ → ℕ → Type 0
Found fs j name n = (k : ℕ) × (one : Function) × (n ≡ j + k) × (slice_get fs k ≡ Some one) × (one.name ≡ name)

function_in : (fs : List Function) (j : ℕ) (name : List ℕ) (n : ℕ) → target_named name (function_entries j fs) ≡ Some (targets.Function n) → Found fs j name n
function_in [] j name n e = absurd cc
function_in (f ∷ fs) j name n e = by (bytes_eq name f.name) refl (function_in fs (j + 1) name n) e
  where
    by : (b : Bool) → bytes_eq name f.name ≡ b → (target_named name (function_entries (j + 1) fs) ≡ Some (targets.Function n) → Found fs (j + 1) name n)
        → cond b (Some (targets.Function j)) (target_named name (function_entries (j + 1) fs)) ≡ Some (targets.Function n) → Found (f ∷ fs) j name n
    by true is rest h = let same : j ≡ n = ap number_in (same_target (targets.Function j) (targets.Function n) h) in (0, f, omega (arith, same), refl, sym ((bytes_eq-Decides name f.name).0 is))
    by false is rest h = let r = rest h in let e = r.2 in (suc r.0, r.1, omega (arith, e), r.3, r.4)

function_found : (gs : List Global) (i : ℕ) (fs : List Function) (j : ℕ) (name : List ℕ) (n : ℕ) → target_named name (global_entries i gs ++ function_entries j fs) ≡ Some (targets.Function n) → Found fs j name n
function_found [] i fs j name n e = function_in fs j name n e
function_found (g ∷ gs) i fs j name n e = by (bytes_eq name g.name) (function_found gs (i + 1) fs j name n) e
  where
    by : (b : Bool) → (target_named name (global_entries (i + 1) gs ++ function_entries j fs) ≡ Some (targets.Function n) → Found fs j name n)
        → cond b (Some (targets.Global i)) (target_named name (global_entries (i + 1) gs ++ function_entries j fs)) ≡ Some (targets.Function n) → Found fs j name n
    by true rest h = absurd cc
    by false rest h = rest h

get_below : {X : Type 0} (xs : List X) (k : ℕ) (x : X) → slice_get xs k ≡ Some x → k < length xs
get_below [] k x e = absurd cc
get_below (y ∷ xs) zero x e = omega arith
get_below (y ∷ xs) (suc k) x e = let h = get_below xs k x e in omega (arith, h)

pub global_there : (globals : List Global) (functions : List Function) (name : List ℕ) (n : ℕ) → target_named name (symbols_in globals functions) ≡ Some (targets.Global n) → n < length globals
global_there globals functions name n e = let h = global_below globals 0 functions 0 name n e in omega (arith, h)

pub function_there : (globals : List Global) (functions : List Function) (name : List ℕ) (n : ℕ) → target_named name (symbols_in globals functions) ≡ Some (targets.Function n) → (n < length functions) × ((one : Function) × (slice_get functions n ≡ Some one) × (one.name ≡ name))
function_there globals functions name n e =
    let h = function_found globals 0 functions 0 name n e in
    let at = h.2 in
    let same : h.0 ≡ n = omega (arith, at) in
    let got = subst (λ (k : ℕ). slice_get functions k ≡ Some h.1) same h.3 in
    (get_below functions n h.1 got, (h.1, got, h.4))
