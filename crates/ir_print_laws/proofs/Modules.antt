-- Trees of printed modules say what was printed.
use Rattle.std.proofs.Common.{◌≡◌, ℕ, zero, suc, ◌+◌, ◌<◌, true, List, [], ◌∷◌, ◌++◌, Option, Some, None, length, slice_get, refl, sym, ◌∙◌, ap, subst, arith, append_assoc, append-nil}
use Rattle.std.specs.Prelude.{nat_le, Ok}
use Rattle.ir_core.specs.declared.program.Global.{Global}
use Rattle.ir_core.specs.declared.program.Function.{Function}
use Rattle.ir_core.specs.declared.program.Module.{Module}
use Rattle.ir_tree.specs.declared.tree.NamedType.{NamedType}
use Rattle.ir_tree.specs.declared.tree.Global.{Global as GlobalText}
use Rattle.ir_tree.specs.declared.tree.Function.{Function as FunctionText}
use Rattle.ir_tree.specs.declared.tree.Tree.{Tree}
use Rattle.ir_types.specs.declared.tables.Target.{Target}
use Rattle.ir_types.specs.declared.tables.Target.TheVariants as targets
use Rattle.ir_types.specs.Walk.{walk}
use Rattle.ir_types.specs.Names.{Symbols}
use Rattle.ir_types.specs.Summaries.{AreResolved}
use Rattle.ir_resolve.specs.declared.globals.GlobalList.{GlobalList}
use Rattle.ir_resolve.specs.Named.{names_of, bodies_of, IsTypesOf}
use Rattle.ir_resolve.specs.Globals.{small_aligns, global, global_step, globals_of, global_name, global_names}
use Rattle.ir_functions.specs.Functions.{function_step, symbol_step, symbols_of, module_with, IsModuleOf}
use Rattle.ir_print.specs.Values.{global_of}
use Rattle.ir_print.specs.Instructions.{function_of}
use Rattle.ir_print_laws.specs.FormTrees.{IsNameOf}
use Rattle.ir_print_laws.specs.Instructions.{AreTrees}
use Rattle.ir_print_laws.specs.ModuleTrees.{IsGlobalTree, IsFunctionTree, IsModuleTree}
use Rattle.ir_print_laws.specs.Written.{Each}
use Rattle.ir_print_laws.specs.Fits.{AllNew, global_entries, function_entries, HasOwnName, FitsGlobal, FitsFunction, FitsModule, no_types}
use Rattle.ir_print_laws.proofs.Named.{Entries, name_says, found_before, all_found, is_new, target_says}
use Rattle.ir_print_laws.proofs.Operands.{SaysAddress}
use Rattle.ir_print_laws.proofs.Operations.{walk_says, trees_length}
use Rattle.ir_print_laws.proofs.Memory.{memory_says}
use Rattle.ir_print_laws.proofs.Addresses.{addresses_say}
use Rattle.ir_print_laws.proofs.Inits.{init_of_says}
use Rattle.ir_print_laws.proofs.Functions.{Symbolic, function_says}

-- ---- named types: there are none

nothing_known : AreResolved no_types.bodies no_types.entries
nothing_known = record { size = refl; right = λ n summary root e. absurd cc; follows = λ n summary root e. absurd cc; idle = λ n entry e f. absurd cc; whole = λ n body e. absurd cc }

types_are : (given : List NamedType) → given ≡ [] → IsTypesOf given no_types
unfolding names_of bodies_of walk
types_are given e = subst (λ (x : List NamedType). IsTypesOf x no_types) (sym e) (refl, refl, nothing_known)

-- ---- names

globals_named : (m : Module) (xs : List Global) (given : List GlobalText) (before : Entries) (k : ℕ) → Each (FitsGlobal m) xs → AreTrees (IsGlobalTree m.globals) xs given → AllNew before (global_entries k xs)
    → walk global_name (record { named = before; count = k }) given ≡ Ok (record { named = before ++ global_entries k xs; count = k + length xs })
unfolding walk global_name
globals_named m [] [] before k fits is new = let same : k ≡ k + 0 = omega arith in ap (λ (x : ℕ). Ok (record { named = before; count = x })) same ∙ ap (λ (xs : Entries). Ok (record { named = xs; count = k + 0 })) (sym (append-nil before))
globals_named m [] (t ∷ ts) before k fits is new = absurd is
globals_named m (x ∷ xs) [] before k fits is new = absurd is
globals_named m (x ∷ xs) (t ∷ ts) before k fits is new =
    let name = name_says x.name t.name fits.0.name is.0.0 in
    let rest = globals_named m xs ts (before ++ (x.name, targets.Global k) ∷ []) (k + 1) fits.1 is.1 new.1 in
    let same : k + 1 + length xs ≡ k + length (x ∷ xs) = omega arith in
    rw name (rw (is_new x.name (targets.Global k) before new.0) (rest ∙ ap (λ (ys : Entries). Ok (record { named = ys; count = k + 1 + length xs })) (append_assoc before ((x.name, targets.Global k) ∷ []) (global_entries (k + 1) xs)) ∙ ap (λ (n : ℕ). Ok (record { named = before ++ global_entries k (x ∷ xs); count = n })) same))

functions_named : (m : Module) (xs : List Function) (given : List FunctionText) (before : Entries) (k : ℕ) → Each (FitsFunction m) xs → Each HasOwnName xs → AreTrees (IsFunctionTree m) xs given → AllNew before (function_entries k xs)
    → walk symbol_step (record { named = before; functions = k }) given ≡ Ok (record { named = before ++ function_entries k xs; functions = k + length xs })
unfolding walk symbol_step
functions_named m [] [] before k fits own is new = let same : k ≡ k + 0 = omega arith in ap (λ (x : ℕ). Ok (record { named = before; functions = x })) same ∙ ap (λ (xs : Entries). Ok (record { named = xs; functions = k + 0 })) (sym (append-nil before))
functions_named m [] (t ∷ ts) before k fits own is new = absurd is
functions_named m (x ∷ xs) [] before k fits own is new = absurd is
functions_named m (x ∷ xs) (t ∷ ts) before k fits own is new =
    let name = name_says x.name t.name fits.0.name is.0.1.0 in
    let rest = functions_named m xs ts (before ++ (x.name, targets.Function k) ∷ []) (k + 1) fits.1 own.1 is.1 new.1 in
    let same : k + 1 + length xs ≡ k + length (x ∷ xs) = omega arith in
    rw name (rw own.0 (rw (is_new x.name (targets.Function k) before new.0) (rest ∙ ap (λ (ys : Entries). Ok (record { named = ys; functions = k + 1 + length xs })) (append_assoc before ((x.name, targets.Function k) ∷ []) (function_entries (k + 1) xs)) ∙ ap (λ (n : ℕ). Ok (record { named = before ++ function_entries k (x ∷ xs); functions = n })) same)))

abbrev symbols_in : Module → Symbols
symbols_in m = global_entries 0 m.globals ++ function_entries 0 m.functions

symbols_say : (m : Module) (globals : List GlobalText) (functions : List FunctionText) → FitsModule m → AreTrees (IsGlobalTree m.globals) m.globals globals → AreTrees (IsFunctionTree m) m.functions functions → symbols_of globals functions ≡ Ok (symbols_in m)
unfolding symbols_of global_names
symbols_say m globals functions fits is js =
    rw (globals_named m m.globals globals [] 0 fits.globals is fits.global_names) (rw (functions_named m m.functions functions (global_entries 0 m.globals) 0 fits.functions fits.own_names js fits.function_names) refl)

-- ---- what names stand for

record AtPlace {X : Type 0} (xs : List X) (k : ℕ) : Type 0 where
  item : X
  is : slice_get xs k ≡ Some item

at_place : {X : Type 0} (xs : List X) (k : ℕ) → k < length xs → AtPlace xs k
at_place [] k lt = absurd (omega (arith, lt))
at_place (x ∷ xs) zero lt = record { item = x; is = refl }
at_place (x ∷ xs) (suc k) lt = let r = at_place xs k (omega (arith, lt)) in record { item = r.item; is = r.is }

global_entry : (xs : List Global) (i k : ℕ) (x : Global) → slice_get xs k ≡ Some x → slice_get (global_entries i xs) k ≡ Some (x.name, targets.Global (i + k))
global_entry [] i k x e = absurd cc
global_entry (y ∷ xs) i zero x e = let same : i ≡ i + 0 = omega arith in ap (λ (o : Option Global). named_at i o) e ∙ ap (λ (n : ℕ). Some (x.name, targets.Global n)) same
  where
    named_at : ℕ → Option Global → Option (List ℕ × Target)
    named_at n None = None
    named_at n (Some g) = Some (g.name, targets.Global n)
global_entry (y ∷ xs) i (suc k) x e = let same : i + 1 + k ≡ i + suc k = omega arith in global_entry xs (i + 1) k x e ∙ ap (λ (n : ℕ). Some (x.name, targets.Global n)) same

function_entry : (xs : List Function) (i k : ℕ) (x : Function) → slice_get xs k ≡ Some x → slice_get (function_entries i xs) k ≡ Some (x.name, targets.Function (i + k))
function_entry [] i k x e = absurd cc
function_entry (y ∷ xs) i zero x e = let same : i ≡ i + 0 = omega arith in ap (λ (o : Option Function). named_at i o) e ∙ ap (λ (n : ℕ). Some (x.name, targets.Function n)) same
  where
    named_at : ℕ → Option Function → Option (List ℕ × Target)
    named_at n None = None
    named_at n (Some g) = Some (g.name, targets.Function n)
function_entry (y ∷ xs) i (suc k) x e = let same : i + 1 + k ≡ i + suc k = omega arith in function_entry xs (i + 1) k x e ∙ ap (λ (n : ℕ). Some (x.name, targets.Function n)) same

each_at : {X : Type 0} (Is : X → Type 0) (xs : List X) (k : ℕ) (x : X) → Each Is xs → slice_get xs k ≡ Some x → Is x
each_at Is [] k x all e = absurd cc
each_at Is (y ∷ xs) zero x all e = subst (λ (o : Option _). holds Is o) e all.0
  where
    holds : {X : Type 0} → (X → Type 0) → Option X → Type 0
    holds P None = Unit {0}
    holds P (Some z) = P z
each_at Is (y ∷ xs) (suc k) x all e = each_at Is xs k x all.1 e

symbolic : (m : Module) → FitsModule m → Symbolic m (symbols_in m)
symbolic m fits =
    record {
      global = λ k name lt is.
          let p = at_place m.globals k lt in
          let named = subst (λ (o : Option Global). IsNameOf (global_of o) name) p.is is in
          let bytes = name_says p.item.name name (each_at (FitsGlobal m) m.globals k p.item fits.globals p.is).name named in
          let at : slice_get (global_entries 0 m.globals) k ≡ Some (p.item.name, targets.Global k) = (let same : 0 + k ≡ k = omega arith in global_entry m.globals 0 k p.item p.is ∙ ap (λ (n : ℕ). Some (p.item.name, targets.Global n)) same) in
          let found = all_found [] (global_entries 0 m.globals) k p.item.name (targets.Global k) fits.global_names at in
          target_says (symbols_in m) p.item.name name (targets.Global k) bytes (found_before p.item.name (targets.Global k) (global_entries 0 m.globals) (function_entries 0 m.functions) found);
      function = λ k name lt is.
          let p = at_place m.functions k lt in
          let named = subst (λ (o : Option Function). IsNameOf (function_of o) name) p.is is in
          let bytes = name_says p.item.name name (each_at (FitsFunction m) m.functions k p.item fits.functions p.is).name named in
          let at : slice_get (function_entries 0 m.functions) k ≡ Some (p.item.name, targets.Function k) = (let same : 0 + k ≡ k = omega arith in function_entry m.functions 0 k p.item p.is ∙ ap (λ (n : ℕ). Some (p.item.name, targets.Function n)) same) in
          rw p.is (bytes, all_found (global_entries 0 m.globals) (function_entries 0 m.functions) k p.item.name (targets.Function k) fits.function_names at);
    }

-- ---- globals and functions

global_says : (m : Module) (symbols : Symbols) (one : Global) (given : GlobalText) → SaysAddress m symbols (length m.globals) → FitsGlobal m one → IsGlobalTree m.globals one given → global no_types symbols given ≡ Ok one
unfolding global small_aligns walk
global_says m symbols one given addresses fits is =
    let name = name_says one.name given.name fits.name is.0 in
    let ty = memory_says one.ty given.ty fits.ty is.1.0 in
    let init = init_of_says m symbols addresses memory_says given.init one.init one.ty is.1.1.0 fits.ty fits.init in
    rw (name, ty, is.1.1.1) (rw init refl)

module _ (m : Module) (fits : FitsModule m) where
  symbols : Symbols
  symbols = symbols_in m

  addresses : SaysAddress m (symbols_in m) (length m.globals)
  addresses = addresses_say m (symbols_in m) (length m.globals) (symbolic m fits).global

  one_global : (x : Global) (t : GlobalText) (before : List Global) → FitsGlobal m x → IsGlobalTree m.globals x t → global_step no_types (symbols_in m) (record { all = before }) t ≡ Ok (record { all = before ++ x ∷ [] })
  one_global x t before has is = rw (global_says m (symbols_in m) x t addresses has is) refl

  one_function : (x : Function) (t : FunctionText) (before : List Function) → FitsFunction m x → IsFunctionTree m x t → function_step no_types (symbols_in m) (record { all = before }) t ≡ Ok (record { all = before ++ x ∷ [] })
  one_function x t before has is = rw (function_says m (symbols_in m) x t (symbolic m fits) addresses memory_says has is) refl

  global_list : List Global → GlobalList
  global_list all = record { all = all }

  pub module_says : (tree : Tree) → IsModuleTree m tree → module_with no_types tree ≡ Ok m
  unfolding module_with globals_of
  module_says tree is =
      let few = fits.few_globals in
      let few2 = fits.few_functions in
      let count = trees_length (IsGlobalTree m.globals) m.globals tree.globals is.1.0 in
      let count2 = trees_length (IsFunctionTree m) m.functions tree.functions is.1.1 in
      let a : nat_le (length m.functions) 1024 ≡ true = grind (arith, few2) in
      let b : nat_le (length m.globals) 4096 ≡ true = grind (arith, few) in
      let named = symbols_say m tree.globals tree.functions fits is.1.0 is.1.1 in
      let gs = walk_says (global_step no_types (symbols_in m)) (λ (all : List Global). record { all = all }) (FitsGlobal m) (IsGlobalTree m.globals) one_global m.globals tree.globals [] fits.globals is.1.0 in
      let fs = walk_says (function_step no_types (symbols_in m)) (λ (all : List Function). record { all = all }) (FitsFunction m) (IsFunctionTree m) one_function m.functions tree.functions [] fits.functions is.1.1 in
      rw (count2, a) (rw named (rw (count, b) (rw gs (rw fs refl))))

pub module_is : (m : Module) (tree : Tree) → FitsModule m → IsModuleTree m tree → IsModuleOf tree m
module_is m tree fits is = (no_types, types_are tree.types is.0, module_says m fits tree is)
