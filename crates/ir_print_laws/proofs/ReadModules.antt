-- Modules that are read fit.
use Rattle.std.proofs.Common.{◌≡◌, ℕ, ◌<◌, ◌≤◌, Bool, true, false, List, [], ◌∷◌, ◌++◌, length, Option, Some, None, Result, Ok, Err, refl, sym, ◌∙◌, ap, subst, arith, if◌then◌else◌}
use Rattle.std.specs.Prelude.{nat_le, slice_get}
use Rattle.ir_text.specs.declared.name.Name.{Name}
use Rattle.ir_grammar.specs.declared.type_tree.TypeNode.{TypeNode}
use Rattle.ir_tree.specs.declared.tree.NamedType.{NamedType}
use Rattle.ir_tree.specs.declared.tree.Global.{Global as GlobalText}
use Rattle.ir_tree.specs.declared.tree.Function.{Function as FunctionText}
use Rattle.ir_tree.specs.declared.tree.Tree.{Tree}
use Rattle.ir_core.specs.declared.program.Global.{Global}
use Rattle.ir_core.specs.declared.program.Function.{Function}
use Rattle.ir_core.specs.declared.program.Module.{Module}
use Rattle.ir_core.specs.declared.program.What.TheVariants as what
use Rattle.ir_types.specs.declared.fault.Fault.{Fault}
use Rattle.ir_types.specs.declared.fault.Fault.TheVariants as faults
use Rattle.ir_types.specs.declared.tables.Target.{Target}
use Rattle.ir_types.specs.declared.tables.Target.TheVariants as targets
use Rattle.ir_types.specs.Walk.{◌>>=◌, or_fault, walk}
use Rattle.ir_types.specs.Tables.{target_named}
use Rattle.ir_types.specs.declared.names.Table.{Table}
use Rattle.ir_types.specs.declared.parts.Part.{Part}
use Rattle.ir_types.specs.declared.table.Types.{Types}
use Rattle.ir_types.specs.Names.{Symbols, bytes_of, named_target}
use Rattle.ir_types.specs.Parts.{parts_of}
use Rattle.ir_types.specs.Replaced.{Definitions, flat_option, definition}
use Rattle.ir_types.specs.Summaries.{AreResolved}
use Rattle.ir_types.specs.Types.{memory}
use Rattle.ir_resolve.specs.Inits.{init_of}
use Rattle.ir_resolve.specs.declared.named.BodyList.{BodyList}
use Rattle.ir_resolve.specs.declared.globals.GlobalList.{GlobalList}
use Rattle.ir_resolve.specs.Named.{body_of, body_step, bodies_of, IsTypesOf}
use Rattle.ir_resolve.specs.Globals.{small_aligns, global, global_step, few_globals, globals_of}
use Rattle.ir_functions.specs.declared.functions.FunctionList.{FunctionList}
use Rattle.ir_functions.specs.Functions.{function, function_step, symbols_of, few_functions, module_with, IsModuleOf}
use Rattle.ir_print.specs.Instructions.{function_of}
use Rattle.ir_print_laws.specs.Instructions.{AreTrees}
use Rattle.ir_print_laws.specs.Written.{Each}
use Rattle.ir_print_laws.specs.Fits.{Counts, AreBytes, FitsGlobal, FitsFunction, FitsModule}
use Rattle.ir_reader.specs.Reads.{Reads}
use Rattle.ir_print_laws.proofs.ReadTokens.{Bytes, all_bytes, bytes_all}
use Rattle.ir_print_laws.proofs.Quoted.{name_bytes}
use Rattle.ir_print_laws.proofs.TreeWords.{each_last}
use Rattle.ir_print_laws.proofs.TreeModules.{FormedGlobal, FormedFunction, FormedTree, tree_formed}
use Rattle.ir_print_laws.proofs.Inverting.{bind, same_ok, same_some, or_ok, known, Any, each_any, walk_keeps, made, each_made, made_length, each_get}
use Rattle.ir_print_laws.proofs.Typed.{WellPart, WellBodies, parts_well}
use Rattle.ir_print_laws.proofs.Builds.{memory_fits}
use Rattle.ir_print_laws.proofs.Symbols.{GlobalNamed, FunctionNamed, AreListed, symbols_in, symbols_listed, global_there, function_there}
use Rattle.ir_print_laws.proofs.ReadInits.{init_fit}
use Rattle.ir_print_laws.proofs.ReadOperations.{Callable}
use Rattle.ir_print_laws.proofs.ReadFunctions.{SymbolsFit, function_name, function_fits}

-- ---- named types

abbrev WellBody : Option (List Part) → Type 0
WellBody None = Unit {0}
WellBody (Some body) = Each WellPart body

abbrev BodiesWell : BodyList → Type 0
BodiesWell list = Each WellBody list.all

body_well : (names : Table) (given : Option (List TypeNode)) (body : Option (List Part)) → body_of names given ≡ Ok body → WellBody body
body_well names None body e = known WellBody None body e tt
body_well names (Some given) body e = let b = bind (parts_of names given) (λ x. Ok (Some x)) body e in known WellBody (Some b.0) body b.2 (parts_well names given b.0 b.1)

flat_well : (o : Option (Option (List Part))) (body : List Part) → ((x : Option (List Part)) → o ≡ Some x → WellBody x) → flat_option o ≡ Some body → Each WellPart body
flat_well None body well e = absurd cc
flat_well (Some None) body well e = absurd cc
flat_well (Some (Some x)) body well e = subst (Each WellPart) (same_some x body e) (well (Some x) refl)

bodies_well : (names : Table) (given : List NamedType) (bodies : Definitions) → bodies_of names given ≡ Ok bodies → WellBodies bodies
unfolding bodies_of
bodies_well names given bodies e =
    let b = bind (walk (body_step names) (record { all = [] }) given) (λ list. Ok list.all) bodies e in
    let all = walk_keeps (body_step names) BodiesWell Any
    (λ s t after well _ is. let c = bind (body_of names t.ty) (λ body. Ok (record { all = s.all ++ body ∷ [] })) after is in known BodiesWell (record { all = s.all ++ c.0 ∷ [] }) after c.2 (each_last WellBody s.all c.0 well (body_well names t.ty c.0 c.1)))
    given (record { all = [] }) b.0 (each_any given) tt b.1 in
    let well = subst (Each WellBody) (same_ok b.0.all bodies b.2) all in
    λ n body is. flat_well (slice_get bodies n) body (λ x at. each_get WellBody bodies n x well at) is

-- ---- globals

module _ (types : Types) (symbols : Symbols) where
  abbrev GlobalRead : Global → GlobalText → Type 0
  GlobalRead one t = global types symbols t ≡ Ok one

  global_state : List Global → GlobalList
  global_state all = record { all = all }

  global_one : (before : List Global) (t : GlobalText) (after : GlobalList) → global_step types symbols (global_state before) t ≡ Ok after → (x : Global) × (after ≡ global_state (before ++ x ∷ [])) × GlobalRead x t
  unfolding global_state
  global_one before t after e = let b = bind (global types symbols t) (λ one. Ok (record { all = before ++ one ∷ [] })) after e in (b.0, sym (same_ok (record { all = before ++ b.0 ∷ [] }) after b.2), b.1)

  few_is : (count : ℕ) (u : Unit {0}) → few_globals count ≡ Ok u → count ≤ 4096
  few_is count u e = by (nat_le count 4096) refl e
    where
      by : (b : Bool) → nat_le count 4096 ≡ b → ◌≡◌ {A = Result (Unit {0}) Fault} (if b then Ok tt else Err (faults.Limit what.Globals 4097)) (Ok u) → count ≤ 4096
      by true i h = grind (arith, i)
      by false i h = absurd cc

  globals_read : (given : List GlobalText) (all : List Global) → globals_of types symbols given ≡ Ok all → AreTrees GlobalRead all given × (length given ≤ 4096)
  unfolding globals_of global_state
  globals_read given all e =
      let a = bind (few_globals (length given)) (λ _. walk (global_step types symbols) (record { all = [] }) given >>= λ list. Ok list.all) all e in
      let b = bind (walk (global_step types symbols) (record { all = [] }) given) (λ list. Ok list.all) all a.2 in
      let h = made (global_step types symbols) global_state GlobalRead global_one given [] b.0 b.1 in
      (subst (λ (x : List Global). AreTrees GlobalRead x given) (sym (ap (λ (s : GlobalList). s.all) h.1) ∙ same_ok b.0.all all b.2) h.2, few_is (length given) a.0 a.1)

  record GlobalParts (one : Global) (t : GlobalText) : Type 0 where
    name : bytes_of t.name ≡ Ok one.name
    ty : memory types t.ty ≡ Ok one.ty
    init : init_of types symbols one.ty t.init ≡ Ok one.init

  global_parts : (one : Global) (t : GlobalText) → GlobalRead one t → GlobalParts one t
  unfolding global
  global_parts one t e =
      let a = bind (bytes_of t.name) (λ name. memory types t.ty >>= λ ty. init_of types symbols ty t.init >>= λ init. small_aligns t.aligns >>= λ _. Ok (record { name = name; ty = ty; init = init })) one e in
      let b = bind (memory types t.ty) (λ ty. init_of types symbols ty t.init >>= λ init. small_aligns t.aligns >>= λ _. Ok (record { name = a.0; ty = ty; init = init })) one a.2 in
      let c = bind (init_of types symbols b.0 t.init) (λ init. small_aligns t.aligns >>= λ _. Ok (record { name = a.0; ty = b.0; init = init })) one b.2 in
      let d = bind (small_aligns t.aligns) (λ _. Ok (record { name = a.0; ty = b.0; init = c.0 })) one c.2 in
      known (λ (x : Global). GlobalParts x t) (record { name = a.0; ty = b.0; init = c.0 }) one d.2 (record { name = a.1; ty = b.1; init = c.1 })

  names_of_globals : (all : List Global) (given : List GlobalText) → AreTrees GlobalRead all given → AreTrees GlobalNamed all given
  names_of_globals [] [] read = tt
  names_of_globals [] (t ∷ ts) read = absurd read
  names_of_globals (x ∷ xs) [] read = absurd read
  names_of_globals (x ∷ xs) (t ∷ ts) read = ((global_parts x t read.0).name, names_of_globals xs ts read.1)

  -- ---- functions

  abbrev FunctionRead : Function → FunctionText → Type 0
  FunctionRead one t = function types symbols t ≡ Ok one

  function_state : List Function → FunctionList
  function_state all = record { all = all }

  function_one : (before : List Function) (t : FunctionText) (after : FunctionList) → function_step types symbols (function_state before) t ≡ Ok after → (x : Function) × (after ≡ function_state (before ++ x ∷ [])) × FunctionRead x t
  unfolding function_state
  function_one before t after e = let b = bind (function types symbols t) (λ one. Ok (record { all = before ++ one ∷ [] })) after e in (b.0, sym (same_ok (record { all = before ++ b.0 ∷ [] }) after b.2), b.1)

  functions_read : (given : List FunctionText) (last : FunctionList) → walk (function_step types symbols) (record { all = [] }) given ≡ Ok last → AreTrees FunctionRead last.all given
  unfolding function_state
  functions_read given last e =
      let h = made (function_step types symbols) function_state FunctionRead function_one given [] last e in
      subst (λ (x : List Function). AreTrees FunctionRead x given) (sym (ap (λ (s : FunctionList). s.all) h.1)) h.2

  names_of_functions : (all : List Function) (given : List FunctionText) → AreTrees FunctionRead all given → AreTrees FunctionNamed all given
  names_of_functions [] [] read = tt
  names_of_functions [] (t ∷ ts) read = absurd read
  names_of_functions (x ∷ xs) [] read = absurd read
  names_of_functions (x ∷ xs) (t ∷ ts) read = (function_name types symbols x t read.0, names_of_functions xs ts read.1)

-- ---- the whole

few_functions_is : (count : ℕ) (u : Unit {0}) → few_functions count ≡ Ok u → count ≤ 1024
few_functions_is count u e = by (nat_le count 1024) refl e
  where
    by : (b : Bool) → nat_le count 1024 ≡ b → ◌≡◌ {A = Result (Unit {0}) Fault} (if b then Ok tt else Err (faults.Limit what.Functions 1025)) (Ok u) → count ≤ 1024
    by true i h = grind (arith, i)
    by false i h = absurd cc

record ModuleRead (types : Types) (tree : Tree) (m : Module) : Type 0 where
  symbols : Symbols
  symbols_are : symbols_of tree.globals tree.functions ≡ Ok symbols
  globals : AreTrees (GlobalRead types symbols) m.globals tree.globals
  few_globals : length tree.globals ≤ 4096
  functions : AreTrees (FunctionRead types symbols) m.functions tree.functions
  few_functions : length tree.functions ≤ 1024

module_read : (types : Types) (tree : Tree) (m : Module) → module_with types tree ≡ Ok m → ModuleRead types tree m
unfolding module_with
module_read types tree m e =
    let a = bind (few_functions (length tree.functions)) (λ _. symbols_of tree.globals tree.functions >>= λ symbols. globals_of types symbols tree.globals >>= λ globals. walk (function_step types symbols) (record { all = [] }) tree.functions >>= λ functions. Ok (record { globals = globals; functions = functions.all })) m e in
    let b = bind (symbols_of tree.globals tree.functions) (λ symbols. globals_of types symbols tree.globals >>= λ globals. walk (function_step types symbols) (record { all = [] }) tree.functions >>= λ functions. Ok (record { globals = globals; functions = functions.all })) m a.2 in
    let c = bind (globals_of types b.0 tree.globals) (λ globals. walk (function_step types b.0) (record { all = [] }) tree.functions >>= λ functions. Ok (record { globals = globals; functions = functions.all })) m b.2 in
    let d = bind (walk (function_step types b.0) (record { all = [] }) tree.functions) (λ functions. Ok (record { globals = c.0; functions = functions.all })) m c.2 in
    let g = globals_read types b.0 tree.globals c.0 c.1 in
    known (ModuleRead types tree) (record { globals = c.0; functions = d.0.all }) m d.2
    (record { symbols = b.0; symbols_are = b.1; globals = g.0; few_globals = g.1; functions = functions_read types b.0 tree.functions d.0 d.1; few_functions = few_functions_is (length tree.functions) a.0 a.1 })

target_at : (symbols : Symbols) (name : Name) (target : Target) → named_target symbols name ≡ Ok target → (bytes : List ℕ) × (target_named bytes symbols ≡ Some target)
unfolding named_target
target_at symbols name target e =
    let b = bind (bytes_of name) (λ bytes. or_fault (faults.Name name.left) (target_named bytes symbols)) target e in
    (b.0, or_ok (faults.Name name.left) (target_named b.0 symbols) target b.2)

name_at : (o : Option Function) (one : Function) (name : List ℕ) → o ≡ Some one → one.name ≡ name → function_of o ≡ name
name_at o one name e same = ap function_of e ∙ same

symbols_fit : (m : Module) (symbols : Symbols) → AreListed m.globals m.functions symbols → SymbolsFit m symbols
symbols_fit m symbols listed =
    record {
      global = λ name n is.
          let t = target_at symbols name (targets.Global n) is in
          global_there m.globals m.functions t.0 n (subst (λ (s : Symbols). target_named t.0 s ≡ Some (targets.Global n)) listed.are t.1);
      function = λ counts same name n is.
          let h = function_there m.globals m.functions name n (subst (λ (s : Symbols). target_named name s ≡ Some (targets.Function n)) listed.are is) in
          (subst (λ (k : ℕ). n < k) (sym same) h.0, name_at (slice_get m.functions n) h.1.0 name h.1.1 h.1.2);
    }

module _ (m : Module) (tree : Tree) (types : Types) (formed : FormedTree tree) (well : WellBodies types.bodies) (resolved : AreResolved types.bodies types.entries) (read : ModuleRead types tree m) where
  listed : AreListed m.globals m.functions read.symbols
  listed = symbols_listed m.globals m.functions tree.globals tree.functions read.symbols (names_of_globals types read.symbols m.globals tree.globals read.globals) (names_of_functions types read.symbols m.functions tree.functions read.functions) read.symbols_are

  one_global : (one : Global) (t : GlobalText) → FormedGlobal t → GlobalRead types read.symbols one t → FitsGlobal m one
  one_global one t made is =
      let p = global_parts types read.symbols one t is in
      record {
        name = all_bytes one.name (name_bytes t.name one.name made.0 p.name);
        ty = memory_fits types t.ty one.ty well resolved p.ty;
        init = init_fit types read.symbols (length m.globals) (symbols_fit m read.symbols listed).global one.ty t.init one.init made.1 p.init;
      }

  one_function : (one : Function) (t : FunctionText) → FormedFunction t → FunctionRead types read.symbols one t → FitsFunction m one
  one_function one t made is = function_fits m types read.symbols one t well resolved (symbols_fit m read.symbols listed) made is

  all_fit : FitsModule m
  all_fit =
      let few = read.few_globals in
      let few2 = read.few_functions in
      let count = made_length (GlobalRead types read.symbols) m.globals tree.globals read.globals in
      let count2 = made_length (FunctionRead types read.symbols) m.functions tree.functions read.functions in
      record {
        globals = each_made (GlobalRead types read.symbols) (FitsGlobal m) FormedGlobal one_global m.globals tree.globals formed.1 read.globals;
        functions = each_made (FunctionRead types read.symbols) (FitsFunction m) FormedFunction one_function m.functions tree.functions formed.0 read.functions;
        global_names = listed.globals_new;
        function_names = listed.functions_new;
        own_names = listed.own;
        few_globals = omega (arith, few, count);
        few_functions = omega (arith, few2, count2);
      }

tree_fits : (m : Module) (tree : Tree) → FormedTree tree → IsModuleOf tree m → FitsModule m
tree_fits m tree formed is = all_fit m tree is.0 formed (bodies_well is.0.names tree.types is.0.bodies is.1.1) is.1.2 (module_read is.0 tree m is.2)

-- a module that a text of bytes reads as fits
pub reads_fit : (text : List ℕ) (m : Module) → AreBytes text → Reads text m → FitsModule m
reads_fit text m bytes reads = tree_fits m reads.1.0 (tree_formed text reads.1.0 (bytes_all text bytes) reads.1.1) reads.1.2
