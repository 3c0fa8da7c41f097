-- A fault of a tree shows its cause, and a tree that has one has no module.
use Rattle.std.proofs.Common.{◌≡◌, ℕ, ◌+◌, ◌<◌, Bool, true, false, nat_le, List, [], ◌∷◌, ◌++◌, length, Option, Some, None, Result, Ok, Err, refl, inl, inr, sym, ◌∙◌, ap, arith, if◌then◌else◌}
use Rattle.std.specs.Prelude.{◌⊎◌}
use Rattle.ir_text.specs.declared.name.Name.{Name}
use Rattle.ir_grammar.specs.declared.type_tree.TypeNode.{TypeNode}
use Rattle.ir_grammar.specs.declared.type_tree.Align.{Align}
use Rattle.ir_tree.specs.declared.tree.NamedType.{NamedType}
use Rattle.ir_tree.specs.declared.tree.Global.{Global as GlobalText}
use Rattle.ir_tree.specs.declared.tree.Function.{Function as FunctionText}
use Rattle.ir_tree.specs.declared.tree.Tree.{Tree}
use Rattle.ir_core.specs.declared.program.Module.{Module}
use Rattle.ir_core.specs.declared.program.What.TheVariants as what
use Rattle.ir_types.specs.declared.fault.Fault.{Fault}
use Rattle.ir_types.specs.declared.fault.Fault.TheVariants as faults
use Rattle.ir_types.specs.declared.tables.Target.{Target}
use Rattle.ir_types.specs.declared.tables.Target.TheVariants as targets
use Rattle.ir_types.specs.Walk.{◌>>=◌, walk, Fails}
use Rattle.ir_types.specs.Tables.{put_named, put_numbered}
use Rattle.ir_types.specs.declared.names.Table.{Table}
use Rattle.ir_types.specs.declared.table.Types.{Types}
use Rattle.ir_types.specs.Names.{Symbols, is_numbered, bytes_of, number_of, if_new, number_defined, bytes_defined, defined, named_target}
use Rattle.ir_types.specs.Parts.{part_of, part_step, parts_of}
use Rattle.ir_types.specs.Types.{memory}
use Rattle.ir_resolve.specs.Inits.{init_of}
use Rattle.ir_resolve.specs.declared.named.TypeNames.{TypeNames}
use Rattle.ir_resolve.specs.declared.named.BodyList.{BodyList}
use Rattle.ir_resolve.specs.declared.globals.GlobalNames.{GlobalNames}
use Rattle.ir_resolve.specs.declared.globals.GlobalList.{GlobalList}
use Rattle.ir_resolve.specs.Named.{name_step, names_of, body_of, body_step, bodies_of, IsTypesOf, IsWrong, IsFaultOf}
use Rattle.ir_resolve.specs.Globals.{align_of, align_step, small_aligns, global, global_step, few_globals, globals_of, global_name, global_names}
use Rattle.ir_resolve.proofs.One.{one_types, none_wrong}
use Rattle.ir_resolve.specs.Causes.{IsMisspelt, IsMisspeltLocal}
use Rattle.ir_resolve.proofs.Shown.{chain, carry, ok-fails, bytes-fail, number-fails}
use Rattle.ir_instructions.specs.Causes.{Among, Reached, SyntaxWhere}
use Rattle.ir_instructions.proofs.Shown.{walk_fails, reached_among}
use Rattle.ir_functions.specs.declared.functions.SymbolList.{SymbolList}
use Rattle.ir_functions.specs.Functions.{symbol_step, symbols_of, few_functions, function, function_step, module_with, IsModuleOf, IsTreeFault, FailsBy}
use Rattle.ir_functions.specs.Causes.{NameWhere, IsDefined, IsTakenName, FunctionFault}
use Rattle.ir_functions.specs.TreeCauses.{no_type_names, TypeNameFault, HasPart, TypePartFault, TypesFault, GlobalNameFault, SymbolFault, HasManyGlobals, HasManyFunctions, GlobalFault, PartsFault, KnownFault, TreeFault}
use Rattle.ir_functions.proofs.Shown.{new-fails, old-number, old-bytes, number-defined, bytes-defined, function-fails, symbol-fails}

-- ---- named types

abbrev Undefinable : Table → Name → Fault → Type 0
Undefinable table name e = SyntaxWhere (IsMisspeltLocal name) e ⊎ NameWhere name.left (IsDefined table name) e

number-again : (table : Table) (name : Name) (target : Target) (e : Fault) → is_numbered name.spelling ≡ true → number_defined table name target ≡ Err e → Undefinable table name e
unfolding number_defined
number-again table name target e numbered h =
    chain (Undefinable table name e) (number_of name) (λ n. if_new (put_numbered n target table.numbered).0 name.left (put_numbered n target table.numbered).1 >>= λ after. Ok (record { numbered = after; named = table.named })) e
    (λ first. number-fails (Undefinable table name) name e (λ none. inl (inl (numbered, none))) first)
    (λ n is more. chain (Undefinable table name e) (if_new (put_numbered n target table.numbered).0 name.left (put_numbered n target table.numbered).1) (λ after. Ok (record { numbered = after; named = table.named })) e
    (λ second. new-fails (Undefinable table name) (put_numbered n target table.numbered).0 name.left (put_numbered n target table.numbered).1 e
    (λ old. let found = old-number n target table.numbered old in inr (refl, (found.0, number-defined table name n found.0 numbered is found.1))) second)
    (λ after was none. ok-fails _ e none) more) h

bytes-again : (table : Table) (name : Name) (target : Target) (e : Fault) → is_numbered name.spelling ≡ false → bytes_defined table name target ≡ Err e → Undefinable table name e
unfolding bytes_defined
bytes-again table name target e numbered h =
    chain (Undefinable table name e) (bytes_of name) (λ bytes. if_new (put_named bytes target table.named).0 name.left (put_named bytes target table.named).1 >>= λ after. Ok (record { numbered = table.numbered; named = after })) e
    (λ first. bytes-fail (Undefinable table name) name e (λ none. inl (inr (numbered, none))) first)
    (λ bytes is more. chain (Undefinable table name e) (if_new (put_named bytes target table.named).0 name.left (put_named bytes target table.named).1) (λ after. Ok (record { numbered = table.numbered; named = after })) e
    (λ second. new-fails (Undefinable table name) (put_named bytes target table.named).0 name.left (put_named bytes target table.named).1 e
    (λ old. let found = old-bytes bytes target table.named old in inr (refl, (found.0, bytes-defined table name bytes found.0 numbered is found.1))) second)
    (λ after was none. ok-fails _ e none) more) h

again : (table : Table) (name : Name) (target : Target) (e : Fault) → defined table name target ≡ Err e → Undefinable table name e
unfolding defined
again table name target e h = by (is_numbered name.spelling) refl h
  where
    by : (b : Bool) → is_numbered name.spelling ≡ b → (if b then number_defined table name target else bytes_defined table name target) ≡ Err e → Undefinable table name e
    by true is h = number-again table name target e is h
    by false is h = bytes-again table name target e is h

type-name-fails : (before : TypeNames) (given : NamedType) (e : Fault) → name_step before given ≡ Err e → Undefinable before.names given.name e
unfolding name_step
type-name-fails before given e h =
    chain (Undefinable before.names given.name e) (defined before.names given.name (targets.Type before.count)) (λ names. Ok (record { names = names; count = before.count + 1 })) e
    (λ first. again before.names given.name (targets.Type before.count) e first)
    (λ names is none. ok-fails _ e none) h

type-names-fail : (given : List NamedType) (e : Fault) → names_of given ≡ Err e → TypeNameFault given e
unfolding names_of
type-names-fail given e h =
    chain (TypeNameFault given e) (walk name_step no_type_names given) (λ all. Ok all.names) e
    (λ first. walk_fails name_step no_type_names given e (TypeNameFault given e) (λ before one r bad. (before, one, r, type-name-fails before one e bad)) first)
    (λ all is none. ok-fails all.names e none) h

abbrev BadPart : Table → NamedType → Fault → Type 0
BadPart names one e = (node : TypeNode) × HasPart one node × (part_of names node ≡ Err e)

parts-fail : (names : Table) (nodes : List TypeNode) (e : Fault) → parts_of names nodes ≡ Err e → (node : TypeNode) × Among nodes node × (part_of names node ≡ Err e)
unfolding parts_of
parts-fail names nodes e h =
    chain ((node : TypeNode) × Among nodes node × (part_of names node ≡ Err e)) (walk (part_step names) (record { all = [] }) nodes) (λ list. Ok list.all) e
    (λ first. walk_fails (part_step names) (record { all = [] }) nodes e ((node : TypeNode) × Among nodes node × (part_of names node ≡ Err e))
    (λ before node r bad. (node, reached_among (part_step names) (record { all = [] }) nodes before node r, chain (part_of names node ≡ Err e) (part_of names node) (λ part. Ok (record { all = before.all ++ part ∷ [] })) e (λ f. f) (λ part is none. ok-fails _ e none) bad)) first)
    (λ list is none. ok-fails list.all e none) h

body-fails : (names : Table) (one : NamedType) (ty : Option (List TypeNode)) (e : Fault) → one.ty ≡ ty → body_of names ty ≡ Err e → BadPart names one e
body-fails names one None e is h = ok-fails _ e h
body-fails names one (Some nodes) e is h =
    chain (BadPart names one e) (parts_of names nodes) (λ body. Ok (Some body)) e
    (λ first. let bad = parts-fail names nodes e first in (bad.0, (nodes, is, bad.1), bad.2))
    (λ body made none. ok-fails _ e none) h

bodies-fail : (given : List NamedType) (names : Table) (e : Fault) → names_of given ≡ Ok names → bodies_of names given ≡ Err e → TypePartFault given e
unfolding bodies_of
bodies-fail given names e is h =
    chain (TypePartFault given e) (walk (body_step names) (record { all = [] }) given) (λ list. Ok list.all) e
    (λ first. walk_fails (body_step names) (record { all = [] }) given e (TypePartFault given e)
    (λ before one r bad. chain (TypePartFault given e) (body_of names one.ty) (λ body. Ok (record { all = before.all ++ body ∷ [] })) e
    (λ f. let part = body-fails names one one.ty e refl f in (names, is, one, reached_among (body_step names) (record { all = [] }) given before one r, part.0, part.1, part.2))
    (λ body made none. ok-fails _ e none) bad) first)
    (λ list made none. ok-fails list.all e none) h

wrong-shows : (given : List NamedType) (e : Fault) → IsWrong given e → TypesFault given e
wrong-shows given e (inl names) = inl (type-names-fail given e names)
wrong-shows given e (inr (names, is, inl bodies)) = inr (inl (bodies-fail given names e is bodies))
wrong-shows given e (inr (names, is, inr bad)) = inr (inr (names, is, bad.0, bad.1, bad.2))

-- ---- names

abbrev Untakeable : Symbols → Name → Fault → Type 0
Untakeable named name e = SyntaxWhere (IsMisspelt name) e ⊎ NameWhere name.left (IsTakenName named name) e

global-name-fails : (before : GlobalNames) (given : GlobalText) (e : Fault) → global_name before given ≡ Err e → Untakeable before.named given.name e
unfolding global_name named_target
global-name-fails before given e h =
    chain (Untakeable before.named given.name e) (bytes_of given.name) (λ bytes. if_new (put_named bytes (targets.Global before.count) before.named).0 given.name.left (put_named bytes (targets.Global before.count) before.named).1 >>= λ named. Ok (record { named = named; count = before.count + 1 })) e
    (λ first. bytes-fail (Untakeable before.named given.name) given.name e (λ none. inl none) first)
    (λ bytes is more. chain (Untakeable before.named given.name e) (if_new (put_named bytes (targets.Global before.count) before.named).0 given.name.left (put_named bytes (targets.Global before.count) before.named).1) (λ named. Ok (record { named = named; count = before.count + 1 })) e
    (λ second. new-fails (Untakeable before.named given.name) (put_named bytes (targets.Global before.count) before.named).0 given.name.left (put_named bytes (targets.Global before.count) before.named).1 e
    (λ old. let found = old-bytes bytes (targets.Global before.count) before.named old in inr (refl, (found.0, rw (is, found.1) refl))) second)
    (λ named made none. ok-fails _ e none) more) h

global-names-fail : (tree : Tree) (e : Fault) → global_names tree.globals ≡ Err e → GlobalNameFault tree e
unfolding global_names
global-names-fail tree e h =
    chain (GlobalNameFault tree e) (walk global_name (record { named = []; count = 0 }) tree.globals) (λ all. Ok all.named) e
    (λ first. walk_fails global_name (record { named = []; count = 0 }) tree.globals e (GlobalNameFault tree e) (λ before given r bad. (before, given, r, global-name-fails before given e bad)) first)
    (λ all is none. ok-fails all.named e none) h

symbols-fail : (tree : Tree) (e : Fault) → symbols_of tree.globals tree.functions ≡ Err e → GlobalNameFault tree e ⊎ SymbolFault tree e
unfolding symbols_of
symbols-fail tree e h =
    chain (GlobalNameFault tree e ⊎ SymbolFault tree e) (global_names tree.globals) (λ named. walk symbol_step (record { named = named; functions = 0 }) tree.functions >>= λ all. Ok all.named) e
    (λ first. inl (global-names-fail tree e first))
    (λ names are more. chain (GlobalNameFault tree e ⊎ SymbolFault tree e) (walk symbol_step (record { named = names; functions = 0 }) tree.functions) (λ all. Ok all.named) e
    (λ second. walk_fails symbol_step (record { named = names; functions = 0 }) tree.functions e (GlobalNameFault tree e ⊎ SymbolFault tree e) (λ before given r bad. inr (names, are, before, given, r, symbol-fails before given e bad)) second)
    (λ all is none. ok-fails all.named e none) more) h

-- ---- globals

aligns-fail : (given : List Align) (e : Fault) → small_aligns given ≡ Err e → (one : Align) × Among given one × (align_of one ≡ Err e)
unfolding small_aligns
aligns-fail given e h =
    walk_fails align_step (record { last = 0 }) given e ((one : Align) × Among given one × (align_of one ≡ Err e))
    (λ before one r bad. (one, reached_among align_step (record { last = 0 }) given before one r, chain (align_of one ≡ Err e) (align_of one) (λ n. Ok (record { last = n })) e (λ f. f) (λ n is none. ok-fails _ e none) bad)) h

global-fails : (types : Types) (symbols : Symbols) (given : GlobalText) (e : Fault) → global types symbols given ≡ Err e → GlobalFault types symbols given e
unfolding global
global-fails types symbols given e h =
    chain (GlobalFault types symbols given e) (bytes_of given.name) (λ name. memory types given.ty >>= λ ty. init_of types symbols ty given.init >>= λ init. small_aligns given.aligns >>= λ _. Ok (record { name = name; ty = ty; init = init })) e
    (λ first. inl (bytes-fail (SyntaxWhere (IsMisspelt given.name)) given.name e (λ none. none) first))
    (λ name named more. chain (GlobalFault types symbols given e) (memory types given.ty) (λ ty. init_of types symbols ty given.init >>= λ init. small_aligns given.aligns >>= λ _. Ok (record { name = name; ty = ty; init = init })) e
    (λ second. inr (inl second))
    (λ ty is rest. chain (GlobalFault types symbols given e) (init_of types symbols ty given.init) (λ init. small_aligns given.aligns >>= λ _. Ok (record { name = name; ty = ty; init = init })) e
    (λ third. inr (inr (inl (ty, is, third))))
    (λ init made last. chain (GlobalFault types symbols given e) (small_aligns given.aligns) (λ _. Ok (record { name = name; ty = ty; init = init })) e
    (λ fourth. inr (inr (inr (aligns-fail given.aligns e fourth))))
    (λ list small none. ok-fails _ e none) last) rest) more) h

many-globals : (tree : Tree) (e : Fault) → few_globals (length tree.globals) ≡ Err e → HasManyGlobals tree e
many-globals tree e h = by (nat_le (length tree.globals) 4096) refl h
  where
    by : (b : Bool) → nat_le (length tree.globals) 4096 ≡ b → if◌then◌else◌ {A = Result (Unit {0}) Fault} b (Ok tt) (Err (faults.Limit what.Globals 4097)) ≡ Err e → HasManyGlobals tree e
    by true is h = absurd cc
    by false is h = (grind arith, let same : faults.Limit what.Globals 4097 ≡ e = cc in sym same)

many-functions : (tree : Tree) (e : Fault) → few_functions (length tree.functions) ≡ Err e → HasManyFunctions tree e
many-functions tree e h = by (nat_le (length tree.functions) 1024) refl h
  where
    by : (b : Bool) → nat_le (length tree.functions) 1024 ≡ b → if◌then◌else◌ {A = Result (Unit {0}) Fault} b (Ok tt) (Err (faults.Limit what.Functions 1025)) ≡ Err e → HasManyFunctions tree e
    by true is h = absurd cc
    by false is h = (grind arith, let same : faults.Limit what.Functions 1025 ≡ e = cc in sym same)

globals-fail : (types : Types) (symbols : Symbols) (tree : Tree) (e : Fault) → symbols_of tree.globals tree.functions ≡ Ok symbols → globals_of types symbols tree.globals ≡ Err e → PartsFault types tree e
unfolding globals_of
globals-fail types symbols tree e are h =
    chain (PartsFault types tree e) (few_globals (length tree.globals)) (λ _. walk (global_step types symbols) (record { all = [] }) tree.globals >>= λ list. Ok list.all) e
    (λ first. (symbols, are, inl (many-globals tree e first)))
    (λ _ few more. chain (PartsFault types tree e) (walk (global_step types symbols) (record { all = [] }) tree.globals) (λ list. Ok list.all) e
    (λ second. walk_fails (global_step types symbols) (record { all = [] }) tree.globals e (PartsFault types tree e)
    (λ before given r bad. (
      symbols,
      are,
      inr (inl (
        given,
        reached_among (global_step types symbols) (record { all = [] }) tree.globals before given r,
        chain (GlobalFault types symbols given e) (global types symbols given) (λ one. Ok (record { all = before.all ++ one ∷ [] })) e (λ f. global-fails types symbols given e f) (λ one is none. ok-fails _ e none) bad,
      )),
    )) second)
    (λ list made none. ok-fails list.all e none) more) h

functions-fail : (types : Types) (symbols : Symbols) (tree : Tree) (e : Fault) → symbols_of tree.globals tree.functions ≡ Ok symbols → walk (function_step types symbols) (record { all = [] }) tree.functions ≡ Err e → PartsFault types tree e
functions-fail types symbols tree e are h =
    walk_fails (function_step types symbols) (record { all = [] }) tree.functions e (PartsFault types tree e)
    (λ before given r bad. (
      symbols,
      are,
      inr (inr (
        given,
        reached_among (function_step types symbols) (record { all = [] }) tree.functions before given r,
        chain (FunctionFault types symbols given e) (function types symbols given) (λ one. Ok (record { all = before.all ++ one ∷ [] })) e (λ f. function-fails types symbols given e f) (λ one is none. ok-fails _ e none) bad,
      )),
    )) h

-- ---- trees

names-or : (types : Types) (tree : Tree) (e : Fault) → GlobalNameFault tree e ⊎ SymbolFault tree e → KnownFault types tree e
names-or types tree e (inl bad) = inr (inl bad)
names-or types tree e (inr bad) = inr (inr (inl bad))

known-fails : (types : Types) (tree : Tree) (e : Fault) → module_with types tree ≡ Err e → KnownFault types tree e
unfolding module_with
known-fails types tree e h =
    chain (KnownFault types tree e) (few_functions (length tree.functions)) (λ _. symbols_of tree.globals tree.functions >>= λ symbols. globals_of types symbols tree.globals >>= λ globals. walk (function_step types symbols) (record { all = [] }) tree.functions >>= λ functions. Ok (record { globals = globals; functions = functions.all })) e
    (λ first. inl (many-functions tree e first))
    (λ _ few more. chain (KnownFault types tree e) (symbols_of tree.globals tree.functions) (λ symbols. globals_of types symbols tree.globals >>= λ globals. walk (function_step types symbols) (record { all = [] }) tree.functions >>= λ functions. Ok (record { globals = globals; functions = functions.all })) e
    (λ second. names-or types tree e (symbols-fail tree e second))
    (λ symbols are rest. chain (KnownFault types tree e) (globals_of types symbols tree.globals) (λ globals. walk (function_step types symbols) (record { all = [] }) tree.functions >>= λ functions. Ok (record { globals = globals; functions = functions.all })) e
    (λ third. inr (inr (inr (globals-fail types symbols tree e are third))))
    (λ globals made last. chain (KnownFault types tree e) (walk (function_step types symbols) (record { all = [] }) tree.functions) (λ functions. Ok (record { globals = globals; functions = functions.all })) e
    (λ fourth. inr (inr (inr (functions-fail types symbols tree e are fourth))))
    (λ functions whole none. ok-fails _ e none) last) rest) more) h

-- the fault of a tree shows its cause
pub tree_fails : (tree : Tree) (e : Fault) → IsTreeFault tree e → TreeFault tree e
tree_fails tree e (inl wrong) = inl (wrong-shows tree.types e wrong)
tree_fails tree e (inr (types, are, h)) = inr (types, are, known-fails types tree e h)

-- a tree that has a fault has no module
pub none_fails : (tree : Tree) (e : Fault) → (e ≡ faults.NoMemory → ⊥) → IsTreeFault tree e → (module_ : Module) → IsModuleOf tree module_ → ⊥
none_fails tree e apart (inl wrong) module_ is = none_wrong tree.types e apart wrong is.0 is.1
none_fails tree e apart (inr (types, are, h)) module_ is =
    let same = one_types tree.types types is.0 are is.1 in
    let both = sym h ∙ ap (λ t. module_with t tree) same ∙ is.2 in
    absurd cc

-- ---- what a call answers

pub types_fail : (tree : Tree) (e : Fault) → IsFaultOf tree.types e → FailsBy tree e
types_fail tree faults.NoMemory h = tt
types_fail tree (faults.Syntax left) h = inl h
types_fail tree (faults.LeftOut left) h = inl h
types_fail tree (faults.Name left) h = inl h
types_fail tree (faults.Limit counted count) h = inl h

pub known_fail : (tree : Tree) (types : Types) (e : Fault) → IsTypesOf tree.types types → Fails e (module_with types tree) → FailsBy tree e
known_fail tree types faults.NoMemory are h = tt
known_fail tree types (faults.Syntax left) are h = inr (types, are, h)
known_fail tree types (faults.LeftOut left) are h = inr (types, are, h)
known_fail tree types (faults.Name left) are h = inr (types, are, h)
known_fail tree types (faults.Limit counted count) are h = inr (types, are, h)
