-- A fault of a function shows its cause.
use Rattle.std.proofs.Common.{◌≡◌, ℕ, ◌+◌, Bool, true, false, nat_le, nat_lt, List, [], ◌∷◌, ◌++◌, length, Option, Some, None, is_some, Result, Ok, Err, refl, inl, inr, sym, ◌∙◌, ap, arith, if◌then◌else◌, nat_eq}
use Rattle.std.specs.Prelude.{◌⊎◌}
use Rattle.ir_text.specs.declared.name.Name.{Name}
use Rattle.ir_grammar.specs.declared.type_tree.TypeNode.{TypeNode}
use Rattle.ir_instruction_trees.specs.declared.tree.Instruction.{Instruction}
use Rattle.ir_tree.specs.declared.tree.Block.{Block as BlockText}
use Rattle.ir_tree.specs.declared.tree.Parameter.{Parameter}
use Rattle.ir_tree.specs.declared.tree.Function.{Function as FunctionText}
use Rattle.ir_core.specs.declared.types.Ty.{Ty}
use Rattle.ir_core.specs.declared.types.Ty.TheVariants as values
use Rattle.ir_core.specs.declared.program.Function.{Function}
use Rattle.ir_core.specs.declared.program.What.{What}
use Rattle.ir_core.specs.declared.program.What.TheVariants as what
use Rattle.ir_types.specs.Types.{type_of}
use Rattle.ir_types.specs.declared.table.Types.{Types}
use Rattle.ir_types.specs.declared.fault.Fault.{Fault}
use Rattle.ir_types.specs.declared.fault.Fault.TheVariants as faults
use Rattle.ir_types.specs.declared.tables.Target.{Target}
use Rattle.ir_types.specs.declared.tables.Target.TheVariants as targets
use Rattle.ir_types.specs.Walk.{◌>>=◌, walk}
use Rattle.ir_types.specs.Tables.{target_named, target_numbered, put_named, put_numbered}
use Rattle.ir_types.specs.declared.names.Table.{Table}
use Rattle.ir_types.specs.Names.{Symbols, is_numbered, bytes_of, number_of, if_new, target_of, named_target, numbered_target}
use Rattle.ir_resolve.specs.Operands.{is_ty, place_of_type}
use Rattle.ir_resolve.specs.Causes.{IsMisspelt}
use Rattle.ir_resolve.proofs.Shown.{chain, carry, ok-fails, type_fails, bytes-fail, number-fails}
use Rattle.ir_instructions.specs.declared.built_ins.NamedBuiltIn.{NamedBuiltIn}
use Rattle.ir_instructions.specs.BuiltIns.{built_in_of}
use Rattle.ir_instructions.specs.Instructions.{result_type, operation}
use Rattle.ir_instructions.specs.Causes.{some_type, asks, Among, SyntaxWhere, Unanswered, Reached}
use Rattle.ir_instructions.proofs.Shown.{operation_fails, result_fails, walk_fails, reached_among}
use Rattle.ir_functions.specs.declared.locals.Numbering.{Numbering}
use Rattle.ir_functions.specs.declared.locals.ParamList.{ParamList}
use Rattle.ir_functions.specs.declared.locals.BodyNames.{BodyNames}
use Rattle.ir_functions.specs.declared.units.UnitCount.{UnitCount}
use Rattle.ir_functions.specs.declared.functions.InstList.{InstList}
use Rattle.ir_functions.specs.declared.functions.BlockList.{BlockList}
use Rattle.ir_functions.specs.declared.functions.SymbolList.{SymbolList}
use Rattle.ir_functions.specs.Functions.{behind_number, number_local, bytes_local, name_local, parameter_type, parameter_step, no_result, some_result, result_step, label, label_step, inst_step, block_step, within, body_names, parameters, body, unit_step, block_units_step, units_of, function, no_built_in, symbol_step}
use Rattle.ir_functions.specs.Causes.{PassesLimit, NameWhere, LocalFault, ParameterFault, NamesNothing, ResultNameFault, BlockNamesFault, no_names, body_start, BodyNamesFault, HasNames, BodyFault, PassesUnits, ParametersFault, FunctionFault, IsBuiltInName, IsTakenName}

pub new-fails : {A : Type 0} (P : Fault → Type 0) (fresh : Bool) (left : ℕ) (after : A) (e : Fault) → (fresh ≡ false → P (faults.Name left)) → if_new fresh left after ≡ Err e → P e
new-fails P true left after e p h = ok-fails after e h
new-fails P false left after e p h = carry P (faults.Name left) e (p refl) h

behind-fails : (P : Fault → Type 0) (low : Bool) (left : ℕ) (after : Numbering) (e : Fault) → (low ≡ true → P (faults.Syntax left)) → behind_number low left after ≡ Err e → P e
behind-fails P false left after e p h = ok-fails after e h
behind-fails P true left after e p h = carry P (faults.Syntax left) e (p refl) h

-- a name that isn't new stands for something
pub old-number : (n : ℕ) (target : Target) (all : List (ℕ × Target)) → (put_numbered n target all).0 ≡ false → (found : Target) × (target_numbered n all ≡ Some found)
old-number n target all h = by (target_numbered n all) refl h
  where
    by : (o : Option Target) → target_numbered n all ≡ o → (if◌then◌else◌ {A = Bool × List (ℕ × Target)} (is_some o) (false, all) (true, all ++ (n, target) ∷ [])).0 ≡ false → (found : Target) × (target_numbered n all ≡ Some found)
    by None is h = absurd cc
    by (Some found) is h = (found, is)

pub old-bytes : (bytes : List ℕ) (target : Target) (all : List (List ℕ × Target)) → (put_named bytes target all).0 ≡ false → (found : Target) × (target_named bytes all ≡ Some found)
old-bytes bytes target all h = by (target_named bytes all) refl h
  where
    by : (o : Option Target) → target_named bytes all ≡ o → (if◌then◌else◌ {A = Bool × List (List ℕ × Target)} (is_some o) (false, all) (true, all ++ (bytes, target) ∷ [])).0 ≡ false → (found : Target) × (target_named bytes all ≡ Some found)
    by None is h = absurd cc
    by (Some found) is h = (found, is)

pub number-defined : (table : Table) (name : Name) (n : ℕ) (found : Target) → is_numbered name.spelling ≡ true → number_of name ≡ Ok n → target_numbered n table.numbered ≡ Some found → target_of table name ≡ Ok found
unfolding target_of numbered_target
number-defined table name n found numbered is here = rw (numbered, is, here) refl

pub bytes-defined : (table : Table) (name : Name) (bytes : List ℕ) (found : Target) → is_numbered name.spelling ≡ false → bytes_of name ≡ Ok bytes → target_named bytes table.named ≡ Some found → target_of table name ≡ Ok found
unfolding target_of named_target
bytes-defined table name bytes found numbered is here = rw (numbered, is, here) refl

number-local-fails : (before : Numbering) (name : Name) (target : Target) (e : Fault) → is_numbered name.spelling ≡ true → number_local before name target ≡ Err e → LocalFault before (Some name) e
unfolding number_local
number-local-fails before name target e numbered h =
    chain (LocalFault before (Some name) e) (number_of name) (λ n. if_new (put_numbered n target before.table.numbered).0 name.left (put_numbered n target before.table.numbered).1 >>= λ after. behind_number (nat_lt n before.counter) name.left (record { table = record { numbered = after; named = before.table.named }; counter = n + 1 })) e
    (λ first. number-fails (LocalFault before (Some name)) name e (λ none. inl (inl (inl (numbered, none)))) first)
    (λ n is more. chain (LocalFault before (Some name) e) (if_new (put_numbered n target before.table.numbered).0 name.left (put_numbered n target before.table.numbered).1) (λ after. behind_number (nat_lt n before.counter) name.left (record { table = record { numbered = after; named = before.table.named }; counter = n + 1 })) e
    (λ second. new-fails (LocalFault before (Some name)) (put_numbered n target before.table.numbered).0 name.left (put_numbered n target before.table.numbered).1 e
    (λ old. let found = old-number n target before.table.numbered old in inr (refl, (found.0, number-defined before.table name n found.0 numbered is found.1))) second)
    (λ after was last. behind-fails (LocalFault before (Some name)) (nat_lt n before.counter) name.left (record { table = record { numbered = after; named = before.table.named }; counter = n + 1 }) e
    (λ low. inl (inr (n, numbered, is, grind arith))) last) more) h

bytes-local-fails : (before : Numbering) (name : Name) (target : Target) (e : Fault) → is_numbered name.spelling ≡ false → bytes_local before name target ≡ Err e → LocalFault before (Some name) e
unfolding bytes_local
bytes-local-fails before name target e numbered h =
    chain (LocalFault before (Some name) e) (bytes_of name) (λ bytes. if_new (put_named bytes target before.table.named).0 name.left (put_named bytes target before.table.named).1 >>= λ after. Ok (record { table = record { numbered = before.table.numbered; named = after }; counter = before.counter })) e
    (λ first. bytes-fail (LocalFault before (Some name)) name e (λ none. inl (inl (inr (numbered, none)))) first)
    (λ bytes is more. chain (LocalFault before (Some name) e) (if_new (put_named bytes target before.table.named).0 name.left (put_named bytes target before.table.named).1) (λ after. Ok (record { table = record { numbered = before.table.numbered; named = after }; counter = before.counter })) e
    (λ second. new-fails (LocalFault before (Some name)) (put_named bytes target before.table.named).0 name.left (put_named bytes target before.table.named).1 e
    (λ old. let found = old-bytes bytes target before.table.named old in inr (refl, (found.0, bytes-defined before.table name bytes found.0 numbered is found.1))) second)
    (λ after was none. ok-fails _ e none) more) h

local-fails : (before : Numbering) (name : Option Name) (target : Target) (e : Fault) → name_local before name target ≡ Err e → LocalFault before name e
local-fails before None target e h = ok-fails _ e h
local-fails before (Some name) target e h = by (is_numbered name.spelling) refl h
  where
    by : (b : Bool) → is_numbered name.spelling ≡ b → (if b then number_local before name target else bytes_local before name target) ≡ Err e → LocalFault before (Some name) e
    by true is h = number-local-fails before name target e is h
    by false is h = bytes-local-fails before name target e is h

void-is : (ty : Ty) → is_ty ty values.Void ≡ true → ty ≡ values.Void
void-is values.Void h = refl
void-is values.Ptr h = absurd cc
void-is (values.Int w) h = absurd cc

parameter-type-fails : (P : Fault → Type 0) (left : ℕ) (ty : Ty) (e : Fault) → (ty ≡ values.Void → P (faults.Syntax left)) → parameter_type left ty ≡ Err e → P e
parameter-type-fails P left ty e p h = by (is_ty ty values.Void) refl h
  where
    by : (b : Bool) → is_ty ty values.Void ≡ b → (if b then Err (faults.Syntax left) else Ok ty) ≡ Err e → P e
    by true is h = carry P (faults.Syntax left) e (p (void-is ty is)) h
    by false is h = ok-fails ty e h

parameter-fails : (types : Types) (before : ParamList) (given : Parameter) (e : Fault) → parameter_step types before given ≡ Err e → ParameterFault types before given e
unfolding parameter_step
parameter-fails types before given e h =
    chain (ParameterFault types before given e) (type_of types given.ty) (λ written. parameter_type (place_of_type given.ty) written >>= λ ty. name_local before.names given.name (targets.Value (length before.tys)) >>= λ names. Ok (record { names = names; tys = before.tys ++ ty ∷ [] })) e
    (λ first. inl (type_fails types given.ty e first))
    (λ written is more. chain (ParameterFault types before given e) (parameter_type (place_of_type given.ty) written) (λ ty. name_local before.names given.name (targets.Value (length before.tys)) >>= λ names. Ok (record { names = names; tys = before.tys ++ ty ∷ [] })) e
    (λ second. inr (inl (parameter-type-fails (SyntaxWhere (type_of types given.ty ≡ Ok values.Void)) (place_of_type given.ty) written e (λ void. is ∙ ap (λ t. Ok t) void) second)))
    (λ ty was last. chain (ParameterFault types before given e) (name_local before.names given.name (targets.Value (length before.tys))) (λ names. Ok (record { names = names; tys = before.tys ++ ty ∷ [] })) e
    (λ third. inr (inr (local-fails before.names given.name (targets.Value (length before.tys)) e third)))
    (λ names made none. ok-fails _ e none) last) more) h

no-result-fails : (P : Fault → Type 0) (before : BodyNames) (given : Option Name) (e : Fault) → ((name : Name) → given ≡ Some name → P (faults.Syntax name.left)) → no_result before given ≡ Err e → P e
no-result-fails P before None e p h = ok-fails before e h
no-result-fails P before (Some name) e p h = carry P (faults.Syntax name.left) e (p name refl) h

some-result-fails : (before : BodyNames) (given : Option Name) (e : Fault) → some_result before given ≡ Err e → LocalFault before.names given e
unfolding some_result
some-result-fails before given e h =
    chain (LocalFault before.names given e) (name_local before.names given (targets.Value before.values)) (λ names. Ok (record { names = names; values = before.values + 1; blocks = before.blocks })) e
    (λ first. local-fails before.names given (targets.Value before.values) e first)
    (λ names is none. ok-fails _ e none) h

result-name-fails : (types : Types) (ret : List TypeNode) (before : BodyNames) (given : Instruction) (e : Fault) → result_step types before given ≡ Err e → ResultNameFault types ret before given e
unfolding result_step
result-name-fails types ret before given e h =
    chain (ResultNameFault types ret before given e) (result_type types given.operation) (λ ty. if is_ty ty values.Void then no_result before given.result else some_result before given.result) e
    (λ first. inl (result_fails types e ret true given.aligns given.operation first))
    (λ ty is more. by ty is (is_ty ty values.Void) refl more) h
  where
    by : (ty : Ty) → result_type types given.operation ≡ Ok ty → (b : Bool) → is_ty ty values.Void ≡ b → (if b then no_result before given.result else some_result before given.result) ≡ Err e → ResultNameFault types ret before given e
    by ty is true void h = inr (inl (no-result-fails (SyntaxWhere (NamesNothing types given)) before given.result e (λ name named. (name, named, is ∙ ap (λ t. Ok t) (void-is ty void))) h))
    by ty is false void h = inr (inr (some-result-fails before given.result e h))

label-fails : (before : BodyNames) (given : Option Name) (e : Fault) → label before given ≡ Err e → LocalFault before.names given e
unfolding label
label-fails before given e h =
    chain (LocalFault before.names given e) (name_local before.names given (targets.Block before.blocks)) (λ names. Ok (record { names = names; values = before.values; blocks = before.blocks + 1 })) e
    (λ first. local-fails before.names given (targets.Block before.blocks) e first)
    (λ names is none. ok-fails _ e none) h

block-names-fail : (types : Types) (ret : List TypeNode) (before : BodyNames) (given : BlockText) (e : Fault) → label_step types before given ≡ Err e → BlockNamesFault types ret before given e
unfolding label_step
block-names-fail types ret before given e h =
    chain (BlockNamesFault types ret before given e) (label before given.label) (λ after. walk (result_step types) after given.instructions) e
    (λ first. inl (label-fails before given.label e first))
    (λ after is more. walk_fails (result_step types) after given.instructions e (BlockNamesFault types ret before given e) (λ at one r bad. inr (after, is, at, one, r, result-name-fails types ret at one e bad)) more) h

pub within-fails : (counted : What) (most count : ℕ) (e : Fault) → within counted most count ≡ Err e → PassesLimit counted most count e
within-fails counted most count e h = by (nat_le count most) refl h
  where
    by : (b : Bool) → nat_le count most ≡ b → if◌then◌else◌ {A = Result (Unit {0}) Fault} b (Ok tt) (Err (faults.Limit counted count)) ≡ Err e → PassesLimit counted most count e
    by true is h = absurd cc
    by false is h = (grind arith, let same : faults.Limit counted count ≡ e = cc in sym same)

-- units are counted without a fault
units-step-holds : {P : Type 0} (blocks : List BlockText) (count : UnitCount) (e : Fault) → walk block_units_step count blocks ≡ Err e → P
units-step-holds {P = P} blocks count e h = walk_fails block_units_step count blocks e P
    (λ before block r bad. walk_fails unit_step before block.instructions e P (λ at one s none. ok-fails _ e none) bad) h

units-hold : {P : Type 0} (blocks : List BlockText) (e : Fault) → units_of blocks ≡ Err e → P
unfolding units_of
units-hold {P = P} blocks e h = chain P (walk block_units_step (record { units = 0 }) blocks) (λ count. Ok count.units) e (λ first. units-step-holds blocks (record { units = 0 }) e first) (λ count is none. ok-fails count.units e none) h

parameters-fail : (types : Types) (given : FunctionText) (e : Fault) → parameters types given.parameters ≡ Err e → PassesLimit what.Parameters 8 (length given.parameters) e ⊎ ParametersFault types given e
unfolding parameters
parameters-fail types given e h =
    chain (PassesLimit what.Parameters 8 (length given.parameters) e ⊎ ParametersFault types given e) (within what.Parameters 8 (length given.parameters)) (λ _. walk (parameter_step types) no_names given.parameters) e
    (λ first. inl (within-fails what.Parameters 8 (length given.parameters) e first))
    (λ _ is more. inr (walk_fails (parameter_step types) no_names given.parameters e (ParametersFault types given e) (λ before one r bad. (before, one, r, parameter-fails types before one e bad)) more)) h

body-names-fail : (types : Types) (given : FunctionText) (params : ParamList) (e : Fault) → parameters types given.parameters ≡ Ok params → body_names types params.names (length params.tys) given.blocks ≡ Err e → BodyNamesFault types given e
unfolding body_names
body-names-fail types given params e is h = walk_fails (label_step types) (body_start params) given.blocks e (BodyNamesFault types given e) (λ before block r bad. (params, is, before, block, r, block-names-fail types given.ret before block e bad)) h

-- an instruction of a block
inst-fails : (types : Types) (symbols : Symbols) (table : Table) (ret : List TypeNode) (ty : Ty) (entry : Bool) (before : InstList) (given : Instruction) (e : Fault) → type_of types ret ≡ Ok ty → inst_step types symbols table ty entry before given ≡ Err e → Unanswered types symbols table (asks ret entry given.aligns given.operation) e
unfolding inst_step
inst-fails types symbols table ret ty entry before given e is h =
    chain (Unanswered types symbols table (asks ret entry given.aligns given.operation) e) (result_type types given.operation) (λ gives. operation types symbols table ty entry given.aligns given.operation >>= λ op. Ok (record { all = before.all ++ record { gives = gives; op = op } ∷ [] })) e
    (λ first. let asked = result_fails types e ret entry given.aligns given.operation first in (some_type asked.0, asked.1, asked.2))
    (λ gives was more. chain (Unanswered types symbols table (asks ret entry given.aligns given.operation) e) (operation types symbols table ty entry given.aligns given.operation) (λ op. Ok (record { all = before.all ++ record { gives = gives; op = op } ∷ [] })) e
    (λ second. operation_fails types symbols table e ret ty entry given.aligns given.operation is second)
    (λ op made none. ok-fails _ e none) more) h

abbrev InBlock : Types → Symbols → Table → List TypeNode → Bool → BlockText → Fault → Type 0
InBlock types symbols table ret entry block e = (one : Instruction) × Among block.instructions one × Unanswered types symbols table (asks ret entry one.aligns one.operation) e

block-fails : (types : Types) (symbols : Symbols) (table : Table) (ret : List TypeNode) (ty : Ty) (before : BlockList) (given : BlockText) (e : Fault) → type_of types ret ≡ Ok ty → block_step types symbols table ty before given ≡ Err e → InBlock types symbols table ret (nat_eq (length before.all) 0) given e
unfolding block_step
block-fails types symbols table ret ty before given e is h =
    chain (InBlock types symbols table ret (nat_eq (length before.all) 0) given e) (walk (inst_step types symbols table ty (nat_eq (length before.all) 0)) (record { all = [] }) given.instructions) (λ insts. Ok (record { all = before.all ++ record { insts = insts.all } ∷ [] })) e
    (λ first. walk_fails (inst_step types symbols table ty (nat_eq (length before.all) 0)) (record { all = [] }) given.instructions e (InBlock types symbols table ret (nat_eq (length before.all) 0) given e)
    (λ at one r bad. (one, reached_among (inst_step types symbols table ty (nat_eq (length before.all) 0)) (record { all = [] }) given.instructions at one r, inst-fails types symbols table ret ty (nat_eq (length before.all) 0) at one e is bad)) first)
    (λ insts made none. ok-fails _ e none) h

abbrev InBody : Types → Symbols → Table → Ty → FunctionText → Fault → Type 0
InBody types symbols table ty given e = (before : BlockList) × (block : BlockText) × Reached (block_step types symbols table ty) (record { all = [] }) given.blocks before block × InBlock types symbols table given.ret (nat_eq (length before.all) 0) block e

body-fails : (types : Types) (symbols : Symbols) (table : Table) (given : FunctionText) (ty : Ty) (e : Fault) → type_of types given.ret ≡ Ok ty → body types symbols table ty given.blocks ≡ Err e → InBody types symbols table ty given e
unfolding body
body-fails types symbols table given ty e is h =
    chain (InBody types symbols table ty given e) (walk (block_step types symbols table ty) (record { all = [] }) given.blocks) (λ blocks. Ok blocks.all) e
    (λ first. walk_fails (block_step types symbols table ty) (record { all = [] }) given.blocks e (InBody types symbols table ty given e)
    (λ at block r bad. (at, block, r, block-fails types symbols table given.ret ty at block e is bad)) first)
    (λ blocks made none. ok-fails blocks.all e none) h

-- the steps behind the names of a function
abbrev last_part : Types → Symbols → FunctionText → List ℕ → Ty → ParamList → BodyNames → Result Function Fault
last_part types symbols given name ret params names = body types symbols names.names.table ret given.blocks >>= λ blocks. Ok (record { name = name; params = params.tys; ret = ret; blocks = blocks })

abbrev names_part : Types → Symbols → FunctionText → List ℕ → Ty → ParamList → Result Function Fault
names_part types symbols given name ret params = body_names types params.names (length params.tys) given.blocks >>= λ names. last_part types symbols given name ret params names

abbrev units_part : Types → Symbols → FunctionText → List ℕ → Ty → ParamList → Result Function Fault
units_part types symbols given name ret params = units_of given.blocks >>= λ count. within what.Units 16384 count >>= λ _. names_part types symbols given name ret params

last-fails : (types : Types) (symbols : Symbols) (given : FunctionText) (name : List ℕ) (ret : Ty) (params : ParamList) (names : BodyNames) (e : Fault) → type_of types given.ret ≡ Ok ret → HasNames types given names.names.table → last_part types symbols given name ret params names ≡ Err e → BodyFault types symbols given e
last-fails types symbols given name ret params names e is has h =
    chain (BodyFault types symbols given e) (body types symbols names.names.table ret given.blocks) (λ blocks. Ok (record { name = name; params = params.tys; ret = ret; blocks = blocks })) e
    (λ first. let found = body-fails types symbols names.names.table given ret e is first in (names.names.table, has, ret, is, found.0, found.1, found.2, found.3.0, found.3.1, found.3.2))
    (λ blocks made none. ok-fails _ e none) h

names-fail : (types : Types) (symbols : Symbols) (given : FunctionText) (name : List ℕ) (ret : Ty) (params : ParamList) (e : Fault) → type_of types given.ret ≡ Ok ret → parameters types given.parameters ≡ Ok params → names_part types symbols given name ret params ≡ Err e → BodyNamesFault types given e ⊎ BodyFault types symbols given e
names-fail types symbols given name ret params e is params_are h =
    chain (BodyNamesFault types given e ⊎ BodyFault types symbols given e) (body_names types params.names (length params.tys) given.blocks) (λ names. last_part types symbols given name ret params names) e
    (λ first. inl (body-names-fail types given params e params_are first))
    (λ names made more. inr (last-fails types symbols given name ret params names e is (params, params_are, names, made, refl) more)) h

units-fail : (types : Types) (symbols : Symbols) (given : FunctionText) (name : List ℕ) (ret : Ty) (params : ParamList) (e : Fault) → type_of types given.ret ≡ Ok ret → parameters types given.parameters ≡ Ok params → units_part types symbols given name ret params ≡ Err e → PassesUnits given e ⊎ (BodyNamesFault types given e ⊎ BodyFault types symbols given e)
units-fail types symbols given name ret params e is params_are h =
    chain (PassesUnits given e ⊎ (BodyNamesFault types given e ⊎ BodyFault types symbols given e)) (units_of given.blocks) (λ count. within what.Units 16384 count >>= λ _. names_part types symbols given name ret params) e
    (λ first. units-hold given.blocks e first)
    (λ count counted more. chain (PassesUnits given e ⊎ (BodyNamesFault types given e ⊎ BodyFault types symbols given e)) (within what.Units 16384 count) (λ _. names_part types symbols given name ret params) e
    (λ second. inl (count, counted, within-fails what.Units 16384 count e second))
    (λ _ fits last. inr (names-fail types symbols given name ret params e is params_are last)) more) h

params-or : (types : Types) (symbols : Symbols) (given : FunctionText) (e : Fault) → PassesLimit what.Parameters 8 (length given.parameters) e ⊎ ParametersFault types given e → FunctionFault types symbols given e
params-or types symbols given e (inl many) = inr (inr (inl many))
params-or types symbols given e (inr bad) = inr (inr (inr (inl bad)))

pub function-fails : (types : Types) (symbols : Symbols) (given : FunctionText) (e : Fault) → function types symbols given ≡ Err e → FunctionFault types symbols given e
unfolding function
function-fails types symbols given e h =
    chain (FunctionFault types symbols given e) (bytes_of given.name) (λ name. type_of types given.ret >>= λ ret. parameters types given.parameters >>= λ params. units_part types symbols given name ret params) e
    (λ first. inl (bytes-fail (SyntaxWhere (IsMisspelt given.name)) given.name e (λ none. none) first))
    (λ name named more. chain (FunctionFault types symbols given e) (type_of types given.ret) (λ ret. parameters types given.parameters >>= λ params. units_part types symbols given name ret params) e
    (λ second. inr (inl (type_fails types given.ret e second)))
    (λ ret is rest. chain (FunctionFault types symbols given e) (parameters types given.parameters) (λ params. units_part types symbols given name ret params) e
    (λ third. params-or types symbols given e (parameters-fail types given e third))
    (λ params params_are last. inr (inr (inr (inr (units-fail types symbols given name ret params e is params_are last))))) rest) more) h

built-in-name-fails : (P : Fault → Type 0) (left : ℕ) (o : Option NamedBuiltIn) (e : Fault) → ((named : NamedBuiltIn) → o ≡ Some named → P (faults.Name left)) → no_built_in left o ≡ Err e → P e
built-in-name-fails P left None e p h = ok-fails tt e h
built-in-name-fails P left (Some named) e p h = carry P (faults.Name left) e (p named refl) h

pub symbol-fails : (before : SymbolList) (given : FunctionText) (e : Fault) → symbol_step before given ≡ Err e → SyntaxWhere (IsMisspelt given.name) e ⊎ NameWhere given.name.left (IsBuiltInName given.name ⊎ IsTakenName before.named given.name) e
unfolding symbol_step named_target
symbol-fails before given e h =
    chain (All e) (bytes_of given.name) (λ bytes. no_built_in given.name.left (built_in_of bytes) >>= λ _. if_new (put_named bytes (targets.Function before.functions) before.named).0 given.name.left (put_named bytes (targets.Function before.functions) before.named).1 >>= λ named. Ok (record { named = named; functions = before.functions + 1 })) e
    (λ first. bytes-fail All given.name e (λ none. inl none) first)
    (λ bytes is more. chain (All e) (no_built_in given.name.left (built_in_of bytes)) (λ _. if_new (put_named bytes (targets.Function before.functions) before.named).0 given.name.left (put_named bytes (targets.Function before.functions) before.named).1 >>= λ named. Ok (record { named = named; functions = before.functions + 1 })) e
    (λ own. built-in-name-fails All given.name.left (built_in_of bytes) e (λ named known. inr (refl, inl (bytes, is, named, known))) own)
    (λ _ free rest. chain (All e) (if_new (put_named bytes (targets.Function before.functions) before.named).0 given.name.left (put_named bytes (targets.Function before.functions) before.named).1) (λ named. Ok (record { named = named; functions = before.functions + 1 })) e
    (λ second. new-fails All (put_named bytes (targets.Function before.functions) before.named).0 given.name.left (put_named bytes (targets.Function before.functions) before.named).1 e
    (λ old. let found = old-bytes bytes (targets.Function before.functions) before.named old in inr (refl, inr (found.0, rw (is, found.1) refl))) second)
    (λ named made none. ok-fails _ e none) rest) more) h
  where
    All : Fault → Type 0
    All x = SyntaxWhere (IsMisspelt given.name) x ⊎ NameWhere given.name.left (IsBuiltInName given.name ⊎ IsTakenName before.named given.name) x
