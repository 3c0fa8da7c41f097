-- Trees of printed functions say what was printed.
use Rattle.std.proofs.Common.{◌≡◌, ℕ, suc, ◌+◌, ◌^◌, ◌<◌, ◌≤◌, Bool, true, false, List, [], ◌∷◌, ◌++◌, length, slice_get, Option, Some, None, refl, sym, ◌∙◌, ap, subst, append_assoc, append-nil, length-append, arith}
use Rattle.std.specs.Prelude.{nat_eq, nat_le, sum_by, Result, Ok, if◌then◌else◌}
use Rattle.std.proofs.lemmas.List.Sums.{sum_by-cons}
use Rattle.ir_text.specs.declared.token.Spelling.TheVariants.{Bare}
use Rattle.ir_text.specs.declared.name.Name.{Name}
use Rattle.ir_core.specs.declared.types.Ty.{Ty}
use Rattle.ir_core.specs.declared.types.Ty.TheVariants as values
use Rattle.ir_core.specs.declared.code.Operand.TheVariants as operands
use Rattle.ir_core.specs.declared.code.Inst.{Inst}
use Rattle.ir_core.specs.declared.code.Block.{Block}
use Rattle.ir_core.specs.declared.program.Function.{Function}
use Rattle.ir_core.specs.declared.program.Module.{Module}
use Rattle.ir_core.specs.Units.{parts_in, is_result, has_result, results}
use Rattle.ir_instruction_trees.specs.declared.tree.Instruction.{Instruction}
use Rattle.ir_tree.specs.declared.tree.Block.{Block as BlockText}
use Rattle.ir_tree.specs.declared.tree.Parameter.{Parameter}
use Rattle.ir_tree.specs.declared.tree.Function.{Function as FunctionText}
use Rattle.ir_types.specs.declared.fault.Fault.{Fault}
use Rattle.ir_types.specs.declared.tables.Target.{Target}
use Rattle.ir_types.specs.declared.tables.Target.TheVariants as targets
use Rattle.ir_types.specs.Walk.{walk}
use Rattle.ir_types.specs.Tables.{target_named}
use Rattle.ir_types.specs.declared.names.Table.{Table}
use Rattle.ir_types.specs.Names.{Symbols, is_numbered, bytes_of, named_target, target_of}
use Rattle.ir_resolve.specs.Operands.{is_ty, local_operand, block_of}
use Rattle.ir_functions.specs.declared.locals.Numbering.{Numbering}
use Rattle.ir_functions.specs.declared.locals.ParamList.{ParamList}
use Rattle.ir_functions.specs.declared.locals.BodyNames.{BodyNames}
use Rattle.ir_functions.specs.Functions.{bytes_local, name_local, parameter_step, no_result, some_result, result_step, label, label_step, inst_step, block_step, body_names, parameters, body, unit_step, block_units_step, units_of, function}
use Rattle.ir_print.specs.Values.{global_of}
use Rattle.ir_print.specs.Instructions.{function_of}
use Rattle.ir_print.specs.Modules.{next_value}
use Rattle.ir_print_laws.specs.FormTrees.{IsValueName, IsBlockName, IsNameOf, IsTyTree}
use Rattle.ir_print_laws.specs.ModuleTrees.{IsNamed, IsResultTree, IsInstructionTree, AreInstructionTrees, AreBlockTrees, AreParameterTrees, IsFunctionTree}
use Rattle.ir_print_laws.specs.Written.{Each}
use Rattle.ir_print_laws.specs.Fits.{Counts, IsNoVoid, FitsInstruction, FitsBlocks, parts_and_one, block_parts, results_in, counts_of, FitsParameter, FitsFunction, no_types}
use Rattle.ir_print_laws.proofs.Named.{Entries, Knows, none_known, one_value, one_block, is_new, value_name, block_name, target_says, name_says}
use Rattle.ir_print_laws.proofs.Operands.{Known, SaysAddress, type_says}
use Rattle.ir_print_laws.proofs.Operations.{SaysMemory, operation_said, result_says, parts_say}

abbrev numbering : Entries → Numbering
numbering named = record { table = record { numbered = []; named = named }; counter = 0 }

abbrev table_of : Entries → Table
table_of named = record { numbered = []; named = named }

-- ---- one more name

bare_bytes : (name : Name) (bytes : List ℕ) → name.spelling ≡ Bare → name.bytes ≡ bytes → bytes_of name ≡ Ok bytes
unfolding bytes_of
bare_bytes name bytes p q = rw (p, q) refl

bare_local : (named : Entries) (name : Name) (bytes : List ℕ) (target : Target) → name.spelling ≡ Bare → name.bytes ≡ bytes → target_named bytes named ≡ None → name_local (numbering named) (Some name) target ≡ Ok (numbering (named ++ (bytes, target) ∷ []))
unfolding bytes_local
bare_local named name bytes target p q new = let e : is_numbered name.spelling ≡ false = ap is_numbered p in rw e (rw (bare_bytes name bytes p q, is_new bytes target named new) refl)

value_named : (named : Entries) (n blocks : ℕ) (given : Option Name) → n < 2 ^ 64 → Knows named n blocks → IsNamed (IsValueName n) given → name_local (numbering named) given (targets.Value n) ≡ Ok (numbering (named ++ (value_name n, targets.Value n) ∷ []))
value_named named n blocks given few knows is =
    let e = bare_local named is.0 (value_name n) (targets.Value n) is.2.0 is.2.1 (knows.no_value n (omega arith) (omega (arith, few))) in
    subst (λ (x : Option Name). name_local (numbering named) x (targets.Value n) ≡ Ok (numbering (named ++ (value_name n, targets.Value n) ∷ []))) (sym is.1) e

block_named : (named : Entries) (n k : ℕ) (given : Option Name) → k < 2 ^ 64 → Knows named n k → IsNamed (IsBlockName k) given → name_local (numbering named) given (targets.Block k) ≡ Ok (numbering (named ++ (block_name k, targets.Block k) ∷ []))
block_named named n k given few knows is =
    let e = bare_local named is.0 (block_name k) (targets.Block k) is.2.0 is.2.1 (knows.no_block k (omega arith) (omega (arith, few))) in
    subst (λ (x : Option Name). name_local (numbering named) x (targets.Block k) ≡ Ok (numbering (named ++ (block_name k, targets.Block k) ∷ []))) (sym is.1) e

-- ---- parameters

no_void : (ty : Ty) → IsNoVoid ty → is_ty ty values.Void ≡ false
no_void values.Void some = absurd some
no_void (values.Int w) some = refl
no_void values.Ptr some = refl

abbrev params_at : Entries → List Ty → ParamList
params_at named tys = record { names = numbering named; tys = tys }

record ParamsSaid (tys before : List Ty) (given : List Parameter) (named : Entries) : Type 0 where
  after : Entries
  says : walk (parameter_step no_types) (params_at named before) given ≡ Ok (params_at after (before ++ tys))
  knows : Knows after (length (before ++ tys)) 0

length_more : (tys : List Ty) (ty : Ty) → length (tys ++ ty ∷ []) ≡ length tys + 1
length_more [] ty = refl
length_more (x ∷ tys) ty = let e = length_more tys ty in omega (arith, e)

param_says : (ty : Ty) (before : List Ty) (named : Entries) (one : Parameter) → FitsParameter ty → length before < 2 ^ 64 → Knows named (length before) 0 → IsTyTree ty one.ty → IsNamed (IsValueName (length before)) one.name
    → parameter_step no_types (params_at named before) one ≡ Ok (params_at (named ++ (value_name (length before), targets.Value (length before)) ∷ []) (before ++ ty ∷ []))
unfolding parameter_step
param_says ty before named one fits few knows is name =
    rw (type_says ty one.ty fits.0 is) (rw (no_void ty fits.1) (rw (value_named named (length before) 0 one.name few knows name) refl))

params_said : (tys before : List Ty) (given : List Parameter) (named : Entries) → Each FitsParameter tys → length (before ++ tys) < 2 ^ 64 → Knows named (length before) 0 → AreParameterTrees (length before) tys given → ParamsSaid tys before given named
unfolding walk
params_said [] before [] named fits few knows is =
    record { after = named; says = ap (λ (xs : List Ty). Ok (params_at named xs)) (sym (append-nil before)); knows = subst (λ (xs : List Ty). Knows named (length xs) 0) (sym (append-nil before)) knows }
params_said [] before (one ∷ more) named fits few knows is = absurd is
params_said (ty ∷ tys) before [] named fits few knows is = absurd is
params_said (ty ∷ tys) before (one ∷ more) named fits few knows is =
    let longer = length_more before ty in
    let joined = append_assoc before (ty ∷ []) tys in
    let few_all : length ((before ++ ty ∷ []) ++ tys) < 2 ^ 64 = subst (λ (xs : List Ty). length xs < 2 ^ 64) (sym joined) few in
    let small : length before < 2 ^ 64 = shorter before (ty ∷ tys) few in
    let step = param_says ty before named one fits.0 small knows is.0 is.1.0 in
    let next = subst (λ (n : ℕ). Knows (named ++ (value_name (length before), targets.Value (length before)) ∷ []) n 0) (sym longer) (one_value named (length before) 0 small knows) in
    let rest = params_said tys (before ++ ty ∷ []) more _ fits.1 few_all next (subst (λ (n : ℕ). AreParameterTrees n tys more) (sym longer) is.1.1) in
    record {
      after = rest.after;
      says = rw step (rest.says ∙ ap (λ (xs : List Ty). Ok (params_at rest.after xs)) joined);
      knows = subst (λ (xs : List Ty). Knows rest.after (length xs) 0) joined rest.knows;
    }
  where
    shorter : (xs ys : List Ty) → length (xs ++ ys) < 2 ^ 64 → length xs < 2 ^ 64
    shorter xs ys lt = let e = length-append xs ys in omega (arith, lt, e)

-- ---- results and labels

abbrev names_at : Entries → ℕ → ℕ → BodyNames
names_at named n k = record { names = numbering named; values = n; blocks = k }

record Named (named : Entries) (after : BodyNames → Result BodyNames Fault) (n k m l : ℕ) : Type 0 where
  others : Entries
  says : after (names_at named n k) ≡ Ok (names_at others m l)
  knows : Knows others m l

result_not_void : (ty : Ty) → is_result ty ≡ true → is_ty ty values.Void ≡ false
result_not_void values.Void e = absurd cc
result_not_void (values.Int w) e = refl
result_not_void values.Ptr e = refl

no_result_void : (ty : Ty) → is_result ty ≡ false → is_ty ty values.Void ≡ true
no_result_void values.Void e = refl
no_result_void (values.Int w) e = absurd cc
no_result_void values.Ptr e = absurd cc

some_says : (named : Entries) (n k : ℕ) (given : Option Name) → n < 2 ^ 64 → Knows named n k → IsNamed (IsValueName n) given → some_result (names_at named n k) given ≡ Ok (names_at (named ++ (value_name n, targets.Value n) ∷ []) (n + 1) k)
unfolding some_result
some_says named n k given few knows is = rw (value_named named n k given few knows is) refl

none_says : (named : Entries) (n k : ℕ) (given : Option Name) → given ≡ None → no_result (names_at named n k) given ≡ Ok (names_at named n k)
none_says named n k given e = rw e refl

one_result : (m : Module) (counts : Counts) (entry : Bool) (ret : Ty) (named : Entries) (n k : ℕ) (inst : Inst) (given : Instruction) (some : Bool) → has_result inst ≡ some → FitsInstruction m counts entry ret inst → n < 2 ^ 64 → Knows named n k → IsInstructionTree m ret n inst given
    → Named named (λ before. result_step no_types before given) n k (next_value n inst) k
unfolding result_step
one_result m counts entry ret named n k inst given true e fits few knows is =
    let ty = result_says m counts ret inst.gives entry inst.op given.operation fits.0 is.1.0 in
    let name = subst (λ (b : Bool). IsResultTree b n given.result) e is.0 in
    record {
      others = named ++ (value_name n, targets.Value n) ∷ [];
      says = rw e (rw (ty, result_not_void inst.gives e) (some_says named n k given.result few knows name));
      knows = rw e (one_value named n k few knows);
    }
one_result m counts entry ret named n k inst given false e fits few knows is =
    let ty = result_says m counts ret inst.gives entry inst.op given.operation fits.0 is.1.0 in
    let name = subst (λ (b : Bool). IsResultTree b n given.result) e is.0 in
    let same : n + 0 ≡ n = omega arith in
    record {
      others = named;
      says = rw e (rw (ty, no_result_void inst.gives e) (none_says named n k given.result name ∙ ap (λ (x : ℕ). Ok (names_at named x k)) (sym same)));
      knows = rw e (subst (λ (x : ℕ). Knows named x k) (sym same) knows);
    }

results_more : (inst : Inst) (insts : List Inst) (n : ℕ) → next_value n inst + results insts ≡ n + results (inst ∷ insts)
results_more inst insts n = let e : results (inst ∷ insts) ≡ (if has_result inst then 1 else 0) + results insts = sum_by-cons (λ (x : Inst). if has_result x then 1 else 0) inst insts in omega (arith, e)

insts_named : (m : Module) (counts : Counts) (entry : Bool) (ret : Ty) (insts : List Inst) (given : List Instruction) (named : Entries) (n k : ℕ) → Each (FitsInstruction m counts entry ret) insts → n + results insts < 2 ^ 64 → Knows named n k → AreInstructionTrees m ret n insts given
    → Named named (λ before. walk (result_step no_types) before given) n k (n + results insts) k
unfolding walk
insts_named m counts entry ret [] [] named n k fits few knows is =
    let same : n + 0 ≡ n = omega arith in
    record { others = named; says = ap (λ (x : ℕ). Ok (names_at named x k)) (sym same); knows = subst (λ (x : ℕ). Knows named x k) (sym same) knows }
insts_named m counts entry ret [] (one ∷ more) named n k fits few knows is = absurd is
insts_named m counts entry ret (inst ∷ insts) [] named n k fits few knows is = absurd is
insts_named m counts entry ret (inst ∷ insts) (one ∷ more) named n k fits few knows is =
    let same = results_more inst insts n in
    let small : n < 2 ^ 64 = omega (arith, few) in
    let first = one_result m counts entry ret named n k inst one (has_result inst) refl fits.0 small knows is.0 in
    let rest = insts_named m counts entry ret insts more first.others (next_value n inst) k fits.1 (subst (λ (x : ℕ). x < 2 ^ 64) (sym same) few) first.knows is.1 in
    record { others = rest.others; says = rw first.says (rest.says ∙ ap (λ (x : ℕ). Ok (names_at rest.others x k)) same); knows = subst (λ (x : ℕ). Knows rest.others x k) same rest.knows }

label_says : (named : Entries) (n k : ℕ) (given : Option Name) → k < 2 ^ 64 → Knows named n k → IsNamed (IsBlockName k) given → label (names_at named n k) given ≡ Ok (names_at (named ++ (block_name k, targets.Block k) ∷ []) n (k + 1))
unfolding label
label_says named n k given few knows is = rw (block_named named n k given few knows is) refl

blocks_named : (m : Module) (counts : Counts) (entry : Bool) (ret : Ty) (blocks : List Block) (given : List BlockText) (named : Entries) (n k : ℕ) → FitsBlocks m counts entry ret blocks → n + results_in blocks < 2 ^ 64 → k + length blocks < 2 ^ 64 → Knows named n k → AreBlockTrees m ret k n blocks given
    → Named named (λ before. walk (label_step no_types) before given) n k (n + results_in blocks) (k + length blocks)
unfolding walk label_step
blocks_named m counts entry ret [] [] named n k fits few short knows is =
    let same : n + 0 ≡ n = omega arith in
    let same2 : k + 0 ≡ k = omega arith in
    record { others = named; says = rw (same, same2) refl; knows = rw (same, same2) knows }
blocks_named m counts entry ret [] (one ∷ more) named n k fits few short knows is = absurd is
blocks_named m counts entry ret (block ∷ blocks) [] named n k fits few short knows is = absurd is
blocks_named m counts entry ret (block ∷ blocks) (one ∷ more) named n k fits few short knows is =
    let small : k < 2 ^ 64 = omega (arith, short) in
    let values_few : n + results block.insts < 2 ^ 64 = omega (arith, few) in
    let start = label_says named n k one.label small knows is.0 in
    let first = insts_named m counts entry ret block.insts one.instructions (named ++ (block_name k, targets.Block k) ∷ []) n (k + 1) fits.0 values_few (one_block named n k small knows) is.1.0 in
    let few_rest : n + results block.insts + results_in blocks < 2 ^ 64 = omega (arith, few) in
    let short_rest : k + 1 + length blocks < 2 ^ 64 = omega (arith, short) in
    let rest = blocks_named m counts false ret blocks more first.others (n + results block.insts) (k + 1) fits.1 few_rest short_rest first.knows is.1.1 in
    let same : n + results block.insts + results_in blocks ≡ n + results_in (block ∷ blocks) = omega arith in
    let same2 : k + 1 + length blocks ≡ k + length (block ∷ blocks) = omega arith in
    record { others = rest.others; says = rw (start, first.says) (rest.says ∙ ap (λ (x : ℕ). Ok (names_at rest.others x (k + 1 + length blocks))) same ∙ ap (λ (x : ℕ). Ok (names_at rest.others (n + results_in (block ∷ blocks)) x)) same2); knows = subst (λ (x : ℕ). Knows rest.others (n + results_in (block ∷ blocks)) x) same2 (subst (λ (x : ℕ). Knows rest.others x (k + 1 + length blocks)) same rest.knows) }

-- ---- what names stand for

value_known : (named : Entries) (n k v : ℕ) (name : Name) → Knows named n k → v < n → IsValueName v name → local_operand (table_of named) name ≡ Ok (operands.Value v)
unfolding local_operand target_of
value_known named n k v name knows lt is =
    let e : is_numbered name.spelling ≡ false = ap is_numbered is.0 in
    rw e (rw (target_says named (value_name v) name (targets.Value v) (bare_bytes name (value_name v) is.0 is.1) (knows.value v lt)) refl)

block_known : (named : Entries) (n k b : ℕ) (name : Name) → Knows named n k → b < k → IsBlockName b name → block_of (table_of named) name ≡ Ok b
unfolding block_of target_of
block_known named n k b name knows lt is =
    let e : is_numbered name.spelling ≡ false = ap is_numbered is.0 in
    rw e (rw (target_says named (block_name b) name (targets.Block b) (bare_bytes name (block_name b) is.0 is.1) (knows.block b lt)) refl)

-- what the names of globals and functions stand for
pub record Symbolic (m : Module) (symbols : Symbols) : Type 0 where
  pub global : (k : ℕ) (name : Name) → k < length m.globals → IsNameOf (global_of (slice_get m.globals k)) name → named_target symbols name ≡ Ok (targets.Global k)
  pub function : (k : ℕ) (name : Name) → k < length m.functions → IsNameOf (function_of (slice_get m.functions k)) name → (bytes_of name ≡ Ok (function_of (slice_get m.functions k))) × (target_named (function_of (slice_get m.functions k)) symbols ≡ Some (targets.Function k))

known_in : (m : Module) (symbols : Symbols) (one : Function) (named : Entries) → Symbolic m symbols → Knows named (length one.params + results_in one.blocks) (length one.blocks) → Known m symbols (table_of named) (counts_of m one)
known_in m symbols one named symbolic knows =
    record {
      value = λ v name lt is. value_known named _ _ v name knows lt is;
      block = λ b name lt is. block_known named _ _ b name knows lt is;
      global = symbolic.global;
      function = symbolic.function;
    }

-- ---- instructions and blocks

module _ (m : Module) (symbols : Symbols) (table : Table) (counts : Counts) (known : Known m symbols table counts) (addresses : SaysAddress m symbols counts.globals) (memories : SaysMemory) where
  inst_says : (entry : Bool) (ret : Ty) (value : ℕ) (inst : Inst) (given : Instruction) (before : List Inst) → FitsInstruction m counts entry ret inst → IsInstructionTree m ret value inst given → inst_step no_types symbols table ret entry (record { all = before }) given ≡ Ok (record { all = before ++ inst ∷ [] })
  unfolding inst_step
  inst_says entry ret value inst given before fits is =
      let s = operation_said m symbols table counts known addresses memories ret inst.gives entry inst.op given.operation fits.0 is.1.0 in
      rw (s.result, is.1.1) (rw s.says refl)

  insts_say : (entry : Bool) (ret : Ty) (value : ℕ) (insts : List Inst) (given : List Instruction) (before : List Inst) → Each (FitsInstruction m counts entry ret) insts → AreInstructionTrees m ret value insts given → walk (inst_step no_types symbols table ret entry) (record { all = before }) given ≡ Ok (record { all = before ++ insts })
  unfolding walk
  insts_say entry ret value [] [] before fits is = ap (λ (xs : List Inst). Ok (record { all = xs })) (sym (append-nil before))
  insts_say entry ret value [] (one ∷ more) before fits is = absurd is
  insts_say entry ret value (inst ∷ insts) [] before fits is = absurd is
  insts_say entry ret value (inst ∷ insts) (one ∷ more) before fits is =
      rw (inst_says entry ret value inst one before fits.0 is.0) (insts_say entry ret (next_value value inst) insts more (before ++ inst ∷ []) fits.1 is.1 ∙ ap (λ (xs : List Inst). Ok (record { all = xs })) (append_assoc before (inst ∷ []) insts))

  blocks_say : (ret : Ty) (number value : ℕ) (blocks : List Block) (given : List BlockText) (before : List Block) → FitsBlocks m counts (nat_eq (length before) 0) ret blocks → AreBlockTrees m ret number value blocks given → walk (block_step no_types symbols table ret) (record { all = before }) given ≡ Ok (record { all = before ++ blocks })
  unfolding walk block_step
  blocks_say ret number value [] [] before fits is = ap (λ (xs : List Block). Ok (record { all = xs })) (sym (append-nil before))
  blocks_say ret number value [] (one ∷ more) before fits is = absurd is
  blocks_say ret number value (block ∷ blocks) [] before fits is = absurd is
  blocks_say ret number value (block ∷ blocks) (one ∷ more) before fits is =
      let first = insts_say (nat_eq (length before) 0) ret value block.insts one.instructions [] fits.0 is.1.0 in
      let later : nat_eq (length (before ++ block ∷ [])) 0 ≡ false = not_empty before block in
      let rest = blocks_say ret (number + 1) (value + results block.insts) blocks more (before ++ block ∷ []) (subst (λ (b : Bool). FitsBlocks m counts b ret blocks) (sym later) fits.1) is.1.1 in
      rw first (rest ∙ ap (λ (xs : List Block). Ok (record { all = xs })) (append_assoc before (block ∷ []) blocks))
    where
      not_empty : (xs : List Block) (x : Block) → nat_eq (length (xs ++ x ∷ [])) 0 ≡ false
      not_empty xs x = let e = length-append xs (x ∷ []) in grind (arith, e)

-- ---- units

unit_says : (m : Module) (ret : Ty) (value n : ℕ) (insts : List Inst) (given : List Instruction) → AreInstructionTrees m ret value insts given → walk unit_step (record { units = n }) given ≡ Ok (record { units = n + sum_by parts_and_one insts })
unfolding walk
unit_says m ret value n [] [] is = let same : n ≡ n + 0 = omega arith in ap (λ (x : ℕ). Ok (record { units = x })) same
unit_says m ret value n [] (one ∷ more) is = absurd is
unit_says m ret value n (inst ∷ insts) [] is = absurd is
unit_says m ret value n (inst ∷ insts) (one ∷ more) is =
    let parts = parts_say m ret inst.gives inst.op one.operation is.0.1.0 in
    let sum = sum_by-cons parts_and_one inst insts in
    let same : n + (1 + parts_in inst.op) + sum_by parts_and_one insts ≡ n + sum_by parts_and_one (inst ∷ insts) = omega (arith, sum) in
    rw parts (unit_says m ret (next_value value inst) (n + (1 + parts_in inst.op)) insts more is.1 ∙ ap (λ (x : ℕ). Ok (record { units = x })) same)

units_by : (m : Module) (ret : Ty) (number value n : ℕ) (blocks : List Block) (given : List BlockText) → AreBlockTrees m ret number value blocks given → walk block_units_step (record { units = n }) given ≡ Ok (record { units = n + block_parts blocks })
unfolding walk
units_by m ret number value n [] [] is = let same : n ≡ n + 0 = omega arith in ap (λ (x : ℕ). Ok (record { units = x })) same
units_by m ret number value n [] (one ∷ more) is = absurd is
units_by m ret number value n (block ∷ blocks) [] is = absurd is
units_by m ret number value n (block ∷ blocks) (one ∷ more) is =
    let first = unit_says m ret value n block.insts one.instructions is.1.0 in
    let same : n + sum_by parts_and_one block.insts + block_parts blocks ≡ n + block_parts (block ∷ blocks) = omega arith in
    rw first (units_by m ret (number + 1) (value + results block.insts) (n + sum_by parts_and_one block.insts) blocks more is.1.1 ∙ ap (λ (x : ℕ). Ok (record { units = x })) same)

units_say : (m : Module) (ret : Ty) (value : ℕ) (blocks : List Block) (given : List BlockText) → AreBlockTrees m ret 0 value blocks given → units_of given ≡ Ok (block_parts blocks)
unfolding units_of
units_say m ret value blocks given is = let same : 0 + block_parts blocks ≡ block_parts blocks = omega arith in rw (units_by m ret 0 value 0 blocks given is) (ap (λ (x : ℕ). Ok x) same)

-- there are no more results than units
results_few : (insts : List Inst) → results insts ≤ sum_by parts_and_one insts
results_few [] = omega arith
results_few (inst ∷ insts) =
    let rest = results_few insts in
    let a = sum_by-cons parts_and_one inst insts in
    let b : results (inst ∷ insts) ≡ (if has_result inst then 1 else 0) + results insts = sum_by-cons (λ (x : Inst). if has_result x then 1 else 0) inst insts in
    let c = at_most_one (has_result inst) in
    omega (arith, rest, a, b, c)
  where
    at_most_one : (b : Bool) → (if b then 1 else 0) ≤ 1
    at_most_one true = omega arith
    at_most_one false = omega arith

results_in_few : (blocks : List Block) → results_in blocks ≤ block_parts blocks
results_in_few [] = omega arith
results_in_few (block ∷ blocks) = let a = results_few block.insts in let b = results_in_few blocks in omega (arith, a, b)

-- ---- the whole

params_length : (number : ℕ) (tys : List Ty) (given : List Parameter) → AreParameterTrees number tys given → length given ≡ length tys
params_length number [] [] is = refl
params_length number [] (one ∷ more) is = absurd is
params_length number (ty ∷ tys) [] is = absurd is
params_length number (ty ∷ tys) (one ∷ more) is = ap suc (params_length (number + 1) tys more is.1.1)

pub function_says : (m : Module) (symbols : Symbols) (one : Function) (given : FunctionText) → Symbolic m symbols → SaysAddress m symbols (length m.globals) → SaysMemory → FitsFunction m one → IsFunctionTree m one given → function no_types symbols given ≡ Ok one
unfolding function parameters body_names body
function_says m symbols one given symbolic addresses memories fits is =
    let few = fits.few in
    let units = fits.units in
    let short = fits.held in
    let fewer = results_in_few one.blocks in
    let name = name_says one.name given.name fits.name is.1.0 in
    let ret = type_says one.ret given.ret fits.ret is.0 in
    let count : length given.parameters ≡ length one.params = params_length 0 one.params given.parameters is.1.1.0 in
    let few_params : nat_le (length one.params) 8 ≡ true = grind (arith, few) in
    let small : length ([] ++ one.params) < 2 ^ 64 = omega (arith, few) in
    let params = params_said one.params [] given.parameters [] fits.params small none_known is.1.1.0 in
    let units_said = units_say m one.ret (length one.params) one.blocks given.blocks is.1.1.1 in
    let few_units : nat_le (block_parts one.blocks) 16384 ≡ true = grind (arith, units) in
    let values_few : length one.params + results_in one.blocks < 2 ^ 64 = omega (arith, few, units, fewer) in
    let names = blocks_named m (counts_of m one) true one.ret one.blocks given.blocks params.after (length one.params) 0 fits.blocks values_few (omega (arith, short)) params.knows is.1.1.1 in
    let same : 0 + length one.blocks ≡ length one.blocks = omega arith in
    let knows = subst (λ (x : ℕ). Knows names.others (length one.params + results_in one.blocks) x) same names.knows in
    let known = known_in m symbols one names.others symbolic knows in
    let blocks = blocks_say m symbols (table_of names.others) (counts_of m one) known addresses memories one.ret 0 (length one.params) one.blocks given.blocks [] fits.blocks is.1.1.1 in
    rw (name, ret, count, few_params) (rw params.says (rw (units_said, few_units) (rw names.says (rw blocks refl))))
