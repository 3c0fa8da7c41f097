-- Functions that are read fit.
use Rattle.std.proofs.Common.{◌≡◌, ◌⊎◌, inl, inr, ℕ, zero, suc, ◌+◌, ◌^◌, ◌<◌, ◌≤◌, Bool, true, false, List, [], ◌∷◌, ◌++◌, length, Option, Some, None, Result, Ok, Err, refl, sym, ◌∙◌, ap, subst, arith, append_assoc, append-nil, if◌then◌else◌}
use Rattle.std.specs.Prelude.{nat_le, nat_eq, sum_by}
use Rattle.std.proofs.lemmas.List.Sums.{sum_by-cons}
use Rattle.ir_text.specs.declared.name.Name.{Name}
use Rattle.ir_instruction_trees.specs.declared.tree.Operation.{Operation}
use Rattle.ir_instruction_trees.specs.declared.tree.Operation.TheVariants as operations
use Rattle.ir_instruction_trees.specs.declared.tree.Instruction.{Instruction}
use Rattle.ir_tree.specs.declared.tree.Block.{Block as BlockText}
use Rattle.ir_tree.specs.declared.tree.Function.{Function as FunctionText}
use Rattle.ir_core.specs.declared.types.Ty.{Ty}
use Rattle.ir_core.specs.declared.types.Ty.TheVariants as values
use Rattle.ir_core.specs.declared.code.Inst.{Inst}
use Rattle.ir_core.specs.declared.code.Block.{Block}
use Rattle.ir_core.specs.declared.program.Function.{Function}
use Rattle.ir_core.specs.declared.program.Module.{Module}
use Rattle.ir_core.specs.declared.program.What.{What}
use Rattle.ir_core.specs.declared.program.What.TheVariants as what
use Rattle.ir_core.specs.Units.{parts_in, is_result, has_result, results}
use Rattle.ir_types.specs.declared.fault.Fault.{Fault}
use Rattle.ir_types.specs.declared.fault.Fault.TheVariants as faults
use Rattle.ir_types.specs.declared.tables.Target.{Target}
use Rattle.ir_types.specs.declared.tables.Target.TheVariants as targets
use Rattle.ir_types.specs.Walk.{◌>>=◌, walk}
use Rattle.ir_types.specs.declared.names.Table.{Table}
use Rattle.ir_types.specs.declared.table.Types.{Types}
use Rattle.ir_types.specs.Names.{Symbols, bytes_of, named_target, target_of}
use Rattle.ir_types.specs.Summaries.{AreResolved}
use Rattle.ir_types.specs.Types.{type_of}
use Rattle.ir_resolve.specs.Operands.{is_ty}
use Rattle.ir_instructions.specs.Instructions.{result_type, operation}
use Rattle.ir_functions.specs.declared.locals.Numbering.{Numbering}
use Rattle.ir_functions.specs.declared.locals.ParamList.{ParamList}
use Rattle.ir_functions.specs.declared.locals.BodyNames.{BodyNames}
use Rattle.ir_functions.specs.declared.units.UnitCount.{UnitCount}
use Rattle.ir_functions.specs.declared.functions.InstList.{InstList}
use Rattle.ir_functions.specs.declared.functions.BlockList.{BlockList}
use Rattle.ir_functions.specs.Functions.{name_local, parameter_step, no_result, some_result, result_step, label, label_step, inst_step, block_step, within, body_names, parameters, body, parts_of, unit_step, block_units_step, units_of, function}
use Rattle.ir_print_laws.specs.Instructions.{AreTrees}
use Rattle.ir_print_laws.specs.Written.{Each}
use Rattle.ir_print_laws.specs.Fits.{Counts, FitsTy, IsNoVoid, FitsInstruction, FitsBlocks, parts_and_one, block_parts, results_in, counts_of, FitsParameter, FitsFunction}
use Rattle.ir_print_laws.proofs.ReadTokens.{Bytes, all_bytes}
use Rattle.ir_print_laws.proofs.Quoted.{name_bytes}
use Rattle.ir_print_laws.proofs.TreeWords.{length_last}
use Rattle.ir_print_laws.proofs.TreeInstructions.{Formed, HasName, IsNamed, FormedInstruction}
use Rattle.ir_print_laws.proofs.TreeModules.{FormedBlock, FormedBlocks, FormedFunction}
use Rattle.ir_print_laws.proofs.Inverting.{bind, same_ok, known, first_walk, no_walk, made}
use Rattle.ir_print_laws.proofs.Typed.{WellBodies, type_fits, Within}
use Rattle.ir_print_laws.proofs.ReadOperations.{Callable, HasResult, operation_fit}
use Rattle.ir_print_laws.proofs.ReadNames.{Below, TableFits, table_more, target_below, local_fits, ParamsFit, params_fit, params_length}

-- ---- instructions and blocks by their trees

module _ (types : Types) (symbols : Symbols) (table : Table) (ret : Ty) where
  -- an instruction is what its tree says
  abbrev pub InstRead : Bool → Inst → Instruction → Type 0
  InstRead entry inst t = (result_type types t.operation ≡ Ok inst.gives) × (operation types symbols table ret entry t.aligns t.operation ≡ Ok inst.op)

  inst_state : List Inst → InstList
  inst_state all = record { all = all }

  inst_one : (entry : Bool) (before : List Inst) (t : Instruction) (after : InstList) → inst_step types symbols table ret entry (inst_state before) t ≡ Ok after → (x : Inst) × (after ≡ inst_state (before ++ x ∷ [])) × InstRead entry x t
  unfolding inst_step inst_state
  inst_one entry before t after e =
      let a = bind (result_type types t.operation) (λ ty. operation types symbols table ret entry t.aligns t.operation >>= λ op. Ok (record { all = before ++ record { gives = ty; op = op } ∷ [] })) after e in
      let b = bind (operation types symbols table ret entry t.aligns t.operation) (λ op. Ok (record { all = before ++ record { gives = a.0; op = op } ∷ [] })) after a.2 in
      (record { gives = a.0; op = b.0 }, sym (same_ok (record { all = before ++ record { gives = a.0; op = b.0 } ∷ [] }) after b.2), (a.1, b.1))

  -- the first block is the entry block
  abbrev pub BlocksRead : Bool → List Block → List BlockText → Type 0
  BlocksRead entry [] [] = Unit {0}
  BlocksRead entry [] (t ∷ ts) = ⊥
  BlocksRead entry (b ∷ bs) [] = ⊥
  BlocksRead entry (b ∷ bs) (t ∷ ts) = AreTrees (InstRead entry) b.insts t.instructions × BlocksRead false bs ts

  abbrev is_first : List Block → Bool
  is_first before = nat_eq (length before) 0

  no_more_first : (before : List Block) (b : Block) → is_first (before ++ b ∷ []) ≡ false
  no_more_first before b = let e = length_last before b in grind (arith, e)

  block_one : (before : List Block) (t : BlockText) (after : BlockList) → block_step types symbols table ret (record { all = before }) t ≡ Ok after → (b : Block) × (after ≡ record { all = before ++ b ∷ [] }) × AreTrees (InstRead (is_first before)) b.insts t.instructions
  unfolding block_step inst_state
  block_one before t after e =
      let a = bind (walk (inst_step types symbols table ret (nat_eq (length before) 0)) (record { all = [] }) t.instructions) (λ insts. Ok (record { all = before ++ record { insts = insts.all } ∷ [] })) after e in
      let h = made (inst_step types symbols table ret (is_first before)) inst_state (InstRead (is_first before)) (inst_one (is_first before)) t.instructions [] a.0 a.1 in
      (record { insts = a.0.all }, sym (same_ok (record { all = before ++ record { insts = a.0.all } ∷ [] }) after a.2), subst (λ (x : List Inst). AreTrees (InstRead (is_first before)) x t.instructions) (sym (ap (λ (s : InstList). s.all) h.1)) h.2)

  pub blocks_read : (ts : List BlockText) (before : List Block) (after : BlockList) → walk (block_step types symbols table ret) (record { all = before }) ts ≡ Ok after → (bs : List Block) × (after ≡ record { all = before ++ bs }) × BlocksRead (is_first before) bs ts
  blocks_read [] before after e = ([], sym (no_walk (block_step types symbols table ret) (record { all = before }) after e) ∙ ap (λ (x : List Block). record { all = x }) (sym (append-nil before)), tt)
  blocks_read (t ∷ ts) before after e =
      let f = first_walk (block_step types symbols table ret) (record { all = before }) after t ts e in
      let b = block_one before t f.0 f.1 in
      let rest = blocks_read ts (before ++ b.0 ∷ []) after (subst (λ (s : BlockList). walk (block_step types symbols table ret) s ts ≡ Ok after) b.1 f.2) in
      (b.0 ∷ rest.0, rest.1 ∙ ap (λ (x : List Block). record { all = x }) (append_assoc before (b.0 ∷ []) rest.0), (b.2, subst (λ (c : Bool). BlocksRead c rest.0 ts) (no_more_first before b.0) rest.2))

  blocks_length : (entry : Bool) (bs : List Block) (ts : List BlockText) → BlocksRead entry bs ts → length ts ≡ length bs
  blocks_length entry [] [] read = refl
  blocks_length entry [] (t ∷ ts) read = absurd read
  blocks_length entry (b ∷ bs) [] read = absurd read
  blocks_length entry (b ∷ bs) (t ∷ ts) read = ap suc (blocks_length false bs ts read.1)

  -- ---- names

  abbrev NamesFit : BodyNames → Type 0
  NamesFit names = TableFits names.values names.blocks names.names.table

  -- an instruction without a result has no name
  abbrev Noted : Inst → Instruction → Type 0
  Noted inst t = IsNoVoid inst.gives ⊎ (t.result ≡ None)

  one_result : Inst → ℕ
  one_result inst = if has_result inst then 1 else 0

  record Named (before after : BodyNames) (inst : Inst) (t : Instruction) : Type 0 where
    count : after.values ≡ before.values + one_result inst
    blocks : after.blocks ≡ before.blocks
    fits : NamesFit after
    noted : Noted inst t

  same_of : {A : Type 0} (r : Result A Fault) (x y : A) → r ≡ Ok x → r ≡ Ok y → x ≡ y
  same_of r x y e f = same_ok x y (sym e ∙ f)

  none_named : (before after : BodyNames) (given : Option Name) → no_result before given ≡ Ok after → (before ≡ after) × (given ≡ None)
  none_named before after None e = (same_ok before after e, refl)
  none_named before after (Some name) e = absurd cc

  record SomeNamed (before after : BodyNames) : Type 0 where
    count : after.values ≡ before.values + 1
    blocks : after.blocks ≡ before.blocks
    fits : NamesFit after

  some_named : (before after : BodyNames) (given : Option Name) → NamesFit before → some_result before given ≡ Ok after → SomeNamed before after
  unfolding some_result
  some_named before after given h e =
      let a = bind (name_local before.names given (targets.Value before.values)) (λ names. Ok (record { names = names; values = before.values + 1; blocks = before.blocks })) after e in
      let fits = local_fits (before.values + 1) before.blocks before.names given (targets.Value before.values) a.0 (table_more before.values before.blocks (before.values + 1) before.blocks before.names.table (omega arith) (omega arith) h) (omega arith) a.1 in
      known (SomeNamed before) (record { names = a.0; values = before.values + 1; blocks = before.blocks }) after a.2 (record { count = refl; blocks = refl; fits = fits })

  inst_named : (before after : BodyNames) (inst : Inst) (t : Instruction) → NamesFit before → result_type types t.operation ≡ Ok inst.gives → result_step types before t ≡ Ok after → Named before after inst t
  unfolding result_step one_result
  inst_named before after inst t h ty e =
      let a = bind (result_type types t.operation) (λ ty. if is_ty ty values.Void then no_result before t.result else some_result before t.result) after e in
      by inst.gives refl (subst (λ (x : Ty). (if is_ty x values.Void then no_result before t.result else some_result before t.result) ≡ Ok after) (same_of (result_type types t.operation) a.0 inst.gives a.1 ty) a.2)
    where
      some : (gives : Ty) → inst.gives ≡ gives → is_result gives ≡ true → IsNoVoid gives → some_result before t.result ≡ Ok after → Named before after inst t
      some gives is one no_void e =
          let s = some_named before after t.result h e in
          let single : has_result inst ≡ true = ap is_result is ∙ one in
          record { count = rw single s.count; blocks = s.blocks; fits = s.fits; noted = inl (subst IsNoVoid (sym is) no_void) }

      by : (gives : Ty) → inst.gives ≡ gives → (if is_ty gives values.Void then no_result before t.result else some_result before t.result) ≡ Ok after → Named before after inst t
      by values.Void is e =
          let n = none_named before after t.result e in
          let single : has_result inst ≡ false = ap is_result is in
          let same = ap (λ (x : BodyNames). x.values) n.0 in
          let zero_more : after.values ≡ before.values + 0 = omega (arith, same) in
          record { count = rw single zero_more; blocks = ap (λ (x : BodyNames). x.blocks) (sym n.0); fits = subst NamesFit n.0 h; noted = inr n.1 }
      by (values.Int w) is e = some (values.Int w) is refl tt e
      by values.Ptr is e = some values.Ptr is refl tt e

  record AllNamed (before after : BodyNames) (insts : List Inst) (ts : List Instruction) : Type 0 where
    count : after.values ≡ before.values + results insts
    blocks : after.blocks ≡ before.blocks
    fits : NamesFit after
    noted : AreTrees Noted insts ts

  results_more : (inst : Inst) (insts : List Inst) → results (inst ∷ insts) ≡ one_result inst + results insts
  unfolding one_result
  results_more inst insts = sum_by-cons (λ (x : Inst). if has_result x then 1 else 0) inst insts

  insts_named : (entry : Bool) (insts : List Inst) (ts : List Instruction) (before after : BodyNames) → NamesFit before → AreTrees (InstRead entry) insts ts → walk (result_step types) before ts ≡ Ok after → AllNamed before after insts ts
  insts_named entry [] [] before after h read e =
      let same = no_walk (result_step types) before after e in
      let count = ap (λ (x : BodyNames). x.values) same in
      record { count = omega (arith, count); blocks = ap (λ (x : BodyNames). x.blocks) (sym same); fits = subst NamesFit same h; noted = tt }
  insts_named entry [] (t ∷ ts) before after h read e = absurd read
  insts_named entry (x ∷ insts) [] before after h read e = absurd read
  insts_named entry (x ∷ insts) (t ∷ ts) before after h read e =
      let f = first_walk (result_step types) before after t ts e in
      let one = inst_named before f.0 x t h read.0.0 f.1 in
      let rest = insts_named entry insts ts f.0 after one.fits read.1 f.2 in
      let a = one.count in
      let b = rest.count in
      let c = results_more x insts in
      record { count = omega (arith, a, b, c); blocks = rest.blocks ∙ one.blocks; fits = rest.fits; noted = (one.noted, rest.noted) }

  abbrev BlocksNoted : List Block → List BlockText → Type 0
  BlocksNoted [] [] = Unit {0}
  BlocksNoted [] (t ∷ ts) = ⊥
  BlocksNoted (b ∷ bs) [] = ⊥
  BlocksNoted (b ∷ bs) (t ∷ ts) = AreTrees Noted b.insts t.instructions × BlocksNoted bs ts

  record BlocksNamed (before after : BodyNames) (bs : List Block) (ts : List BlockText) : Type 0 where
    count : after.values ≡ before.values + results_in bs
    blocks : after.blocks ≡ before.blocks + length bs
    fits : NamesFit after
    noted : BlocksNoted bs ts

  record Labelled (before after : BodyNames) : Type 0 where
    count : after.values ≡ before.values
    blocks : after.blocks ≡ before.blocks + 1
    fits : NamesFit after

  label_named : (before after : BodyNames) (given : Option Name) → NamesFit before → label before given ≡ Ok after → Labelled before after
  unfolding label
  label_named before after given h e =
      let a = bind (name_local before.names given (targets.Block before.blocks)) (λ names. Ok (record { names = names; values = before.values; blocks = before.blocks + 1 })) after e in
      let fits = local_fits before.values (before.blocks + 1) before.names given (targets.Block before.blocks) a.0 (table_more before.values before.blocks before.values (before.blocks + 1) before.names.table (omega arith) (omega arith) h) (omega arith) a.1 in
      known (Labelled before) (record { names = a.0; values = before.values; blocks = before.blocks + 1 }) after a.2 (record { count = refl; blocks = refl; fits = fits })

  blocks_named : (entry : Bool) (bs : List Block) (ts : List BlockText) (before after : BodyNames) → NamesFit before → BlocksRead entry bs ts → walk (label_step types) before ts ≡ Ok after → BlocksNamed before after bs ts
  unfolding label_step
  blocks_named entry [] [] before after h read e =
      let same = no_walk (label_step types) before after e in
      let count = ap (λ (x : BodyNames). x.values) same in
      let blocks = ap (λ (x : BodyNames). x.blocks) same in
      record { count = omega (arith, count); blocks = omega (arith, blocks); fits = subst NamesFit same h; noted = tt }
  blocks_named entry [] (t ∷ ts) before after h read e = absurd read
  blocks_named entry (b ∷ bs) [] before after h read e = absurd read
  blocks_named entry (b ∷ bs) (t ∷ ts) before after h read e =
      let f = first_walk (label_step types) before after t ts e in
      let l = bind (label before t.label) (λ next. walk (result_step types) next t.instructions) f.0 f.1 in
      let start = label_named before l.0 t.label h l.1 in
      let one = insts_named entry b.insts t.instructions l.0 f.0 start.fits read.0 l.2 in
      let rest = blocks_named false bs ts f.0 after one.fits read.1 f.2 in
      let a = start.count in
      let c = one.count in
      let d = rest.count in
      let p = start.blocks in
      let q = one.blocks in
      let r = rest.blocks in
      record { count = omega (arith, a, c, d); blocks = omega (arith, p, q, r); fits = rest.fits; noted = (one.noted, rest.noted) }

  -- ---- what fits

  module _ (m : Module) (counts : Counts) (inside : Within types symbols table counts) (resolved : AreResolved types.bodies types.entries) (callable : Callable m counts symbols) (ret_fits : FitsTy ret) where
    named_has : (gives : Ty) (result : Option Name) → HasName result → IsNoVoid gives ⊎ (result ≡ None) → IsNoVoid gives
    named_has gives result has (inl some) = some
    named_has gives result has (inr none) = absurd (subst HasName none has)

    has_result_of : (tree : Operation) (gives : Ty) (result : Option Name) → IsNamed tree result → IsNoVoid gives ⊎ (result ≡ None) → HasResult m types symbols table counts inside resolved callable tree gives
    has_result_of (operations.Binary op flags left right) gives result named noted = named_has gives result named noted
    has_result_of (operations.Icmp flags predicate left right) gives result named noted = tt
    has_result_of (operations.Cast op flags given target) gives result named noted = named_has gives result named noted
    has_result_of (operations.Select condition left right) gives result named noted = named_has gives result named noted
    has_result_of (operations.Freeze given) gives result named noted = named_has gives result named noted
    has_result_of (operations.Phi given incoming) gives result named noted = named_has gives result named noted
    has_result_of (operations.Alloca place given count) gives result named noted = tt
    has_result_of (operations.Load given from) gives result named noted = named_has gives result named noted
    has_result_of (operations.Store given into) gives result named noted = tt
    has_result_of (operations.Gep given base offsets) gives result named noted = tt
    has_result_of (operations.Call given is_local callee arguments) gives result named noted = tt
    has_result_of (operations.Ret given answer) gives result named noted = tt
    has_result_of (operations.Br block) gives result named noted = tt
    has_result_of (operations.CondBr condition left right) gives result named noted = tt
    has_result_of (operations.Switch given otherwise cases) gives result named noted = tt
    has_result_of operations.Unreachable gives result named noted = tt

    abbrev InstFits : Bool → Inst → Instruction → Type 0
    InstFits entry inst t = FitsInstruction m counts entry ret inst × (parts_of t.operation ≡ parts_in inst.op)

    inst_fits : (entry : Bool) (inst : Inst) (t : Instruction) → FormedInstruction t → InstRead entry inst t → Noted inst t → InstFits entry inst t
    inst_fits entry inst t formed read noted =
        let h = operation_fit m types symbols table counts inside resolved callable entry ret inst.gives inst.op t.aligns t.operation ret_fits formed.0 (has_result_of t.operation inst.gives t.result formed.1 noted) read.0 read.1 in
        ((h.0, h.1), h.2)

    record InstsFit (entry : Bool) (insts : List Inst) (ts : List Instruction) : Type 0 where
      fits : Each (FitsInstruction m counts entry ret) insts
      units : (before after : UnitCount) → walk unit_step before ts ≡ Ok after → after.units ≡ before.units + sum_by parts_and_one insts

    insts_fit : (entry : Bool) (insts : List Inst) (ts : List Instruction) → Each FormedInstruction ts → AreTrees (InstRead entry) insts ts → AreTrees Noted insts ts → InstsFit entry insts ts
    insts_fit entry [] [] formed read noted = record { fits = tt; units = λ before after e. let same = ap (λ (x : UnitCount). x.units) (no_walk unit_step before after e) in omega (arith, same) }
    insts_fit entry [] (t ∷ ts) formed read noted = absurd read
    insts_fit entry (x ∷ insts) [] formed read noted = absurd read
    insts_fit entry (x ∷ insts) (t ∷ ts) formed read noted =
        let one = inst_fits entry x t formed.0 read.0 noted.0 in
        let rest = insts_fit entry insts ts formed.1 read.1 noted.1 in
        record {
          fits = (one.0, rest.fits);
          units = λ before after e.
              let f = first_walk unit_step before after t ts e in
              let a = ap (λ (x : UnitCount). x.units) (same_ok (record { units = before.units + (1 + parts_of t.operation) }) f.0 f.1) in
              let b = rest.units f.0 after f.2 in
              let c = sum_by-cons parts_and_one x insts in
              let d = one.1 in
              omega (arith, a, b, c, d);
        }

    record BlocksFit (entry : Bool) (bs : List Block) (ts : List BlockText) : Type 0 where
      fits : FitsBlocks m counts entry ret bs
      units : (before after : UnitCount) → walk block_units_step before ts ≡ Ok after → after.units ≡ before.units + block_parts bs

    blocks_fit : (entry : Bool) (bs : List Block) (ts : List BlockText) → Each FormedBlock ts → BlocksRead entry bs ts → BlocksNoted bs ts → BlocksFit entry bs ts
    blocks_fit entry [] [] formed read noted = record { fits = tt; units = λ before after e. let same = ap (λ (x : UnitCount). x.units) (no_walk block_units_step before after e) in omega (arith, same) }
    blocks_fit entry [] (t ∷ ts) formed read noted = absurd read
    blocks_fit entry (b ∷ bs) [] formed read noted = absurd read
    blocks_fit entry (b ∷ bs) (t ∷ ts) formed read noted =
        let one = insts_fit entry b.insts t.instructions formed.0 read.0 noted.0 in
        let rest = blocks_fit false bs ts formed.1 read.1 noted.1 in
        record {
          fits = (one.fits, rest.fits);
          units = λ before after e.
              let f = first_walk block_units_step before after t ts e in
              let a = one.units before f.0 f.1 in
              let c = rest.units f.0 after f.2 in
              omega (arith, a, c);
        }

within_is : (counted : What) (most count : ℕ) (u : Unit {0}) → within counted most count ≡ Ok u → count ≤ most
within_is counted most count u e = by (nat_le count most) refl e
  where
    by : (b : Bool) → nat_le count most ≡ b → ◌≡◌ {A = Result (Unit {0}) Fault} (if b then Ok tt else Err (faults.Limit counted count)) (Ok u) → count ≤ most
    by true i h = grind (arith, i)
    by false i h = absurd cc

-- what the names of globals and functions stand for is there
pub record SymbolsFit (m : Module) (symbols : Symbols) : Type 0 where
  pub global : (name : Name) (n : ℕ) → named_target symbols name ≡ Ok (targets.Global n) → n < length m.globals
  pub function : (counts : Counts) → counts.functions ≡ length m.functions → Callable m counts symbols

-- what a function is read from
record FunctionParts (types : Types) (symbols : Symbols) (given : FunctionText) (one : Function) : Type 0 where
  name : bytes_of given.name ≡ Ok one.name
  ret : type_of types given.ret ≡ Ok one.ret
  params : ParamList
  params_are : parameters types given.parameters ≡ Ok params
  tys : params.tys ≡ one.params
  count : ℕ
  units : units_of given.blocks ≡ Ok count
  none : Unit {0}
  few : within what.Units 16384 count ≡ Ok none
  names : BodyNames
  names_are : body_names types params.names (length params.tys) given.blocks ≡ Ok names
  blocks : body types symbols names.names.table one.ret given.blocks ≡ Ok one.blocks

function_parts : (types : Types) (symbols : Symbols) (one : Function) (given : FunctionText) → function types symbols given ≡ Ok one → FunctionParts types symbols given one
unfolding function
function_parts types symbols one given e =
    let a = bind (bytes_of given.name) (λ name. type_of types given.ret >>= λ ret. parameters types given.parameters >>= λ params. units_of given.blocks >>= λ count. within what.Units 16384 count >>= λ _. body_names types params.names (length params.tys) given.blocks >>= λ names. body types symbols names.names.table ret given.blocks >>= λ blocks. Ok (record { name = name; params = params.tys; ret = ret; blocks = blocks })) one e in
    let b = bind (type_of types given.ret) (λ ret. parameters types given.parameters >>= λ params. units_of given.blocks >>= λ count. within what.Units 16384 count >>= λ _. body_names types params.names (length params.tys) given.blocks >>= λ names. body types symbols names.names.table ret given.blocks >>= λ blocks. Ok (record { name = a.0; params = params.tys; ret = ret; blocks = blocks })) one a.2 in
    let c = bind (parameters types given.parameters) (λ params. units_of given.blocks >>= λ count. within what.Units 16384 count >>= λ _. body_names types params.names (length params.tys) given.blocks >>= λ names. body types symbols names.names.table b.0 given.blocks >>= λ blocks. Ok (record { name = a.0; params = params.tys; ret = b.0; blocks = blocks })) one b.2 in
    let d = bind (units_of given.blocks) (λ count. within what.Units 16384 count >>= λ _. body_names types c.0.names (length c.0.tys) given.blocks >>= λ names. body types symbols names.names.table b.0 given.blocks >>= λ blocks. Ok (record { name = a.0; params = c.0.tys; ret = b.0; blocks = blocks })) one c.2 in
    let f = bind (within what.Units 16384 d.0) (λ _. body_names types c.0.names (length c.0.tys) given.blocks >>= λ names. body types symbols names.names.table b.0 given.blocks >>= λ blocks. Ok (record { name = a.0; params = c.0.tys; ret = b.0; blocks = blocks })) one d.2 in
    let g = bind (body_names types c.0.names (length c.0.tys) given.blocks) (λ names. body types symbols names.names.table b.0 given.blocks >>= λ blocks. Ok (record { name = a.0; params = c.0.tys; ret = b.0; blocks = blocks })) one f.2 in
    let h = bind (body types symbols g.0.names.table b.0 given.blocks) (λ blocks. Ok (record { name = a.0; params = c.0.tys; ret = b.0; blocks = blocks })) one g.2 in
    known (FunctionParts types symbols given) (record { name = a.0; params = c.0.tys; ret = b.0; blocks = h.0 }) one h.2
    (record { name = a.1; ret = b.1; params = c.0; params_are = c.1; tys = refl; count = d.0; units = d.1; none = f.0; few = f.1; names = g.0; names_are = g.1; blocks = h.1 })

-- a function has the bytes of its name
pub function_name : (types : Types) (symbols : Symbols) (one : Function) (given : FunctionText) → function types symbols given ≡ Ok one → bytes_of given.name ≡ Ok one.name
function_name types symbols one given e = (function_parts types symbols one given e).name

abbrev no_params : ParamList
no_params = record { names = record { table = record { numbered = []; named = [] }; counter = 0 }; tys = [] }

record ParamsRead (types : Types) (given : FunctionText) (params : ParamList) : Type 0 where
  fit : ParamsFit params
  few : length params.tys ≤ 8

params_read : (types : Types) (given : FunctionText) (params : ParamList) → WellBodies types.bodies → parameters types given.parameters ≡ Ok params → ParamsRead types given params
unfolding parameters
params_read types given params well e =
    let p = bind (within what.Parameters 8 (length given.parameters)) (λ _. walk (parameter_step types) no_params given.parameters) params e in
    let many = params_length types given.parameters no_params params p.2 in
    let few = within_is what.Parameters 8 (length given.parameters) p.0 p.1 in
    record { fit = params_fit types well given.parameters params p.2; few = omega (arith, many, few) }

body_read : (types : Types) (symbols : Symbols) (table : Table) (ret : Ty) (ts : List BlockText) (bs : List Block) → body types symbols table ret ts ≡ Ok bs → BlocksRead types symbols table ret true bs ts
unfolding body
body_read types symbols table ret ts bs e =
    let k = bind (walk (block_step types symbols table ret) (record { all = [] }) ts) (λ blocks. Ok blocks.all) bs e in
    let read = blocks_read types symbols table ret ts [] k.0 k.1 in
    let same : read.0 ≡ bs = sym (ap (λ (x : BlockList). x.all) read.1) ∙ same_ok k.0.all bs k.2 in
    subst (λ (x : List Block). BlocksRead types symbols table ret true x ts) same read.2

names_read : (types : Types) (symbols : Symbols) (table : Table) (ret : Ty) (names : Numbering) (count : ℕ) (ts : List BlockText) (bs : List Block) (after : BodyNames) → TableFits count 0 names.table → BlocksRead types symbols table ret true bs ts → body_names types names count ts ≡ Ok after
    → BlocksNamed types symbols table ret (record { names = names; values = count; blocks = 0 }) after bs ts
unfolding body_names
names_read types symbols table ret names count ts bs after fits read e = blocks_named types symbols table ret true bs ts (record { names = names; values = count; blocks = 0 }) after fits read e

units_read : (ts : List BlockText) (count total : ℕ) → ((before after : UnitCount) → walk block_units_step before ts ≡ Ok after → after.units ≡ before.units + total) → units_of ts ≡ Ok count → count ≡ total
unfolding units_of
units_read ts count total all e =
    let u = bind (walk block_units_step (record { units = 0 }) ts) (λ count. Ok count.units) count e in
    let units = all (record { units = 0 }) u.0 u.1 in
    let same = same_ok u.0.units count u.2 in
    omega (arith, units, same)

-- a function of a module
pub function_fits : (m : Module) (types : Types) (symbols : Symbols) (one : Function) (given : FunctionText) → WellBodies types.bodies → AreResolved types.bodies types.entries → SymbolsFit m symbols → FormedFunction given → function types symbols given ≡ Ok one → FitsFunction m one
function_fits m types symbols one given well resolved fit formed e =
    let p = function_parts types symbols one given e in
    let table = p.names.names.table in
    let params = params_read types given p.params well p.params_are in
    let read = body_read types symbols table one.ret given.blocks one.blocks p.blocks in
    let named = names_read types symbols table one.ret p.params.names (length p.params.tys) given.blocks one.blocks p.names params.fit.0 read p.names_are in
    let many : length p.params.tys ≡ length one.params = ap length p.tys in
    let count = named.count in
    let count2 = named.blocks in
    let values_same : p.names.values ≡ length one.params + results_in one.blocks = omega (arith, many, count) in
    let blocks_same : p.names.blocks ≡ length one.blocks = omega (arith, count2) in
    let table_fits = table_at table p.names.values (length one.params + results_in one.blocks) p.names.blocks (length one.blocks) values_same blocks_same named.fits in
    let inside : Within types symbols table (counts_of m one) = record {
      bodies = well;
      value = λ name n is. target_below (length one.params + results_in one.blocks) (length one.blocks) table name (targets.Value n) table_fits is;
      block = λ name n is. target_below (length one.params + results_in one.blocks) (length one.blocks) table name (targets.Block n) table_fits is;
      global = λ name n is. fit.global name n is;
    } in
    let blocks = blocks_fit types symbols table one.ret m (counts_of m one) inside resolved (fit.function (counts_of m one) refl) (type_fits types given.ret one.ret well p.ret) true one.blocks given.blocks formed.1.0 read named.noted in
    let units = units_read given.blocks p.count (block_parts one.blocks) blocks.units p.units in
    let few_units = within_is what.Units 16384 p.count p.none p.few in
    let long = blocks_length types symbols table one.ret true one.blocks given.blocks read in
    let held = formed.1.1 in
    let few = params.few in
    record {
      name = all_bytes one.name (name_bytes given.name one.name formed.0 p.name);
      ret = type_fits types given.ret one.ret well p.ret;
      params = subst (Each FitsParameter) p.tys params.fit.1;
      few = omega (arith, many, few);
      units = omega (arith, units, few_units);
      held = omega (arith, long, held);
      blocks = blocks.fits;
    }
  where
    table_at : (table : Table) (v w b c : ℕ) → v ≡ w → b ≡ c → TableFits v b table → TableFits w c table
    table_at table v w b c p q h = subst (λ (n : ℕ). TableFits w n table) q (subst (λ (n : ℕ). TableFits n b table) p h)
