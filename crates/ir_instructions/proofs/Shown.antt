-- A fault of an instruction is that of something it asks.
use Rattle.std.proofs.Common.{◌≡◌, ℕ, Bool, true, false, not, nat_eq, ◌-◌, length, slice_get, List, [], ◌∷◌, ◌++◌, codes, Option, Some, None, Result, Ok, Err, refl, inl, inr, sym, ◌∙◌, ap, arith, if◌then◌else◌}
use Rattle.std.specs.Prelude.{◌⊎◌, ◌&&◌}
use Rattle.std.specs.List.{starts_with}
use Rattle.ir_text.specs.declared.name.Name.{Name}
use Rattle.ir_text.specs.declared.name.Number.{Number}
use Rattle.ir_grammar.specs.declared.type_tree.TypeNode.{TypeNode}
use Rattle.ir_value_trees.specs.declared.value_tree.Value.{Value}
use Rattle.ir_value_trees.specs.declared.value_tree.Value.TheVariants as written
use Rattle.ir_value_trees.specs.declared.value_tree.Typed.{Typed}
use Rattle.ir_instruction_trees.specs.declared.tree.Incoming.{Incoming}
use Rattle.ir_instruction_trees.specs.declared.tree.Case.{Case}
use Rattle.ir_instruction_trees.specs.declared.tree.Operation.{Operation}
use Rattle.ir_instruction_trees.specs.declared.tree.Operation.TheVariants as operations
use Rattle.ir_core.specs.declared.types.Ty.{Ty}
use Rattle.ir_core.specs.declared.types.Ty.TheVariants as values
use Rattle.ir_core.specs.declared.code.Operand.{Operand}
use Rattle.ir_core.specs.declared.code.Operand.TheVariants as operands
use Rattle.ir_core.specs.declared.code.BinOp.{BinOp}
use Rattle.ir_core.specs.declared.code.CastOp.{CastOp}
use Rattle.ir_core.specs.declared.code.Pred.{Pred}
use Rattle.ir_core.specs.declared.code.Flags.{Flags}
use Rattle.ir_core.specs.declared.code.Op.TheVariants as core
use Rattle.ir_types.specs.Types.{type_of, memory}
use Rattle.ir_grammar.specs.declared.type_tree.Align.{Align}
use Rattle.ir_instructions.specs.Counts.{small_align, align_step, small_aligns, item_count}
use Rattle.ir_types.specs.declared.table.Types.{Types}
use Rattle.ir_types.specs.declared.fault.Fault.{Fault}
use Rattle.ir_types.specs.declared.fault.Fault.TheVariants as faults
use Rattle.ir_types.specs.declared.tables.Target.{Target}
use Rattle.ir_types.specs.declared.tables.Target.TheVariants as targets
use Rattle.ir_types.specs.Walk.{◌>>=◌, walk, or_fault}
use Rattle.ir_types.specs.Tables.{target_named}
use Rattle.ir_types.specs.declared.names.Table.{Table}
use Rattle.ir_types.specs.Names.{Symbols, bytes_of, named_target}
use Rattle.ir_resolve.specs.Literals.{literal_of}
use Rattle.ir_resolve.specs.Operands.{is_ty, where_ty, number_operand, operand, typed, typed_as, block_of, place_of_value, place_of_type}
use Rattle.ir_resolve.specs.Causes.{TypeFault}
use Rattle.ir_resolve.proofs.Shown.{chain, gives-then, carry, ok-fails, type_fails, value_fails, block_fails, bytes-fail, where-fails}
use Rattle.ir_instructions.specs.declared.lists.TypedList.{TypedList}
use Rattle.ir_instructions.specs.Instructions.{result_type, typed_step, typed_list, incoming_step, incoming_list, case_number, case_value, case_step, case_list, binary, comparison, cast, selection, freezing, phi, loading, storing, callee_number, symbol_of, direct_call, built_in_call, own_call, named_call, call, returned_type, returning, ret, jump, fork, switching, alloca, gep, operation}
use Rattle.ir_instructions.specs.declared.built_ins.NamedBuiltIn.{NamedBuiltIn}
use Rattle.ir_instructions.specs.BuiltIns.{built_in_of, is_of_memory, measured, has_width, quiet_value, quiet_argument, quiet, fitting}
use Rattle.ir_instructions.specs.Causes.{Ask, some_type, some_value, this_type, same_type, some_number, some_block, some_callee, some_quiet, some_width, some_memory, some_count, some_aligns, some_entry, returned, typed_asks, list_asks, incoming_asks, case_asks, call_asks, entry_asks, asks, CalleeFault, QuietFault, WidthFault, IsMemoryCallee, NamesBuiltIn, AskFault, Among, Unanswered, IsNoNumber, ResultFault, Reached}

-- a walk that fails does so at an item that it reached
pub walk_fails : {S T : Type 0} (step : S → T → Result S Fault) (s : S) (xs : List T) (e : Fault) (P : Type 0) → ((before : S) (x : T) → Reached step s xs before x → step before x ≡ Err e → P) → walk step s xs ≡ Err e → P
unfolding walk Reached
walk_fails step s [] e P k h = ok-fails s e h
walk_fails step s (x ∷ xs) e P k h =
    chain P (step s x) (λ next. walk step next xs) e
    (λ first. k s x (inl (refl, refl)) first)
    (λ next is more. walk_fails step next xs e P (λ before y r f. k before y (inr (next, is, r)) f) more) h

-- what is reached stands in the list
pub reached_among : {S T : Type 0} (step : S → T → Result S Fault) (s : S) (xs : List T) (before : S) (x : T) → Reached step s xs before x → Among xs x
unfolding Reached Among
reached_among step s [] before x r = absurd r
reached_among step s (y ∷ ys) before x (inl here) = inl here.1
reached_among step s (y ∷ ys) before x (inr r) = inr (reached_among step r.0 ys before x r.2)

module _ (types : Types) (symbols : Symbols) (table : Table) where
  pub one : (e : Fault) (ask : Ask) (rest : List Ask) → AskFault types symbols table ask e → Unanswered types symbols table (ask ∷ rest) e
  unfolding Among
  one e ask rest p = (ask, inl refl, p)

  pub later : (e : Fault) (ask : Ask) (rest : List Ask) → Unanswered types symbols table rest e → Unanswered types symbols table (ask ∷ rest) e
  unfolding Among
  later e ask rest p = (p.0, inr p.1, p.2)

  left-by : (e : Fault) (x : Ask) (xs ys : List Ask) (ask : Ask) → AskFault types symbols table ask e → (x ≡ ask) ⊎ Among xs ask → (Among xs ask → Unanswered types symbols table (xs ++ ys) e) → Unanswered types symbols table (x ∷ (xs ++ ys)) e
  unfolding Among
  left-by e x xs ys ask f (inl same) more = (ask, inl same, f)
  left-by e x xs ys ask f (inr there) more = later e x (xs ++ ys) (more there)

  pub in-left : (e : Fault) (xs ys : List Ask) → Unanswered types symbols table xs e → Unanswered types symbols table (xs ++ ys) e
  unfolding Among
  in-left e [] ys p = absurd p.1
  in-left e (x ∷ xs) ys p = left-by e x xs ys p.0 p.2 p.1 (λ there. in-left e xs ys (p.0, there, p.2))

  pub in-right : (e : Fault) (xs ys : List Ask) → Unanswered types symbols table ys e → Unanswered types symbols table (xs ++ ys) e
  in-right e [] ys p = p
  in-right e (x ∷ xs) ys p = later e x (xs ++ ys) (in-right e xs ys p)

  -- `T V`
  pub typed-fails : (e : Fault) (given : List TypeNode) (value : Value) → typed types symbols table given value ≡ Err e → Unanswered types symbols table (some_type given ∷ some_value given value ∷ []) e
  unfolding typed
  typed-fails e given value h =
      chain (Unanswered types symbols table (some_type given ∷ some_value given value ∷ []) e) (type_of types given) (λ ty. operand types symbols table ty value >>= λ made. Ok (ty, made)) e
      (λ first. one e (some_type given) (some_value given value ∷ []) (type_fails types given e first))
      (λ ty is more. chain (Unanswered types symbols table (some_type given ∷ some_value given value ∷ []) e) (operand types symbols table ty value) (λ made. Ok (ty, made)) e
      (λ second. later e (some_type given) (some_value given value ∷ []) (one e (some_value given value) [] (ty, is, value_fails types symbols table ty value e second)))
      (λ made was none. ok-fails (ty, made) e none) more) h

  -- the type of `T V`
  pub typed-is : (given : List TypeNode) (value : Value) (a : Ty × Operand) → typed types symbols table given value ≡ Ok a → type_of types given ≡ Ok a.0
  unfolding typed
  typed-is given value a h =
      let first = gives-then (type_of types given) (λ ty. operand types symbols table ty value >>= λ made. Ok (ty, made)) a h in
      let more = gives-then (operand types symbols table first.0 value) (λ made. Ok (first.0, made)) a first.2 in
      let both : ◌≡◌ {A = Result (Ty × Operand) Fault} (Ok (first.0, more.0)) (Ok a) = more.2 in
      let same : ◌≡◌ {A = Ty × Operand} (first.0, more.0) a = cc in
      first.1 ∙ ap (λ (p : Ty × Operand). Ok p.0) same

  -- `T V` where T is known
  pub typed_as-fails : (e : Fault) (P : Fault → Type 0) (ty : Ty) (given : List TypeNode) (value : Value) → (Unanswered types symbols table (some_type given ∷ some_value given value ∷ []) e → P e) → ((an : Ty) → type_of types given ≡ Ok an → is_ty an ty ≡ false → P (faults.Syntax (place_of_type given))) → typed_as types symbols table ty given value ≡ Err e → P e
  unfolding typed_as
  typed_as-fails e P ty given value p q h =
      chain (P e) (typed types symbols table given value) (λ made. where_ty (is_ty made.0 ty) (place_of_type given) made.1) e
      (λ first. p (typed-fails e given value first))
      (λ made is more. where-fails P (is_ty made.0 ty) (place_of_type given) made.1 e (λ bad. q made.0 (typed-is given value made is) bad) more) h

  -- what an operand of a known type asks
  operand-fails : (e : Fault) (given : List TypeNode) (ty : Ty) (value : Value) → type_of types given ≡ Ok ty → operand types symbols table ty value ≡ Err e → AskFault types symbols table (some_value given value) e
  operand-fails e given ty value is h = (ty, is, value_fails types symbols table ty value e h)

  binary-fails : (e : Fault) (operator : BinOp) (flags : Flags) (left : Typed) (right : Value) → binary types symbols table operator flags left right ≡ Err e → Unanswered types symbols table (typed_asks left ++ some_value left.ty right ∷ []) e
  unfolding binary
  binary-fails e operator flags left right h =
      chain (Unanswered types symbols table (typed_asks left ++ some_value left.ty right ∷ []) e) (typed types symbols table left.ty left.value) (λ a. operand types symbols table a.0 right >>= λ b. Ok (core.Binary operator flags a.1 b)) e
      (λ first. in-left e (typed_asks left) (some_value left.ty right ∷ []) (typed-fails e left.ty left.value first))
      (λ a is more. chain (Unanswered types symbols table (typed_asks left ++ some_value left.ty right ∷ []) e) (operand types symbols table a.0 right) (λ b. Ok (core.Binary operator flags a.1 b)) e
      (λ second. in-right e (typed_asks left) (some_value left.ty right ∷ []) (one e (some_value left.ty right) [] (operand-fails e left.ty a.0 right (typed-is left.ty left.value a is) second)))
      (λ b was none. ok-fails (core.Binary operator flags a.1 b) e none) more) h

  comparison-fails : (e : Fault) (predicate : Pred) (flags : Flags) (left : Typed) (right : Value) → comparison types symbols table predicate flags left right ≡ Err e → Unanswered types symbols table (typed_asks left ++ some_value left.ty right ∷ []) e
  unfolding comparison
  comparison-fails e predicate flags left right h =
      chain (Unanswered types symbols table (typed_asks left ++ some_value left.ty right ∷ []) e) (typed types symbols table left.ty left.value) (λ a. operand types symbols table a.0 right >>= λ b. Ok (core.Icmp predicate flags a.0 a.1 b)) e
      (λ first. in-left e (typed_asks left) (some_value left.ty right ∷ []) (typed-fails e left.ty left.value first))
      (λ a is more. chain (Unanswered types symbols table (typed_asks left ++ some_value left.ty right ∷ []) e) (operand types symbols table a.0 right) (λ b. Ok (core.Icmp predicate flags a.0 a.1 b)) e
      (λ second. in-right e (typed_asks left) (some_value left.ty right ∷ []) (one e (some_value left.ty right) [] (operand-fails e left.ty a.0 right (typed-is left.ty left.value a is) second)))
      (λ b was none. ok-fails (core.Icmp predicate flags a.0 a.1 b) e none) more) h

  cast-fails : (e : Fault) (operator : CastOp) (flags : Flags) (value : Typed) → cast types symbols table operator flags value ≡ Err e → Unanswered types symbols table (typed_asks value) e
  unfolding cast
  cast-fails e operator flags value h =
      chain (Unanswered types symbols table (typed_asks value) e) (typed types symbols table value.ty value.value) (λ a. Ok (core.Cast operator flags a.0 a.1)) e
      (λ first. typed-fails e value.ty value.value first)
      (λ a is none. ok-fails (core.Cast operator flags a.0 a.1) e none) h

  -- `T V` where T is this type
  this-fails : (e : Fault) (ty : Ty) (given : Typed) → typed_as types symbols table ty given.ty given.value ≡ Err e → Unanswered types symbols table (typed_asks given ++ this_type ty given.ty ∷ []) e
  this-fails e ty given h =
      typed_as-fails e (λ x. Unanswered types symbols table (typed_asks given ++ this_type ty given.ty ∷ []) x) ty given.ty given.value
      (λ first. in-left e (typed_asks given) (this_type ty given.ty ∷ []) first)
      (λ an is bad. in-right (faults.Syntax (place_of_type given.ty)) (typed_asks given) (this_type ty given.ty ∷ []) (one (faults.Syntax (place_of_type given.ty)) (this_type ty given.ty) [] (an, is, bad))) h

  selection-fails : (e : Fault) (condition left right : Typed) → selection types symbols table condition left right ≡ Err e → Unanswered types symbols table ((typed_asks condition ++ this_type (values.Int 1) condition.ty ∷ []) ++ typed_asks left ++ typed_asks right ++ same_type left.ty right.ty ∷ []) e
  unfolding selection
  selection-fails e condition left right h =
      chain (All e) (typed_as types symbols table (values.Int 1) condition.ty condition.value) (λ c. typed types symbols table left.ty left.value >>= λ a. typed_as types symbols table a.0 right.ty right.value >>= λ b. Ok (core.Select c a.1 b)) e
      (λ first. in-left e (typed_asks condition ++ this_type (values.Int 1) condition.ty ∷ []) _ (this-fails e (values.Int 1) condition first))
      (λ c is more. in-right e (typed_asks condition ++ this_type (values.Int 1) condition.ty ∷ []) _
      (chain (Rest e) (typed types symbols table left.ty left.value) (λ a. typed_as types symbols table a.0 right.ty right.value >>= λ b. Ok (core.Select c a.1 b)) e
      (λ second. in-left e (typed_asks left) _ (typed-fails e left.ty left.value second))
      (λ a made last. in-right e (typed_asks left) _
      (chain (Last e) (typed_as types symbols table a.0 right.ty right.value) (λ b. Ok (core.Select c a.1 b)) e
      (λ third. typed_as-fails e Last a.0 right.ty right.value
      (λ bad. in-left e (typed_asks right) (same_type left.ty right.ty ∷ []) bad)
      (λ an known bad. in-right (faults.Syntax (place_of_type right.ty)) (typed_asks right) (same_type left.ty right.ty ∷ []) (one (faults.Syntax (place_of_type right.ty)) (same_type left.ty right.ty) [] (a.0, typed-is left.ty left.value a made, an, known, bad))) third)
      (λ b was none. ok-fails (core.Select c a.1 b) e none) last)) more)) h
    where
      All : Fault → Type 0
      All e = Unanswered types symbols table ((typed_asks condition ++ this_type (values.Int 1) condition.ty ∷ []) ++ typed_asks left ++ typed_asks right ++ same_type left.ty right.ty ∷ []) e

      Rest : Fault → Type 0
      Rest e = Unanswered types symbols table (typed_asks left ++ typed_asks right ++ same_type left.ty right.ty ∷ []) e

      Last : Fault → Type 0
      Last e = Unanswered types symbols table (typed_asks right ++ same_type left.ty right.ty ∷ []) e

  freezing-fails : (e : Fault) (value : Typed) → freezing types symbols table value ≡ Err e → Unanswered types symbols table (typed_asks value) e
  unfolding freezing
  freezing-fails e value h =
      chain (Unanswered types symbols table (typed_asks value) e) (typed types symbols table value.ty value.value) (λ a. Ok (core.Freeze a.1)) e
      (λ first. typed-fails e value.ty value.value first)
      (λ a is none. ok-fails (core.Freeze a.1) e none) h

  loading-fails : (e : Fault) (from : Typed) → loading types symbols table from ≡ Err e → Unanswered types symbols table (typed_asks from ++ this_type values.Ptr from.ty ∷ []) e
  unfolding loading
  loading-fails e from h =
      chain (Unanswered types symbols table (typed_asks from ++ this_type values.Ptr from.ty ∷ []) e) (typed_as types symbols table values.Ptr from.ty from.value) (λ a. Ok (core.Load a)) e
      (λ first. this-fails e values.Ptr from first)
      (λ a is none. ok-fails (core.Load a) e none) h

  storing-fails : (e : Fault) (value into : Typed) → storing types symbols table value into ≡ Err e → Unanswered types symbols table (typed_asks value ++ typed_asks into ++ this_type values.Ptr into.ty ∷ []) e
  unfolding storing
  storing-fails e value into h =
      chain (Unanswered types symbols table (typed_asks value ++ typed_asks into ++ this_type values.Ptr into.ty ∷ []) e) (typed types symbols table value.ty value.value) (λ a. typed_as types symbols table values.Ptr into.ty into.value >>= λ b. Ok (core.Store a.0 a.1 b)) e
      (λ first. in-left e (typed_asks value) _ (typed-fails e value.ty value.value first))
      (λ a is more. in-right e (typed_asks value) _
      (chain (Unanswered types symbols table (typed_asks into ++ this_type values.Ptr into.ty ∷ []) e) (typed_as types symbols table values.Ptr into.ty into.value) (λ b. Ok (core.Store a.0 a.1 b)) e
      (λ second. this-fails e values.Ptr into second)
      (λ b was none. ok-fails (core.Store a.0 a.1 b) e none) more)) h

  -- typed operands one by one
  list-fails : (e : Fault) (before : TypedList) (given : List Typed) → walk (typed_step types symbols table) before given ≡ Err e → Unanswered types symbols table (list_asks given) e
  unfolding walk list_asks
  list-fails e before [] h = ok-fails before e h
  list-fails e before (given ∷ rest) h =
      chain (Unanswered types symbols table (typed_asks given ++ list_asks rest) e) (typed_step types symbols table before given) (λ next. walk (typed_step types symbols table) next rest) e
      (λ first. in-left e (typed_asks given) (list_asks rest)
      (chain (Unanswered types symbols table (typed_asks given) e) (typed types symbols table given.ty given.value) (λ made. Ok (record { all = before.all ++ made ∷ [] })) e
      (λ second. typed-fails e given.ty given.value second)
      (λ made is none. ok-fails _ e none) first))
      (λ next is more. in-right e (typed_asks given) (list_asks rest) (list-fails e next rest more)) h

  pub typed_list_fails : (e : Fault) (given : List Typed) → typed_list types symbols table given ≡ Err e → Unanswered types symbols table (list_asks given) e
  unfolding typed_list
  typed_list_fails e given h =
      chain (Unanswered types symbols table (list_asks given) e) (walk (typed_step types symbols table) (record { all = [] }) given) (λ list. Ok list.all) e
      (λ first. list-fails e (record { all = [] }) given first)
      (λ list is none. ok-fails list.all e none) h

  block-asks : (e : Fault) (name : Name) (rest : List Ask) → block_of table name ≡ Err e → Unanswered types symbols table (some_block name ∷ rest) e
  block-asks e name rest h = one e (some_block name) rest (block_fails table name e h)

  incoming-fails : (e : Fault) (given : List TypeNode) (ty : Ty) (all : List (Operand × ℕ)) (incoming : List Incoming) → type_of types given ≡ Ok ty → walk (incoming_step types symbols table) (record { ty = ty; all = all }) incoming ≡ Err e → Unanswered types symbols table (incoming_asks given incoming) e
  unfolding walk incoming_asks
  incoming-fails e given ty all [] is h = ok-fails _ e h
  incoming-fails e given ty all (item ∷ rest) is h =
      chain (Unanswered types symbols table (some_value given item.value ∷ some_block item.block ∷ incoming_asks given rest) e) (incoming_step types symbols table (record { ty = ty; all = all }) item) (λ next. walk (incoming_step types symbols table) next rest) e
      (λ first. chain (Unanswered types symbols table (some_value given item.value ∷ some_block item.block ∷ incoming_asks given rest) e) (operand types symbols table ty item.value) (λ value. block_of table item.block >>= λ block. Ok (record { ty = ty; all = all ++ (value, block) ∷ [] })) e
      (λ bad. one e (some_value given item.value) _ (operand-fails e given ty item.value is bad))
      (λ value was more. later e (some_value given item.value) _
      (chain (Unanswered types symbols table (some_block item.block ∷ incoming_asks given rest) e) (block_of table item.block) (λ block. Ok (record { ty = ty; all = all ++ (value, block) ∷ [] })) e
      (λ bad. block-asks e item.block _ bad)
      (λ block stood none. ok-fails _ e none) more)) first)
      (λ next made more.
      let a = gives-then (operand types symbols table ty item.value) (λ value. block_of table item.block >>= λ block. Ok (record { ty = ty; all = all ++ (value, block) ∷ [] })) next made in
      let b = gives-then (block_of table item.block) (λ block. Ok (record { ty = ty; all = all ++ (a.0, block) ∷ [] })) next a.2 in
      let same : record { ty = ty; all = all ++ (a.0, b.0) ∷ [] } ≡ next = let last = b.2 in cc in
      later e (some_value given item.value) _ (later e (some_block item.block) _ (incoming-fails e given ty (all ++ (a.0, b.0) ∷ []) rest is (rw (sym same) at more)))) h

  phi-fails : (e : Fault) (given : List TypeNode) (incoming : List Incoming) → phi types symbols table given incoming ≡ Err e → Unanswered types symbols table (some_type given ∷ incoming_asks given incoming) e
  unfolding phi incoming_list
  phi-fails e given incoming h =
      chain (Unanswered types symbols table (some_type given ∷ incoming_asks given incoming) e) (type_of types given) (λ ty. incoming_list types symbols table ty incoming >>= λ all. Ok (core.Phi all)) e
      (λ first. one e (some_type given) _ (type_fails types given e first))
      (λ ty is more. later e (some_type given) _
      (chain (Unanswered types symbols table (incoming_asks given incoming) e) (incoming_list types symbols table ty incoming) (λ all. Ok (core.Phi all)) e
      (λ second. chain (Unanswered types symbols table (incoming_asks given incoming) e) (walk (incoming_step types symbols table) (record { ty = ty; all = [] }) incoming) (λ list. Ok list.all) e
      (λ third. incoming-fails e given ty [] incoming is third)
      (λ list was none. ok-fails list.all e none) second)
      (λ all was none. ok-fails (core.Phi all) e none) more)) h

  case-number-fails : (P : Fault → Type 0) (e : Fault) (left : ℕ) (made : Operand) → P (faults.Syntax left) → case_number left made ≡ Err e → P e
  case-number-fails P e left (operands.Num n) p h = ok-fails n e h
  case-number-fails P e left (operands.Value n) p h = carry P (faults.Syntax left) e p h
  case-number-fails P e left operands.Null p h = carry P (faults.Syntax left) e p h
  case-number-fails P e left (operands.Place global offset) p h = carry P (faults.Syntax left) e p h
  case-number-fails P e left operands.Poison p h = carry P (faults.Syntax left) e p h

  where-gives : (fits : Bool) (left : ℕ) (given made : Operand) → where_ty fits left given ≡ Ok made → given ≡ made
  where-gives true left given made h = cc
  where-gives false left given made h = absurd cc

  number-gives : {P : Type 0} (e : Fault) (ty : Ty) (number : Number) (made : Operand) → number_operand ty number ≡ Ok made → case_number number.left made ≡ Err e → P
  number-gives e (values.Int w) number made is h =
      let a = gives-then (literal_of number w) (λ n. Ok (operands.Num n)) made is in
      let same : operands.Num a.0 ≡ made = let last = a.2 in cc in
      ok-fails a.0 e (rw (sym same) at h)
  number-gives e values.Void number made is h = absurd cc
  number-gives e values.Ptr number made is h = absurd cc

  number-case-fails : (P : Fault → Type 0) (e : Fault) (ty : Ty) (value : Value) (made : Operand) → operand types symbols table ty value ≡ Ok made → (IsNoNumber value → P (faults.Syntax (place_of_value value))) → case_number (place_of_value value) made ≡ Err e → P e
  unfolding operand
  number-case-fails P e ty (written.Number number) made is p h = number-gives e ty number made is h
  number-case-fails P e ty (written.True left) made is p h = ok-fails 1 e (rw (sym (where-gives (is_ty ty (values.Int 1)) left (operands.Num 1) made is)) at h)
  number-case-fails P e ty (written.False left) made is p h = ok-fails 0 e (rw (sym (where-gives (is_ty ty (values.Int 1)) left (operands.Num 0) made is)) at h)
  number-case-fails P e ty (written.Local name) made is p h = case-number-fails P e name.left made (p tt) h
  number-case-fails P e ty (written.Null left) made is p h = case-number-fails P e left made (p tt) h
  number-case-fails P e ty (written.Poison left) made is p h = case-number-fails P e left made (p tt) h
  number-case-fails P e ty (written.Address address) made is p h = case-number-fails P e address.left made (p tt) h

  pub callee-target-fails : (P : Fault → Type 0) (e : Fault) (left : ℕ) (target : Target) → (((n : ℕ) × (target ≡ targets.Global n)) → P (faults.LeftOut left)) → (((n : ℕ) → target ≡ targets.Function n → ⊥) → ((n : ℕ) → target ≡ targets.Global n → ⊥) → P (faults.Name left)) → callee_number left target ≡ Err e → P e
  callee-target-fails P e left (targets.Function n) p q h = ok-fails n e h
  callee-target-fails P e left (targets.Global n) p q h = carry P (faults.LeftOut left) e (p (n, refl)) h
  callee-target-fails P e left (targets.Value n) p q h = carry P (faults.Name left) e (q (λ m same. absurd cc) (λ m same. absurd cc)) h
  callee-target-fails P e left (targets.Block n) p q h = carry P (faults.Name left) e (q (λ m same. absurd cc) (λ m same. absurd cc)) h
  callee-target-fails P e left (targets.Type n) p q h = carry P (faults.Name left) e (q (λ m same. absurd cc) (λ m same. absurd cc)) h

  -- what a call of this name asks, but for its result's type
  abbrev asks_of : Name → List Typed → List Ask
  asks_of callee arguments = some_callee false callee ∷ some_quiet callee arguments ∷ some_width callee arguments ∷ list_asks arguments

  -- what a name stands for is what its bytes stand for
  target-of : (callee : Name) (bytes : List ℕ) → bytes_of callee ≡ Ok bytes → named_target symbols callee ≡ symbol_of symbols callee.left bytes
  unfolding named_target
  target-of callee bytes is = rw is refl

  symbol-fails : (P : Fault → Type 0) (callee : Name) (bytes : List ℕ) (e : Fault) → bytes_of callee ≡ Ok bytes → (((target : Target) → named_target symbols callee ≡ Ok target → ⊥) → P (faults.Name callee.left)) → symbol_of symbols callee.left bytes ≡ Err e → P e
  symbol-fails P callee bytes e is q h = by (target_named bytes symbols) (target-of callee bytes is) h
    where
      by : (o : Option Target) → named_target symbols callee ≡ or_fault (faults.Name callee.left) o → or_fault (faults.Name callee.left) o ≡ Err e → P e
      by None stands h = carry P (faults.Name callee.left) e (q (λ target found. let none = sym stands ∙ found in absurd cc)) h
      by (Some target) stands h = ok-fails target e h

  direct-fails : (e : Fault) (callee : Name) (arguments : List Typed) (bytes : List ℕ) → bytes_of callee ≡ Ok bytes → direct_call types symbols table callee arguments bytes ≡ Err e → Unanswered types symbols table (asks_of callee arguments) e
  unfolding direct_call
  direct-fails e callee arguments bytes named h =
      chain (Unanswered types symbols table (asks_of callee arguments) e) (symbol_of symbols callee.left bytes) (λ target. callee_number callee.left target >>= λ n. typed_list types symbols table arguments >>= λ all. Ok (core.Call n all)) e
      (λ first. one e (some_callee false callee) _ (symbol-fails (CalleeFault symbols false callee) callee bytes e named (λ none. (refl, ((λ g. none (targets.Global g.0) g.1), (λ g. none (targets.Function g.0) g.1)))) first))
      (λ target found more. let is = target-of callee bytes named ∙ found in chain (Unanswered types symbols table (asks_of callee arguments) e) (callee_number callee.left target) (λ n. typed_list types symbols table arguments >>= λ all. Ok (core.Call n all)) e
      (λ second. one e (some_callee false callee) _ (callee-target-fails (CalleeFault symbols false callee) e callee.left target
      (λ g. (refl, inr (inr (g.0, is ∙ ap (λ t. Ok t) g.1))))
      (λ f g. (refl, ((λ m. g m.0 (let h = m.1 in cc)), (λ m. f m.0 (let h = m.1 in cc))))) second))
      (λ n was last. in-right e (some_callee false callee ∷ some_quiet callee arguments ∷ some_width callee arguments ∷ []) (list_asks arguments)
      (chain (Unanswered types symbols table (list_asks arguments) e) (typed_list types symbols table arguments) (λ all. Ok (core.Call n all)) e
      (λ third. typed_list_fails e arguments third)
      (λ all made none. ok-fails (core.Call n all) e none) last)) more) h

  quiet-value-fails : (P : Fault → Type 0) (e : Fault) (value : Value) → ((left : ℕ) → ((at : ℕ) → value ≡ written.False at → ⊥) → ((at : ℕ) → value ≡ written.True at → ⊥) → P (faults.Syntax left)) → ((left : ℕ) → value ≡ written.True left → P (faults.LeftOut left)) → quiet_value value ≡ Err e → P e
  quiet-value-fails P e (written.False left) p q h = ok-fails tt e h
  quiet-value-fails P e (written.True left) p q h = carry P (faults.LeftOut left) e (q left refl) h
  quiet-value-fails P e (written.Local name) p q h = carry P (faults.Syntax name.left) e (p name.left (λ at same. absurd cc) (λ at same. absurd cc)) h
  quiet-value-fails P e (written.Number number) p q h = carry P (faults.Syntax number.left) e (p number.left (λ at same. absurd cc) (λ at same. absurd cc)) h
  quiet-value-fails P e (written.Null left) p q h = carry P (faults.Syntax left) e (p left (λ at same. absurd cc) (λ at same. absurd cc)) h
  quiet-value-fails P e (written.Poison left) p q h = carry P (faults.Syntax left) e (p left (λ at same. absurd cc) (λ at same. absurd cc)) h
  quiet-value-fails P e (written.Address address) p q h = carry P (faults.Syntax address.left) e (p address.left (λ at same. absurd cc) (λ at same. absurd cc)) h

  quiet-argument-fails : (e : Fault) (callee : Name) (arguments : List Typed) (last : Option Typed) → IsMemoryCallee callee → slice_get arguments (length arguments - 1) ≡ last → quiet_argument callee.left last ≡ Err e → QuietFault callee arguments e
  quiet-argument-fails e callee arguments None moves is h = carry (QuietFault callee arguments) (faults.Syntax callee.left) e (moves, ((λ left ends. let some = ends.1 in absurd cc), (λ left ends. let some = ends.1 in absurd cc))) h
  quiet-argument-fails e callee arguments (Some given) moves is h = quiet-value-fails (QuietFault callee arguments) e given.value
      (λ left no_false no_true. (moves, ((λ at ends. no_false at (one-value ends.0 ends.1 ∙ ends.2)), (λ at ends. no_true at (one-value ends.0 ends.1 ∙ ends.2)))))
      (λ left same. (moves, (given, is, same))) h
    where
      one-value : (last : Typed) → slice_get arguments (length arguments - 1) ≡ Some last → given.value ≡ last.value
      one-value last some = let one_ : given ≡ last = cc in ap (λ (t : Typed). t.value) one_

  quiet-fails : (e : Fault) (callee : Name) (named : NamedBuiltIn) (arguments : List Typed) → NamesBuiltIn callee named → quiet callee.left named.which arguments ≡ Err e → QuietFault callee arguments e
  quiet-fails e callee named arguments is h = by (is_of_memory named.which) refl h
    where
      by : (b : Bool) → is_of_memory named.which ≡ b → if◌then◌else◌ {A = Result (Unit {0}) Fault} b (quiet_argument callee.left (slice_get arguments (length arguments - 1))) (Ok tt) ≡ Err e → QuietFault callee arguments e
      by true moves h = quiet-argument-fails e callee arguments (slice_get arguments (length arguments - 1)) (named, is, moves) refl h
      by false moves h = absurd cc

  fitting-fails : (P : Fault → Type 0) (e : Fault) (at : ℕ) (named : NamedBuiltIn) (all : List (Ty × Operand)) → (has_width named.width (slice_get all (measured named.which)) ≡ false → P (faults.Name at)) → fitting at named all ≡ Err e → P e
  fitting-fails P e at named all p h = by (has_width named.width (slice_get all (measured named.which))) refl h
    where
      by : (b : Bool) → has_width named.width (slice_get all (measured named.which)) ≡ b → if◌then◌else◌ {A = Result (Unit {0}) Fault} b (Ok tt) (Err (faults.Name at)) ≡ Err e → P e
      by true is h = absurd cc
      by false is h = carry P (faults.Name at) e (p is) h

  built-in-fails : (e : Fault) (callee : Name) (arguments : List Typed) (named : NamedBuiltIn) → NamesBuiltIn callee named → built_in_call types symbols table callee arguments named ≡ Err e → Unanswered types symbols table (call_asks false callee arguments) e
  unfolding built_in_call
  built-in-fails e callee arguments named is h =
      chain (Unanswered types symbols table (call_asks false callee arguments) e) (typed_list types symbols table arguments) (λ all. quiet callee.left named.which arguments >>= λ _. fitting callee.left named all >>= λ _. Ok (core.BuiltIn named.which all)) e
      (λ first. in-right e (some_callee false callee ∷ some_quiet callee arguments ∷ some_width callee arguments ∷ []) (list_asks arguments) (typed_list_fails e arguments first))
      (λ all made more. later e (some_callee false callee) _ (chain (Unanswered types symbols table (some_quiet callee arguments ∷ some_width callee arguments ∷ list_asks arguments) e) (quiet callee.left named.which arguments) (λ _. fitting callee.left named all >>= λ _. Ok (core.BuiltIn named.which all)) e
      (λ second. one e (some_quiet callee arguments) _ (quiet-fails e callee named arguments is second))
      (λ _ moves last. later e (some_quiet callee arguments) _ (chain (Unanswered types symbols table (some_width callee arguments ∷ list_asks arguments) e) (fitting callee.left named all) (λ _. Ok (core.BuiltIn named.which all)) e
      (λ third. one e (some_width callee arguments) _ (fitting-fails (WidthFault types symbols table callee arguments) e callee.left named all (λ bad. (refl, (named, is, all, made, bad))) third))
      (λ _ fits none. ok-fails (core.BuiltIn named.which all) e none) last)) more)) h

  own-fails : (e : Fault) (callee : Name) (arguments : List Typed) (bytes : List ℕ) (named : Option NamedBuiltIn) → bytes_of callee ≡ Ok bytes → starts_with nat_eq bytes (codes "llvm.") ≡ true → built_in_of bytes ≡ named → own_call types symbols table callee arguments named ≡ Err e → Unanswered types symbols table (call_asks false callee arguments) e
  own-fails e callee arguments bytes None says own is h = carry (Unanswered types symbols table (call_asks false callee arguments)) (faults.LeftOut callee.left) e (one (faults.LeftOut callee.left) (some_callee false callee) _ (refl, inr (inl (bytes, says, own, is)))) h
  own-fails e callee arguments bytes (Some named) says own is h = built-in-fails e callee arguments named (bytes, says, is) h

  named-call-fails : (e : Fault) (callee : Name) (arguments : List Typed) (bytes : List ℕ) → bytes_of callee ≡ Ok bytes → named_call types symbols table callee arguments bytes ≡ Err e → Unanswered types symbols table (call_asks false callee arguments) e
  unfolding named_call
  named-call-fails e callee arguments bytes says h = by (starts_with nat_eq bytes (codes "llvm.")) refl h
    where
      by : (b : Bool) → starts_with nat_eq bytes (codes "llvm.") ≡ b → (if b then own_call types symbols table callee arguments (built_in_of bytes) else direct_call types symbols table callee arguments bytes) ≡ Err e → Unanswered types symbols table (call_asks false callee arguments) e
      by true is h = own-fails e callee arguments bytes (built_in_of bytes) says is refl h
      by false is h = direct-fails e callee arguments bytes says h

  call-fails : (e : Fault) (is_local : Bool) (callee : Name) (arguments : List Typed) → call types symbols table is_local callee arguments ≡ Err e → Unanswered types symbols table (call_asks is_local callee arguments) e
  unfolding call
  call-fails e true callee arguments h = carry (Unanswered types symbols table (call_asks true callee arguments)) (faults.LeftOut callee.left) e (one (faults.LeftOut callee.left) (some_callee true callee) _ (refl, inl refl)) h
  call-fails e false callee arguments h =
      chain (Unanswered types symbols table (call_asks false callee arguments) e) (bytes_of callee) (named_call types symbols table callee arguments) e
      (λ first. one e (some_callee false callee) _ (bytes-fail (CalleeFault symbols false callee) callee e (λ bad. bad) first))
      (λ bytes says more. named-call-fails e callee arguments bytes says more) h

  returned-by : (e : Fault) (ret : List TypeNode) (ty an : Ty) (given : List TypeNode) (value : Value) (fits : Bool) → type_of types ret ≡ Ok ty → type_of types given ≡ Ok an → (is_ty an ty && not (is_ty an values.Void)) ≡ fits → (an ≡ ty ⊎ (fits ≡ false))
      → (if fits then (operand types symbols table ty value >>= λ a. Ok (core.Ret (Some a))) else Err (faults.Syntax (place_of_type given))) ≡ Err e → Unanswered types symbols table (some_type given ∷ returned ret given ∷ some_value given value ∷ []) e
  returned-by e ret ty an given value true ret_is is fits (inl same) h = later e (some_type given) _ (later e (returned ret given) _ (one e (some_value given value) []
      (chain (AskFault types symbols table (some_value given value) e) (operand types symbols table ty value) (λ a. Ok (core.Ret (Some a))) e
      (λ bad. operand-fails e given ty value (is ∙ ap (λ t. Ok t) same) bad)
      (λ a made none. ok-fails (core.Ret (Some a)) e none) h)))
  returned-by e ret ty an given value true ret_is is fits (inr bad) h = absurd cc
  returned-by e ret ty an given value false ret_is is fits alike h = carry (Unanswered types symbols table (some_type given ∷ returned ret given ∷ some_value given value ∷ [])) (faults.Syntax (place_of_type given)) e
      (later (faults.Syntax (place_of_type given)) (some_type given) _ (one (faults.Syntax (place_of_type given)) (returned ret given) _ (ty, ret_is, an, is, fits))) h

  same-ty : (an ty : Ty) → (an ≡ ty) ⊎ ((is_ty an ty && not (is_ty an values.Void)) ≡ false)
  same-ty values.Void values.Void = inl refl
  same-ty values.Ptr values.Ptr = inl refl
  same-ty (values.Int w) (values.Int v) = by (nat_eq w v) refl
    where
      by : (b : Bool) → nat_eq w v ≡ b → (values.Int w ≡ values.Int v) ⊎ ((nat_eq w v && true) ≡ false)
      by true is = inl (ap (λ n. values.Int n) (grind arith))
      by false is = inr (rw is refl)
  same-ty values.Void values.Ptr = inr refl
  same-ty values.Void (values.Int v) = inr refl
  same-ty values.Ptr values.Void = inr refl
  same-ty values.Ptr (values.Int v) = inr refl
  same-ty (values.Int w) values.Void = inr refl
  same-ty (values.Int w) values.Ptr = inr refl

  returning-fails : (e : Fault) (ret : List TypeNode) (ty : Ty) (given : List TypeNode) (value : Value) → type_of types ret ≡ Ok ty → returning types symbols table ty given value ≡ Err e → Unanswered types symbols table (some_type given ∷ returned ret given ∷ some_value given value ∷ []) e
  unfolding returning
  returning-fails e ret ty given value ret_is h =
      chain (Unanswered types symbols table (some_type given ∷ returned ret given ∷ some_value given value ∷ []) e) (returned_type types ty given) (λ fits. if fits then (operand types symbols table ty value >>= λ a. Ok (core.Ret (Some a))) else Err (faults.Syntax (place_of_type given))) e
      (λ first. one e (some_type given) _ (chain (TypeFault types given e) (type_of types given) (λ an. Ok (is_ty an ty && not (is_ty an values.Void))) e (λ bad. type_fails types given e bad) (λ an was none. ok-fails (is_ty an ty && not (is_ty an values.Void)) e none) first))
      (λ fits is more.
      let a = gives-then (type_of types given) (λ an. Ok (is_ty an ty && not (is_ty an values.Void))) fits is in
      let same : (is_ty a.0 ty && not (is_ty a.0 values.Void)) ≡ fits = let last = a.2 in cc in
      returned-by e ret ty a.0 given value fits ret_is a.1 same (rw same at (same-ty a.0 ty)) more) h

  fork-fails : (e : Fault) (condition : Typed) (left right : Name) → fork types symbols table condition left right ≡ Err e → Unanswered types symbols table ((typed_asks condition ++ this_type (values.Int 1) condition.ty ∷ []) ++ some_block left ∷ some_block right ∷ []) e
  unfolding fork
  fork-fails e condition left right h =
      chain (Unanswered types symbols table ((typed_asks condition ++ this_type (values.Int 1) condition.ty ∷ []) ++ some_block left ∷ some_block right ∷ []) e) (typed_as types symbols table (values.Int 1) condition.ty condition.value) (λ c. block_of table left >>= λ a. block_of table right >>= λ b. Ok (core.CondBr c a b)) e
      (λ first. in-left e (typed_asks condition ++ this_type (values.Int 1) condition.ty ∷ []) (some_block left ∷ some_block right ∷ []) (this-fails e (values.Int 1) condition first))
      (λ c is more. in-right e (typed_asks condition ++ this_type (values.Int 1) condition.ty ∷ []) (some_block left ∷ some_block right ∷ [])
      (chain (Unanswered types symbols table (some_block left ∷ some_block right ∷ []) e) (block_of table left) (λ a. block_of table right >>= λ b. Ok (core.CondBr c a b)) e
      (λ second. block-asks e left _ second)
      (λ a was last. later e (some_block left) _
      (chain (Unanswered types symbols table (some_block right ∷ []) e) (block_of table right) (λ b. Ok (core.CondBr c a b)) e
      (λ third. block-asks e right _ third)
      (λ b stood none. ok-fails (core.CondBr c a b) e none) last)) more)) h

  -- a case's number
  case-value-fails : (e : Fault) (given : List TypeNode) (ty : Ty) (item : Case) (rest : List Ask) → type_of types given ≡ Ok ty → case_value types symbols table ty item ≡ Err e → Unanswered types symbols table (some_type item.ty ∷ some_value item.ty item.value ∷ same_type given item.ty ∷ some_number item.value ∷ rest) e
  unfolding case_value typed_as typed
  case-value-fails e given ty item rest is h =
      chain (All e) (typed_as types symbols table ty item.ty item.value) (λ value. case_number (place_of_value item.value) value) e
      (λ first. typed_as-fails e All ty item.ty item.value
      (λ bad. in-left e (some_type item.ty ∷ some_value item.ty item.value ∷ []) (same_type given item.ty ∷ some_number item.value ∷ rest) bad)
      (λ an known bad. in-right there (some_type item.ty ∷ some_value item.ty item.value ∷ []) (same_type given item.ty ∷ some_number item.value ∷ rest) (one there (same_type given item.ty) _ (ty, is, an, known, bad))) first)
      (λ value made more.
      let a = gives-then (typed types symbols table item.ty item.value) (λ both. where_ty (is_ty both.0 ty) (place_of_type item.ty) both.1) value made in
      let b = gives-then (type_of types item.ty) (λ an. operand types symbols table an item.value >>= λ v. Ok (an, v)) a.0 a.1 in
      let c = gives-then (operand types symbols table b.0 item.value) (λ v. Ok (b.0, v)) a.0 b.2 in
      let last : ◌≡◌ {A = Result (Ty × Operand) Fault} (Ok (b.0, c.0)) (Ok a.0) = c.2 in
      let pair : ◌≡◌ {A = Ty × Operand} (b.0, c.0) a.0 = cc in
      let same : c.0 ≡ value = ap (λ (q : Ty × Operand). q.1) pair ∙ where-gives (is_ty a.0.0 ty) (place_of_type item.ty) a.0.1 value a.2 in
      number-case-fails All e b.0 item.value value (c.1 ∙ ap (λ v. Ok v) same)
      (λ bad. in-right at (some_type item.ty ∷ some_value item.ty item.value ∷ same_type given item.ty ∷ []) (some_number item.value ∷ rest) (one at (some_number item.value) rest bad)) more) h
    where
      at : Fault
      at = faults.Syntax (place_of_value item.value)

      there : Fault
      there = faults.Syntax (place_of_type item.ty)

      All : Fault → Type 0
      All x = Unanswered types symbols table (some_type item.ty ∷ some_value item.ty item.value ∷ same_type given item.ty ∷ some_number item.value ∷ rest) x

  cases-fail : (e : Fault) (given : List TypeNode) (ty : Ty) (all : List (ℕ × ℕ)) (cases : List Case) → type_of types given ≡ Ok ty → walk (case_step types symbols table) (record { ty = ty; all = all }) cases ≡ Err e → Unanswered types symbols table (case_asks given cases) e
  unfolding walk case_asks
  cases-fail e given ty all [] is h = ok-fails _ e h
  cases-fail e given ty all (item ∷ rest) is h =
      chain (Unanswered types symbols table (some_type item.ty ∷ some_value item.ty item.value ∷ same_type given item.ty ∷ some_number item.value ∷ some_block item.block ∷ case_asks given rest) e) (case_step types symbols table (record { ty = ty; all = all }) item) (λ next. walk (case_step types symbols table) next rest) e
      (λ first. chain (Unanswered types symbols table (some_type item.ty ∷ some_value item.ty item.value ∷ same_type given item.ty ∷ some_number item.value ∷ some_block item.block ∷ case_asks given rest) e) (case_value types symbols table ty item) (λ number. block_of table item.block >>= λ block. Ok (record { ty = ty; all = all ++ (number, block) ∷ [] })) e
      (λ bad. case-value-fails e given ty item (some_block item.block ∷ case_asks given rest) is bad)
      (λ number was more. in-right e (some_type item.ty ∷ some_value item.ty item.value ∷ same_type given item.ty ∷ some_number item.value ∷ []) (some_block item.block ∷ case_asks given rest)
      (chain (Unanswered types symbols table (some_block item.block ∷ case_asks given rest) e) (block_of table item.block) (λ block. Ok (record { ty = ty; all = all ++ (number, block) ∷ [] })) e
      (λ bad. block-asks e item.block _ bad)
      (λ block stood none. ok-fails _ e none) more)) first)
      (λ next made more.
      let a = gives-then (case_value types symbols table ty item) (λ number. block_of table item.block >>= λ block. Ok (record { ty = ty; all = all ++ (number, block) ∷ [] })) next made in
      let b = gives-then (block_of table item.block) (λ block. Ok (record { ty = ty; all = all ++ (a.0, block) ∷ [] })) next a.2 in
      let same : record { ty = ty; all = all ++ (a.0, b.0) ∷ [] } ≡ next = let last = b.2 in cc in
      in-right e (some_type item.ty ∷ some_value item.ty item.value ∷ same_type given item.ty ∷ some_number item.value ∷ some_block item.block ∷ []) (case_asks given rest) (cases-fail e given ty (all ++ (a.0, b.0) ∷ []) rest is (rw (sym same) at more))) h

  switching-fails : (e : Fault) (value : Typed) (otherwise : Name) (cases : List Case) → switching types symbols table value otherwise cases ≡ Err e → Unanswered types symbols table (typed_asks value ++ some_block otherwise ∷ case_asks value.ty cases) e
  unfolding switching case_list
  switching-fails e value otherwise cases h =
      chain (Unanswered types symbols table (typed_asks value ++ some_block otherwise ∷ case_asks value.ty cases) e) (typed types symbols table value.ty value.value) (λ a. block_of table otherwise >>= λ block. case_list types symbols table a.0 cases >>= λ all. Ok (core.Switch a.0 a.1 block all)) e
      (λ first. in-left e (typed_asks value) _ (typed-fails e value.ty value.value first))
      (λ a is more. in-right e (typed_asks value) _
      (chain (Unanswered types symbols table (some_block otherwise ∷ case_asks value.ty cases) e) (block_of table otherwise) (λ block. case_list types symbols table a.0 cases >>= λ all. Ok (core.Switch a.0 a.1 block all)) e
      (λ second. block-asks e otherwise _ second)
      (λ block stood last. later e (some_block otherwise) _
      (chain (Unanswered types symbols table (case_asks value.ty cases) e) (case_list types symbols table a.0 cases) (λ all. Ok (core.Switch a.0 a.1 block all)) e
      (λ third. chain (Unanswered types symbols table (case_asks value.ty cases) e) (walk (case_step types symbols table) (record { ty = a.0; all = [] }) cases) (λ list. Ok list.all) e
      (λ bad. cases-fail e value.ty a.0 [] cases (typed-is value.ty value.value a is) bad)
      (λ list was none. ok-fails list.all e none) third)
      (λ all was none. ok-fails (core.Switch a.0 a.1 block all) e none) last)) more)) h

  jump-fails : (e : Fault) (name : Name) → jump table name ≡ Err e → Unanswered types symbols table (some_block name ∷ []) e
  jump-fails e name h = chain (Unanswered types symbols table (some_block name ∷ []) e) (block_of table name) (λ n. Ok (core.Br n)) e (λ first. block-asks e name [] first) (λ n is none. ok-fails (core.Br n) e none) h

  aligns-fail : (e : Fault) (aligns : List Align) → small_aligns aligns ≡ Err e → AskFault types symbols table (some_aligns aligns) e
  unfolding small_aligns
  aligns-fail e aligns h =
      chain (AskFault types symbols table (some_aligns aligns) e) (walk align_step (record { aligns = 0 }) aligns) (λ _. Ok tt) e
      (λ first. walk_fails align_step (record { aligns = 0 }) aligns e (AskFault types symbols table (some_aligns aligns) e)
      (λ before given r bad. (
        given,
        reached_among align_step (record { aligns = 0 }) aligns before given r,
        chain (small_align given ≡ Err e) (small_align given) (λ _. Ok before) e (λ f. f) (λ _ is none. ok-fails before e none) bad,
      )) first)
      (λ _ is none. ok-fails tt e none) h

  counted-fails : (e : Fault) (place : ℕ) (given : List TypeNode) (count : Option Typed) (aligns : List Align) → (memory types given >>= λ ty. item_count types place count >>= λ items. small_aligns aligns >>= λ _. Ok (core.Alloca ty items)) ≡ Err e
      → Unanswered types symbols table (some_memory given ∷ some_count place count ∷ some_aligns aligns ∷ []) e
  counted-fails e place given count aligns h =
      chain (Unanswered types symbols table (some_memory given ∷ some_count place count ∷ some_aligns aligns ∷ []) e) (memory types given) (λ ty. item_count types place count >>= λ items. small_aligns aligns >>= λ _. Ok (core.Alloca ty items)) e
      (λ first. one e (some_memory given) _ first)
      (λ ty is more. later e (some_memory given) _ (chain (Unanswered types symbols table (some_count place count ∷ some_aligns aligns ∷ []) e) (item_count types place count) (λ items. small_aligns aligns >>= λ _. Ok (core.Alloca ty items)) e
      (λ second. one e (some_count place count) _ second)
      (λ items made last. later e (some_count place count) _ (chain (Unanswered types symbols table (some_aligns aligns ∷ []) e) (small_aligns aligns) (λ _. Ok (core.Alloca ty items)) e
      (λ third. one e (some_aligns aligns) [] (aligns-fail e aligns third))
      (λ _ fits none. ok-fails (core.Alloca ty items) e none) last)) more)) h

  alloca-fails : (e : Fault) (entry : Bool) (place : ℕ) (given : List TypeNode) (count : Option Typed) (aligns : List Align) → alloca types entry place given count aligns ≡ Err e → Unanswered types symbols table (entry_asks entry place ++ some_memory given ∷ some_count place count ∷ some_aligns aligns ∷ []) e
  unfolding alloca
  alloca-fails e true place given count aligns h = counted-fails e place given count aligns h
  alloca-fails e false place given count aligns h = carry (Unanswered types symbols table (some_entry place ∷ some_memory given ∷ some_count place count ∷ some_aligns aligns ∷ [])) (faults.LeftOut place) e (one (faults.LeftOut place) (some_entry place) _ refl) h

  gep-fails : (e : Fault) (given : List TypeNode) (base : Typed) (offsets : List Typed) → gep types symbols table given base offsets ≡ Err e → Unanswered types symbols table (some_memory given ∷ (typed_asks base ++ this_type values.Ptr base.ty ∷ []) ++ list_asks offsets) e
  unfolding gep
  gep-fails e given base offsets h =
      chain (Unanswered types symbols table (some_memory given ∷ (typed_asks base ++ this_type values.Ptr base.ty ∷ []) ++ list_asks offsets) e) (memory types given) (λ ty. typed_as types symbols table values.Ptr base.ty base.value >>= λ a. typed_list types symbols table offsets >>= λ all. Ok (core.Gep ty a all)) e
      (λ first. one e (some_memory given) _ first)
      (λ ty is more. later e (some_memory given) _ (chain (Unanswered types symbols table ((typed_asks base ++ this_type values.Ptr base.ty ∷ []) ++ list_asks offsets) e) (typed_as types symbols table values.Ptr base.ty base.value) (λ a. typed_list types symbols table offsets >>= λ all. Ok (core.Gep ty a all)) e
      (λ second. in-left e (typed_asks base ++ this_type values.Ptr base.ty ∷ []) (list_asks offsets) (this-fails e values.Ptr base second))
      (λ a made last. in-right e (typed_asks base ++ this_type values.Ptr base.ty ∷ []) (list_asks offsets) (chain (Unanswered types symbols table (list_asks offsets) e) (typed_list types symbols table offsets) (λ all. Ok (core.Gep ty a all)) e
      (λ third. typed_list_fails e offsets third)
      (λ all were none. ok-fails (core.Gep ty a all) e none) last)) more)) h

  -- the fault of an operation is that of something it asks
  pub operation_fails : (e : Fault) (ret : List TypeNode) (ty : Ty) (entry : Bool) (aligns : List Align) (given : Operation) → type_of types ret ≡ Ok ty → operation types symbols table ty entry aligns given ≡ Err e → Unanswered types symbols table (asks ret entry aligns given) e
  unfolding operation asks
  operation_fails e ret ty entry aligns (operations.Binary operator flags a b) is h = binary-fails e operator flags a b h
  operation_fails e ret ty entry aligns (operations.Icmp flags predicate a b) is h = comparison-fails e predicate flags a b h
  operation_fails e ret ty entry aligns (operations.Cast operator flags value target) is h = later e (some_type target) _ (cast-fails e operator flags value h)
  operation_fails e ret ty entry aligns (operations.Select condition a b) is h = selection-fails e condition a b h
  operation_fails e ret ty entry aligns (operations.Freeze value) is h = freezing-fails e value h
  operation_fails e ret ty entry aligns (operations.Phi given incoming) is h = phi-fails e given incoming h
  operation_fails e ret ty entry aligns (operations.Alloca place given count) is h = alloca-fails e entry place given count aligns h
  operation_fails e ret ty entry aligns (operations.Load given from) is h = later e (some_type given) _ (loading-fails e from h)
  operation_fails e ret ty entry aligns (operations.Store value into) is h = storing-fails e value into h
  operation_fails e ret ty entry aligns (operations.Gep given base offsets) is h = gep-fails e given base offsets h
  operation_fails e ret ty entry aligns (operations.Call given is_local callee arguments) is h = later e (some_type given) _ (call-fails e is_local callee arguments h)
  operation_fails e ret ty entry aligns (operations.Ret given (Some value)) is h = returning-fails e ret ty given value is h
  operation_fails e ret ty entry aligns (operations.Ret given None) is h = ok-fails (core.Ret None) e h
  operation_fails e ret ty entry aligns (operations.Br block) is h = jump-fails e block h
  operation_fails e ret ty entry aligns (operations.CondBr condition a b) is h = fork-fails e condition a b h
  operation_fails e ret ty entry aligns (operations.Switch value otherwise cases) is h = switching-fails e value otherwise cases h
  operation_fails e ret ty entry aligns operations.Unreachable is h = ok-fails core.Unreachable e h

-- the fault of a result's type is that of a type that the operation asks
pub result_fails : (types : Types) (e : Fault) (ret : List TypeNode) (entry : Bool) (aligns : List Align) (given : Operation) → result_type types given ≡ Err e → ResultFault types ret entry aligns given e
unfolding result_type asks Among
result_fails types e ret entry aligns (operations.Binary operator flags a b) h = (a.ty, inl refl, type_fails types a.ty e h)
result_fails types e ret entry aligns (operations.Icmp flags predicate a b) h = ok-fails (values.Int 1) e h
result_fails types e ret entry aligns (operations.Cast operator flags value target) h = (target, inl refl, type_fails types target e h)
result_fails types e ret entry aligns (operations.Select condition a b) h = (a.ty, inr (inr (inr (inl refl))), type_fails types a.ty e h)
result_fails types e ret entry aligns (operations.Freeze value) h = (value.ty, inl refl, type_fails types value.ty e h)
result_fails types e ret entry aligns (operations.Phi given incoming) h = (given, inl refl, type_fails types given e h)
result_fails types e ret entry aligns (operations.Alloca place given count) h = ok-fails values.Ptr e h
result_fails types e ret entry aligns (operations.Load given from) h = (given, inl refl, type_fails types given e h)
result_fails types e ret entry aligns (operations.Store value into) h = ok-fails values.Void e h
result_fails types e ret entry aligns (operations.Gep given base offsets) h = ok-fails values.Ptr e h
result_fails types e ret entry aligns (operations.Call given is_local callee arguments) h = (given, inl refl, type_fails types given e h)
result_fails types e ret entry aligns (operations.Ret given value) h = ok-fails values.Void e h
result_fails types e ret entry aligns (operations.Br block) h = ok-fails values.Void e h
result_fails types e ret entry aligns (operations.CondBr condition a b) h = ok-fails values.Void e h
result_fails types e ret entry aligns (operations.Switch value otherwise cases) h = ok-fails values.Void e h
result_fails types e ret entry aligns operations.Unreachable h = ok-fails values.Void e h
