-- Operations that are read fit.
use Rattle.std.proofs.Common.{◌≡◌, ◌⊎◌, inl, inr, ℕ, zero, suc, ◌-◌, ◌^◌, ◌<◌, ◌≤◌, Bool, true, false, not, List, [], ◌∷◌, ◌++◌, length, Option, Some, None, Result, Ok, Err, refl, sym, ◌∙◌, ap, subst, arith, if◌then◌else◌}
use Rattle.std.specs.Prelude.{◌&&◌, nat_eq, nat_lt, codes, slice_get}
use Rattle.std.specs.List.{starts_with}
use Rattle.std.specs.Str.{bytes_eq}
use Rattle.std.proofs.lemmas.Option.{none-some}
use Rattle.ir_text.specs.declared.name.Name.{Name}
use Rattle.ir_text.specs.declared.name.Number.{Number}
use Rattle.ir_grammar.specs.declared.type_tree.TypeNode.{TypeNode}
use Rattle.ir_grammar.specs.declared.type_tree.Align.{Align}
use Rattle.ir_value_trees.specs.declared.value_tree.Value.{Value}
use Rattle.ir_value_trees.specs.declared.value_tree.Value.TheVariants as written
use Rattle.ir_value_trees.specs.declared.value_tree.Typed.{Typed}
use Rattle.ir_instruction_trees.specs.declared.tree.Incoming.{Incoming}
use Rattle.ir_instruction_trees.specs.declared.tree.Case.{Case}
use Rattle.ir_instruction_trees.specs.declared.tree.Operation.{Operation}
use Rattle.ir_instruction_trees.specs.declared.tree.Operation.TheVariants as operations
use Rattle.ir_core.specs.declared.types.TheConstants.{MAX_WIDTH}
use Rattle.ir_core.specs.declared.types.Ty.{Ty}
use Rattle.ir_core.specs.declared.types.Ty.TheVariants as values
use Rattle.ir_core.specs.declared.types.MemTy.{MemTy}
use Rattle.ir_core.specs.declared.code.Flags.{Flags}
use Rattle.ir_core.specs.declared.code.BinOp.{BinOp}
use Rattle.ir_core.specs.declared.code.Pred.{Pred}
use Rattle.ir_core.specs.declared.code.CastOp.{CastOp}
use Rattle.ir_core.specs.declared.code.Operand.{Operand}
use Rattle.ir_core.specs.declared.code.Operand.TheVariants as operands
use Rattle.ir_core.specs.declared.code.BuiltIn.{BuiltIn}
use Rattle.ir_core.specs.declared.code.BuiltIn.TheVariants as built
use Rattle.ir_core.specs.declared.code.Op.{Op}
use Rattle.ir_core.specs.declared.code.Op.TheVariants as ops
use Rattle.ir_core.specs.declared.program.Module.{Module}
use Rattle.ir_types.specs.declared.fault.Fault.{Fault}
use Rattle.ir_types.specs.declared.fault.Fault.TheVariants as faults
use Rattle.ir_types.specs.declared.tables.Target.{Target}
use Rattle.ir_types.specs.declared.tables.Target.TheVariants as targets
use Rattle.ir_types.specs.Walk.{◌>>=◌, or_fault, walk}
use Rattle.ir_types.specs.Tables.{target_named}
use Rattle.ir_types.specs.declared.names.Table.{Table}
use Rattle.ir_types.specs.declared.table.Types.{Types}
use Rattle.ir_types.specs.Names.{Symbols, bytes_of, target_of}
use Rattle.ir_types.specs.Summaries.{AreResolved}
use Rattle.ir_types.specs.Types.{type_of, memory}
use Rattle.ir_resolve.specs.Literals.{literal_of}
use Rattle.ir_resolve.specs.Operands.{is_ty, where_ty, block_number, block_of, operand, typed, typed_as, place_of_type, place_of_value}
use Rattle.ir_instructions.specs.declared.built_ins.NamedBuiltIn.{NamedBuiltIn}
use Rattle.ir_instructions.specs.declared.lists.TypedList.{TypedList}
use Rattle.ir_instructions.specs.declared.lists.IncomingList.{IncomingList}
use Rattle.ir_instructions.specs.declared.lists.CaseList.{CaseList}
use Rattle.ir_instructions.specs.BuiltIns.{width_behind, with_width, or_named, memory_named, integer_named, built_in_of, is_of_memory, measured, has_width, quiet_value, quiet_argument, quiet, fitting}
use Rattle.ir_instructions.specs.Counts.{below_size, number_count, value_count, item_count, small_aligns}
use Rattle.ir_instructions.specs.Instructions.{result_type, typed_step, typed_list, incoming_step, incoming_list, case_number, case_value, case_step, case_list, binary, comparison, cast, selection, freezing, phi, loading, storing, callee_number, symbol_of, direct_call, built_in_call, own_call, named_call, call, returned_type, returning, ret, jump, fork, switching, in_entry, alloca, gep, operation}
use Rattle.ir_core.specs.Units.{parts_in}
use Rattle.ir_functions.specs.Functions.{parts_of}
use Rattle.ir_print.specs.Instructions.{function_of}
use Rattle.ir_print_laws.specs.Instructions.{AreTrees}
use Rattle.ir_print_laws.specs.Written.{Each, IsOffset}
use Rattle.ir_print_laws.specs.Fits.{Counts, FitsTy, FitsNumber, IsNoVoid, FitsOperand, FitsTyped, FitsMemory, IsOwnName, FitsArgument, EndsQuietly, HasLength, HasFirst, FitsBuiltIn, FitsIncoming, FitsCase, FitsOperation, HasForm}
use Rattle.ir_print_laws.proofs.TreeWords.{pick}
use Rattle.ir_print_laws.proofs.TreeInstructions.{IsIntTyped, HasItem, Formed}
use Rattle.ir_print_laws.proofs.Inverting.{bind, same_ok, same_some, or_ok, known, Any, each_any, made, each_made, made_length}
use Rattle.ir_print_laws.proofs.Typed.{WellBodies, type_fits, int_fits, number_below, same_ty, where_is, no_void, Within, operand_fits, typed_parts, typed_fits, typed_as_fits}
use Rattle.ir_print_laws.proofs.Builds.{memory_fits}

-- ---- built-ins

or_has : (P : NamedBuiltIn → Type 0) (a b : Option NamedBuiltIn) (v : NamedBuiltIn) → (a ≡ Some v → P v) → (b ≡ Some v → P v) → or_named a b ≡ Some v → P v
or_has P None b v p q e = q e
or_has P (Some x) b v p q e = p e

with_which : (which : BuiltIn) (o : Option ℕ) (v : NamedBuiltIn) → with_width which o ≡ Some v → v.which ≡ which
with_which which None v e = absurd cc
with_which which (Some w) v e = sym (ap (λ (x : NamedBuiltIn). x.which) (same_some (record { which = which; width = w }) v e))

abbrev IsPlain : NamedBuiltIn → Type 0
IsPlain named = is_of_memory named.which ≡ false

integer_plain : (name : List ℕ) (v : NamedBuiltIn) → integer_named name ≡ Some v → IsPlain v
unfolding integer_named
integer_plain name v e =
    or_has IsPlain (with_width built.SMax (width_behind (codes "llvm.smax.i") name)) _ v (λ h. ap is_of_memory (with_which built.SMax (width_behind (codes "llvm.smax.i") name) v h)) (λ e.
    or_has IsPlain (with_width built.SMin (width_behind (codes "llvm.smin.i") name)) _ v (λ h. ap is_of_memory (with_which built.SMin (width_behind (codes "llvm.smin.i") name) v h)) (λ e.
    or_has IsPlain (with_width built.UMax (width_behind (codes "llvm.umax.i") name)) _ v (λ h. ap is_of_memory (with_which built.UMax (width_behind (codes "llvm.umax.i") name) v h)) (λ e.
    or_has IsPlain (with_width built.UMin (width_behind (codes "llvm.umin.i") name)) (with_width built.Abs (width_behind (codes "llvm.abs.i") name)) v
    (λ h. ap is_of_memory (with_which built.UMin (width_behind (codes "llvm.umin.i") name) v h)) (λ h. ap is_of_memory (with_which built.Abs (width_behind (codes "llvm.abs.i") name) v h)) e) e) e) e

abbrev IsLong : NamedBuiltIn → Type 0
IsLong named = (named.width ≡ 32) ⊎ (named.width ≡ 64)

memory_long : (name : List ℕ) (v : NamedBuiltIn) → memory_named name ≡ Some v → IsLong v
unfolding memory_named
memory_long name v e =
    pick IsLong (bytes_eq name (codes "llvm.memcpy.p0.p0.i32")) (record { which = built.MemCpy; width = 32 }) _ v (inl refl) (λ e.
    pick IsLong (bytes_eq name (codes "llvm.memcpy.p0.p0.i64")) (record { which = built.MemCpy; width = 64 }) _ v (inr refl) (λ e.
    pick IsLong (bytes_eq name (codes "llvm.memmove.p0.p0.i32")) (record { which = built.MemMove; width = 32 }) _ v (inl refl) (λ e.
    pick IsLong (bytes_eq name (codes "llvm.memmove.p0.p0.i64")) (record { which = built.MemMove; width = 64 }) _ v (inr refl) (λ e.
    pick IsLong (bytes_eq name (codes "llvm.memset.p0.i32")) (record { which = built.MemSet; width = 32 }) _ v (inl refl) (λ e.
    pick IsLong (bytes_eq name (codes "llvm.memset.p0.i64")) (record { which = built.MemSet; width = 64 }) _ v (inr refl) (λ e.
    absurd (none-some v e)) e) e) e) e) e) e

-- a built-in of memory has a length of 32 or 64 bits
built_long : (name : List ℕ) (v : NamedBuiltIn) → built_in_of name ≡ Some v → is_of_memory v.which ≡ true → IsLong v
unfolding built_in_of
built_long name v e moves =
    or_has IsLong (memory_named name) (integer_named name) v (memory_long name v) (λ h. let plain = integer_plain name v h in absurd (let same = sym moves ∙ plain in cc)) e

length_has : (all : List (Ty × Operand)) (w : ℕ) → (w ≡ 32) ⊎ (w ≡ 64) → has_width w (slice_get all 2) ≡ true → HasLength all
length_has [] w long e = tt
length_has (to ∷ []) w long e = tt
length_has (to ∷ from ∷ []) w long e = tt
length_has (to ∷ from ∷ bytes ∷ rest) w long e = by long (same_ty bytes.0 (values.Int w) e)
  where
    by : (w ≡ 32) ⊎ (w ≡ 64) → bytes.0 ≡ values.Int w → (bytes.0 ≡ values.Int 32) ⊎ (bytes.0 ≡ values.Int 64)
    by (inl h) same = inl (same ∙ ap values.Int h)
    by (inr h) same = inr (same ∙ ap values.Int h)

first_has : (counts : Counts) (all : List (Ty × Operand)) (w : ℕ) → Each (FitsArgument counts) all → has_width w (slice_get all 0) ≡ true → HasFirst all
first_has counts [] w all_fit e = tt
first_has counts (argument ∷ rest) w all_fit e =
    let same = same_ty argument.0 (values.Int w) e in
    let fits : FitsTy (values.Int w) = subst FitsTy same all_fit.0.0 in
    (w, same, fits.0, fits.1)

fitting_is : (left : ℕ) (named : NamedBuiltIn) (all : List (Ty × Operand)) (u : Unit {0}) → fitting left named all ≡ Ok u → has_width named.width (slice_get all (measured named.which)) ≡ true
fitting_is left named all u e = by (has_width named.width (slice_get all (measured named.which))) e
  where
    by : (b : Bool) → ◌≡◌ {A = Result (Unit {0}) Fault} (if b then Ok tt else Err (faults.Name left)) (Ok u) → b ≡ true
    by true h = refl
    by false h = absurd cc

false_value : (value : Value) (u : Unit {0}) → quiet_value value ≡ Ok u → (left : ℕ) × (value ≡ written.False left)
false_value (written.False left) u e = (left, refl)
false_value (written.True left) u e = absurd cc
false_value (written.Local name) u e = absurd cc
false_value (written.Number number) u e = absurd cc
false_value (written.Null left) u e = absurd cc
false_value (written.Poison left) u e = absurd cc
false_value (written.Address address) u e = absurd cc

-- ---- single parts

entry_is : (entry : Bool) (place : ℕ) (u : Unit {0}) → in_entry entry place ≡ Ok u → entry ≡ true
entry_is true place u e = refl
entry_is false place u e = absurd cc

size_below : (left n v : ℕ) → below_size left n ≡ Ok v → v < 2 ^ 64
size_below left n v e = by (nat_lt n (2 ^ 64)) refl e
  where
    by : (b : Bool) → nat_lt n (2 ^ 64) ≡ b → ◌≡◌ {A = Result ℕ Fault} (if b then Ok n else Err (faults.Syntax left)) (Ok v) → v < 2 ^ 64
    by true i h = subst (λ (x : ℕ). x < 2 ^ 64) (same_ok n v h) (grind (arith, i))
    by false i h = absurd cc

number_count_below : (ty : Ty) (number : Number) (v : ℕ) → number_count ty number ≡ Ok v → v < 2 ^ 64
number_count_below (values.Int w) number v e = let b = bind (literal_of number w) (below_size number.left) v e in size_below number.left b.0 v b.2
number_count_below values.Void number v e = absurd cc
number_count_below values.Ptr number v e = absurd cc

value_count_below : (place : ℕ) (ty : Ty) (value : Value) (v : ℕ) → value_count place ty value ≡ Ok v → v < 2 ^ 64
value_count_below place ty (written.Number number) v e = number_count_below ty number v e
value_count_below place ty (written.Local name) v e = absurd cc
value_count_below place ty (written.True left) v e = absurd cc
value_count_below place ty (written.False left) v e = absurd cc
value_count_below place ty (written.Null left) v e = absurd cc
value_count_below place ty (written.Poison left) v e = absurd cc
value_count_below place ty (written.Address address) v e = absurd cc

count_below : (types : Types) (place : ℕ) (given : Option Typed) (v : ℕ) → item_count types place given ≡ Ok v → v < 2 ^ 64
count_below types place None v e = subst (λ (x : ℕ). x < 2 ^ 64) (same_ok 1 v e) (omega arith)
count_below types place (Some given) v e = let b = bind (type_of types given.ty) (λ ty. value_count place ty given.value) v e in value_count_below place b.0 given.value v b.2

case_is : (left : ℕ) (op : Operand) (n : ℕ) → case_number left op ≡ Ok n → op ≡ operands.Num n
case_is left (operands.Num k) n e = ap operands.Num (same_ok k n e)
case_is left (operands.Value k) n e = absurd cc
case_is left operands.Null n e = absurd cc
case_is left (operands.Place global offset) n e = absurd cc
case_is left operands.Poison n e = absurd cc

callee_is : (left : ℕ) (target : Target) (n : ℕ) → callee_number left target ≡ Ok n → target ≡ targets.Function n
callee_is left (targets.Function k) n e = ap targets.Function (same_ok k n e)
callee_is left (targets.Global k) n e = absurd cc
callee_is left (targets.Value k) n e = absurd cc
callee_is left (targets.Block k) n e = absurd cc
callee_is left (targets.Type k) n e = absurd cc

block_is : (left : ℕ) (target : Target) (n : ℕ) → block_number left target ≡ Ok n → target ≡ targets.Block n
block_is left (targets.Block k) n e = ap targets.Block (same_ok k n e)
block_is left (targets.Value k) n e = absurd cc
block_is left (targets.Global k) n e = absurd cc
block_is left (targets.Function k) n e = absurd cc
block_is left (targets.Type k) n e = absurd cc

same_of : {A : Type 0} (r : Result A Fault) (x y : A) → r ≡ Ok x → r ≡ Ok y → x ≡ y
same_of r x y e f = same_ok x y (sym e ∙ f)

both_true : (a b : Bool) → (a && b) ≡ true → (a ≡ true) × (b ≡ true)
both_true true b e = (refl, e)
both_true false b e = absurd cc

-- a function that is called is one of the module
abbrev pub Callable : Module → Counts → Symbols → Type 0
Callable m counts symbols = (name : List ℕ) (n : ℕ) → target_named name symbols ≡ Some (targets.Function n) → (n < counts.functions) × (function_of (slice_get m.functions n) ≡ name)

module _ (m : Module) (types : Types) (symbols : Symbols) (table : Table) (counts : Counts) (within : Within types symbols table counts) (resolved : AreResolved types.bodies types.entries) (callable : Callable m counts symbols) where
  abbrev Read : Ty × Operand → Typed → Type 0
  Read x t = typed types symbols table t.ty t.value ≡ Ok x

  typed_one : (before : List (Ty × Operand)) (t : Typed) (after : TypedList) → typed_step types symbols table (record { all = before }) t ≡ Ok after → (x : Ty × Operand) × (after ≡ record { all = before ++ x ∷ [] }) × Read x t
  typed_one before t after e = let b = bind (typed types symbols table t.ty t.value) (λ one. Ok (record { all = before ++ one ∷ [] })) after e in (b.0, sym (same_ok (record { all = before ++ b.0 ∷ [] }) after b.2), b.1)

  typed_state : List (Ty × Operand) → TypedList
  typed_state all = record { all = all }

  list_read : (given : List Typed) (all : List (Ty × Operand)) → typed_list types symbols table given ≡ Ok all → AreTrees Read all given
  unfolding typed_list typed_state
  list_read given all e =
      let b = bind (walk (typed_step types symbols table) (record { all = [] }) given) (λ list. Ok list.all) all e in
      let h = made (typed_step types symbols table) typed_state Read typed_one given [] b.0 b.1 in
      subst (λ (x : List (Ty × Operand)). AreTrees Read x given) (sym (ap (λ (s : TypedList). s.all) h.1) ∙ same_ok b.0.all all b.2) h.2

  list_fits : (given : List Typed) (all : List (Ty × Operand)) → AreTrees Read all given → Each (FitsArgument counts) all
  list_fits given all read = each_made Read (FitsArgument counts) Any (λ x t _ is. typed_fits types symbols table counts within t.ty t.value x is) all given (each_any given) read

  offsets_fit : (given : List Typed) (all : List (Ty × Operand)) → Each IsIntTyped given → AreTrees Read all given → Each IsOffset all
  offsets_fit given all ints read = each_made Read IsOffset IsIntTyped (λ x t int is. offset_fits x t int is) all given ints read
    where
      int_offset : (ty : Ty) (w : ℕ) → ty ≡ values.Int w → (op : Operand) → IsOffset (ty, op)
      int_offset ty w e op = subst (λ (t : Ty). IsOffset (t, op)) (sym e) tt

      offset_fits : (x : Ty × Operand) (t : Typed) → IsIntTyped t → Read x t → IsOffset x
      offset_fits x t int is =
          let p = typed_parts types symbols table counts within t.ty t.value x is in
          let h = int_fits types int.0 int.1 x.0 (subst (λ (n : List TypeNode). type_of types n ≡ Ok x.0) int.2 p.0) in
          int_offset x.0 h.0 h.1 x.1

  block_below : (name : Name) (n : ℕ) → block_of table name ≡ Ok n → n < counts.blocks
  unfolding block_of
  block_below name n e = let b = bind (target_of table name) (block_number name.left) n e in within.block name n (b.1 ∙ ap (λ (t : Target). Ok t) (block_is name.left b.0 n b.2))

  -- ---- lists with a type

  abbrev Comes : Ty → Operand × ℕ → Incoming → Type 0
  Comes ty x t = FitsIncoming counts ty x

  incoming_state : Ty → List (Operand × ℕ) → IncomingList
  incoming_state ty all = record { ty = ty; all = all }

  incoming_one : (ty : Ty) (before : List (Operand × ℕ)) (t : Incoming) (after : IncomingList) → incoming_step types symbols table (incoming_state ty before) t ≡ Ok after → (x : Operand × ℕ) × (after ≡ incoming_state ty (before ++ x ∷ [])) × Comes ty x t
  unfolding incoming_state
  incoming_one ty before t after e =
      let a = bind (operand types symbols table ty t.value) (λ value. block_of table t.block >>= λ block. Ok (record { ty = ty; all = before ++ (value, block) ∷ [] })) after e in
      let b = bind (block_of table t.block) (λ block. Ok (record { ty = ty; all = before ++ (a.0, block) ∷ [] })) after a.2 in
      ((a.0, b.0), sym (same_ok (record { ty = ty; all = before ++ (a.0, b.0) ∷ [] }) after b.2), (operand_fits types symbols table counts within ty t.value a.0 a.1, block_below t.block b.0 b.1))

  incoming_read : (ty : Ty) (given : List Incoming) (all : List (Operand × ℕ)) → incoming_list types symbols table ty given ≡ Ok all → AreTrees (Comes ty) all given
  unfolding incoming_list incoming_state
  incoming_read ty given all e =
      let b = bind (walk (incoming_step types symbols table) (record { ty = ty; all = [] }) given) (λ list. Ok list.all) all e in
      let h = made (incoming_step types symbols table) (incoming_state ty) (Comes ty) (incoming_one ty) given [] b.0 b.1 in
      subst (λ (x : List (Operand × ℕ)). AreTrees (Comes ty) x given) (sym (ap (λ (s : IncomingList). s.all) h.1) ∙ same_ok b.0.all all b.2) h.2

  abbrev Cased : Ty → ℕ × ℕ → Case → Type 0
  Cased ty x t = FitsCase counts ty x

  case_state : Ty → List (ℕ × ℕ) → CaseList
  case_state ty all = record { ty = ty; all = all }

  case_fits : (ty : Ty) (t : Case) (n : ℕ) → case_value types symbols table ty t ≡ Ok n → FitsNumber ty n
  unfolding case_value
  case_fits ty t n e =
      let b = bind (typed_as types symbols table ty t.ty t.value) (case_number (place_of_value t.value)) n e in
      let f = typed_as_fits types symbols table counts within ty t.ty t.value b.0 b.1 in
      subst (FitsOperand counts ty) (case_is (place_of_value t.value) b.0 n b.2) f.1

  case_one : (ty : Ty) (before : List (ℕ × ℕ)) (t : Case) (after : CaseList) → case_step types symbols table (case_state ty before) t ≡ Ok after → (x : ℕ × ℕ) × (after ≡ case_state ty (before ++ x ∷ [])) × Cased ty x t
  unfolding case_state
  case_one ty before t after e =
      let a = bind (case_value types symbols table ty t) (λ number. block_of table t.block >>= λ block. Ok (record { ty = ty; all = before ++ (number, block) ∷ [] })) after e in
      let b = bind (block_of table t.block) (λ block. Ok (record { ty = ty; all = before ++ (a.0, block) ∷ [] })) after a.2 in
      ((a.0, b.0), sym (same_ok (record { ty = ty; all = before ++ (a.0, b.0) ∷ [] }) after b.2), (case_fits ty t a.0 a.1, block_below t.block b.0 b.1))

  cases_read : (ty : Ty) (given : List Case) (all : List (ℕ × ℕ)) → case_list types symbols table ty given ≡ Ok all → AreTrees (Cased ty) all given
  unfolding case_list case_state
  cases_read ty given all e =
      let b = bind (walk (case_step types symbols table) (record { ty = ty; all = [] }) given) (λ list. Ok list.all) all e in
      let h = made (case_step types symbols table) (case_state ty) (Cased ty) (case_one ty) given [] b.0 b.1 in
      subst (λ (x : List (ℕ × ℕ)). AreTrees (Cased ty) x given) (sym (ap (λ (s : CaseList). s.all) h.1) ∙ same_ok b.0.all all b.2) h.2

  -- ---- built-ins

  quiet_end : (x : Ty × Operand) (t : Typed) (u : Unit {0}) → Read x t → quiet_value t.value ≡ Ok u → (x.0 ≡ values.Int 1) × (x.1 ≡ operands.Num 0)
  unfolding operand
  quiet_end x t u read e =
      let f = false_value t.value u e in
      let p = typed_parts types symbols table counts within t.ty t.value x read in
      let w = where_is (is_ty x.0 (values.Int 1)) f.0 (operands.Num 0) x.1 (subst (λ (v : Value). operand types symbols table x.0 v ≡ Ok x.1) f.1 p.1) in
      (same_ty x.0 (values.Int 1) w.0, sym w.1)

  quiet_ends : (all : List (Ty × Operand)) (given : List Typed) (left : ℕ) (u : Unit {0}) → AreTrees Read all given → quiet_argument left (slice_get given (length given - 1)) ≡ Ok u → EndsQuietly all
  quiet_ends [] [] left u read e = absurd cc
  quiet_ends [] (t ∷ ts) left u read e = absurd read
  quiet_ends (x ∷ []) [] left u read e = absurd read
  quiet_ends (x ∷ []) (t ∷ []) left u read e = quiet_end x t u read.0 e
  quiet_ends (x ∷ []) (t ∷ s ∷ ts) left u read e = absurd read.1
  quiet_ends (x ∷ y ∷ xs) [] left u read e = absurd read
  quiet_ends (x ∷ y ∷ xs) (t ∷ []) left u read e = absurd read.1
  quiet_ends (x ∷ y ∷ xs) (t ∷ s ∷ ts) left u read e =
      let k : length (t ∷ s ∷ ts) - 1 ≡ suc (length (s ∷ ts) - 1) = omega arith in
      quiet_ends (y ∷ xs) (s ∷ ts) left u read.1 (subst (λ (i : ℕ). quiet_argument left (slice_get (t ∷ s ∷ ts) i) ≡ Ok u) k e)

  memory_fit : (left : ℕ) (named : NamedBuiltIn) (name : List ℕ) (all : List (Ty × Operand)) (given : List Typed) (u v : Unit {0}) → built_in_of name ≡ Some named → is_of_memory named.which ≡ true → quiet left named.which given ≡ Ok u → fitting left named all ≡ Ok v → AreTrees Read all given → HasLength all × EndsQuietly all
  memory_fit left named name all given u v is moves still fits read = (
    length_has all named.width (built_long name named is moves) (subst (λ (k : ℕ). has_width named.width (slice_get all k) ≡ true) (ap (λ (b : Bool). if b then 2 else 0) moves) (fitting_is left named all v fits)),
    quiet_ends all given left u read (subst (λ (b : Bool). ◌≡◌ {A = Result (Unit {0}) Fault} (if b then quiet_argument left (slice_get given (length given - 1)) else Ok tt) (Ok u)) moves still),
  )

  plain_fit : (left : ℕ) (named : NamedBuiltIn) (all : List (Ty × Operand)) (v : Unit {0}) → is_of_memory named.which ≡ false → fitting left named all ≡ Ok v → Each (FitsArgument counts) all → HasFirst all
  plain_fit left named all v stays fits all_fit = first_has counts all named.width all_fit (subst (λ (k : ℕ). has_width named.width (slice_get all k) ≡ true) (ap (λ (b : Bool). if b then 2 else 0) stays) (fitting_is left named all v fits))

  built_fit : (which : BuiltIn) (all : List (Ty × Operand)) → (is_of_memory which ≡ true → HasLength all × EndsQuietly all) → (is_of_memory which ≡ false → HasFirst all) → FitsBuiltIn which all
  built_fit built.MemCpy all p q = p refl
  built_fit built.MemMove all p q = p refl
  built_fit built.MemSet all p q = p refl
  built_fit built.SMax all p q = q refl
  built_fit built.SMin all p q = q refl
  built_fit built.UMax all p q = q refl
  built_fit built.UMin all p q = q refl
  built_fit built.Abs all p q = q refl

  -- ---- operations

  abbrev pub Fitted : ℕ → Bool → Ty → Ty → Op → Type 0
  Fitted parts entry ret gives op = FitsOperation m counts entry ret gives op × HasForm gives op × (parts ≡ parts_in op)

  typed_is : (given : Typed) (x : Ty × Operand) (gives : Ty) → type_of types given.ty ≡ Ok gives → Read x given → x.0 ≡ gives
  typed_is given x gives e read = same_of (type_of types given.ty) x.0 gives (typed_parts types symbols table counts within given.ty given.value x read).0 e

  typed_at : (given : Typed) (x : Ty × Operand) (gives : Ty) → type_of types given.ty ≡ Ok gives → Read x given → FitsTyped counts gives x.1
  typed_at given x gives e read = subst (λ (t : Ty). FitsTyped counts t x.1) (typed_is given x gives e read) (typed_fits types symbols table counts within given.ty given.value x read)

  binary_fit : (entry : Bool) (r gives : Ty) (op : Op) (operator : BinOp) (flags : Flags) (left : Typed) (right : Value) → Formed (operations.Binary operator flags left right) → IsNoVoid gives → type_of types left.ty ≡ Ok gives → binary types symbols table operator flags left right ≡ Ok op → Fitted 0 entry r gives op
  unfolding binary
  binary_fit entry r gives op operator flags left right formed some ty e =
      let a = bind (typed types symbols table left.ty left.value) (λ a. operand types symbols table a.0 right >>= λ b. Ok (ops.Binary operator flags a.1 b)) op e in
      let b = bind (operand types symbols table a.0.0 right) (λ b. Ok (ops.Binary operator flags a.0.1 b)) op a.2 in
      let right_fits = subst (λ (t : Ty). FitsOperand counts t b.0) (typed_is left a.0 gives ty a.1) (operand_fits types symbols table counts within a.0.0 right b.0 b.1) in
      known (Fitted 0 entry r gives) (ops.Binary operator flags a.0.1 b.0) op b.2 ((typed_at left a.0 gives ty a.1, right_fits), (some, formed), refl)

  icmp_fit : (entry : Bool) (r gives : Ty) (op : Op) (flags : Flags) (predicate : Pred) (left : Typed) (right : Value) → Formed (operations.Icmp flags predicate left right) → ◌≡◌ {A = Result Ty Fault} (Ok (values.Int 1)) (Ok gives) → comparison types symbols table predicate flags left right ≡ Ok op → Fitted 0 entry r gives op
  unfolding comparison
  icmp_fit entry r gives op flags predicate left right formed ty e =
      let a = bind (typed types symbols table left.ty left.value) (λ a. operand types symbols table a.0 right >>= λ b. Ok (ops.Icmp predicate flags a.0 a.1 b)) op e in
      let b = bind (operand types symbols table a.0.0 right) (λ b. Ok (ops.Icmp predicate flags a.0.0 a.0.1 b)) op a.2 in
      known (Fitted 0 entry r gives) (ops.Icmp predicate flags a.0.0 a.0.1 b.0) op b.2 ((sym (same_ok (values.Int 1) gives ty), (typed_fits types symbols table counts within left.ty left.value a.0 a.1, operand_fits types symbols table counts within a.0.0 right b.0 b.1)), formed, refl)

  cast_fit : (entry : Bool) (r gives : Ty) (op : Op) (operator : CastOp) (flags : Flags) (given : Typed) (target : List TypeNode) → Formed (operations.Cast operator flags given target) → IsNoVoid gives → type_of types target ≡ Ok gives → cast types symbols table operator flags given ≡ Ok op → Fitted 0 entry r gives op
  unfolding cast
  cast_fit entry r gives op operator flags given target formed some ty e =
      let a = bind (typed types symbols table given.ty given.value) (λ a. Ok (ops.Cast operator flags a.0 a.1)) op e in
      known (Fitted 0 entry r gives) (ops.Cast operator flags a.0.0 a.0.1) op a.2 ((type_fits types target gives within.bodies ty, typed_fits types symbols table counts within given.ty given.value a.0 a.1), (some, formed), refl)

  select_fit : (entry : Bool) (r gives : Ty) (op : Op) (condition left right : Typed) → IsNoVoid gives → type_of types left.ty ≡ Ok gives → selection types symbols table condition left right ≡ Ok op → Fitted 0 entry r gives op
  unfolding selection
  select_fit entry r gives op condition left right some ty e =
      let a = bind (typed_as types symbols table (values.Int 1) condition.ty condition.value) (λ c. typed types symbols table left.ty left.value >>= λ a. typed_as types symbols table a.0 right.ty right.value >>= λ b. Ok (ops.Select c a.1 b)) op e in
      let b = bind (typed types symbols table left.ty left.value) (λ x. typed_as types symbols table x.0 right.ty right.value >>= λ b. Ok (ops.Select a.0 x.1 b)) op a.2 in
      let c = bind (typed_as types symbols table b.0.0 right.ty right.value) (λ y. Ok (ops.Select a.0 b.0.1 y)) op b.2 in
      let right_fits = typed_as_fits types symbols table counts within b.0.0 right.ty right.value c.0 c.1 in
      known (Fitted 0 entry r gives) (ops.Select a.0 b.0.1 c.0) op c.2
      (((typed_as_fits types symbols table counts within (values.Int 1) condition.ty condition.value a.0 a.1).1, (typed_at left b.0 gives ty b.1, subst (λ (t : Ty). FitsOperand counts t c.0) (typed_is left b.0 gives ty b.1) right_fits.1)), some, refl)

  freeze_fit : (entry : Bool) (r gives : Ty) (op : Op) (given : Typed) → IsNoVoid gives → type_of types given.ty ≡ Ok gives → freezing types symbols table given ≡ Ok op → Fitted 0 entry r gives op
  unfolding freezing
  freeze_fit entry r gives op given some ty e =
      let a = bind (typed types symbols table given.ty given.value) (λ a. Ok (ops.Freeze a.1)) op e in
      known (Fitted 0 entry r gives) (ops.Freeze a.0.1) op a.2 (typed_at given a.0 gives ty a.1, some, refl)

  phi_form : (gives : Ty) (all : List (Operand × ℕ)) (given : List Incoming) → HasItem given → AreTrees (Comes gives) all given → IsNoVoid gives → HasForm gives (ops.Phi all)
  phi_form gives [] [] has read some = absurd has
  phi_form gives [] (t ∷ ts) has read some = absurd read
  phi_form gives (x ∷ xs) [] has read some = absurd read
  phi_form gives (x ∷ xs) (t ∷ ts) has read some = some

  phi_fit : (entry : Bool) (r gives : Ty) (op : Op) (given : List TypeNode) (incoming : List Incoming) → HasItem incoming → IsNoVoid gives → type_of types given ≡ Ok gives → phi types symbols table given incoming ≡ Ok op → Fitted 0 entry r gives op
  unfolding phi
  phi_fit entry r gives op given incoming has some ty e =
      let a = bind (type_of types given) (λ t. incoming_list types symbols table t incoming >>= λ all. Ok (ops.Phi all)) op e in
      let b = bind (incoming_list types symbols table a.0 incoming) (λ all. Ok (ops.Phi all)) op a.2 in
      let read = incoming_read gives incoming b.0 (subst (λ (t : Ty). incoming_list types symbols table t incoming ≡ Ok b.0) (same_of (type_of types given) a.0 gives a.1 ty) b.1) in
      known (Fitted 0 entry r gives) (ops.Phi b.0) op b.2 ((type_fits types given gives within.bodies ty, each_made (Comes gives) (FitsIncoming counts gives) Any (λ x t _ is. is) b.0 incoming (each_any incoming) read), phi_form gives b.0 incoming has read some, refl)

  alloca_fit : (entry : Bool) (r gives : Ty) (op : Op) (place : ℕ) (given : List TypeNode) (count : Option Typed) (aligns : List Align) → ◌≡◌ {A = Result Ty Fault} (Ok values.Ptr) (Ok gives) → alloca types entry place given count aligns ≡ Ok op → Fitted 0 entry r gives op
  unfolding alloca
  alloca_fit entry r gives op place given count aligns ty e =
      let a = bind (in_entry entry place) (λ _. memory types given >>= λ t. item_count types place count >>= λ items. small_aligns aligns >>= λ _. Ok (ops.Alloca t items)) op e in
      let b = bind (memory types given) (λ t. item_count types place count >>= λ items. small_aligns aligns >>= λ _. Ok (ops.Alloca t items)) op a.2 in
      let c = bind (item_count types place count) (λ items. small_aligns aligns >>= λ _. Ok (ops.Alloca b.0 items)) op b.2 in
      let d = bind (small_aligns aligns) (λ _. Ok (ops.Alloca b.0 c.0)) op c.2 in
      known (Fitted 0 entry r gives) (ops.Alloca b.0 c.0) op d.2 ((sym (same_ok values.Ptr gives ty), (entry_is entry place a.0 a.1, (memory_fits types given b.0 within.bodies resolved b.1, count_below types place count c.0 c.1))), tt, refl)

  load_fit : (entry : Bool) (r gives : Ty) (op : Op) (given : List TypeNode) (from : Typed) → IsNoVoid gives → type_of types given ≡ Ok gives → loading types symbols table from ≡ Ok op → Fitted 0 entry r gives op
  unfolding loading
  load_fit entry r gives op given from some ty e =
      let a = bind (typed_as types symbols table values.Ptr from.ty from.value) (λ x. Ok (ops.Load x)) op e in
      known (Fitted 0 entry r gives) (ops.Load a.0) op a.2 ((type_fits types given gives within.bodies ty, (typed_as_fits types symbols table counts within values.Ptr from.ty from.value a.0 a.1).1), some, refl)

  store_fit : (entry : Bool) (r gives : Ty) (op : Op) (given into : Typed) → ◌≡◌ {A = Result Ty Fault} (Ok values.Void) (Ok gives) → storing types symbols table given into ≡ Ok op → Fitted 0 entry r gives op
  unfolding storing
  store_fit entry r gives op given into ty e =
      let a = bind (typed types symbols table given.ty given.value) (λ x. typed_as types symbols table values.Ptr into.ty into.value >>= λ b. Ok (ops.Store x.0 x.1 b)) op e in
      let b = bind (typed_as types symbols table values.Ptr into.ty into.value) (λ y. Ok (ops.Store a.0.0 a.0.1 y)) op a.2 in
      known (Fitted 0 entry r gives) (ops.Store a.0.0 a.0.1 b.0) op b.2 ((sym (same_ok values.Void gives ty), (typed_fits types symbols table counts within given.ty given.value a.0 a.1, (typed_as_fits types symbols table counts within values.Ptr into.ty into.value b.0 b.1).1)), tt, refl)

  gep_fit : (entry : Bool) (r gives : Ty) (op : Op) (given : List TypeNode) (base : Typed) (offsets : List Typed) → Each IsIntTyped offsets → ◌≡◌ {A = Result Ty Fault} (Ok values.Ptr) (Ok gives) → gep types symbols table given base offsets ≡ Ok op → Fitted (length offsets) entry r gives op
  unfolding gep
  gep_fit entry r gives op given base offsets ints ty e =
      let a = bind (memory types given) (λ t. typed_as types symbols table values.Ptr base.ty base.value >>= λ x. typed_list types symbols table offsets >>= λ all. Ok (ops.Gep t x all)) op e in
      let b = bind (typed_as types symbols table values.Ptr base.ty base.value) (λ x. typed_list types symbols table offsets >>= λ all. Ok (ops.Gep a.0 x all)) op a.2 in
      let c = bind (typed_list types symbols table offsets) (λ all. Ok (ops.Gep a.0 b.0 all)) op b.2 in
      let read = list_read offsets c.0 c.1 in
      known (Fitted (length offsets) entry r gives) (ops.Gep a.0 b.0 c.0) op c.2 ((sym (same_ok values.Ptr gives ty), (memory_fits types given a.0 within.bodies resolved a.1, ((typed_as_fits types symbols table counts within values.Ptr base.ty base.value b.0 b.1).1, list_fits offsets c.0 read))), offsets_fit offsets c.0 ints read, made_length Read c.0 offsets read)

  direct_fit : (entry : Bool) (r gives : Ty) (op : Op) (callee : Name) (given : List Typed) (name : List ℕ) → FitsTy gives → starts_with nat_eq name (codes "llvm.") ≡ false → direct_call types symbols table callee given name ≡ Ok op → Fitted (length given) entry r gives op
  unfolding direct_call
  direct_fit entry r gives op callee given name ty own e =
      let a = bind (symbol_of symbols callee.left name) (λ target. callee_number callee.left target >>= λ n. typed_list types symbols table given >>= λ all. Ok (ops.Call n all)) op e in
      let b = bind (callee_number callee.left a.0) (λ n. typed_list types symbols table given >>= λ all. Ok (ops.Call n all)) op a.2 in
      let c = bind (typed_list types symbols table given) (λ all. Ok (ops.Call b.0 all)) op b.2 in
      let found = callable name b.0 (or_ok (faults.Name callee.left) (target_named name symbols) a.0 a.1 ∙ ap (λ (t : Target). Some t) (callee_is callee.left a.0 b.0 b.1)) in
      known (Fitted (length given) entry r gives) (ops.Call b.0 c.0) op c.2 ((ty, (found.0, (subst IsOwnName (sym found.1) own, list_fits given c.0 (list_read given c.0 c.1)))), tt, made_length Read c.0 given (list_read given c.0 c.1))

  built_in_fit : (entry : Bool) (r gives : Ty) (op : Op) (callee : Name) (given : List Typed) (name : List ℕ) (named : NamedBuiltIn) → FitsTy gives → built_in_of name ≡ Some named → built_in_call types symbols table callee given named ≡ Ok op → Fitted (length given) entry r gives op
  unfolding built_in_call
  built_in_fit entry r gives op callee given name named ty is e =
      let a = bind (typed_list types symbols table given) (λ all. quiet callee.left named.which given >>= λ _. fitting callee.left named all >>= λ _. Ok (ops.BuiltIn named.which all)) op e in
      let b = bind (quiet callee.left named.which given) (λ _. fitting callee.left named a.0 >>= λ _. Ok (ops.BuiltIn named.which a.0)) op a.2 in
      let c = bind (fitting callee.left named a.0) (λ _. Ok (ops.BuiltIn named.which a.0)) op b.2 in
      let read = list_read given a.0 a.1 in
      let fit = list_fits given a.0 read in
      known (Fitted (length given) entry r gives) (ops.BuiltIn named.which a.0) op c.2
      ((ty, (built_fit named.which a.0 (λ moves. memory_fit callee.left named name a.0 given b.0 c.0 is moves b.1 c.1 read) (λ stays. plain_fit callee.left named a.0 c.0 stays c.1 fit), fit)), tt, made_length Read a.0 given read)

  own_fit : (entry : Bool) (r gives : Ty) (op : Op) (callee : Name) (given : List Typed) (name : List ℕ) (o : Option NamedBuiltIn) → FitsTy gives → built_in_of name ≡ o → own_call types symbols table callee given o ≡ Ok op → Fitted (length given) entry r gives op
  own_fit entry r gives op callee given name None ty is e = absurd cc
  own_fit entry r gives op callee given name (Some named) ty is e = built_in_fit entry r gives op callee given name named ty is e

  named_fit : (entry : Bool) (r gives : Ty) (op : Op) (callee : Name) (given : List Typed) (name : List ℕ) → FitsTy gives → named_call types symbols table callee given name ≡ Ok op → Fitted (length given) entry r gives op
  unfolding named_call
  named_fit entry r gives op callee given name ty e = by (starts_with nat_eq name (codes "llvm.")) refl e
    where
      by : (b : Bool) → starts_with nat_eq name (codes "llvm.") ≡ b → (if b then own_call types symbols table callee given (built_in_of name) else direct_call types symbols table callee given name) ≡ Ok op → Fitted (length given) entry r gives op
      by true is h = own_fit entry r gives op callee given name (built_in_of name) ty refl h
      by false is h = direct_fit entry r gives op callee given name ty is h

  call_fit : (entry : Bool) (r gives : Ty) (op : Op) (ty : List TypeNode) (is_local : Bool) (callee : Name) (given : List Typed) → type_of types ty ≡ Ok gives → call types symbols table is_local callee given ≡ Ok op → Fitted (length given) entry r gives op
  unfolding call
  call_fit entry r gives op ty true callee given known_ty e = absurd cc
  call_fit entry r gives op ty false callee given known_ty e =
      let a = bind (bytes_of callee) (named_call types symbols table callee given) op e in
      named_fit entry r gives op callee given a.0 (type_fits types ty gives within.bodies known_ty) a.2

  void_is : (gives : Ty) → ◌≡◌ {A = Result Ty Fault} (Ok values.Void) (Ok gives) → gives ≡ values.Void
  void_is gives e = sym (same_ok values.Void gives e)

  returning_fit : (entry : Bool) (r gives : Ty) (op : Op) (given : List TypeNode) (value : Value) → FitsTy r → gives ≡ values.Void → returning types symbols table r given value ≡ Ok op → Fitted 0 entry r gives op
  unfolding returning
  returning_fit entry r gives op given value fits void e =
      let a = bind (returned_type types r given) (λ b. if b then (operand types symbols table r value >>= λ x. Ok (ops.Ret (Some x))) else Err (faults.Syntax (place_of_type given))) op e in
      by a.0 a.1 a.2
    where
      some : (b : Bool) → returned_type types r given ≡ Ok b → b ≡ true → IsNoVoid r
      some b is one =
          let t = bind (type_of types given) (λ ty. Ok (is_ty ty r && not (is_ty ty values.Void))) b is in
          let h = both_true (is_ty t.0 r) (not (is_ty t.0 values.Void)) (same_ok (is_ty t.0 r && not (is_ty t.0 values.Void)) b t.2 ∙ one) in
          subst IsNoVoid (same_ty t.0 r h.0) (no_void t.0 h.1)

      by : (b : Bool) → returned_type types r given ≡ Ok b → (if b then (operand types symbols table r value >>= λ x. Ok (ops.Ret (Some x))) else Err (faults.Syntax (place_of_type given))) ≡ Ok op → Fitted 0 entry r gives op
      by true is h =
          let c = bind (operand types symbols table r value) (λ x. Ok (ops.Ret (Some x))) op h in
          known (Fitted 0 entry r gives) (ops.Ret (Some c.0)) op c.2 ((void, (some true is refl, (fits, operand_fits types symbols table counts within r value c.0 c.1))), tt, refl)
      by false is h = absurd cc

  ret_fit : (entry : Bool) (r gives : Ty) (op : Op) (given : List TypeNode) (value : Option Value) → FitsTy r → gives ≡ values.Void → ret types symbols table r given value ≡ Ok op → Fitted 0 entry r gives op
  ret_fit entry r gives op given None fits void e = known (Fitted 0 entry r gives) (ops.Ret None) op e (void, tt, refl)
  ret_fit entry r gives op given (Some value) fits void e = returning_fit entry r gives op given value fits void e

  jump_fit : (entry : Bool) (r gives : Ty) (op : Op) (name : Name) → gives ≡ values.Void → jump table name ≡ Ok op → Fitted 0 entry r gives op
  jump_fit entry r gives op name void e = let a = bind (block_of table name) (λ n. Ok (ops.Br n)) op e in known (Fitted 0 entry r gives) (ops.Br a.0) op a.2 ((void, block_below name a.0 a.1), tt, refl)

  fork_fit : (entry : Bool) (r gives : Ty) (op : Op) (condition : Typed) (left right : Name) → gives ≡ values.Void → fork types symbols table condition left right ≡ Ok op → Fitted 0 entry r gives op
  unfolding fork
  fork_fit entry r gives op condition left right void e =
      let a = bind (typed_as types symbols table (values.Int 1) condition.ty condition.value) (λ c. block_of table left >>= λ x. block_of table right >>= λ y. Ok (ops.CondBr c x y)) op e in
      let b = bind (block_of table left) (λ x. block_of table right >>= λ y. Ok (ops.CondBr a.0 x y)) op a.2 in
      let c = bind (block_of table right) (λ y. Ok (ops.CondBr a.0 b.0 y)) op b.2 in
      known (Fitted 0 entry r gives) (ops.CondBr a.0 b.0 c.0) op c.2 ((void, ((typed_as_fits types symbols table counts within (values.Int 1) condition.ty condition.value a.0 a.1).1, (block_below left b.0 b.1, block_below right c.0 c.1))), tt, refl)

  switch_fit : (entry : Bool) (r gives : Ty) (op : Op) (given : Typed) (otherwise : Name) (cases : List Case) → gives ≡ values.Void → switching types symbols table given otherwise cases ≡ Ok op → Fitted (length cases) entry r gives op
  unfolding switching
  switch_fit entry r gives op given otherwise cases void e =
      let a = bind (typed types symbols table given.ty given.value) (λ x. block_of table otherwise >>= λ block. case_list types symbols table x.0 cases >>= λ all. Ok (ops.Switch x.0 x.1 block all)) op e in
      let b = bind (block_of table otherwise) (λ block. case_list types symbols table a.0.0 cases >>= λ all. Ok (ops.Switch a.0.0 a.0.1 block all)) op a.2 in
      let c = bind (case_list types symbols table a.0.0 cases) (λ all. Ok (ops.Switch a.0.0 a.0.1 b.0 all)) op b.2 in
      let read = cases_read a.0.0 cases c.0 c.1 in
      known (Fitted (length cases) entry r gives) (ops.Switch a.0.0 a.0.1 b.0 c.0) op c.2
      ((void, (typed_fits types symbols table counts within given.ty given.value a.0 a.1, (block_below otherwise b.0 b.1, each_made (Cased a.0.0) (FitsCase counts a.0.0) Any (λ x t _ is. is) c.0 cases (each_any cases) read))), tt, made_length (Cased a.0.0) c.0 cases read)

  -- an operation that may have a result has one
  abbrev pub HasResult : Operation → Ty → Type 0
  HasResult (operations.Binary operator flags left right) gives = IsNoVoid gives
  HasResult (operations.Cast operator flags given target) gives = IsNoVoid gives
  HasResult (operations.Select condition left right) gives = IsNoVoid gives
  HasResult (operations.Freeze given) gives = IsNoVoid gives
  HasResult (operations.Phi given incoming) gives = IsNoVoid gives
  HasResult (operations.Load given from) gives = IsNoVoid gives
  HasResult operation gives = Unit {0}

  pub operation_fit : (entry : Bool) (r gives : Ty) (op : Op) (aligns : List Align) (tree : Operation) → FitsTy r → Formed tree → HasResult tree gives → result_type types tree ≡ Ok gives → operation types symbols table r entry aligns tree ≡ Ok op → Fitted (parts_of tree) entry r gives op
  unfolding result_type operation parts_of
  operation_fit entry r gives op aligns (operations.Binary operator flags left right) fits formed has ty e = binary_fit entry r gives op operator flags left right formed has ty e
  operation_fit entry r gives op aligns (operations.Icmp flags predicate left right) fits formed has ty e = icmp_fit entry r gives op flags predicate left right formed ty e
  operation_fit entry r gives op aligns (operations.Cast operator flags given target) fits formed has ty e = cast_fit entry r gives op operator flags given target formed has ty e
  operation_fit entry r gives op aligns (operations.Select condition left right) fits formed has ty e = select_fit entry r gives op condition left right has ty e
  operation_fit entry r gives op aligns (operations.Freeze given) fits formed has ty e = freeze_fit entry r gives op given has ty e
  operation_fit entry r gives op aligns (operations.Phi given incoming) fits formed has ty e = phi_fit entry r gives op given incoming formed has ty e
  operation_fit entry r gives op aligns (operations.Alloca place given count) fits formed has ty e = alloca_fit entry r gives op place given count aligns ty e
  operation_fit entry r gives op aligns (operations.Load given from) fits formed has ty e = load_fit entry r gives op given from has ty e
  operation_fit entry r gives op aligns (operations.Store given into) fits formed has ty e = store_fit entry r gives op given into ty e
  operation_fit entry r gives op aligns (operations.Gep given base offsets) fits formed has ty e = gep_fit entry r gives op given base offsets formed ty e
  operation_fit entry r gives op aligns (operations.Call given is_local callee arguments) fits formed has ty e = call_fit entry r gives op given is_local callee arguments ty e
  operation_fit entry r gives op aligns (operations.Ret given value) fits formed has ty e = ret_fit entry r gives op given value fits (void_is gives ty) e
  operation_fit entry r gives op aligns (operations.Br block) fits formed has ty e = jump_fit entry r gives op block (void_is gives ty) e
  operation_fit entry r gives op aligns (operations.CondBr condition left right) fits formed has ty e = fork_fit entry r gives op condition left right (void_is gives ty) e
  operation_fit entry r gives op aligns (operations.Switch given otherwise cases) fits formed has ty e = switch_fit entry r gives op given otherwise cases (void_is gives ty) e
  operation_fit entry r gives op aligns operations.Unreachable fits formed has ty e = known (Fitted 0 entry r gives) ops.Unreachable op e (void_is gives ty, tt, refl)
