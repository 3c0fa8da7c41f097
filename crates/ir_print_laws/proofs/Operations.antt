-- Trees of printed operations say what was printed.
use Rattle.std.proofs.Common.{◌≡◌, ◌⊎◌, inl, inr, ℕ, suc, ◌+◌, ◌-◌, ◌/◌, ◌%◌, ◌^◌, ◌<◌, ◌≤◌, Bool, true, false, List, [], ◌∷◌, ◌++◌, length, take, drop, slice_get, Option, Some, None, refl, sym, ◌∙◌, ap, subst, append_assoc, append-nil, arith}
use Rattle.std.specs.Prelude.{◌==◌, not, ◌&&◌, nat_eq, nat_le, nat_lt, codes, decimal, Result, Ok, if◌then◌else◌}
use Rattle.std.specs.Str.{bytes_eq}
use Rattle.std.specs.List.{starts_with, list_all}
use Rattle.std.specs.Char.{is_ascii_digit}
use Rattle.std.proofs.lemmas.Fmt.{decimal_by_steps_wide}
use Rattle.std.specs.Fmt.{digits}
use Rattle.ir_text.specs.declared.name.Name.{Name}
use Rattle.ir_core.specs.declared.types.TheConstants.{MAX_WIDTH}
use Rattle.ir_core.specs.declared.types.Ty.{Ty}
use Rattle.ir_core.specs.declared.types.Ty.TheVariants as values
use Rattle.ir_core.specs.declared.types.MemTy.{MemTy}
use Rattle.ir_core.specs.declared.code.Flags.{Flags}
use Rattle.ir_core.specs.declared.code.BinOp.{BinOp}
use Rattle.ir_core.specs.declared.code.Pred.{Pred}
use Rattle.ir_core.specs.declared.code.CastOp.{CastOp}
use Rattle.ir_core.specs.declared.code.Operand.{Operand}
use Rattle.ir_core.specs.declared.code.Operand.TheVariants as operands
use Rattle.ir_core.specs.declared.code.BuiltIn.{BuiltIn}
use Rattle.ir_core.specs.declared.code.BuiltIn.TheVariants as built
use Rattle.ir_core.specs.declared.code.Op.{Op}
use Rattle.ir_core.specs.declared.code.Op.TheVariants as ops
use Rattle.ir_core.specs.declared.program.Module.{Module}
use Rattle.ir_grammar.specs.declared.type_tree.TypeNode.{TypeNode}
use Rattle.ir_value_trees.specs.declared.value_tree.Value.{Value}
use Rattle.ir_value_trees.specs.declared.value_tree.Typed.{Typed}
use Rattle.ir_instruction_trees.specs.declared.tree.Incoming.{Incoming}
use Rattle.ir_instruction_trees.specs.declared.tree.Case.{Case}
use Rattle.ir_instruction_trees.specs.declared.tree.Operation.{Operation}
use Rattle.ir_instruction_trees.specs.declared.tree.Operation.TheVariants as operations
use Rattle.ir_types.specs.declared.fault.Fault.{Fault}
use Rattle.ir_types.specs.Walk.{walk}
use Rattle.ir_types.specs.Numbers.{digits_onto}
use Rattle.ir_types.specs.declared.names.Table.{Table}
use Rattle.ir_types.specs.Names.{Symbols}
use Rattle.ir_types.specs.Types.{value_part, type_of, memory}
use Rattle.ir_resolve.specs.Literals.{literal_of}
use Rattle.ir_resolve.specs.Operands.{is_ty}
use Rattle.ir_instructions.specs.declared.built_ins.NamedBuiltIn.{NamedBuiltIn}
use Rattle.ir_instructions.specs.declared.lists.TypedList.{TypedList}
use Rattle.ir_instructions.specs.declared.lists.IncomingList.{IncomingList}
use Rattle.ir_instructions.specs.declared.lists.CaseList.{CaseList}
use Rattle.ir_instructions.specs.BuiltIns.{are_plain_digits, width_of_digits, width_behind, memory_named, integer_named, built_in_of, is_of_memory, measured, has_width, quiet_value, quiet_argument, quiet}
use Rattle.ir_instructions.specs.Counts.{small_aligns, item_count}
use Rattle.ir_instructions.specs.Instructions.{result_type, typed_step, typed_list, incoming_step, incoming_list, case_value, case_step, case_list, binary, comparison, cast, selection, freezing, phi, loading, storing, direct_call, built_in_call, named_call, call, returning, ret, fork, switching, alloca, gep, operation}
use Rattle.ir_core.specs.Units.{parts_in}
use Rattle.ir_functions.specs.Functions.{parts_of}
use Rattle.ir_print.specs.Instructions.{width_of_length, width_of_value, built_in_front, built_in_width, built_in_text, function_of}
use Rattle.ir_print_laws.specs.FormTrees.{IsNameOf, IsBlockName, IsTyTree, IsMemoryTree, IsOperandTree, IsTypedTree}
use Rattle.ir_print_laws.specs.Instructions.{AreTrees, IsIncomingTree, IsArgumentTree, IsCaseTree, IsCountTree, IsOperationTree}
use Rattle.ir_print_laws.proofs.Tokens.{decimal_digits}
use Rattle.ir_print_laws.specs.Written.{Each}
use Rattle.ir_print_laws.proofs.LinesBack.{built_bare}
use Rattle.ir_print_laws.specs.Fits.{Counts, FitsTy, IsNoVoid, FitsOperand, FitsTyped, FitsMemory, IsOwnName, FitsArgument, EndsQuietly, HasLength, HasFirst, FitsBuiltIn, FitsIncoming, FitsCase, FitsOperation, no_types}
use Rattle.ir_print_laws.proofs.Digits.{natural_says, count_says}
use Rattle.ir_print_laws.proofs.Named.{bare_says}
use Rattle.ir_print_laws.proofs.Operands.{Known, SaysAddress, type_says, operand_says, typed_says, typed_as_says, same_ty}

-- ---- lists

module _ {S T X : Type 0} (step : S → T → Result S Fault) (state : List X → S) (Has : X → Type 0) (Is : X → T → Type 0)
    (one : (x : X) (t : T) (before : List X) → Has x → Is x t → step (state before) t ≡ Ok (state (before ++ x ∷ []))) where
  pub walk_says : (xs : List X) (ts : List T) (before : List X) → Each Has xs → AreTrees Is xs ts → walk step (state before) ts ≡ Ok (state (before ++ xs))
  unfolding walk
  walk_says [] [] before has is = ap (λ (ys : List X). Ok (state ys)) (sym (append-nil before))
  walk_says [] (t ∷ ts) before has is = absurd is
  walk_says (x ∷ xs) [] before has is = absurd is
  walk_says (x ∷ xs) (t ∷ ts) before has is =
      rw (one x t before has.0 is.0) (walk_says xs ts (before ++ x ∷ []) has.1 is.1 ∙ ap (λ (ys : List X). Ok (state ys)) (append_assoc before (x ∷ []) xs))

-- ---- built-ins

behind_says : (front digits : List ℕ) (w : ℕ) → take (length front) (front ++ digits) ≡ front → drop (length front) (front ++ digits) ≡ digits → nat_lt (length (front ++ digits)) (length front) ≡ false → bytes_eq front front ≡ true → width_of_digits digits ≡ Some w
    → width_behind front (front ++ digits) ≡ Some w
unfolding width_behind
behind_says front digits w t d l e says = rw (l, t, d, e) says

behind_other : (front name : List ℕ) → bytes_eq (take (length front) name) front ≡ false → width_behind front name ≡ None
unfolding width_behind
behind_other front name e = by (nat_lt (length name) (length front))
  where
    by : (b : Bool) → (if b then None else if bytes_eq (take (length front) name) front then width_of_digits (drop (length front) name) else None) ≡ None
    by true = refl
    by false = rw e refl

abbrev has_front : List ℕ → Bool
has_front [] = false
has_front (d ∷ ds) = not (nat_eq d 48)

front_more : (ds : List ℕ) (x : ℕ) → has_front ds ≡ true → has_front (ds ++ x ∷ []) ≡ true
front_more [] x e = absurd cc
front_more (d ∷ ds) x e = e

one_front : (k : ℕ) → 1 ≤ k → has_front ((48 + k) ∷ []) ≡ true
one_front k least = let e : nat_eq (48 + k) 48 ≡ false = grind (arith, least) in ap not e

-- printed digits begin by 0 where they say 0 alone
decimal_front : (n : ℕ) → n < 10 ^ 64 → 1 ≤ n → has_front (decimal n) ≡ true
decimal_front n lt = decimal_by_steps_wide (λ k ds. 1 ≤ k → has_front ds ≡ true) (λ k small least. one_front k least)
    (λ k ds ten before least. front_more ds (48 + k % 10) (before (omega (arith, ten)))) n lt

pub and_true : (a b : Bool) → a ≡ true → b ≡ true → (a && b) ≡ true
and_true true b x y = y
and_true false b x y = absurd cc

plain_by : (ds : List ℕ) → has_front ds ≡ true → list_all is_ascii_digit ds ≡ true → are_plain_digits ds ≡ true
plain_by [] e all = absurd cc
plain_by (d ∷ ds) e all = and_true (not (nat_eq d 48)) (list_all is_ascii_digit (d ∷ ds)) e all

digits_say : (w : ℕ) → 1 ≤ w → w ≤ MAX_WIDTH → width_of_digits (decimal w) ≡ Some w
unfolding width_of_digits
digits_say w least most =
    let all = plain_by (decimal w) (decimal_front w (omega (arith, most)) least) (decimal_digits w) in
    let n = natural_says w (omega (arith, most)) in
    let a : nat_le 1 w ≡ true = grind (arith, least) in
    let b : nat_le w MAX_WIDTH ≡ true = grind (arith, most) in
    rw (all, n, a, b) refl

longer11 : (n : ℕ) → nat_lt (suc (suc (suc (suc (suc (suc (suc (suc (suc (suc (suc n))))))))))) 11 ≡ false
longer11 n = grind arith

longer10 : (n : ℕ) → nat_lt (suc (suc (suc (suc (suc (suc (suc (suc (suc (suc n)))))))))) 10 ≡ false
longer10 n = grind arith

abbrev named : BuiltIn → ℕ → NamedBuiltIn
named which w = record { which = which; width = w }

integer_says : (which : BuiltIn) (w : ℕ) → is_of_memory which ≡ false → 1 ≤ w → w ≤ MAX_WIDTH → built_in_of (built_in_front which ++ decimal w) ≡ Some (named which w)
unfolding built_in_of memory_named integer_named
integer_says built.MemCpy w e least most = absurd cc
integer_says built.MemMove w e least most = absurd cc
integer_says built.MemSet w e least most = absurd cc
integer_says built.SMax w e least most =
    rw (behind_says (codes "llvm.smax.i") (decimal w) w refl refl (longer11 (length (decimal w))) refl (digits_say w least most)) refl
integer_says built.SMin w e least most =
    rw (behind_other (codes "llvm.smax.i") (codes "llvm.smin.i" ++ decimal w) refl, behind_says (codes "llvm.smin.i") (decimal w) w refl refl (longer11 (length (decimal w))) refl (digits_say w least most)) refl
integer_says built.UMax w e least most =
    rw (behind_other (codes "llvm.smax.i") (codes "llvm.umax.i" ++ decimal w) refl, behind_other (codes "llvm.smin.i") (codes "llvm.umax.i" ++ decimal w) refl, behind_says (codes "llvm.umax.i") (decimal w) w refl refl (longer11 (length (decimal w))) refl (digits_say w least most)) refl
integer_says built.UMin w e least most =
    rw (behind_other (codes "llvm.smax.i") (codes "llvm.umin.i" ++ decimal w) refl, behind_other (codes "llvm.smin.i") (codes "llvm.umin.i" ++ decimal w) refl, behind_other (codes "llvm.umax.i") (codes "llvm.umin.i" ++ decimal w) refl, behind_says (codes "llvm.umin.i") (decimal w) w refl refl (longer11 (length (decimal w))) refl (digits_say w least most)) refl
integer_says built.Abs w e least most =
    rw (behind_other (codes "llvm.smax.i") (codes "llvm.abs.i" ++ decimal w) refl, behind_other (codes "llvm.smin.i") (codes "llvm.abs.i" ++ decimal w) refl, behind_other (codes "llvm.umax.i") (codes "llvm.abs.i" ++ decimal w) refl, behind_other (codes "llvm.umin.i") (codes "llvm.abs.i" ++ decimal w) refl, behind_says (codes "llvm.abs.i") (decimal w) w refl refl (longer10 (length (decimal w))) refl (digits_say w least most)) refl

copy_says : (w : ℕ) → (w ≡ 32) ⊎ (w ≡ 64) → built_in_of (codes "llvm.memcpy.p0.p0.i" ++ decimal w) ≡ Some (named built.MemCpy w)
unfolding built_in_of memory_named digits
copy_says w (inl e) = rw e refl
copy_says w (inr e) = rw e refl

move_says : (w : ℕ) → (w ≡ 32) ⊎ (w ≡ 64) → built_in_of (codes "llvm.memmove.p0.p0.i" ++ decimal w) ≡ Some (named built.MemMove w)
unfolding built_in_of memory_named digits
move_says w (inl e) = rw e refl
move_says w (inr e) = rw e refl

set_says : (w : ℕ) → (w ≡ 32) ⊎ (w ≡ 64) → built_in_of (codes "llvm.memset.p0.i" ++ decimal w) ≡ Some (named built.MemSet w)
unfolding built_in_of memory_named digits
set_says w (inl e) = rw e refl
set_says w (inr e) = rw e refl

-- the width of a length, and that it is the third argument's
length_width : (all : List (Ty × Operand)) → HasLength all → ((width_of_length all ≡ 32) ⊎ (width_of_length all ≡ 64)) × (has_width (width_of_length all) (slice_get all 2) ≡ true)
length_width [] has = (inr refl, refl)
length_width (a ∷ []) has = (inr refl, refl)
length_width (a ∷ b ∷ []) has = (inr refl, refl)
length_width (a ∷ b ∷ c ∷ rest) (inl e) = rw e (inl refl, refl)
length_width (a ∷ b ∷ c ∷ rest) (inr e) = rw e (inr refl, refl)

same_nat : (n : ℕ) → nat_eq n n ≡ true
same_nat n = grind arith

value_width : (all : List (Ty × Operand)) → HasFirst all → ((1 ≤ width_of_value all) × (width_of_value all ≤ MAX_WIDTH)) × (has_width (width_of_value all) (slice_get all 0) ≡ true)
value_width [] has = ((omega arith, omega arith), refl)
value_width (a ∷ rest) has = rw has.1 ((has.2, has.3), same_nat has.0)

-- the last argument is written `false`
quiet_last : (m : Module) (all : List (Ty × Operand)) (given : List Typed) (at : ℕ) → EndsQuietly all → AreTrees (IsArgumentTree m.globals) all given → quiet_argument at (slice_get given (length given - 1)) ≡ Ok tt
quiet_last m [] given at ends is = absurd ends
quiet_last m (a ∷ []) [] at ends is = absurd is
quiet_last m (a ∷ []) (g ∷ []) at ends is = quiet_one m a g ends is.0
  where
    quiet_one : (m : Module) (a : Ty × Operand) (g : Typed) → (a.0 ≡ values.Int 1) × (a.1 ≡ operands.Num 0) → IsArgumentTree m.globals a g → quiet_value g.value ≡ Ok tt
    quiet_one m a g ends is =
        let tree = subst (λ (o : Operand). IsOperandTree m.globals (values.Int 1) o g.value) ends.1 (subst (λ (ty : Ty). IsOperandTree m.globals ty a.1 g.value) ends.0 is.1) in
        rw tree.1 refl
quiet_last m (a ∷ []) (g ∷ h ∷ more) at ends is = absurd is.1
quiet_last m (a ∷ b ∷ rest) [] at ends is = absurd is
quiet_last m (a ∷ b ∷ rest) (g ∷ []) at ends is = absurd is.1
quiet_last m (a ∷ b ∷ rest) (g ∷ h ∷ more) at ends is =
    ap (λ (i : ℕ). quiet_argument at (slice_get (g ∷ h ∷ more) i)) (last_index (length more)) ∙ ap (λ (i : ℕ). quiet_argument at (slice_get (h ∷ more) i)) (sym (index_of (length more))) ∙ quiet_last m (b ∷ rest) (h ∷ more) at ends is.1
  where
    last_index : (n : ℕ) → suc (suc n) - 1 ≡ suc n
    last_index n = omega arith

    index_of : (n : ℕ) → suc n - 1 ≡ n
    index_of n = omega arith

quiet_says : (m : Module) (which : BuiltIn) (all : List (Ty × Operand)) (given : List Typed) (at : ℕ) → FitsBuiltIn which all → AreTrees (IsArgumentTree m.globals) all given → quiet at which given ≡ Ok tt
quiet_says m built.MemCpy all given at fits is = quiet_last m all given at fits.1 is
quiet_says m built.MemMove all given at fits is = quiet_last m all given at fits.1 is
quiet_says m built.MemSet all given at fits is = quiet_last m all given at fits.1 is
quiet_says m built.SMax all given at fits is = refl
quiet_says m built.SMin all given at fits is = refl
quiet_says m built.UMax all given at fits is = refl
quiet_says m built.UMin all given at fits is = refl
quiet_says m built.Abs all given at fits is = refl

-- a printed name of a built-in is that of it, with the width that its arguments have
record BuiltInSaid (which : BuiltIn) (all : List (Ty × Operand)) : Type 0 where
  is : built_in_of (built_in_text which all) ≡ Some (named which (built_in_width which all))
  width : has_width (built_in_width which all) (slice_get all (measured which)) ≡ true
  own : starts_with nat_eq (built_in_text which all) (codes "llvm.") ≡ true

built_in_says : (which : BuiltIn) (all : List (Ty × Operand)) → FitsBuiltIn which all → BuiltInSaid which all
built_in_says built.MemCpy all fits = let w = length_width all fits.0 in record { is = copy_says (width_of_length all) w.0; width = w.1; own = refl }
built_in_says built.MemMove all fits = let w = length_width all fits.0 in record { is = move_says (width_of_length all) w.0; width = w.1; own = refl }
built_in_says built.MemSet all fits = let w = length_width all fits.0 in record { is = set_says (width_of_length all) w.0; width = w.1; own = refl }
built_in_says built.SMax all fits = let w = value_width all fits in record { is = integer_says built.SMax (width_of_value all) refl w.0.0 w.0.1; width = w.1; own = refl }
built_in_says built.SMin all fits = let w = value_width all fits in record { is = integer_says built.SMin (width_of_value all) refl w.0.0 w.0.1; width = w.1; own = refl }
built_in_says built.UMax all fits = let w = value_width all fits in record { is = integer_says built.UMax (width_of_value all) refl w.0.0 w.0.1; width = w.1; own = refl }
built_in_says built.UMin all fits = let w = value_width all fits in record { is = integer_says built.UMin (width_of_value all) refl w.0.0 w.0.1; width = w.1; own = refl }
built_in_says built.Abs all fits = let w = value_width all fits in record { is = integer_says built.Abs (width_of_value all) refl w.0.0 w.0.1; width = w.1; own = refl }

-- what a printed type of memory says
abbrev pub SaysMemory : Type 0
SaysMemory = (ty : MemTy) (parts : List TypeNode) → FitsMemory ty → IsMemoryTree parts ty [] → memory no_types parts ≡ Ok ty

module _ (m : Module) (symbols : Symbols) (table : Table) (counts : Counts) (known : Known m symbols table counts) (addresses : SaysAddress m symbols counts.globals) (memories : SaysMemory) where
  abbrev typed_state : List (Ty × Operand) → TypedList
  typed_state all = record { all = all }

  one_typed : (x : Ty × Operand) (t : Typed) (before : List (Ty × Operand)) → FitsArgument counts x → IsArgumentTree m.globals x t → typed_step no_types symbols table (typed_state before) t ≡ Ok (typed_state (before ++ x ∷ []))
  one_typed x t before fits is = rw (typed_says m symbols table counts known addresses x.0 x.1 t fits is) refl

  arguments_say : (all : List (Ty × Operand)) (given : List Typed) → Each (FitsArgument counts) all → AreTrees (IsArgumentTree m.globals) all given → typed_list no_types symbols table given ≡ Ok all
  unfolding typed_list
  arguments_say all given fits is = rw (walk_says (typed_step no_types symbols table) typed_state (FitsArgument counts) (IsArgumentTree m.globals) one_typed all given [] fits is) refl

  abbrev incoming_state : Ty → List (Operand × ℕ) → IncomingList
  incoming_state ty all = record { ty = ty; all = all }

  one_incoming : (ty : Ty) → FitsTy ty → (x : Operand × ℕ) (t : Incoming) (before : List (Operand × ℕ)) → FitsIncoming counts ty x → IsIncomingTree m.globals ty x t → incoming_step no_types symbols table (incoming_state ty before) t ≡ Ok (incoming_state ty (before ++ x ∷ []))
  one_incoming ty is_ty x t before fits is = rw (operand_says m symbols table counts known addresses ty x.0 t.value is_ty fits.0 is.0, known.block x.1 t.block fits.1 is.1) refl

  incoming_say : (ty : Ty) (all : List (Operand × ℕ)) (given : List Incoming) → FitsTy ty → Each (FitsIncoming counts ty) all → AreTrees (IsIncomingTree m.globals ty) all given → incoming_list no_types symbols table ty given ≡ Ok all
  unfolding incoming_list
  incoming_say ty all given is_ty fits is = rw (walk_says (incoming_step no_types symbols table) (incoming_state ty) (FitsIncoming counts ty) (IsIncomingTree m.globals ty) (one_incoming ty is_ty) all given [] fits is) refl

  abbrev case_state : Ty → List (ℕ × ℕ) → CaseList
  case_state ty all = record { ty = ty; all = all }

  one_case : (ty : Ty) → FitsTy ty → (x : ℕ × ℕ) (t : Case) (before : List (ℕ × ℕ)) → FitsCase counts ty x → IsCaseTree ty x t → case_step no_types symbols table (case_state ty before) t ≡ Ok (case_state ty (before ++ x ∷ []))
  unfolding case_value
  one_case ty is_ty x t before fits is =
      let given : Typed = record { ty = t.ty; value = t.value } in
      let value = typed_as_says m symbols table counts known addresses ty (operands.Num x.0) given (is_ty, fits.0) (is.0, is.1) in
      rw (value, known.block x.1 t.block fits.1 is.2) refl

  cases_say : (ty : Ty) (all : List (ℕ × ℕ)) (given : List Case) → FitsTy ty → Each (FitsCase counts ty) all → AreTrees (IsCaseTree ty) all given → case_list no_types symbols table ty given ≡ Ok all
  unfolding case_list
  cases_say ty all given is_ty fits is = rw (walk_says (case_step no_types symbols table) (case_state ty) (FitsCase counts ty) (IsCaseTree ty) (one_case ty is_ty) all given [] fits is) refl

  -- what an operation's tree says, with the type of its result
  pub record Said (ret gives : Ty) (entry : Bool) (op : Op) (tree : Operation) : Type 0 where
    pub result : result_type no_types tree ≡ Ok gives
    pub says : operation no_types symbols table ret entry [] tree ≡ Ok op

  binary_said : (ret gives : Ty) (entry : Bool) (op : BinOp) (flags : Flags) (a b : Operand) (left : Typed) (right : Value) → FitsTyped counts gives a → FitsOperand counts gives b → IsTypedTree m.globals gives a left → IsOperandTree m.globals gives b right
      → Said ret gives entry (ops.Binary op flags a b) (operations.Binary op flags left right)
  unfolding result_type operation binary
  binary_said ret gives entry op flags a b left right f g is js =
      record { result = type_says gives left.ty f.0 is.0; says = rw (typed_says m symbols table counts known addresses gives a left f is, operand_says m symbols table counts known addresses gives b right f.0 g js) refl }

  icmp_said : (ret : Ty) (entry : Bool) (predicate : Pred) (flags : Flags) (ty : Ty) (a b : Operand) (left : Typed) (right : Value) → FitsTyped counts ty a → FitsOperand counts ty b → IsTypedTree m.globals ty a left → IsOperandTree m.globals ty b right
      → Said ret (values.Int 1) entry (ops.Icmp predicate flags ty a b) (operations.Icmp flags predicate left right)
  unfolding result_type operation comparison
  icmp_said ret entry predicate flags ty a b left right f g is js =
      record { result = refl; says = rw (typed_says m symbols table counts known addresses ty a left f is, operand_says m symbols table counts known addresses ty b right f.0 g js) refl }

  cast_said : (ret gives : Ty) (entry : Bool) (op : CastOp) (flags : Flags) (from : Ty) (a : Operand) (value : Typed) (target : List TypeNode) → FitsTy gives → FitsTyped counts from a → IsTypedTree m.globals from a value → IsTyTree gives target
      → Said ret gives entry (ops.Cast op flags from a) (operations.Cast op flags value target)
  unfolding result_type operation cast
  cast_said ret gives entry op flags from a value target f g is js = record { result = type_says gives target f js; says = rw (typed_says m symbols table counts known addresses from a value g is) refl }

  bit : FitsTy (values.Int 1)
  bit = (omega arith, omega arith)

  select_said : (ret gives : Ty) (entry : Bool) (c a b : Operand) (test left right : Typed) → FitsOperand counts (values.Int 1) c → FitsTyped counts gives a → FitsOperand counts gives b → IsTypedTree m.globals (values.Int 1) c test → IsTypedTree m.globals gives a left → IsTypedTree m.globals gives b right
      → Said ret gives entry (ops.Select c a b) (operations.Select test left right)
  unfolding result_type operation selection
  select_said ret gives entry c a b test left right e f g is js ks =
      record {
        result = type_says gives left.ty f.0 js.0;
        says = rw (typed_as_says m symbols table counts known addresses (values.Int 1) c test (bit, e) is, typed_says m symbols table counts known addresses gives a left f js, typed_as_says m symbols table counts known addresses gives b right (f.0, g) ks) refl;
      }

  freeze_said : (ret gives : Ty) (entry : Bool) (a : Operand) (value : Typed) → FitsTyped counts gives a → IsTypedTree m.globals gives a value → Said ret gives entry (ops.Freeze a) (operations.Freeze value)
  unfolding result_type operation freezing
  freeze_said ret gives entry a value f is = record { result = type_says gives value.ty f.0 is.0; says = rw (typed_says m symbols table counts known addresses gives a value f is) refl }

  phi_said : (ret gives : Ty) (entry : Bool) (all : List (Operand × ℕ)) (ty : List TypeNode) (given : List Incoming) → FitsTy gives → Each (FitsIncoming counts gives) all → IsTyTree gives ty → AreTrees (IsIncomingTree m.globals gives) all given → Said ret gives entry (ops.Phi all) (operations.Phi ty given)
  unfolding result_type operation phi
  phi_said ret gives entry all ty given f g is js = record { result = type_says gives ty f is; says = rw (type_says gives ty f is, incoming_say gives all given f g js) refl }

  count_says_one : (count : ℕ) (place : ℕ) (given : Option Typed) (single : Bool) → (count == 1) ≡ single → count < 2 ^ 64 → IsCountTree count given → item_count no_types place given ≡ Ok count
  unfolding type_of literal_of value_part digits_onto
  count_says_one count place given true e lt is = let h = rw e at is in let same : count ≡ 1 = (let b = e in grind (arith, b)) in rw (h, same) refl
  count_says_one count place given false e lt is =
      let h = rw e at is in
      let d = count_says count h.2.1.0 (omega (arith, lt)) h.2.1.2 in
      let b : nat_lt count (2 ^ 64) ≡ true = grind (arith, lt) in
      rw h.1 (rw (h.2.0.1, h.2.1.1) (rw (d, h.2.1.2.0, b) (rw b refl)))

  alloca_said : (ret : Ty) (entry : Bool) (ty : MemTy) (count left : ℕ) (parts : List TypeNode) (given : Option Typed) → entry ≡ true → FitsMemory ty → count < 2 ^ 64 → IsMemoryTree parts ty [] → IsCountTree count given → Said ret values.Ptr entry (ops.Alloca ty count) (operations.Alloca left parts given)
  unfolding result_type operation alloca small_aligns walk
  alloca_said ret entry ty count left parts given first fits lt is js = record { result = refl; says = rw first (rw (memories ty parts fits is, count_says_one count left given (count == 1) refl lt js) refl) }

  load_said : (ret gives : Ty) (entry : Bool) (a : Operand) (ty : List TypeNode) (from : Typed) → FitsTy gives → FitsOperand counts values.Ptr a → IsTyTree gives ty → IsTypedTree m.globals values.Ptr a from → Said ret gives entry (ops.Load a) (operations.Load ty from)
  unfolding result_type operation loading
  load_said ret gives entry a ty from f g is js = record { result = type_says gives ty f is; says = rw (typed_as_says m symbols table counts known addresses values.Ptr a from (tt, g) js) refl }

  store_said : (ret ty : Ty) (entry : Bool) (a b : Operand) (given into : Typed) → FitsTyped counts ty a → FitsOperand counts values.Ptr b → IsTypedTree m.globals ty a given → IsTypedTree m.globals values.Ptr b into → Said ret values.Void entry (ops.Store ty a b) (operations.Store given into)
  unfolding result_type operation storing
  store_said ret ty entry a b given into f g is js = record { result = refl; says = rw (typed_says m symbols table counts known addresses ty a given f is, typed_as_says m symbols table counts known addresses values.Ptr b into (tt, g) js) refl }

  gep_said : (ret : Ty) (entry : Bool) (ty : MemTy) (base : Operand) (all : List (Ty × Operand)) (parts : List TypeNode) (from : Typed) (given : List Typed) → FitsMemory ty → FitsOperand counts values.Ptr base → Each (FitsArgument counts) all → IsMemoryTree parts ty [] → IsTypedTree m.globals values.Ptr base from → AreTrees (IsArgumentTree m.globals) all given
      → Said ret values.Ptr entry (ops.Gep ty base all) (operations.Gep parts from given)
  unfolding result_type operation gep
  gep_said ret entry ty base all parts from given f g h is js ks = record { result = refl; says = rw (memories ty parts f is, typed_as_says m symbols table counts known addresses values.Ptr base from (tt, g) js, arguments_say all given h ks) refl }

  call_said : (ret gives : Ty) (entry : Bool) (callee : ℕ) (all : List (Ty × Operand)) (ty : List TypeNode) (name : Name) (given : List Typed) → FitsTy gives → callee < counts.functions → IsOwnName (function_of (slice_get m.functions callee)) → Each (FitsArgument counts) all
      → IsTyTree gives ty → IsNameOf (function_of (slice_get m.functions callee)) name → AreTrees (IsArgumentTree m.globals) all given → Said ret gives entry (ops.Call callee all) (operations.Call ty false name given)
  unfolding result_type operation call named_call direct_call
  call_said ret gives entry callee all ty name given f lt own h is js ks =
      let named = known.function callee name lt js in
      record { result = type_says gives ty f is; says = rw named.0 (rw own (rw (named.1, arguments_say all given h ks) refl)) }

  built_said : (ret gives : Ty) (entry : Bool) (which : BuiltIn) (all : List (Ty × Operand)) (ty : List TypeNode) (name : Name) (given : List Typed) → FitsTy gives → FitsBuiltIn which all → Each (FitsArgument counts) all
      → IsTyTree gives ty → IsNameOf (built_in_text which all) name → AreTrees (IsArgumentTree m.globals) all given → Said ret gives entry (ops.BuiltIn which all) (operations.Call ty false name given)
  unfolding result_type operation call named_call built_in_call
  built_said ret gives entry which all ty name given f fits h is js ks =
      let said = built_in_says which all fits in
      let bytes = bare_says (built_in_text which all) name (built_bare which all) js in
      record { result = type_says gives ty f is; says = rw bytes (rw (said.own, said.is) (rw (arguments_say all given h ks, quiet_says m which all given name.left fits ks, said.width) refl)) }

  some_not_void : (ty : Ty) → IsNoVoid ty → is_ty ty values.Void ≡ false
  some_not_void values.Void some = absurd some
  some_not_void (values.Int w) some = refl
  some_not_void values.Ptr some = refl

  ret_said : (ret : Ty) (entry : Bool) (a : Operand) (given : Typed) → IsNoVoid ret → FitsTyped counts ret a → IsTypedTree m.globals ret a given → Said ret values.Void entry (ops.Ret (Some a)) (operations.Ret given.ty (Some given.value))
  unfolding result_type operation returning
  ret_said ret entry a given some f is = record { result = refl; says = rw (type_says ret given.ty f.0 is.0, same_ty m symbols table counts known addresses ret, some_not_void ret some) (rw (operand_says m symbols table counts known addresses ret a given.value f.0 f.1 is.1) refl) }

  fork_said : (ret : Ty) (entry : Bool) (c : Operand) (first second : ℕ) (test : Typed) (one other : Name) → FitsOperand counts (values.Int 1) c → first < counts.blocks → second < counts.blocks → IsTypedTree m.globals (values.Int 1) c test → IsBlockName first one → IsBlockName second other
      → Said ret values.Void entry (ops.CondBr c first second) (operations.CondBr test one other)
  unfolding result_type operation fork
  fork_said ret entry c first second test one other f p q is js ks = record { result = refl; says = rw (typed_as_says m symbols table counts known addresses (values.Int 1) c test (bit, f) is, known.block first one p js, known.block second other q ks) refl }

  jump_said : (ret : Ty) (entry : Bool) (block : ℕ) (name : Name) → block < counts.blocks → IsBlockName block name → Said ret values.Void entry (ops.Br block) (operations.Br name)
  unfolding result_type operation
  jump_said ret entry block name p is = record { result = refl; says = rw (known.block block name p is) refl }

  switch_said : (ret ty : Ty) (entry : Bool) (value : Operand) (otherwise : ℕ) (all : List (ℕ × ℕ)) (given : Typed) (block : Name) (trees : List Case) → FitsTyped counts ty value → otherwise < counts.blocks → Each (FitsCase counts ty) all → IsTypedTree m.globals ty value given → IsBlockName otherwise block → AreTrees (IsCaseTree ty) all trees
      → Said ret values.Void entry (ops.Switch ty value otherwise all) (operations.Switch given block trees)
  unfolding result_type operation switching
  switch_said ret ty entry value otherwise all given block trees f p g is js ks = record { result = refl; says = rw (typed_says m symbols table counts known addresses ty value given f is, known.block otherwise block p js, cases_say ty all trees f.0 g ks) refl }

  ret_void_said : (ret : Ty) (entry : Bool) (parts : List TypeNode) → Said ret values.Void entry (ops.Ret None) (operations.Ret parts None)
  unfolding result_type operation
  ret_void_said ret entry parts = record { result = refl; says = refl }

  unreachable_said : (ret : Ty) (entry : Bool) → Said ret values.Void entry ops.Unreachable operations.Unreachable
  unfolding result_type operation
  unreachable_said ret entry = record { result = refl; says = refl }

  at_gives : (ret gives other : Ty) (entry : Bool) (op : Op) (tree : Operation) → gives ≡ other → Said ret other entry op tree → Said ret gives entry op tree
  at_gives ret gives other entry op tree e s = subst (λ (ty : Ty). Said ret ty entry op tree) (sym e) s

  at_tree : (ret gives : Ty) (entry : Bool) (op : Op) (tree other : Operation) → tree ≡ other → Said ret gives entry op other → Said ret gives entry op tree
  at_tree ret gives entry op tree other e s = subst (λ (x : Operation). Said ret gives entry op x) (sym e) s

  pub operation_said : (ret gives : Ty) (entry : Bool) (op : Op) (tree : Operation) → FitsOperation m counts entry ret gives op → IsOperationTree m ret gives op tree → Said ret gives entry op tree
  operation_said ret gives entry (ops.Binary op flags a b) tree f is = at_tree ret gives entry _ tree _ is.2 (binary_said ret gives entry op flags a b is.0 is.1 f.0 f.1 is.3 is.4)
  operation_said ret gives entry (ops.Icmp predicate flags ty a b) tree f is = at_tree ret gives entry _ tree _ is.2 (at_gives ret gives _ entry _ _ f.0 (icmp_said ret entry predicate flags ty a b is.0 is.1 f.1.0 f.1.1 is.3 is.4))
  operation_said ret gives entry (ops.Cast op flags from a) tree f is = at_tree ret gives entry _ tree _ is.2 (cast_said ret gives entry op flags from a is.0 is.1 f.0 f.1 is.3 is.4)
  operation_said ret gives entry (ops.Select c a b) tree f is = at_tree ret gives entry _ tree _ is.3 (select_said ret gives entry c a b is.0 is.1 is.2 f.0 f.1.0 f.1.1 is.4 is.5 is.6)
  operation_said ret gives entry (ops.Freeze a) tree f is = at_tree ret gives entry _ tree _ is.1 (freeze_said ret gives entry a is.0 f is.2)
  operation_said ret gives entry (ops.Phi all) tree f is = at_tree ret gives entry _ tree _ is.2 (phi_said ret gives entry all is.0 is.1 f.0 f.1 is.3 is.4)
  operation_said ret gives entry (ops.Alloca ty count) tree f is = at_tree ret gives entry _ tree _ is.3 (at_gives ret gives _ entry _ _ f.0 (alloca_said ret entry ty count is.0 is.1 is.2 f.1.0 f.1.1.0 f.1.1.1 is.4 is.5))
  operation_said ret gives entry (ops.Load a) tree f is = at_tree ret gives entry _ tree _ is.2 (load_said ret gives entry a is.0 is.1 f.0 f.1 is.3 is.4)
  operation_said ret gives entry (ops.Store ty a b) tree f is = at_tree ret gives entry _ tree _ is.2 (at_gives ret gives _ entry _ _ f.0 (store_said ret ty entry a b is.0 is.1 f.1.0 f.1.1 is.3 is.4))
  operation_said ret gives entry (ops.Gep ty base all) tree f is = at_tree ret gives entry _ tree _ is.3 (at_gives ret gives _ entry _ _ f.0 (gep_said ret entry ty base all is.0 is.1 is.2 f.1.0 f.1.1.0 f.1.1.1 is.4 is.5 is.6))
  operation_said ret gives entry (ops.Call callee all) tree f is = at_tree ret gives entry _ tree _ is.3 (call_said ret gives entry callee all is.0 is.1 is.2 f.0 f.1.0 f.1.1.0 f.1.1.1 is.4 is.5 is.6)
  operation_said ret gives entry (ops.BuiltIn which all) tree f is = at_tree ret gives entry _ tree _ is.3 (built_said ret gives entry which all is.0 is.1 is.2 f.0 f.1.0 f.1.1 is.4 is.5 is.6)
  operation_said ret gives entry (ops.Ret None) tree f is = at_tree ret gives entry _ tree _ is.1 (at_gives ret gives _ entry _ _ f (ret_void_said ret entry _))
  operation_said ret gives entry (ops.Ret (Some a)) tree f is = at_tree ret gives entry _ tree _ is.1 (at_gives ret gives _ entry _ _ f.0 (ret_said ret entry a is.0 f.1.0 f.1.1 is.2))
  operation_said ret gives entry (ops.Br block) tree f is = at_tree ret gives entry _ tree _ is.1 (at_gives ret gives _ entry _ _ f.0 (jump_said ret entry block is.0 f.1 is.2))
  operation_said ret gives entry (ops.CondBr c first second) tree f is = at_tree ret gives entry _ tree _ is.3 (at_gives ret gives _ entry _ _ f.0 (fork_said ret entry c first second is.0 is.1 is.2 f.1.0 f.1.1.0 f.1.1.1 is.4 is.5 is.6))
  operation_said ret gives entry (ops.Switch ty value otherwise all) tree f is = at_tree ret gives entry _ tree _ is.3 (at_gives ret gives _ entry _ _ f.0 (switch_said ret ty entry value otherwise all is.0 is.1 is.2 f.1.0 f.1.1.0 f.1.1.1 is.4 is.5 is.6))
  operation_said ret gives entry ops.Unreachable tree f is = at_tree ret gives entry _ tree _ is (at_gives ret gives _ entry _ _ f (unreachable_said ret entry))

-- ---- what doesn't depend on names: the type of a result, and how many parts there are

pub result_says : (m : Module) (counts : Counts) (ret gives : Ty) (entry : Bool) (op : Op) (tree : Operation) → FitsOperation m counts entry ret gives op → IsOperationTree m ret gives op tree → result_type no_types tree ≡ Ok gives
unfolding result_type
result_says m counts ret gives entry (ops.Binary op flags a b) tree f is = rw is.2 (type_says gives is.0.ty f.0.0 is.3.0)
result_says m counts ret gives entry (ops.Icmp predicate flags ty a b) tree f is = rw (is.2, f.0) refl
result_says m counts ret gives entry (ops.Cast op flags from a) tree f is = rw is.2 (type_says gives is.1 f.0 is.4)
result_says m counts ret gives entry (ops.Select c a b) tree f is = rw is.3 (type_says gives is.1.ty f.1.0.0 is.5.0)
result_says m counts ret gives entry (ops.Freeze a) tree f is = rw is.1 (type_says gives is.0.ty f.0 is.2.0)
result_says m counts ret gives entry (ops.Phi all) tree f is = rw is.2 (type_says gives is.0 f.0 is.3)
result_says m counts ret gives entry (ops.Alloca ty count) tree f is = rw (is.3, f.0) refl
result_says m counts ret gives entry (ops.Load a) tree f is = rw is.2 (type_says gives is.0 f.0 is.3)
result_says m counts ret gives entry (ops.Store ty a b) tree f is = rw (is.2, f.0) refl
result_says m counts ret gives entry (ops.Gep ty base all) tree f is = rw (is.3, f.0) refl
result_says m counts ret gives entry (ops.Call callee all) tree f is = rw is.3 (type_says gives is.0 f.0 is.4)
result_says m counts ret gives entry (ops.BuiltIn which all) tree f is = rw is.3 (type_says gives is.0 f.0 is.4)
result_says m counts ret gives entry (ops.Ret None) tree f is = rw (is.1, f) refl
result_says m counts ret gives entry (ops.Ret (Some a)) tree f is = rw (is.1, f.0) refl
result_says m counts ret gives entry (ops.Br block) tree f is = rw (is.1, f.0) refl
result_says m counts ret gives entry (ops.CondBr c first second) tree f is = rw (is.3, f.0) refl
result_says m counts ret gives entry (ops.Switch ty value otherwise all) tree f is = rw (is.3, f.0) refl
result_says m counts ret gives entry ops.Unreachable tree f is = rw (is, f) refl

pub trees_length : {X Y : Type 0} (Is : X → Y → Type 0) (xs : List X) (ys : List Y) → AreTrees Is xs ys → length ys ≡ length xs
trees_length Is [] [] is = refl
trees_length Is [] (y ∷ ys) is = absurd is
trees_length Is (x ∷ xs) [] is = absurd is
trees_length Is (x ∷ xs) (y ∷ ys) is = ap suc (trees_length Is xs ys is.1)

pub parts_say : (m : Module) (ret gives : Ty) (op : Op) (tree : Operation) → IsOperationTree m ret gives op tree → parts_of tree ≡ parts_in op
unfolding parts_of
parts_say m ret gives (ops.Binary op flags a b) tree is = rw is.2 refl
parts_say m ret gives (ops.Icmp predicate flags ty a b) tree is = rw is.2 refl
parts_say m ret gives (ops.Cast op flags from a) tree is = rw is.2 refl
parts_say m ret gives (ops.Select c a b) tree is = rw is.3 refl
parts_say m ret gives (ops.Freeze a) tree is = rw is.1 refl
parts_say m ret gives (ops.Phi all) tree is = rw is.2 refl
parts_say m ret gives (ops.Alloca ty count) tree is = rw is.3 refl
parts_say m ret gives (ops.Load a) tree is = rw is.2 refl
parts_say m ret gives (ops.Store ty a b) tree is = rw is.2 refl
parts_say m ret gives (ops.Gep ty base all) tree is = rw is.3 (trees_length (IsArgumentTree m.globals) all is.2 is.6)
parts_say m ret gives (ops.Call callee all) tree is = rw is.3 (trees_length (IsArgumentTree m.globals) all is.2 is.6)
parts_say m ret gives (ops.BuiltIn which all) tree is = rw is.3 (trees_length (IsArgumentTree m.globals) all is.2 is.6)
parts_say m ret gives (ops.Ret None) tree is = rw is.1 refl
parts_say m ret gives (ops.Ret (Some a)) tree is = rw is.1 refl
parts_say m ret gives (ops.Br block) tree is = rw is.1 refl
parts_say m ret gives (ops.CondBr c first second) tree is = rw is.3 refl
parts_say m ret gives (ops.Switch ty value otherwise all) tree is = rw is.3 (trees_length (IsCaseTree ty) all is.2 is.6)
parts_say m ret gives ops.Unreachable tree is = rw is refl
