-- Trees of printed types and operands say what was printed.
use Rattle.std.proofs.Common.{◌≡◌, ℕ, ◌^◌, ◌<◌, ◌≤◌, Bool, true, false, List, Some, slice_get, refl, sym, subst, arith}
use Rattle.std.specs.Prelude.{◌==◌, ◌&&◌, nat_eq, nat_le, decimal, Ok}
use Rattle.ir_text.specs.declared.name.Name.{Name}
use Rattle.ir_core.specs.declared.types.TheConstants.{MAX_WIDTH}
use Rattle.ir_core.specs.declared.types.Ty.{Ty}
use Rattle.ir_core.specs.declared.types.Ty.TheVariants as values
use Rattle.ir_core.specs.declared.code.Operand.{Operand}
use Rattle.ir_core.specs.declared.code.Operand.TheVariants as operands
use Rattle.ir_core.specs.declared.program.Module.{Module}
use Rattle.ir_grammar.specs.declared.type_tree.TypeNode.{TypeNode}
use Rattle.ir_value_trees.specs.declared.value_tree.Address.{Address}
use Rattle.ir_value_trees.specs.declared.value_tree.Value.{Value}
use Rattle.ir_value_trees.specs.declared.value_tree.Value.TheVariants as written
use Rattle.ir_value_trees.specs.declared.value_tree.Typed.{Typed}
use Rattle.ir_types.specs.declared.tables.Target.TheVariants as targets
use Rattle.ir_types.specs.Numbers.{natural}
use Rattle.ir_types.specs.declared.names.Table.{Table}
use Rattle.ir_types.specs.Tables.{target_named}
use Rattle.ir_types.specs.Names.{Symbols, bytes_of, named_target}
use Rattle.ir_types.specs.Parts.{width_of}
use Rattle.ir_types.specs.Types.{value_part, type_of}
use Rattle.ir_resolve.specs.Addresses.{address}
use Rattle.ir_resolve.specs.Operands.{is_ty, local_operand, block_of, address_operand, operand, typed, typed_as}
use Rattle.ir_print.specs.Values.{width_of as printed_width, global_of}
use Rattle.ir_print.specs.Instructions.{function_of}
use Rattle.ir_print_laws.specs.FormTrees.{IsNameOf, IsValueName, IsBlockName, IsTyTree, IsNumberTree, IsAddressTree, IsOperandTree, IsTypedTree}
use Rattle.ir_print_laws.specs.Fits.{Counts, FitsTy, FitsNumber, IsPointer, IsNoVoid, FitsOperand, FitsTyped, no_types}
use Rattle.ir_print_laws.proofs.Digits.{natural_says, literal_says}

-- ---- types

pub int_says : (w left : ℕ) → 1 ≤ w → w ≤ MAX_WIDTH → width_of left (natural (decimal w)) ≡ Ok w
int_says w left least most =
    let digits = natural_says w (omega (arith, most)) in
    let some : nat_eq w 0 ≡ false = grind (arith, least) in
    let few : nat_le w MAX_WIDTH ≡ true = grind (arith, most) in
    rw (digits, some, few) refl

pub type_says : (ty : Ty) (parts : List TypeNode) → FitsTy ty → IsTyTree ty parts → type_of no_types parts ≡ Ok ty
unfolding type_of value_part
type_says values.Void parts fits is = rw is.1 refl
type_says (values.Int w) parts fits is = rw is.1 (rw (int_says w is.0 fits.0 fits.1) refl)
type_says values.Ptr parts fits is = rw is.1 refl

-- ---- what is known of names

-- what the names in a function stand for
pub record Known (m : Module) (symbols : Symbols) (table : Table) (counts : Counts) : Type 0 where
  pub value : (v : ℕ) (name : Name) → v < counts.values → IsValueName v name → local_operand table name ≡ Ok (operands.Value v)
  pub block : (k : ℕ) (name : Name) → k < counts.blocks → IsBlockName k name → block_of table name ≡ Ok k
  pub global : (k : ℕ) (name : Name) → k < counts.globals → IsNameOf (global_of (slice_get m.globals k)) name → named_target symbols name ≡ Ok (targets.Global k)
  pub function : (k : ℕ) (name : Name) → k < counts.functions → IsNameOf (function_of (slice_get m.functions k)) name → (bytes_of name ≡ Ok (function_of (slice_get m.functions k))) × (target_named (function_of (slice_get m.functions k)) symbols ≡ Some (targets.Function k))

-- the address of a global and an offset
abbrev pub SaysAddress : Module → Symbols → ℕ → Type 0
SaysAddress m symbols globals = (k offset : ℕ) (one : Address) → k < globals → offset < 2 ^ 64 → IsAddressTree (global_of (slice_get m.globals k)) offset one → address no_types symbols one ≡ Ok (k, offset)

-- ---- operands

one_wide : (w n m : ℕ) → (w == 1 && n == m) ≡ true → (w ≡ 1) × (n ≡ m)
one_wide w n m e = (grind (arith, e), grind (arith, e))

false_says : (symbols : Symbols) (table : Table) (w n left : ℕ) → w ≡ 1 → n ≡ 0 → operand no_types symbols table (values.Int w) (written.False left) ≡ Ok (operands.Num n)
unfolding operand
false_says symbols table w n left p q = rw (p, q) refl

true_says : (symbols : Symbols) (table : Table) (w n left : ℕ) → w ≡ 1 → n ≡ 1 → operand no_types symbols table (values.Int w) (written.True left) ≡ Ok (operands.Num n)
unfolding operand
true_says symbols table w n left p q = rw (p, q) refl

number_by : (none one : Bool) (symbols : Symbols) (table : Table) (w n : ℕ) (value : Value) → (w == 1 && n == 0) ≡ none → (w == 1 && n == 1) ≡ one → FitsTy (values.Int w) → n < 2 ^ w → IsNumberTree w n value
    → operand no_types symbols table (values.Int w) value ≡ Ok (operands.Num n)
unfolding operand
number_by true one symbols table w n value e f fits lt is =
    let same = one_wide w n 0 e in
    let h = rw e at is in
    subst (λ (x : Value). operand no_types symbols table (values.Int w) x ≡ Ok (operands.Num n)) (sym h.1) (false_says symbols table w n h.0 same.0 same.1)
number_by false true symbols table w n value e f fits lt is =
    let same = one_wide w n 1 f in
    let h = rw (e, f) at is in
    subst (λ (x : Value). operand no_types symbols table (values.Int w) x ≡ Ok (operands.Num n)) (sym h.1) (true_says symbols table w n h.0 same.0 same.1)
number_by false false symbols table w n value e f fits lt is =
    let h = rw (e, f) at is in
    rw h.1 (rw (literal_says w n h.0 fits.0 fits.1 lt h.2) refl)

module _ (m : Module) (symbols : Symbols) (table : Table) (counts : Counts) (known : Known m symbols table counts) (addresses : SaysAddress m symbols counts.globals) where
  place_says : (ty : Ty) (k offset : ℕ) (one : Address) → IsPointer ty → k < counts.globals → offset < 2 ^ 64 → IsAddressTree (global_of (slice_get m.globals k)) offset one → address_operand no_types symbols ty one ≡ Ok (operands.Place k offset)
  place_says values.Void k offset one pointer lt few is = absurd pointer
  place_says (values.Int w) k offset one pointer lt few is = absurd pointer
  place_says values.Ptr k offset one pointer lt few is = rw (addresses k offset one lt few is) refl

  null_says : (ty : Ty) (left : ℕ) → IsPointer ty → operand no_types symbols table ty (written.Null left) ≡ Ok operands.Null
  unfolding operand
  null_says values.Void left pointer = absurd pointer
  null_says (values.Int w) left pointer = absurd pointer
  null_says values.Ptr left pointer = refl

  poison_says : (ty : Ty) (left : ℕ) → IsNoVoid ty → operand no_types symbols table ty (written.Poison left) ≡ Ok operands.Poison
  unfolding operand
  poison_says values.Void left some = absurd some
  poison_says (values.Int w) left some = refl
  poison_says values.Ptr left some = refl

  value_says : (ty : Ty) (v : ℕ) (value : Value) (name : Name) → value ≡ written.Local name → v < counts.values → IsValueName v name → operand no_types symbols table ty value ≡ Ok (operands.Value v)
  unfolding operand
  value_says ty v value name e lt is = rw e (known.value v name lt is)

  number_says : (ty : Ty) (n : ℕ) (value : Value) → FitsTy ty → FitsNumber ty n → IsNumberTree (printed_width ty) n value → operand no_types symbols table ty value ≡ Ok (operands.Num n)
  number_says values.Void n value fits number is = absurd number
  number_says (values.Int w) n value fits number is = number_by _ _ symbols table w n value refl refl fits number is
  number_says values.Ptr n value fits number is = absurd number

  address_says : (ty : Ty) (k offset : ℕ) (value : Value) (one : Address) → value ≡ written.Address one → IsPointer ty → k < counts.globals → offset < 2 ^ 64 → IsAddressTree (global_of (slice_get m.globals k)) offset one → operand no_types symbols table ty value ≡ Ok (operands.Place k offset)
  unfolding operand
  address_says ty k offset value one e pointer lt few is = rw e (place_says ty k offset one pointer lt few is)

  pub operand_says : (ty : Ty) (one : Operand) (value : Value) → FitsTy ty → FitsOperand counts ty one → IsOperandTree m.globals ty one value → operand no_types symbols table ty value ≡ Ok one
  operand_says ty (operands.Value v) value fits lt is = value_says ty v value is.0 is.1 lt is.2
  operand_says ty (operands.Num n) value fits number is = number_says ty n value fits number is
  operand_says ty operands.Null value fits pointer is = subst (λ (x : Value). operand no_types symbols table ty x ≡ Ok operands.Null) (sym is.1) (null_says ty is.0 pointer)
  operand_says ty (operands.Place k offset) value fits place is = address_says ty k offset value is.0 is.1 place.0 place.1.0 place.1.1 is.2
  operand_says ty operands.Poison value fits some is = subst (λ (x : Value). operand no_types symbols table ty x ≡ Ok operands.Poison) (sym is.1) (poison_says ty is.0 some)

  pub typed_says : (ty : Ty) (one : Operand) (given : Typed) → FitsTyped counts ty one → IsTypedTree m.globals ty one given → typed no_types symbols table given.ty given.value ≡ Ok (ty, one)
  unfolding typed
  typed_says ty one given fits is = rw (type_says ty given.ty fits.0 is.0, operand_says ty one given.value fits.0 fits.1 is.1) refl

  pub same_ty : (ty : Ty) → is_ty ty ty ≡ true
  same_ty values.Void = refl
  same_ty (values.Int w) = grind arith
  same_ty values.Ptr = refl

  pub typed_as_says : (ty : Ty) (one : Operand) (given : Typed) → FitsTyped counts ty one → IsTypedTree m.globals ty one given → typed_as no_types symbols table ty given.ty given.value ≡ Ok one
  unfolding typed_as
  typed_as_says ty one given fits is = rw (typed_says ty one given fits is, same_ty ty) refl
