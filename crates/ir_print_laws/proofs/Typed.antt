-- Types, numbers and operands that are read fit.
use Rattle.std.proofs.Common.{◌≡◌, ℕ, zero, suc, ◌+◌, ◌-◌, ◌*◌, ◌%◌, ◌^◌, ◌<◌, ◌≤◌, Bool, true, false, not, List, [], ◌∷◌, ◌++◌, length, Option, Some, None, Result, Ok, Err, refl, sym, ◌∙◌, ap, subst, arith, if◌then◌else◌}
use Rattle.std.specs.Prelude.{nat_eq, nat_le, nat_lt, slice_get}
use Rattle.std.proofs.lemmas.Nat.{mod_below, pow_pos}
use Rattle.ir_text.specs.declared.name.Name.{Name}
use Rattle.ir_text.specs.declared.name.Number.{Number}
use Rattle.ir_grammar.specs.declared.type_tree.TypeNode.{TypeNode}
use Rattle.ir_grammar.specs.declared.type_tree.TypeNode.TheVariants as nodes
use Rattle.ir_value_trees.specs.declared.value_tree.Value.{Value}
use Rattle.ir_value_trees.specs.declared.value_tree.Value.TheVariants as written
use Rattle.ir_value_trees.specs.declared.value_tree.Index.{Index}
use Rattle.ir_value_trees.specs.declared.value_tree.Address.{Address}
use Rattle.ir_core.specs.declared.types.TheConstants.{MAX_WIDTH}
use Rattle.ir_core.specs.declared.types.Ty.{Ty}
use Rattle.ir_core.specs.declared.types.Ty.TheVariants as values
use Rattle.ir_core.specs.declared.code.Operand.{Operand}
use Rattle.ir_core.specs.declared.code.Operand.TheVariants as operands
use Rattle.ir_types.specs.declared.fault.Fault.{Fault}
use Rattle.ir_types.specs.declared.fault.Fault.TheVariants as faults
use Rattle.ir_types.specs.declared.tables.Target.{Target}
use Rattle.ir_types.specs.declared.tables.Target.TheVariants as targets
use Rattle.ir_types.specs.Walk.{◌>>=◌, or_fault, walk}
use Rattle.ir_types.specs.Numbers.{natural, literal, signed, negative}
use Rattle.ir_types.specs.declared.names.Table.{Table}
use Rattle.ir_types.specs.declared.parts.Part.{Part}
use Rattle.ir_types.specs.declared.parts.Part.TheVariants as parts
use Rattle.ir_types.specs.declared.parts.PartList.{PartList}
use Rattle.ir_types.specs.declared.table.Types.{Types}
use Rattle.ir_types.specs.Names.{Symbols, named_target, target_of}
use Rattle.ir_types.specs.Parts.{width_of, small_count, count_of, named_type, part_of, part_step, parts_of}
use Rattle.ir_types.specs.Replaced.{Definitions, flat_option, definition}
use Rattle.ir_types.specs.Summaries.{known_of}
use Rattle.ir_types.specs.Types.{first_part, scalar_at, named_scalar, value_part, type_of}
use Rattle.ir_resolve.specs.declared.address.Way.{Way}
use Rattle.ir_resolve.specs.Literals.{literal_from, literal_of}
use Rattle.ir_resolve.specs.Addresses.{further, head_from, head_distance, way_step, global_number, no_head_left, address}
use Rattle.ir_resolve.specs.Operands.{is_ty, number_operand, where_ty, value_number, local_operand, operand, place_of_type, typed, typed_as}
use Rattle.ir_print_laws.specs.Written.{Each}
use Rattle.ir_print_laws.specs.Fits.{Counts, FitsTy, FitsNumber, IsPointer, IsNoVoid, FitsOperand, FitsTyped}
use Rattle.ir_print_laws.proofs.TreeWords.{each_last}
use Rattle.ir_print_laws.proofs.Inverting.{bind, same_ok, same_some, or_ok, known, walk_keeps, Any, each_any, each_get}

-- ---- parts of types

abbrev pub WellPart : Part → Type 0
WellPart (parts.Int w left) = (1 ≤ w) × (w ≤ MAX_WIDTH)
WellPart parts.Ptr = Unit {0}
WellPart (parts.Array count) = count < 2 ^ 64
WellPart parts.Struct = Unit {0}
WellPart parts.Packed = Unit {0}
WellPart parts.Close = Unit {0}
WellPart (parts.Named n left) = Unit {0}

abbrev pub WellBodies : Definitions → Type 0
WellBodies bodies = (n : ℕ) (body : List Part) → definition bodies n ≡ Some body → Each WellPart body

width_well : (left : ℕ) (o : Option ℕ) (w : ℕ) → width_of left o ≡ Ok w → (1 ≤ w) × (w ≤ MAX_WIDTH)
width_well left None w e = absurd cc
width_well left (Some n) w e = by (nat_eq n 0) (nat_le n MAX_WIDTH) refl refl e
  where
    by : (none most : Bool) → nat_eq n 0 ≡ none → nat_le n MAX_WIDTH ≡ most → ◌≡◌ {A = Result ℕ Fault} (if none then Err (faults.Syntax left) else if most then Ok n else Err (faults.LeftOut left)) (Ok w) → (1 ≤ w) × (w ≤ MAX_WIDTH)
    by true most z i h = absurd cc
    by false true z i h = subst (λ (x : ℕ). (1 ≤ x) × (x ≤ MAX_WIDTH)) (same_ok n w h) (grind (arith, z), grind (arith, i))
    by false false z i h = absurd cc

small_below : (o : Option ℕ) (n : ℕ) → small_count o ≡ Some n → n < 2 ^ 64
small_below None n e = absurd cc
small_below (Some k) n e = by (nat_lt k (2 ^ 64)) refl e
  where
    by : (b : Bool) → nat_lt k (2 ^ 64) ≡ b → (if b then Some k else None) ≡ Some n → n < 2 ^ 64
    by true i h = subst (λ (x : ℕ). x < 2 ^ 64) (same_some k n h) (grind (arith, i))
    by false i h = absurd cc

count_below : (number : Number) (n : ℕ) → count_of number ≡ Ok n → n < 2 ^ 64
unfolding count_of
count_below number n e = by number.is_negative e
  where
    by : (b : Bool) → ◌≡◌ {A = Result ℕ Fault} (if b then Err (faults.Syntax number.left) else or_fault (faults.Syntax number.left) (small_count (natural number.digits))) (Ok n) → n < 2 ^ 64
    by true h = absurd cc
    by false h = small_below (natural number.digits) n (or_ok _ (small_count (natural number.digits)) n h)

part_well : (names : Table) (node : TypeNode) (part : Part) → part_of names node ≡ Ok part → WellPart part
unfolding part_of
part_well names (nodes.Void left) part e = absurd cc
part_well names (nodes.Int digits left) part e = let b = bind (width_of left (natural digits)) (λ w. Ok (parts.Int w left)) part e in known WellPart (parts.Int b.0 left) part b.2 (width_well left (natural digits) b.0 b.1)
part_well names (nodes.Ptr left) part e = known WellPart parts.Ptr part e tt
part_well names (nodes.Array count left) part e = let b = bind (count_of count) (λ n. Ok (parts.Array n)) part e in known WellPart (parts.Array b.0) part b.2 (count_below count b.0 b.1)
part_well names (nodes.Struct left) part e = known WellPart parts.Struct part e tt
part_well names (nodes.Packed left) part e = known WellPart parts.Packed part e tt
part_well names nodes.Close part e = known WellPart parts.Close part e tt
part_well names (nodes.Named name) part e = let b = bind (named_type names name) (λ n. Ok (parts.Named n name.left)) part e in known WellPart (parts.Named b.0 name.left) part b.2 tt

abbrev ListWell : PartList → Type 0
ListWell list = Each WellPart list.all

pub parts_well : (names : Table) (given : List TypeNode) (all : List Part) → parts_of names given ≡ Ok all → Each WellPart all
unfolding parts_of
parts_well names given all e =
    let b = bind (walk (part_step names) (record { all = [] }) given) (λ list. Ok list.all) all e in
    known (Each WellPart) b.0.all all b.2 (walk_keeps (part_step names) ListWell Any
    (λ s t after well _ is. let c = bind (part_of names t) (λ part. Ok (record { all = s.all ++ part ∷ [] })) after is in known ListWell (record { all = s.all ++ c.0 ∷ [] }) after c.2 (each_last WellPart s.all c.0 well (part_well names t c.0 c.1)))
    given (record { all = [] }) b.0 (each_any given) tt b.1)

-- ---- types of values

scalar_well : (left : ℕ) (o : Option (List Part)) (ty : Ty) → ((body : List Part) → o ≡ Some body → Each WellPart body) → scalar_at left (first_part o) ≡ Ok ty → FitsTy ty
scalar_well left None ty well e = absurd cc
scalar_well left (Some []) ty well e = absurd cc
scalar_well left (Some (parts.Int w at ∷ more)) ty well e = known FitsTy (values.Int w) ty e (well (parts.Int w at ∷ more) refl).0
scalar_well left (Some (parts.Ptr ∷ more)) ty well e = known FitsTy values.Ptr ty e tt
scalar_well left (Some (parts.Array count ∷ more)) ty well e = absurd cc
scalar_well left (Some (parts.Struct ∷ more)) ty well e = absurd cc
scalar_well left (Some (parts.Packed ∷ more)) ty well e = absurd cc
scalar_well left (Some (parts.Close ∷ more)) ty well e = absurd cc
scalar_well left (Some (parts.Named n at ∷ more)) ty well e = absurd cc

named_well : (types : Types) (left n : ℕ) (ty : Ty) → WellBodies types.bodies → named_scalar types left n ≡ Ok ty → FitsTy ty
named_well types left n ty well e =
    let b = bind (known_of left (slice_get types.entries n)) (λ found. scalar_at left (first_part (definition types.bodies found.1))) ty e in
    scalar_well left (definition types.bodies b.0.1) ty (λ body is. well b.0.1 body is) b.2

part_fits : (types : Types) (node : TypeNode) (ty : Ty) → WellBodies types.bodies → value_part types node ≡ Ok ty → FitsTy ty
unfolding value_part
part_fits types (nodes.Void left) ty well e = known FitsTy values.Void ty e tt
part_fits types (nodes.Int digits left) ty well e = let b = bind (width_of left (natural digits)) (λ w. Ok (values.Int w)) ty e in known FitsTy (values.Int b.0) ty b.2 (width_well left (natural digits) b.0 b.1)
part_fits types (nodes.Ptr left) ty well e = known FitsTy values.Ptr ty e tt
part_fits types (nodes.Named name) ty well e = let b = bind (named_type types.names name) (named_scalar types name.left) ty e in named_well types name.left b.0 ty well b.2
part_fits types (nodes.Array count left) ty well e = absurd cc
part_fits types (nodes.Struct left) ty well e = absurd cc
part_fits types (nodes.Packed left) ty well e = absurd cc
part_fits types nodes.Close ty well e = absurd cc

pub type_fits : (types : Types) (given : List TypeNode) (ty : Ty) → WellBodies types.bodies → type_of types given ≡ Ok ty → FitsTy ty
unfolding type_of
type_fits types [] ty well e = absurd cc
type_fits types (node ∷ more) ty well e = part_fits types node ty well e

-- a type that is written as an integer
pub int_fits : (types : Types) (digits : List ℕ) (left : ℕ) (ty : Ty) → type_of types (nodes.Int digits left ∷ []) ≡ Ok ty → (w : ℕ) × (ty ≡ values.Int w)
unfolding type_of value_part
int_fits types digits left ty e = let b = bind (width_of left (natural digits)) (λ w. Ok (values.Int w)) ty e in (b.0, sym (same_ok (values.Int b.0) ty b.2))

-- ---- numbers

signed_below : (bound n v : ℕ) (is_negative : Bool) → 0 < bound → signed bound is_negative n ≡ Some v → v < bound
signed_below bound n v false some e = by (nat_lt n bound) refl e
  where
    by : (b : Bool) → nat_lt n bound ≡ b → (if b then Some n else None) ≡ Some v → v < bound
    by true i h = subst (λ (x : ℕ). x < bound) (same_some n v h) (grind (arith, i))
    by false i h = absurd cc
signed_below bound n v true some e = by (nat_le (2 * n) bound) e
  where
    by : (b : Bool) → (if b then Some ((bound - n) % bound) else None) ≡ Some v → v < bound
    by true h = subst (λ (x : ℕ). x < bound) (same_some ((bound - n) % bound) v h) (mod_below (bound - n) bound some)
    by false h = absurd cc

literal_below : (w n v : ℕ) (is_negative : Bool) → literal w is_negative n ≡ Some v → v < 2 ^ w
literal_below w n v is_negative e = by (nat_le w MAX_WIDTH) e
  where
    by : (b : Bool) → (if b then signed (2 ^ w) is_negative n else None) ≡ Some v → v < 2 ^ w
    by true h = signed_below (2 ^ w) n v is_negative (pow_pos w) h
    by false h = absurd cc

from_below : (w v : ℕ) (is_negative : Bool) (o : Option ℕ) → literal_from w is_negative o ≡ Some v → v < 2 ^ w
from_below w v is_negative None e = absurd cc
from_below w v is_negative (Some n) e = literal_below w n v is_negative e

pub number_below : (number : Number) (w v : ℕ) → literal_of number w ≡ Ok v → v < 2 ^ w
unfolding literal_of
number_below number w v e = from_below w v number.is_negative (natural number.digits) (or_ok _ (literal_from w number.is_negative (natural number.digits)) v e)

-- ---- addresses

abbrev WayWell : Way → Type 0
WayWell way = way.offset < 2 ^ 64

further_below : (a b : ℕ) → further a b < 2 ^ 64
further_below a b = mod_below (a + b) (2 ^ 64) (omega arith)

way_well : (types : Types) (heads : List (List TypeNode)) (s : Way) (t : List Index) (after : Way) → way_step types heads s t ≡ Ok after → WayWell after
unfolding way_step
way_well types heads s t after e =
    let a = bind (head_from (if nat_eq s.heads 0 then None else slice_get heads (s.heads - 1))) (λ head. head_distance types head t >>= λ more. Ok (record { heads = s.heads - 1; offset = further s.offset more })) after e in
    let b = bind (head_distance types a.0 t) (λ more. Ok (record { heads = s.heads - 1; offset = further s.offset more })) after a.2 in
    known WayWell (record { heads = s.heads - 1; offset = further s.offset b.0 }) after b.2 (further_below s.offset b.0)

head_left : (left : ℕ) (way : Way) (offset : ℕ) → no_head_left left way ≡ Ok offset → way.offset ≡ offset
head_left left way offset e = by (nat_eq way.heads 0) e
  where
    by : (b : Bool) → ◌≡◌ {A = Result ℕ Fault} (if b then Ok way.offset else Err (faults.Syntax left)) (Ok offset) → way.offset ≡ offset
    by true h = same_ok way.offset offset h
    by false h = absurd cc

global_is : (left : ℕ) (target : Target) (n : ℕ) → global_number left target ≡ Ok n → target ≡ targets.Global n
global_is left (targets.Global k) n e = ap targets.Global (same_ok k n e)
global_is left (targets.Function k) n e = absurd cc
global_is left (targets.Value k) n e = absurd cc
global_is left (targets.Block k) n e = absurd cc
global_is left (targets.Type k) n e = absurd cc

abbrev PlaceWell : Symbols → Name → ℕ × ℕ → Type 0
PlaceWell symbols name place = (named_target symbols name ≡ Ok (targets.Global place.0)) × (place.1 < 2 ^ 64)

pub address_well : (types : Types) (symbols : Symbols) (given : Address) (place : ℕ × ℕ) → address types symbols given ≡ Ok place → PlaceWell symbols given.name place
unfolding address
address_well types symbols given place e =
    let a = bind (named_target symbols given.name) (λ target. global_number given.name.left target >>= λ global. walk (way_step types given.heads) (record { heads = length given.heads; offset = 0 }) given.tails >>= λ way. no_head_left given.left way >>= λ offset. Ok (global, offset)) place e in
    let b = bind (global_number given.name.left a.0) (λ global. walk (way_step types given.heads) (record { heads = length given.heads; offset = 0 }) given.tails >>= λ way. no_head_left given.left way >>= λ offset. Ok (global, offset)) place a.2 in
    let c = bind (walk (way_step types given.heads) (record { heads = length given.heads; offset = 0 }) given.tails) (λ way. no_head_left given.left way >>= λ offset. Ok (b.0, offset)) place b.2 in
    let d = bind (no_head_left given.left c.0) (λ offset. Ok (b.0, offset)) place c.2 in
    let way = walk_keeps (way_step types given.heads) WayWell Any (λ s t after well _ is. way_well types given.heads s t after is) given.tails (record { heads = length given.heads; offset = 0 }) c.0 (each_any given.tails) (omega arith) c.1 in
    known (PlaceWell symbols given.name) (b.0, d.0) place d.2
    (a.1 ∙ ap (λ (t : Target). Ok t) (global_is given.name.left a.0 b.0 b.1), subst (λ (x : ℕ). x < 2 ^ 64) (head_left given.left c.0 d.0 d.1) way)

-- ---- operands

pub same_ty : (a b : Ty) → is_ty a b ≡ true → a ≡ b
same_ty values.Void values.Void e = refl
same_ty values.Ptr values.Ptr e = refl
same_ty (values.Int w) (values.Int v) e = let same : w ≡ v = grind (arith, e) in ap values.Int same
same_ty values.Void values.Ptr e = absurd cc
same_ty values.Void (values.Int v) e = absurd cc
same_ty values.Ptr values.Void e = absurd cc
same_ty values.Ptr (values.Int v) e = absurd cc
same_ty (values.Int w) values.Void e = absurd cc
same_ty (values.Int w) values.Ptr e = absurd cc

pub where_is : (b : Bool) (left : ℕ) (x y : Operand) → where_ty b left x ≡ Ok y → (b ≡ true) × (x ≡ y)
where_is true left x y e = (refl, same_ok x y e)
where_is false left x y e = absurd cc

pub no_void : (ty : Ty) → not (is_ty ty values.Void) ≡ true → IsNoVoid ty
no_void values.Void e = absurd cc
no_void (values.Int w) e = tt
no_void values.Ptr e = tt

value_is : (left : ℕ) (target : Target) (n : ℕ) → value_number left target ≡ Ok n → target ≡ targets.Value n
value_is left (targets.Value k) n e = ap targets.Value (same_ok k n e)
value_is left (targets.Block k) n e = absurd cc
value_is left (targets.Global k) n e = absurd cc
value_is left (targets.Function k) n e = absurd cc
value_is left (targets.Type k) n e = absurd cc

-- what names inside a function stand for is there
pub record Within (types : Types) (symbols : Symbols) (table : Table) (counts : Counts) : Type 0 where
  pub bodies : WellBodies types.bodies
  pub value : (name : Name) (n : ℕ) → target_of table name ≡ Ok (targets.Value n) → n < counts.values
  pub block : (name : Name) (n : ℕ) → target_of table name ≡ Ok (targets.Block n) → n < counts.blocks
  pub global : (name : Name) (n : ℕ) → named_target symbols name ≡ Ok (targets.Global n) → n < counts.globals

module _ (types : Types) (symbols : Symbols) (table : Table) (counts : Counts) (within : Within types symbols table counts) where
  local_fits : (ty : Ty) (name : Name) (op : Operand) → local_operand table name ≡ Ok op → FitsOperand counts ty op
  unfolding local_operand
  local_fits ty name op e =
      let a = bind (target_of table name) (λ target. value_number name.left target >>= λ n. Ok (operands.Value n)) op e in
      let b = bind (value_number name.left a.0) (λ n. Ok (operands.Value n)) op a.2 in
      known (FitsOperand counts ty) (operands.Value b.0) op b.2 (within.value name b.0 (a.1 ∙ ap (λ (t : Target). Ok t) (value_is name.left a.0 b.0 b.1)))

  number_fits : (ty : Ty) (number : Number) (op : Operand) → number_operand ty number ≡ Ok op → FitsOperand counts ty op
  number_fits (values.Int w) number op e = let b = bind (literal_of number w) (λ n. Ok (operands.Num n)) op e in known (FitsOperand counts (values.Int w)) (operands.Num b.0) op b.2 (number_below number w b.0 b.1)
  number_fits values.Void number op e = absurd cc
  number_fits values.Ptr number op e = absurd cc

  bit_fits : (ty : Ty) (left n : ℕ) (op : Operand) → n < 2 → where_ty (is_ty ty (values.Int 1)) left (operands.Num n) ≡ Ok op → FitsOperand counts ty op
  bit_fits ty left n op lt e =
      let b = where_is (is_ty ty (values.Int 1)) left (operands.Num n) op e in
      subst (FitsOperand counts ty) b.1 (subst (λ (x : Ty). FitsNumber x n) (sym (same_ty ty (values.Int 1) b.0)) lt)

  null_fits : (ty : Ty) (left : ℕ) (op : Operand) → where_ty (is_ty ty values.Ptr) left operands.Null ≡ Ok op → FitsOperand counts ty op
  null_fits ty left op e =
      let b = where_is (is_ty ty values.Ptr) left operands.Null op e in
      subst (FitsOperand counts ty) b.1 (subst IsPointer (sym (same_ty ty values.Ptr b.0)) tt)

  poison_fits : (ty : Ty) (left : ℕ) (op : Operand) → where_ty (not (is_ty ty values.Void)) left operands.Poison ≡ Ok op → FitsOperand counts ty op
  poison_fits ty left op e =
      let b = where_is (not (is_ty ty values.Void)) left operands.Poison op e in
      subst (FitsOperand counts ty) b.1 (no_void ty b.0)

  place_fits : (given : Address) (op : Operand) → (address types symbols given >>= λ place. Ok (operands.Place place.0 place.1)) ≡ Ok op → FitsOperand counts values.Ptr op
  place_fits given op e =
      let b = bind (address types symbols given) (λ place. Ok (operands.Place place.0 place.1)) op e in
      let w = address_well types symbols given b.0 b.1 in
      known (FitsOperand counts values.Ptr) (operands.Place b.0.0 b.0.1) op b.2 (tt, (within.global given.name b.0.0 w.0, w.1))

  pub operand_fits : (ty : Ty) (given : Value) (op : Operand) → operand types symbols table ty given ≡ Ok op → FitsOperand counts ty op
  unfolding operand
  operand_fits ty (written.Local name) op e = local_fits ty name op e
  operand_fits ty (written.Number number) op e = number_fits ty number op e
  operand_fits ty (written.True left) op e = bit_fits ty left 1 op (omega arith) e
  operand_fits ty (written.False left) op e = bit_fits ty left 0 op (omega arith) e
  operand_fits ty (written.Null left) op e = null_fits ty left op e
  operand_fits ty (written.Poison left) op e = poison_fits ty left op e
  operand_fits values.Ptr (written.Address given) op e = place_fits given op e
  operand_fits values.Void (written.Address given) op e = absurd cc
  operand_fits (values.Int w) (written.Address given) op e = absurd cc

  pub typed_parts : (given : List TypeNode) (one : Value) (x : Ty × Operand) → typed types symbols table given one ≡ Ok x → (type_of types given ≡ Ok x.0) × (operand types symbols table x.0 one ≡ Ok x.1)
  unfolding typed
  typed_parts given one x e =
      let a = bind (type_of types given) (λ ty. operand types symbols table ty one >>= λ op. Ok (ty, op)) x e in
      let b = bind (operand types symbols table a.0 one) (λ op. Ok (a.0, op)) x a.2 in
      known (λ (y : Ty × Operand). (type_of types given ≡ Ok y.0) × (operand types symbols table y.0 one ≡ Ok y.1)) (a.0, b.0) x b.2 (a.1, b.1)

  pub typed_fits : (given : List TypeNode) (one : Value) (x : Ty × Operand) → typed types symbols table given one ≡ Ok x → FitsTyped counts x.0 x.1
  typed_fits given one x e = let p = typed_parts given one x e in (type_fits types given x.0 within.bodies p.0, operand_fits x.0 one x.1 p.1)

  pub typed_as_fits : (ty : Ty) (given : List TypeNode) (one : Value) (op : Operand) → typed_as types symbols table ty given one ≡ Ok op → FitsTyped counts ty op
  unfolding typed_as
  typed_as_fits ty given one op e =
      let a = bind (typed types symbols table given one) (λ x. where_ty (is_ty x.0 ty) (place_of_type given) x.1) op e in
      let b = where_is (is_ty a.0.0 ty) (place_of_type given) a.0.1 op a.2 in
      subst (FitsTyped counts ty) b.1 (subst (λ (t : Ty). FitsTyped counts t a.0.1) (same_ty a.0.0 ty b.0) (typed_fits given one a.0 a.1))
