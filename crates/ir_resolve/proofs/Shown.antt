-- A fault of a type, a name or an operand shows its cause.
use Rattle.std.proofs.Common.{◌≡◌, ℕ, suc, ◌+◌, ◌<◌, ◌≤◌, ◌^◌, Bool, true, false, not, nat_eq, nat_le, nat_lt, slice_get, length, List, [], ◌∷◌, Option, Some, None, Result, Ok, Err, refl, inl, inr, sym, ◌∙◌, ap, arith, if◌then◌else◌}
use Rattle.ir_text.specs.declared.name.Name.{Name}
use Rattle.ir_text.specs.declared.name.Number.{Number}
use Rattle.ir_text.specs.Quoted.{said}
use Rattle.ir_grammar.specs.declared.type_tree.TypeNode.{TypeNode}
use Rattle.ir_grammar.specs.declared.type_tree.TypeNode.TheVariants as nodes
use Rattle.ir_value_trees.specs.declared.value_tree.Value.{Value}
use Rattle.ir_value_trees.specs.declared.value_tree.Value.TheVariants as written
use Rattle.ir_value_trees.specs.declared.value_tree.Address.{Address}
use Rattle.ir_core.specs.declared.types.TheConstants.{MAX_WIDTH}
use Rattle.ir_core.specs.declared.types.Ty.{Ty}
use Rattle.ir_core.specs.declared.types.Ty.TheVariants as values
use Rattle.ir_core.specs.declared.code.Operand.{Operand}
use Rattle.ir_core.specs.declared.code.Operand.TheVariants as operands
use Rattle.ir_types.specs.declared.parts.Part.{Part}
use Rattle.ir_types.specs.declared.parts.Part.TheVariants as parts
use Rattle.ir_types.specs.declared.summary.Summary.{Summary}
use Rattle.ir_types.specs.declared.summary.Entry.{Entry}
use Rattle.ir_types.specs.declared.summary.Entry.TheVariants as entries
use Rattle.ir_types.specs.Parts.{width_of, type_number, named_type}
use Rattle.ir_types.specs.Replaced.{definition}
use Rattle.ir_types.specs.Summaries.{known_of}
use Rattle.ir_types.specs.Types.{type_of, first_part, scalar_at, named_scalar, named_value, value_part}
use Rattle.ir_types.specs.declared.table.Types.{Types}
use Rattle.ir_types.specs.declared.fault.Fault.{Fault}
use Rattle.ir_types.specs.declared.fault.Fault.TheVariants as faults
use Rattle.ir_types.specs.declared.tables.Target.{Target}
use Rattle.ir_types.specs.declared.tables.Target.TheVariants as targets
use Rattle.ir_types.specs.Walk.{◌>>=◌, or_fault, walk}
use Rattle.ir_types.specs.Numbers.{natural, small, decimal}
use Rattle.ir_types.specs.Tables.{target_named, target_numbered}
use Rattle.ir_types.specs.declared.names.Table.{Table}
use Rattle.ir_types.specs.Names.{Symbols, is_numbered, bytes_of, small_number, number_of, numbered_target, named_target, target_of}
use Rattle.ir_resolve.specs.Operands.{is_ty, number_operand, where_ty, value_number, block_number, local_operand, block_of, place_operand, address_operand, operand}
use Rattle.ir_resolve.specs.Literals.{literal_from, literal_of}
use Rattle.ir_resolve.specs.declared.address.Way.{Way}
use Rattle.ir_resolve.specs.Addresses.{way_step, global_number, no_head_left, address}
use Rattle.ir_resolve.specs.Causes.{TypeFault, IsNoScalar, IsMisspelt, IsMisspeltLocal, IsNoValue, IsNoBlock, NamesGlobal, NamesFunction, IsNoSymbol, way_of, ValueFault, BlockFault}

-- where two parts follow one another, one of them fails
pub chain : {A B : Type 0} (P : Type 0) (r : Result A Fault) (f : A → Result B Fault) (e : Fault) → (r ≡ Err e → P) → ((x : A) → r ≡ Ok x → f x ≡ Err e → P) → (r >>= f) ≡ Err e → P
chain P (Ok x) f e first more h = more x refl h
chain P (Err d) f e first more h = let same : d ≡ e = cc in first (ap (λ x. Err x) same)

-- where two parts follow one another and give a value, both give one
pub gives-then : {A B : Type 0} (r : Result A Fault) (f : A → Result B Fault) (y : B) → (r >>= f) ≡ Ok y → (x : A) × (r ≡ Ok x) × (f x ≡ Ok y)
gives-then (Ok x) f y h = (x, refl, h)
gives-then (Err d) f y h = absurd cc

-- what holds of a fault that is answered holds of the fault that the answer is
pub carry : {A : Type 0} (P : Fault → Type 0) (f e : Fault) → P f → ◌≡◌ {A = Result A Fault} (Err f) (Err e) → P e
carry P f e p h = let same : f ≡ e = cc in rw (sym same) p

pub ok-fails : {A : Type 0} {P : Type 0} (x : A) (e : Fault) → ◌≡◌ {A = Result A Fault} (Ok x) (Err e) → P
ok-fails x e h = absurd cc

pub err-gives : {A : Type 0} {P : Type 0} (d : Fault) (x : A) → ◌≡◌ {A = Result A Fault} (Err d) (Ok x) → P
err-gives d x h = absurd cc

small-none : (n : ℕ) → small n ≡ None → MAX_WIDTH < n
small-none n h = grind arith

small-some : (n w : ℕ) → small n ≡ Some w → w ≡ n
small-some n w h = by (nat_lt n (2 ^ 128)) h
  where
    by : (b : Bool) → (if b then Some n else None) ≡ Some w → w ≡ n
    by true e = cc
    by false e = absurd cc

-- a look-up fails where there is nothing to look for, or nothing is found
or_fault-fails : {A : Type 0} (P : Fault → Type 0) (fault : Fault) (o : Option A) (e : Fault) → (o ≡ None → P fault) → or_fault fault o ≡ Err e → P e
or_fault-fails P fault None e p h = carry P fault e (p refl) h
or_fault-fails P fault (Some x) e p h = ok-fails x e h

pub bytes-fail : (P : Fault → Type 0) (name : Name) (e : Fault) → (IsMisspelt name → P (faults.Syntax name.left)) → bytes_of name ≡ Err e → P e
unfolding bytes_of
bytes-fail P name e p h = or_fault-fails P (faults.Syntax name.left) (said name.spelling name.bytes) e p h

pub number-fails : (P : Fault → Type 0) (name : Name) (e : Fault) → (small_number (natural name.bytes) ≡ None → P (faults.Syntax name.left)) → number_of name ≡ Err e → P e
unfolding number_of
number-fails P name e p h = or_fault-fails P (faults.Syntax name.left) (small_number (natural name.bytes)) e p h

-- a look-up by a local's name
numbered-fails : (P : Fault → Type 0) (table : Table) (name : Name) (e : Fault) → (small_number (natural name.bytes) ≡ None → P (faults.Syntax name.left)) → (((target : Target) → numbered_target table name ≡ Ok target → ⊥) → P (faults.Name name.left)) → numbered_target table name ≡ Err e → P e
unfolding numbered_target
numbered-fails P table name e p q h =
    chain (P e) (number_of name) (λ n. or_fault (faults.Name name.left) (target_numbered n table.numbered)) e (λ first. number-fails P name e p first) (λ n is more. or_fault-fails P (faults.Name name.left) (target_numbered n table.numbered) e (λ none. q (λ target found. err-gives (faults.Name name.left) target (rw (is, none) at found))) more) h

pub named-fails : (P : Fault → Type 0) (named : Symbols) (name : Name) (e : Fault) → (IsMisspelt name → P (faults.Syntax name.left)) → (((target : Target) → named_target named name ≡ Ok target → ⊥) → P (faults.Name name.left)) → named_target named name ≡ Err e → P e
unfolding named_target
named-fails P named name e p q h =
    chain (P e) (bytes_of name) (λ bytes. or_fault (faults.Name name.left) (target_named bytes named)) e (λ first. bytes-fail P name e p first) (λ bytes is more. or_fault-fails P (faults.Name name.left) (target_named bytes named) e (λ none. q (λ target found. err-gives (faults.Name name.left) target (rw (is, none) at found))) more) h

target-fails : (P : Fault → Type 0) (table : Table) (name : Name) (e : Fault) → (IsMisspeltLocal name → P (faults.Syntax name.left)) → (((target : Target) → target_of table name ≡ Ok target → ⊥) → P (faults.Name name.left)) → target_of table name ≡ Err e → P e
unfolding target_of
target-fails P table name e p q h = by (is_numbered name.spelling) refl (λ target. q target) h
  where
    by : (b : Bool) → is_numbered name.spelling ≡ b → (((target : Target) → (if b then numbered_target table name else named_target table.named name) ≡ Ok target → ⊥) → P (faults.Name name.left)) → (if b then numbered_target table name else named_target table.named name) ≡ Err e → P e
    by true is q h = numbered-fails P table name e (λ none. p (inl (is, none))) q h
    by false is q h = named-fails P table.named name e (λ none. p (inr (is, none))) q h

width-fails : (types : Types) (digits : List ℕ) (at : ℕ) (rest : List TypeNode) (o : Option ℕ) (e : Fault) → small (decimal digits) ≡ o → width_of at o ≡ Err e → TypeFault types (nodes.Int digits at ∷ rest) e
width-fails types digits at rest None e o h = carry (TypeFault types (nodes.Int digits at ∷ rest)) (faults.LeftOut at) e (refl, small-none (decimal digits) o) h
width-fails types digits at rest (Some w) e o h = by (nat_eq w 0) (nat_le w MAX_WIDTH) refl refl h
  where
    same : w ≡ decimal digits
    same = small-some (decimal digits) w o

    by : (zero wide : Bool) → nat_eq w 0 ≡ zero → nat_le w MAX_WIDTH ≡ wide → (if zero then Err (faults.Syntax at) else if wide then Ok w else Err (faults.LeftOut at)) ≡ Err e → TypeFault types (nodes.Int digits at ∷ rest) e
    by true wide z i h = carry (TypeFault types (nodes.Int digits at ∷ rest)) (faults.Syntax at) e (grind arith) h
    by false true z i h = ok-fails w e h
    by false false z i h = carry (TypeFault types (nodes.Int digits at ∷ rest)) (faults.LeftOut at) e (refl, grind arith) h

type-number-fails : (P : Fault → Type 0) (left : ℕ) (target : Target) (e : Fault) → (((n : ℕ) → target ≡ targets.Type n → ⊥) → P (faults.Name left)) → type_number left target ≡ Err e → P e
type-number-fails P left (targets.Type n) e p h = ok-fails n e h
type-number-fails P left (targets.Value n) e p h = carry P (faults.Name left) e (p (λ m same. absurd cc)) h
type-number-fails P left (targets.Block n) e p h = carry P (faults.Name left) e (p (λ m same. absurd cc)) h
type-number-fails P left (targets.Global n) e p h = carry P (faults.Name left) e (p (λ m same. absurd cc)) h
type-number-fails P left (targets.Function n) e p h = carry P (faults.Name left) e (p (λ m same. absurd cc)) h

type-number-gives : {P : Type 0} (left : ℕ) (target : Target) (n : ℕ) → type_number left target ≡ Ok n → ((m : ℕ) → target ≡ targets.Type m → ⊥) → P
type-number-gives left (targets.Type m) n h none = absurd (none m refl)
type-number-gives left (targets.Value m) n h none = absurd cc
type-number-gives left (targets.Block m) n h none = absurd cc
type-number-gives left (targets.Global m) n h none = absurd cc
type-number-gives left (targets.Function m) n h none = absurd cc

-- a name that isn't that of a type
named-type-fails : (P : Fault → Type 0) (names : Table) (name : Name) (e : Fault) → (IsMisspeltLocal name → P (faults.Syntax name.left)) → (((n : ℕ) → named_type names name ≡ Ok n → ⊥) → P (faults.Name name.left)) → named_type names name ≡ Err e → P e
unfolding named_type
named-type-fails P names name e p q h =
    chain (P e) (target_of names name) (type_number name.left) e
    (λ first. target-fails P names name e p (λ none. q (λ n found. let a = gives-then (target_of names name) (type_number name.left) n found in none a.0 a.1)) first)
    (λ target is more. type-number-fails P name.left target e (λ none. q (λ n found. type-number-gives name.left target n (rw is at found) none)) more) h

known-fails : (P : Fault → Type 0) (left : ℕ) (o : Option Entry) (e : Fault) → (((summary : Summary) (root : ℕ) → o ≡ Some (entries.Known summary root) → ⊥) → P (faults.Name left)) → known_of left o ≡ Err e → P e
known-fails P left (Some (entries.Known summary root)) e p h = ok-fails (summary, root) e h
known-fails P left (Some entries.Fresh) e p h = carry P (faults.Name left) e (p (λ summary root same. absurd cc)) h
known-fails P left (Some entries.Open) e p h = carry P (faults.Name left) e (p (λ summary root same. absurd cc)) h
known-fails P left None e p h = carry P (faults.Name left) e (p (λ summary root same. absurd cc)) h

known-gives : (left : ℕ) (o : Option Entry) (found : Summary × ℕ) → known_of left o ≡ Ok found → o ≡ Some (entries.Known found.0 found.1)
known-gives left (Some (entries.Known summary root)) found h =
    let same : ◌≡◌ {A = Summary × ℕ} (summary, root) found = cc in ap (λ (q : Summary × ℕ). Some (entries.Known q.0 q.1)) same
known-gives left (Some entries.Fresh) found h = absurd cc
known-gives left (Some entries.Open) found h = absurd cc
known-gives left None found h = absurd cc

scalar-fails : (P : Fault → Type 0) (left : ℕ) (part : Option Part) (e : Fault) → (IsNoScalar part → P (faults.Syntax left)) → scalar_at left part ≡ Err e → P e
scalar-fails P left (Some (parts.Int w at)) e p h = ok-fails (values.Int w) e h
scalar-fails P left (Some parts.Ptr) e p h = ok-fails values.Ptr e h
scalar-fails P left (Some (parts.Array count)) e p h = carry P (faults.Syntax left) e (p tt) h
scalar-fails P left (Some parts.Struct) e p h = carry P (faults.Syntax left) e (p tt) h
scalar-fails P left (Some parts.Packed) e p h = carry P (faults.Syntax left) e (p tt) h
scalar-fails P left (Some parts.Close) e p h = carry P (faults.Syntax left) e (p tt) h
scalar-fails P left (Some (parts.Named n at)) e p h = carry P (faults.Syntax left) e (p tt) h
scalar-fails P left None e p h = carry P (faults.Syntax left) e (p tt) h

-- two names of types are the same number
same-number : (r : Result ℕ Fault) (n m : ℕ) → r ≡ Ok n → r ≡ Ok m → n ≡ m
same-number r n m a b = cc

named-value-fails : (types : Types) (name : Name) (rest : List TypeNode) (e : Fault) → named_value types name ≡ Err e → TypeFault types (nodes.Named name ∷ rest) e
named-value-fails types name rest e h =
    chain (TypeFault types (nodes.Named name ∷ rest) e) (named_type types.names name) (named_scalar types name.left) e
    (λ first. named-type-fails (TypeFault types (nodes.Named name ∷ rest)) types.names name e (λ bad. inl bad) (λ none. (refl, λ summary root known. none known.0 known.1)) first)
    (λ n is more. chain (TypeFault types (nodes.Named name ∷ rest) e) (known_of name.left (slice_get types.entries n)) (λ found. scalar_at name.left (first_part (definition types.bodies found.1))) e
    (λ second. known-fails (TypeFault types (nodes.Named name ∷ rest)) name.left (slice_get types.entries n) e
    (λ none. (refl, λ summary root known. none summary root (ap (slice_get types.entries) (same-number (named_type types.names name) n known.0 is known.1) ∙ known.2))) second)
    (λ found made last. scalar-fails (TypeFault types (nodes.Named name ∷ rest)) name.left (first_part (definition types.bodies found.1)) e
    (λ bad. inr (found.0, found.1, (n, is, known-gives name.left (slice_get types.entries n) found made), bad)) last) more) h

part-fails : (types : Types) (node : TypeNode) (rest : List TypeNode) (e : Fault) → value_part types node ≡ Err e → TypeFault types (node ∷ rest) e
unfolding value_part
part-fails types (nodes.Void at) rest e h = ok-fails values.Void e h
part-fails types (nodes.Int digits at) rest e h =
    chain (TypeFault types (nodes.Int digits at ∷ rest) e) (width_of at (natural digits)) (λ w. Ok (values.Int w)) e
    (λ first. width-fails types digits at rest (natural digits) e refl first)
    (λ w is none. ok-fails (values.Int w) e none) h
part-fails types (nodes.Ptr at) rest e h = ok-fails values.Ptr e h
part-fails types (nodes.Named name) rest e h = named-value-fails types name rest e h
part-fails types (nodes.Array count at) rest e h = carry (TypeFault types (nodes.Array count at ∷ rest)) (faults.Syntax at) e tt h
part-fails types (nodes.Struct at) rest e h = carry (TypeFault types (nodes.Struct at ∷ rest)) (faults.Syntax at) e tt h
part-fails types (nodes.Packed at) rest e h = carry (TypeFault types (nodes.Packed at ∷ rest)) (faults.Syntax at) e tt h
part-fails types nodes.Close rest e h = carry (TypeFault types (nodes.Close ∷ rest)) (faults.Syntax 0) e tt h

pub type_fails : (types : Types) (given : List TypeNode) (e : Fault) → type_of types given ≡ Err e → TypeFault types given e
unfolding type_of
type_fails types [] e h = carry (TypeFault types []) (faults.Syntax 0) e tt h
type_fails types (node ∷ rest) e h = part-fails types node rest e h

value-target-fails : (P : Fault → Type 0) (left : ℕ) (target : Target) (e : Fault) → (((n : ℕ) → target ≡ targets.Value n → ⊥) → P (faults.Name left)) → value_number left target ≡ Err e → P e
value-target-fails P left (targets.Value n) e p h = ok-fails n e h
value-target-fails P left (targets.Block n) e p h = carry P (faults.Name left) e (p (λ m same. absurd cc)) h
value-target-fails P left (targets.Global n) e p h = carry P (faults.Name left) e (p (λ m same. absurd cc)) h
value-target-fails P left (targets.Function n) e p h = carry P (faults.Name left) e (p (λ m same. absurd cc)) h
value-target-fails P left (targets.Type n) e p h = carry P (faults.Name left) e (p (λ m same. absurd cc)) h

block-target-fails : (P : Fault → Type 0) (left : ℕ) (target : Target) (e : Fault) → (((n : ℕ) → target ≡ targets.Block n → ⊥) → P (faults.Name left)) → block_number left target ≡ Err e → P e
block-target-fails P left (targets.Block n) e p h = ok-fails n e h
block-target-fails P left (targets.Value n) e p h = carry P (faults.Name left) e (p (λ m same. absurd cc)) h
block-target-fails P left (targets.Global n) e p h = carry P (faults.Name left) e (p (λ m same. absurd cc)) h
block-target-fails P left (targets.Function n) e p h = carry P (faults.Name left) e (p (λ m same. absurd cc)) h
block-target-fails P left (targets.Type n) e p h = carry P (faults.Name left) e (p (λ m same. absurd cc)) h

-- a block's name fails
pub block_fails : (table : Table) (name : Name) (e : Fault) → block_of table name ≡ Err e → BlockFault table name e
unfolding block_of
block_fails table name e h =
    chain (BlockFault table name e) (target_of table name) (block_number name.left) e (λ first. target-fails (BlockFault table name) table name e (λ bad. bad) (λ none. (refl, λ n found. none (targets.Block n) found)) first) (λ target is more. block-target-fails (BlockFault table name) name.left target e (λ none. (refl, λ n found. none n cc)) more) h

global-target-fails : (types : Types) (symbols : Symbols) (table : Table) (ty : Ty) (given : Address) (target : Target) (e : Fault) → named_target symbols given.name ≡ Ok target → global_number given.name.left target ≡ Err e → ValueFault types symbols table ty (written.Address given) e
global-target-fails types symbols table ty given (targets.Global n) e is h = ok-fails n e h
global-target-fails types symbols table ty given (targets.Function n) e is h = carry (ValueFault types symbols table ty (written.Address given)) (faults.LeftOut given.name.left) e (inl (refl, (n, is))) h
global-target-fails types symbols table ty given (targets.Value n) e is h = carry (ValueFault types symbols table ty (written.Address given)) (faults.Name given.name.left) e (inl (refl, ((λ g. let h = g.1 in absurd cc), (λ g. let h = g.1 in absurd cc)))) h
global-target-fails types symbols table ty given (targets.Block n) e is h = carry (ValueFault types symbols table ty (written.Address given)) (faults.Name given.name.left) e (inl (refl, ((λ g. let h = g.1 in absurd cc), (λ g. let h = g.1 in absurd cc)))) h
global-target-fails types symbols table ty given (targets.Type n) e is h = carry (ValueFault types symbols table ty (written.Address given)) (faults.Name given.name.left) e (inl (refl, ((λ g. let h = g.1 in absurd cc), (λ g. let h = g.1 in absurd cc)))) h

nowhere-shows : (types : Types) (symbols : Symbols) (table : Table) (ty : Ty) (given : Address) (e : Fault) → way_of types given ≡ Err e → ValueFault types symbols table ty (written.Address given) e
nowhere-shows types symbols table ty given faults.NoMemory h = h
nowhere-shows types symbols table ty given (faults.Syntax left) h = inr (inr (left, h))
nowhere-shows types symbols table ty given (faults.LeftOut left) h = inr h
nowhere-shows types symbols table ty given (faults.Name left) h = inr h
nowhere-shows types symbols table ty given (faults.Limit what count) h = h

-- the steps behind the name of a constant place
abbrev way_part : Types → Address → ℕ → Result (ℕ × ℕ) Fault
way_part types given global = walk (way_step types given.heads) (record { heads = length given.heads; offset = 0 }) given.tails >>= λ way. no_head_left given.left way >>= λ offset. Ok (global, offset)

way-fails : (types : Types) (given : Address) (global : ℕ) (e : Fault) → way_part types given global ≡ Err e → way_of types given ≡ Err e
way-fails types given global e h =
    chain (way_of types given ≡ Err e) (walk (way_step types given.heads) (record { heads = length given.heads; offset = 0 }) given.tails) (λ way. no_head_left given.left way >>= λ offset. Ok (global, offset)) e
    (λ first. rw first refl)
    (λ way is more. chain (way_of types given ≡ Err e) (no_head_left given.left way) (λ offset. Ok (global, offset)) e
    (λ second. rw is second)
    (λ offset made none. ok-fails _ e none) more) h

named-place-fails : (types : Types) (symbols : Symbols) (table : Table) (ty : Ty) (given : Address) (e : Fault) → address types symbols given ≡ Err e → ValueFault types symbols table ty (written.Address given) e
unfolding address
named-place-fails types symbols table ty given e h =
    chain (ValueFault types symbols table ty (written.Address given) e) (named_target symbols given.name) (λ target. global_number given.name.left target >>= λ global. way_part types given global) e
    (λ first. named-fails (ValueFault types symbols table ty (written.Address given)) symbols given.name e (λ bad. inr (inl bad)) (λ none. inl (refl, ((λ g. none (targets.Global g.0) g.1), (λ g. none (targets.Function g.0) g.1)))) first)
    (λ target is more. chain (ValueFault types symbols table ty (written.Address given) e) (global_number given.name.left target) (λ global. way_part types given global) e
    (λ second. global-target-fails types symbols table ty given target e is second)
    (λ global made last. nowhere-shows types symbols table ty given e (way-fails types given global e last)) more) h

place-fails : (types : Types) (symbols : Symbols) (table : Table) (ty : Ty) (given : Address) (e : Fault) → place_operand types symbols given ≡ Err e → ValueFault types symbols table ty (written.Address given) e
place-fails types symbols table ty given e h =
    chain (ValueFault types symbols table ty (written.Address given) e) (address types symbols given) (λ place. Ok (operands.Place place.0 place.1)) e
    (λ first. named-place-fails types symbols table ty given e first)
    (λ place made none. ok-fails (operands.Place place.0 place.1) e none) h

address-fails : (types : Types) (symbols : Symbols) (table : Table) (ty : Ty) (given : Address) (e : Fault) → address_operand types symbols ty given ≡ Err e → ValueFault types symbols table ty (written.Address given) e
address-fails types symbols table values.Ptr given e h = place-fails types symbols table values.Ptr given e h
address-fails types symbols table values.Void given e h = carry (ValueFault types symbols table values.Void (written.Address given)) (faults.Syntax given.left) e (inl refl) h
address-fails types symbols table (values.Int w) given e h = carry (ValueFault types symbols table (values.Int w) (written.Address given)) (faults.Syntax given.left) e (inl refl) h

local-fails : (types : Types) (symbols : Symbols) (table : Table) (ty : Ty) (name : Name) (e : Fault) → local_operand table name ≡ Err e → ValueFault types symbols table ty (written.Local name) e
unfolding local_operand
local-fails types symbols table ty name e h =
    chain (ValueFault types symbols table ty (written.Local name) e) (target_of table name) (λ target. value_number name.left target >>= λ n. Ok (operands.Value n)) e (λ first. target-fails (ValueFault types symbols table ty (written.Local name)) table name e (λ bad. bad) (λ none. inl (refl, λ n found. none (targets.Value n) found)) first)
    (λ target is more. chain (ValueFault types symbols table ty (written.Local name) e) (value_number name.left target) (λ n. Ok (operands.Value n)) e (λ first. value-target-fails (ValueFault types symbols table ty (written.Local name)) name.left target e (λ none. inl (refl, λ n found. none n cc)) first) (λ n made none. ok-fails (operands.Value n) e none) more) h

literal-fails : (P : Fault → Type 0) (number : Number) (w : ℕ) (e : Fault) → (literal_from w number.is_negative (natural number.digits) ≡ None → P (faults.Syntax number.left)) → literal_of number w ≡ Err e → P e
unfolding literal_of
literal-fails P number w e p h = or_fault-fails P (faults.Syntax number.left) (literal_from w number.is_negative (natural number.digits)) e p h

number-operand-fails : (types : Types) (symbols : Symbols) (table : Table) (ty : Ty) (number : Number) (e : Fault) → number_operand ty number ≡ Err e → ValueFault types symbols table ty (written.Number number) e
number-operand-fails types symbols table (values.Int w) number e h =
    chain (ValueFault types symbols table (values.Int w) (written.Number number) e) (literal_of number w) (λ n. Ok (operands.Num n)) e (λ first. literal-fails (ValueFault types symbols table (values.Int w) (written.Number number)) number w e (λ none. none) first) (λ n is more. ok-fails (operands.Num n) e more) h
number-operand-fails types symbols table values.Void number e h = carry (ValueFault types symbols table values.Void (written.Number number)) (faults.Syntax number.left) e tt h
number-operand-fails types symbols table values.Ptr number e h = carry (ValueFault types symbols table values.Ptr (written.Number number)) (faults.Syntax number.left) e tt h

pub where-fails : (P : Fault → Type 0) (fits : Bool) (left : ℕ) (given : Operand) (e : Fault) → (fits ≡ false → P (faults.Syntax left)) → where_ty fits left given ≡ Err e → P e
where-fails P true left given e p h = ok-fails given e h
where-fails P false left given e p h = carry P (faults.Syntax left) e (p refl) h

not-false : (b : Bool) → not b ≡ false → b ≡ true
not-false true h = refl
not-false false h = absurd cc

-- an operand of a type fails
pub value_fails : (types : Types) (symbols : Symbols) (table : Table) (ty : Ty) (value : Value) (e : Fault) → operand types symbols table ty value ≡ Err e → ValueFault types symbols table ty value e
unfolding operand
value_fails types symbols table ty (written.Local name) e h = local-fails types symbols table ty name e h
value_fails types symbols table ty (written.Number number) e h = number-operand-fails types symbols table ty number e h
value_fails types symbols table ty (written.True left) e h = where-fails (ValueFault types symbols table ty (written.True left)) (is_ty ty (values.Int 1)) left (operands.Num 1) e (λ bad. bad) h
value_fails types symbols table ty (written.False left) e h = where-fails (ValueFault types symbols table ty (written.False left)) (is_ty ty (values.Int 1)) left (operands.Num 0) e (λ bad. bad) h
value_fails types symbols table ty (written.Null left) e h = where-fails (ValueFault types symbols table ty (written.Null left)) (is_ty ty values.Ptr) left operands.Null e (λ bad. bad) h
value_fails types symbols table ty (written.Poison left) e h = where-fails (ValueFault types symbols table ty (written.Poison left)) (not (is_ty ty values.Void)) left operands.Poison e (λ bad. not-false (is_ty ty values.Void) bad) h
value_fails types symbols table ty (written.Address given) e h = address-fails types symbols table ty given e h
