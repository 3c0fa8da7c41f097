-- Printed operations of a fixed number of operands are read as their trees.
use Rattle.std.proofs.Common.{◌≡◌, ℕ, false, List, ◌∷◌, ◌++◌, Some, None, refl, sym, ◌∙◌, ap, subst}
use Rattle.std.specs.Prelude.{codes, decimal}
use Rattle.std.specs.Str.{bytes_eq}
use Rattle.ir_text.specs.declared.name.Name.{Name}
use Rattle.ir_text.specs.Token.{word, is_name_byte, begins, token_at, behind_blanks}
use Rattle.ir_text.specs.Form.{taken}
use Rattle.ir_text.specs.Words.{punctuation, keyword, local_name}
use Rattle.ir_core.specs.declared.types.Ty.{Ty}
use Rattle.ir_core.specs.declared.types.Ty.TheVariants as values
use Rattle.ir_core.specs.declared.code.Flags.{Flags}
use Rattle.ir_core.specs.declared.code.BinOp.{BinOp}
use Rattle.ir_core.specs.declared.code.CastOp.{CastOp}
use Rattle.ir_core.specs.declared.code.Pred.{Pred}
use Rattle.ir_core.specs.declared.code.Operand.{Operand}
use Rattle.ir_core.specs.declared.program.Global.{Global}
use Rattle.ir_grammar.specs.declared.type_tree.TypeNode.{TypeNode}
use Rattle.ir_grammar.specs.Operators.{samesign_flag, flags_of, binary_of, cast_of, predicate_of, binary_name, cast_name}
use Rattle.ir_grammar.specs.Types.{type_form}
use Rattle.ir_value_trees.specs.declared.value_tree.Value.{Value}
use Rattle.ir_value_trees.specs.declared.value_tree.Typed.{Typed}
use Rattle.ir_value_trees.specs.Values.{operand, typed}
use Rattle.ir_instruction_trees.specs.declared.tree.Operation.TheVariants as operations
use Rattle.ir_instruction_trees.specs.Instructions.{binary, comparison, cast, selection, freezing, loading, storing, returning, branch, label_of_block}
use Rattle.ir_print.specs.Types.{ty_text}
use Rattle.ir_print.specs.Values.{operand_text, typed_text}
use Rattle.ir_print.specs.Instructions.{flags_text, binary_word, cast_word, predicate_word, block_text}
use Rattle.ir_print_laws.specs.FormTrees.{IsBlockName, IsTyTree, IsOperandTree, IsTypedTree}
use Rattle.ir_print_laws.specs.Instructions.{HasValues}
use Rattle.ir_print_laws.specs.Operators.{allowed_of, allowed_of_cast, masked}
use Rattle.ir_print_laws.proofs.Joined.{◌▸◌, nest3, nest4, nest5, nest6}
use Rattle.ir_print_laws.proofs.Tokens.{Ends, token_blank, int_token, void_token, ptr_token}
use Rattle.ir_print_laws.proofs.Segments.{IsBlind, blind-then}
use Rattle.ir_print_laws.proofs.Marks.{blind-local_name, comma_here, block_here}
use Rattle.ir_print_laws.proofs.TypesBack.{ty_back, blind-type_form}
use Rattle.ir_print_laws.proofs.ValuesBack.{operand_back, TypedIsRead, typed_back}
use Rattle.ir_print_laws.proofs.FlagsBack.{binary_flags, cast_flags, predicate_flags, WordStands, binary_stands, cast_stands, PredicateStands, predicate_stands, TypeStands, type_stands}

pub blind-typed : IsBlind typed
unfolding typed
blind-typed = blind-then _ _ blind-type_form

-- a blank, a comma and other marks of a line end names
pub blank_ends : (t : List ℕ) → Ends (32 ∷ t)
blank_ends t = record { no_name = refl; no_colon = refl }

pub comma_ends : (t : List ℕ) → Ends (44 ∷ t)
comma_ends t = record { no_name = refl; no_colon = refl }

-- `T V` behind a blank
pub typed_here : (globals : List Global) (ty : Ty) (one : Operand) (r : List ℕ) → Ends r → TypedIsRead globals ty one (32 ∷ typed_text globals ty one ++ r) r
typed_here globals ty one r ends =
    let h = typed_back globals ty one r ends in
    record { value = h.value; read = blind-typed.skips 32 refl (typed_text globals ty one ++ r) h.value r h.read; tree = h.tree }

-- the first word of `T V`
typed_stands : (globals : List Global) (ty : Ty) (one : Operand) (r : List ℕ) → TypeStands (typed_text globals ty one ++ r) (32 ∷ operand_text globals ty one ++ r)
typed_stands globals ty one r =
    let u = 32 ∷ operand_text globals ty one ++ r in
    subst (λ (t : List ℕ). TypeStands t u) (sym (nest3 (ty_text ty) (codes " ") (operand_text globals ty one) r)) (type_stands ty u (blank_ends _))

-- ---- operators of two operands

abbrev two_text : List Global → Ty → Operand → Operand → List ℕ → List ℕ
two_text globals ty a b r = typed_text globals ty a ▸ 44 ∷ 32 ∷ operand_text globals ty b ▸ r

binary_is : (op : BinOp) (flags : Flags) (left : Typed) (right : Value) (t u v w x r : List ℕ) → (taken binary_of).Is t (op, allowed_of op) u → (flags_of (allowed_of op)).Is u flags v → typed.Is v left w → (punctuation 44).Is w tt x → operand.Is x right r
    → binary.Is t (operations.Binary op flags left right) r
unfolding binary
binary_is op flags left right t u v w x r a b c d e = ((op, allowed_of op), u, a, (flags, v, b, (left, w, c, (tt, x, d, (right, r, e, (refl, refl))))))

binary_taken : (op : BinOp) (t u : List ℕ) → WordStands binary_name (op, allowed_of op) t u → (taken binary_of).Is t (op, allowed_of op) u
binary_taken op t u s = rw s.token (s.says, refl)

binary_text : (globals : List Global) (op : BinOp) (flags : Flags) (ty : Ty) (a b : Operand) (r : List ℕ)
    → (binary_word op ++ flags_text flags ++ typed_text globals ty a ++ codes ", " ++ operand_text globals ty b) ++ r ≡ binary_word op ▸ flags_text flags ▸ two_text globals ty a b r
binary_text globals op flags ty a b r = nest5 (binary_word op) (flags_text flags) (typed_text globals ty a) (codes ", ") (operand_text globals ty b) r

pub binary_back : (globals : List Global) (gives : Ty) (op : BinOp) (flags : Flags) (a b : Operand) (r : List ℕ) → masked (allowed_of op) flags ≡ flags → Ends r
    → (left : Typed) × (right : Value) × binary.Is ((binary_word op ++ flags_text flags ++ typed_text globals gives a ++ codes ", " ++ operand_text globals gives b) ++ r) (operations.Binary op flags left right) r
    × IsTypedTree globals gives a left × IsOperandTree globals gives b right
binary_back globals gives op flags a b r allowed ends =
    let z = 32 ∷ operand_text globals gives b ++ r in
    let y = two_text globals gives a b r in
    let stands = binary_stands op (flags_text flags ++ y) in
    let first = typed_stands globals gives a (44 ∷ z) in
    let read_flags = binary_flags op flags allowed first.name y _ first.token first.other in
    let left = typed_here globals gives a (44 ∷ z) (comma_ends z) in
    let right = operand_back globals gives b r ends in
    let read = binary_is op flags left.value right.value _ _ _ _ _ r (binary_taken op _ _ stands) read_flags left.read (comma_here z) right.read in
    (left.value, right.value, subst (λ (t : List ℕ). binary.Is t (operations.Binary op flags left.value right.value) r) (sym (binary_text globals op flags gives a b r)) read, left.tree, right.tree)

-- ---- comparisons

comparison_word : (t : List ℕ) → (keyword (codes "icmp")).Is (codes "icmp " ++ t) tt (32 ∷ t)
unfolding keyword token_at behind_blanks
comparison_word t = (refl, refl)

predicate_taken : (one : Pred) (t u : List ℕ) → PredicateStands one t u → (taken predicate_of).Is (32 ∷ t) one u
predicate_taken one t u s = rw (token_blank t, s.token) (s.says, refl)

comparison_is : (flags : Flags) (one : Pred) (left : Typed) (right : Value) (t u v w x y r : List ℕ) → (keyword (codes "icmp")).Is t tt u → (flags_of samesign_flag).Is u flags v → (taken predicate_of).Is v one w → typed.Is w left x → (punctuation 44).Is x tt y → operand.Is y right r
    → comparison.Is t (operations.Icmp flags one left right) r
unfolding comparison
comparison_is flags one left right t u v w x y r a b c d e f = (tt, u, a, (flags, v, b, (one, w, c, (left, x, d, (tt, y, e, (right, r, f, (refl, refl)))))))

comparison_text : (globals : List Global) (one : Pred) (flags : Flags) (ty : Ty) (a b : Operand) (r : List ℕ)
    → (codes "icmp " ++ flags_text flags ++ predicate_word one ++ typed_text globals ty a ++ codes ", " ++ operand_text globals ty b) ++ r ≡ codes "icmp " ▸ flags_text flags ▸ predicate_word one ▸ two_text globals ty a b r
comparison_text globals one flags ty a b r = nest6 (codes "icmp ") (flags_text flags) (predicate_word one) (typed_text globals ty a) (codes ", ") (operand_text globals ty b) r

pub comparison_back : (globals : List Global) (ty : Ty) (one : Pred) (flags : Flags) (a b : Operand) (r : List ℕ) → masked samesign_flag flags ≡ flags → Ends r
    → (left : Typed) × (right : Value) × comparison.Is ((codes "icmp " ++ flags_text flags ++ predicate_word one ++ typed_text globals ty a ++ codes ", " ++ operand_text globals ty b) ++ r) (operations.Icmp flags one left right) r
    × IsTypedTree globals ty a left × IsOperandTree globals ty b right
comparison_back globals ty one flags a b r allowed ends =
    let z = 32 ∷ operand_text globals ty b ++ r in
    let y = two_text globals ty a b r in
    let stands = predicate_stands one y in
    let read_flags = predicate_flags flags allowed stands.name (predicate_word one ▸ y) _ stands.token stands.other in
    let left = typed_here globals ty a (44 ∷ z) (comma_ends z) in
    let right = operand_back globals ty b r ends in
    let read = comparison_is flags one left.value right.value _ _ _ _ _ _ r (comparison_word (flags_text flags ▸ predicate_word one ▸ y)) read_flags (predicate_taken one _ _ stands) left.read (comma_here z) right.read in
    (left.value, right.value, subst (λ (t : List ℕ). comparison.Is t (operations.Icmp flags one left.value right.value) r) (sym (comparison_text globals one flags ty a b r)) read, left.tree, right.tree)

-- ---- casts

cast_taken : (op : CastOp) (t u : List ℕ) → WordStands cast_name (op, allowed_of_cast op) t u → (taken cast_of).Is t (op, allowed_of_cast op) u
cast_taken op t u s = rw s.token (s.says, refl)

to_word : (t : List ℕ) → (keyword (codes "to")).Is (codes " to " ++ t) tt (32 ∷ t)
unfolding keyword token_at behind_blanks
to_word t = (refl, refl)

cast_is : (op : CastOp) (flags : Flags) (value : Typed) (ty : List TypeNode) (t u v w x r : List ℕ) → (taken cast_of).Is t (op, allowed_of_cast op) u → (flags_of (allowed_of_cast op)).Is u flags v → typed.Is v value w → (keyword (codes "to")).Is w tt x → type_form.Is x ty r
    → cast.Is t (operations.Cast op flags value ty) r
unfolding cast
cast_is op flags value ty t u v w x r a b c d e = ((op, allowed_of_cast op), u, a, (flags, v, b, (value, w, c, (tt, x, d, (ty, r, e, (refl, refl))))))

cast_text : (globals : List Global) (op : CastOp) (flags : Flags) (from gives : Ty) (a : Operand) (r : List ℕ)
    → (cast_word op ++ flags_text flags ++ typed_text globals from a ++ codes " to " ++ ty_text gives) ++ r ≡ cast_word op ▸ flags_text flags ▸ typed_text globals from a ▸ codes " to " ▸ ty_text gives ▸ r
cast_text globals op flags from gives a r = nest5 (cast_word op) (flags_text flags) (typed_text globals from a) (codes " to ") (ty_text gives) r

pub cast_back : (globals : List Global) (from gives : Ty) (op : CastOp) (flags : Flags) (a : Operand) (r : List ℕ) → masked (allowed_of_cast op) flags ≡ flags → Ends r
    → (value : Typed) × (ty : List TypeNode) × cast.Is ((cast_word op ++ flags_text flags ++ typed_text globals from a ++ codes " to " ++ ty_text gives) ++ r) (operations.Cast op flags value ty) r
    × IsTypedTree globals from a value × IsTyTree gives ty
cast_back globals from gives op flags a r allowed ends =
    let z = ty_text gives ++ r in
    let y = typed_text globals from a ▸ codes " to " ▸ z in
    let stands = cast_stands op (flags_text flags ++ y) in
    let first = typed_stands globals from a (codes " to " ++ z) in
    let read_flags = cast_flags op flags allowed first.name y _ first.token first.other in
    let value = typed_here globals from a (codes " to " ++ z) (blank_ends _) in
    let ty = ty_back gives r ends in
    let read = cast_is op flags value.value ty.parts _ _ _ _ _ r (cast_taken op _ _ stands) read_flags value.read (to_word z) (blind-type_form.skips 32 refl z ty.parts r ty.read) in
    (value.value, ty.parts, subst (λ (t : List ℕ). cast.Is t (operations.Cast op flags value.value ty.parts) r) (sym (cast_text globals op flags from gives a r)) read, value.tree, ty.tree)

-- ---- a word, and typed operands

select_word : (t : List ℕ) → (keyword (codes "select")).Is (codes "select " ++ t) tt (32 ∷ t)
unfolding keyword token_at behind_blanks
select_word t = (refl, refl)

freeze_word : (t : List ℕ) → (keyword (codes "freeze")).Is (codes "freeze " ++ t) tt (32 ∷ t)
unfolding keyword token_at behind_blanks
freeze_word t = (refl, refl)

load_word : (t : List ℕ) → (keyword (codes "load")).Is (codes "load " ++ t) tt (32 ∷ t)
unfolding keyword token_at behind_blanks
load_word t = (refl, refl)

store_word : (t : List ℕ) → (keyword (codes "store")).Is (codes "store " ++ t) tt (32 ∷ t)
unfolding keyword token_at behind_blanks
store_word t = (refl, refl)

selection_is : (test left right : Typed) (t u v w x y r : List ℕ) → (keyword (codes "select")).Is t tt u → typed.Is u test v → (punctuation 44).Is v tt w → typed.Is w left x → (punctuation 44).Is x tt y → typed.Is y right r → selection.Is t (operations.Select test left right) r
unfolding selection
selection_is test left right t u v w x y r a b c d e f = (tt, u, a, (test, v, b, (tt, w, c, (left, x, d, (tt, y, e, (right, r, f, (refl, refl)))))))

select_text : (globals : List Global) (gives : Ty) (condition a b : Operand) (r : List ℕ)
    → (codes "select " ++ typed_text globals (values.Int 1) condition ++ codes ", " ++ typed_text globals gives a ++ codes ", " ++ typed_text globals gives b) ++ r
    ≡ codes "select " ▸ typed_text globals (values.Int 1) condition ▸ codes ", " ▸ typed_text globals gives a ▸ codes ", " ▸ typed_text globals gives b ▸ r
select_text globals gives condition a b r = nest6 (codes "select ") (typed_text globals (values.Int 1) condition) (codes ", ") (typed_text globals gives a) (codes ", ") (typed_text globals gives b) r

pub select_back : (globals : List Global) (gives : Ty) (condition a b : Operand) (r : List ℕ) → Ends r
    → (test left right : Typed) × selection.Is ((codes "select " ++ typed_text globals (values.Int 1) condition ++ codes ", " ++ typed_text globals gives a ++ codes ", " ++ typed_text globals gives b) ++ r) (operations.Select test left right) r
    × IsTypedTree globals (values.Int 1) condition test × IsTypedTree globals gives a left × IsTypedTree globals gives b right
select_back globals gives condition a b r ends =
    let z = 32 ∷ typed_text globals gives b ++ r in
    let y = 32 ∷ typed_text globals gives a ▸ 44 ∷ z in
    let test = typed_here globals (values.Int 1) condition (44 ∷ y) (comma_ends y) in
    let left = typed_here globals gives a (44 ∷ z) (comma_ends z) in
    let right = typed_here globals gives b r ends in
    let read = selection_is test.value left.value right.value _ _ _ _ _ _ r (select_word _) test.read (comma_here y) left.read (comma_here z) right.read in
    (test.value, left.value, right.value, subst (λ (t : List ℕ). selection.Is t (operations.Select test.value left.value right.value) r) (sym (select_text globals gives condition a b r)) read, test.tree, left.tree, right.tree)

freezing_is : (value : Typed) (t u r : List ℕ) → (keyword (codes "freeze")).Is t tt u → typed.Is u value r → freezing.Is t (operations.Freeze value) r
unfolding freezing
freezing_is value t u r a b = (tt, u, a, (value, r, b, (refl, refl)))

pub freeze_back : (globals : List Global) (gives : Ty) (a : Operand) (r : List ℕ) → Ends r
    → (value : Typed) × freezing.Is ((codes "freeze " ++ typed_text globals gives a) ++ r) (operations.Freeze value) r × IsTypedTree globals gives a value
freeze_back globals gives a r ends =
    let value = typed_here globals gives a r ends in
    (value.value, freezing_is value.value _ _ r (freeze_word _) value.read, value.tree)

loading_is : (ty : List TypeNode) (from : Typed) (t u v w r : List ℕ) → (keyword (codes "load")).Is t tt u → type_form.Is u ty v → (punctuation 44).Is v tt w → typed.Is w from r → loading.Is t (operations.Load ty from) r
unfolding loading
loading_is ty from t u v w r a b c d = (tt, u, a, (ty, v, b, (tt, w, c, (from, r, d, (refl, refl)))))

pub load_back : (globals : List Global) (gives : Ty) (address : Operand) (r : List ℕ) → Ends r
    → (ty : List TypeNode) × (from : Typed) × loading.Is ((codes "load " ++ ty_text gives ++ codes ", " ++ typed_text globals values.Ptr address) ++ r) (operations.Load ty from) r × IsTyTree gives ty × IsTypedTree globals values.Ptr address from
load_back globals gives address r ends =
    let z = 32 ∷ typed_text globals values.Ptr address ++ r in
    let ty = ty_back gives (44 ∷ z) (comma_ends z) in
    let from = typed_here globals values.Ptr address r ends in
    let read = loading_is ty.parts from.value _ _ _ _ r (load_word (ty_text gives ++ 44 ∷ z)) (blind-type_form.skips 32 refl (ty_text gives ++ 44 ∷ z) ty.parts (44 ∷ z) ty.read) (comma_here z) from.read in
    let text : (codes "load " ++ ty_text gives ++ codes ", " ++ typed_text globals values.Ptr address) ++ r ≡ codes "load " ▸ ty_text gives ▸ 44 ∷ z =
    nest4 (codes "load ") (ty_text gives) (codes ", ") (typed_text globals values.Ptr address) r in
    (ty.parts, from.value, subst (λ (t : List ℕ). loading.Is t (operations.Load ty.parts from.value) r) (sym text) read, ty.tree, from.tree)

storing_is : (given into : Typed) (t u v w r : List ℕ) → (keyword (codes "store")).Is t tt u → typed.Is u given v → (punctuation 44).Is v tt w → typed.Is w into r → storing.Is t (operations.Store given into) r
unfolding storing
storing_is given into t u v w r a b c d = (tt, u, a, (given, v, b, (tt, w, c, (into, r, d, (refl, refl)))))

pub store_back : (globals : List Global) (ty : Ty) (value address : Operand) (r : List ℕ) → Ends r
    → (given into : Typed) × storing.Is ((codes "store " ++ typed_text globals ty value ++ codes ", " ++ typed_text globals values.Ptr address) ++ r) (operations.Store given into) r × IsTypedTree globals ty value given × IsTypedTree globals values.Ptr address into
store_back globals ty value address r ends =
    let z = 32 ∷ typed_text globals values.Ptr address ++ r in
    let given = typed_here globals ty value (44 ∷ z) (comma_ends z) in
    let into = typed_here globals values.Ptr address r ends in
    let read = storing_is given.value into.value _ _ _ _ r (store_word _) given.read (comma_here z) into.read in
    let text : (codes "store " ++ typed_text globals ty value ++ codes ", " ++ typed_text globals values.Ptr address) ++ r ≡ codes "store " ▸ typed_text globals ty value ▸ 44 ∷ z =
    nest4 (codes "store ") (typed_text globals ty value) (codes ", ") (typed_text globals values.Ptr address) r in
    (given.value, into.value, subst (λ (t : List ℕ). storing.Is t (operations.Store given.value into.value) r) (sym text) read, given.tree, into.tree)

-- ---- branches and returns

label_word : (t : List ℕ) → (keyword (codes "label")).Is (codes " label " ++ t) tt (32 ∷ t)
unfolding keyword token_at behind_blanks
label_word t = (refl, refl)

label_is : (name : Name) (t u r : List ℕ) → (keyword (codes "label")).Is t tt u → local_name.Is u name r → label_of_block.Is t name r
unfolding label_of_block
label_is name t u r a b = (tt, u, a, b)

-- ` label %bK`
pub label_here : (block : ℕ) (r : List ℕ) → begins is_name_byte r ≡ false → (name : Name) × label_of_block.Is (32 ∷ block_text block ++ r) name r × IsBlockName block name
label_here block r ends =
    let h = block_here block r ends in
    (h.0, label_is h.0 _ _ r (label_word (37 ∷ 98 ∷ decimal block ++ r)) (blind-local_name.skips 32 refl (37 ∷ 98 ∷ decimal block ++ r) h.0 r h.1), h.2)

branch_word : (t : List ℕ) → (keyword (codes "br")).Is (codes "br " ++ t) tt (32 ∷ t)
unfolding keyword token_at behind_blanks
branch_word t = (refl, refl)

label_token : (t : List ℕ) → token_at (codes " label " ++ t) ≡ (word (codes "label"), 32 ∷ t)
unfolding token_at behind_blanks
label_token t = refl

jump_is : (name : Name) (t u v r : List ℕ) → (keyword (codes "br")).Is t tt u → token_at u ≡ (word (codes "label"), v) → label_of_block.Is u name r → branch.Is t (operations.Br name) r
unfolding branch
jump_is name t u v r a e b = (tt, u, a, rw e (name, r, b, (refl, refl)))

pub jump_back : (block : ℕ) (r : List ℕ) → Ends r → (name : Name) × branch.Is ((codes "br " ++ block_text block) ++ r) (operations.Br name) r × IsBlockName block name
jump_back block r ends =
    let h = label_here block r ends.no_name in
    (h.0, jump_is h.0 _ _ _ r (branch_word (block_text block ++ r)) (label_token (37 ∷ 98 ∷ decimal block ++ r)) h.1, h.2)

fork_is : (test : Typed) (one other : Name) (t u v w x y z r : List ℕ) (name after : List ℕ) → (keyword (codes "br")).Is t tt u → token_at u ≡ (word name, after) → bytes_eq name (codes "label") ≡ false → typed.Is u test v → (punctuation 44).Is v tt w → label_of_block.Is w one x
    → (punctuation 44).Is x tt y → label_of_block.Is y other r → branch.Is t (operations.CondBr test one other) r
unfolding branch
fork_is test one other t u v w x y z r name after a e apart b c d f g = (tt, u, a, rw (e, apart) (test, v, b, (tt, w, c, (one, x, d, (tt, y, f, (other, r, g, (refl, refl)))))))

bit_apart : bytes_eq (105 ∷ decimal 1) (codes "label") ≡ false
bit_apart = refl

pub fork_back : (globals : List Global) (condition : Operand) (first second : ℕ) (r : List ℕ) → Ends r
    → (test : Typed) × (one other : Name) × branch.Is ((codes "br " ++ typed_text globals (values.Int 1) condition ++ codes ", " ++ block_text first ++ codes ", " ++ block_text second) ++ r) (operations.CondBr test one other) r
    × IsTypedTree globals (values.Int 1) condition test × IsBlockName first one × IsBlockName second other
fork_back globals condition first second r ends =
    let z = 32 ∷ block_text second ++ r in
    let y = 32 ∷ block_text first ▸ 44 ∷ z in
    let t = typed_text globals (values.Int 1) condition ▸ 44 ∷ y in
    let test = typed_here globals (values.Int 1) condition (44 ∷ y) (comma_ends y) in
    let stands : token_at (typed_text globals (values.Int 1) condition ++ 44 ∷ y) ≡ (word (105 ∷ decimal 1), 32 ∷ operand_text globals (values.Int 1) condition ++ 44 ∷ y) =
    ap (λ (x : List ℕ). token_at x) (nest3 (ty_text (values.Int 1)) (codes " ") (operand_text globals (values.Int 1) condition) (44 ∷ y)) ∙ int_token 1 (32 ∷ operand_text globals (values.Int 1) condition ++ 44 ∷ y) (blank_ends _) in
    let one = label_here first (44 ∷ z) refl in
    let other = label_here second r ends.no_name in
    let read = fork_is test.value one.0 other.0 (codes "br " ▸ t) (32 ∷ t) (44 ∷ y) y (44 ∷ z) z z r _ _ (branch_word t) (token_blank t ∙ stands) bit_apart test.read (comma_here y) one.1 (comma_here z) other.1 in
    let text = nest6 (codes "br ") (typed_text globals (values.Int 1) condition) (codes ", ") (block_text first) (codes ", ") (block_text second) r in
    (test.value, one.0, other.0, subst (λ (x : List ℕ). branch.Is x (operations.CondBr test.value one.0 other.0) r) (sym text) read, test.tree, one.2, other.2)

ret_word : (t : List ℕ) → (keyword (codes "ret")).Is (codes "ret " ++ t) tt (32 ∷ t)
unfolding keyword token_at behind_blanks
ret_word t = (refl, refl)

ret_void_is : (ty : List TypeNode) (t u v r : List ℕ) → (keyword (codes "ret")).Is t tt u → token_at u ≡ (word (codes "void"), v) → type_form.Is u ty r → returning.Is t (operations.Ret ty None) r
unfolding returning
ret_void_is ty t u v r a e b = (tt, u, a, rw e (ty, r, b, (refl, refl)))

pub ret_void_back : (r : List ℕ) → Ends r → (ty : List TypeNode) × returning.Is (codes "ret void" ++ r) (operations.Ret ty None) r × IsTyTree values.Void ty
ret_void_back r ends =
    let t = codes "void" ++ r in
    let ty = ty_back values.Void r ends in
    (ty.parts, ret_void_is ty.parts (codes "ret void" ++ r) (32 ∷ t) _ r (ret_word t) (token_blank t ∙ void_token r ends) (blind-type_form.skips 32 refl t ty.parts r ty.read), ty.tree)

ret_is : (given : Typed) (t u r : List ℕ) (name after : List ℕ) → (keyword (codes "ret")).Is t tt u → token_at u ≡ (word name, after) → bytes_eq name (codes "void") ≡ false → typed.Is u given r → returning.Is t (operations.Ret given.ty (Some given.value)) r
unfolding returning
ret_is given t u r name after a e apart b = (tt, u, a, rw (e, apart) (given, r, b, (refl, refl)))

value_word : (ty : Ty) (u : List ℕ) → HasValues ty → Ends u → (name : List ℕ) × (token_at (ty_text ty ++ u) ≡ (word name, u)) × (bytes_eq name (codes "void") ≡ false)
value_word values.Void u has ends = absurd has
value_word (values.Int w) u has ends = (105 ∷ decimal w, int_token w u ends, refl)
value_word values.Ptr u has ends = (codes "ptr", ptr_token u ends, refl)

pub ret_back : (globals : List Global) (ret : Ty) (value : Operand) (r : List ℕ) → HasValues ret → Ends r
    → (given : Typed) × returning.Is ((codes "ret " ++ typed_text globals ret value) ++ r) (operations.Ret given.ty (Some given.value)) r × IsTypedTree globals ret value given
ret_back globals ret value r has ends =
    let t = typed_text globals ret value ++ r in
    let u = 32 ∷ operand_text globals ret value ++ r in
    let w = value_word ret u has (blank_ends _) in
    let given = typed_here globals ret value r ends in
    let stands = ap (λ (x : List ℕ). token_at x) (nest3 (ty_text ret) (codes " ") (operand_text globals ret value) r) ∙ w.1 in
    (given.value, ret_is given.value (codes "ret " ▸ t) (32 ∷ t) r w.0 _ (ret_word t) (token_blank t ∙ stands) w.2 given.read, given.tree)
