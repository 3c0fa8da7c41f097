-- Printed initial values are read as their trees.
use Rattle.std.proofs.Common.{◌≡◌, ℕ, suc, ◌+◌, ◌*◌, ◌<◌, ◌≤◌, Bool, true, false, List, [], ◌∷◌, ◌++◌, Option, Some, length, map, slice_get, refl, sym, ◌∙◌, ap, subst, append_assoc, append-nil, arith}
use Rattle.std.specs.Prelude.{◌==◌, ◌&&◌, nat_eq, sum_by, codes}
use Rattle.std.specs.Str.{bytes_eq}
use Rattle.std.specs.List.{flat_map}
use Rattle.std.proofs.lemmas.List.Sums.{sum_by-cons}
use Rattle.rj_num.specs.Width.{is_negative}
use Rattle.ir_text.specs.declared.name.Number.{Number}
use Rattle.ir_text.specs.Token.{Token, Spelled, word, local, global, label, number, string, bytes, mark, end, token_at, behind_blanks, quoted, bytes_or_mark}
use Rattle.ir_text.specs.Form.{left_at, turns, most_turns}
use Rattle.ir_text.specs.Words.{is_mark, punctuation, numeral}
use Rattle.ir_core.specs.declared.types.Ty.TheVariants as values
use Rattle.ir_core.specs.declared.types.MemTy.{MemTy, Int}
use Rattle.ir_core.specs.declared.types.MemTy.TheVariants.{Array, Struct}
use Rattle.ir_core.specs.declared.types.MemTy.TheOpen as memory
use Rattle.ir_core.specs.declared.code.Operand.TheVariants as operands
use Rattle.ir_core.specs.declared.program.Init.{Init, roll-Init, fold-roll-Init}
use Rattle.ir_core.specs.declared.program.Init.TheFolds.{map-Init}
use Rattle.ir_core.specs.declared.program.Init.TheVariants as inits
use Rattle.ir_core.specs.declared.program.Init.TheOpen as layer
use Rattle.ir_core.specs.declared.program.Global.{Global}
use Rattle.ir_grammar.specs.declared.type_tree.TypeNode.{TypeNode}
use Rattle.ir_grammar.specs.Words.{is_number}
use Rattle.ir_grammar.specs.Types.{struct_end, type_form}
use Rattle.ir_value_trees.specs.declared.value_tree.Address.{Address}
use Rattle.ir_value_trees.specs.declared.value_tree.Value.{Value}
use Rattle.ir_value_trees.specs.declared.value_tree.Value.TheVariants as written
use Rattle.ir_value_trees.specs.declared.value_tree.InitNode.{InitNode}
use Rattle.ir_value_trees.specs.declared.value_tree.InitNode.TheVariants as nodes
use Rattle.ir_value_trees.specs.declared.values.OpenInit.{OpenInit}
use Rattle.ir_value_trees.specs.Values.{begins_address, address, operand, word_operand, word_value, word_value_of, token_init_of, token_init, plain_init, list_end, list_start, init_start, init_end, init_turn, init_form}
use Rattle.ir_print_names.specs.Names.{quoted_byte, quoted_text}
use Rattle.ir_print_names.specs.Numbers.{number_text}
use Rattle.ir_print.specs.Types.{comma, opening_of, ending_of, memory_text}
use Rattle.ir_print.specs.Values.{place_text, width_of_memory, list_opening, list_ending, parts_text, part_of, part_text, list_text, init_text}
use Rattle.ir_print_names.proofs.NamesBack.{quoted_back}
use Rattle.ir_print.proofs.Layers.{out_int, out_array, out_struct, init_num, init_null, init_zero, init_place, init_bytes, init_list}
use Rattle.ir_print_laws.specs.FormTrees.{has_sign, IsMemoryTree}
use Rattle.ir_print_laws.proofs.Joined.{◌▸◌, nest3, nest4, nest5}
use Rattle.ir_print_laws.proofs.Tokens.{Ends, token_blank, run_token}
use Rattle.ir_print_laws.proofs.Segments.{Seg, one_turn, no_turn, then_turns, all_turns}
use Rattle.ir_print_laws.proofs.Marks.{blind-numeral, comma_token, comma_here, bracket_token, brace_token, angle_token, opens_bracket, opens_brace, opens_angle}
use Rattle.ir_print_laws.proofs.NamesHere.{no_quote, signed_form, wide_text, signed_here}
use Rattle.ir_print_laws.proofs.TypesBack.{blind-type_form}
use Rattle.ir_print_laws.proofs.MemoryBack.{memory_back, nat_some, comma_later}
use Rattle.ir_print_laws.proofs.ValuesBack.{operand_back}
use Rattle.ir_print_laws.proofs.OperationsBack.{blank_ends}
use Rattle.ir_print_laws.specs.Inits.{repeated, IsInitTree, number_init, null_init, zero_init, place_init, text_init, array_init, struct_init, packed_init, AreInitTrees, ends_init, next_init}
use Rattle.ir_print_laws.specs.Written.{IsWrittenInit, number_written, null_written, zero_written, place_written, text_written, array_written, struct_written, AreWrittenInits, none_written, next_written, value_step, value_count}
use Rattle.ir_print_laws.proofs.Between.{Plain, type_plain}

abbrev open_at : List ℕ → List InitNode → OpenInit
open_at wanted given = record { wanted = wanted; nodes = given; is_complete = false }

abbrev done_at : List ℕ → List InitNode → OpenInit
done_at wanted given = record { wanted = wanted; nodes = given; is_complete = true }

-- ---- lists, by what opens and closes them

pub data Kind : Type 0 where
  array_kind : Kind
  struct_kind : Kind
  packed_kind : Kind

abbrev wanted_of : Kind → ℕ
wanted_of array_kind = 93
wanted_of struct_kind = 125
wanted_of packed_kind = 62

abbrev node_of : Kind → ℕ → InitNode
node_of array_kind left = nodes.Array left
node_of struct_kind left = nodes.Struct left
node_of packed_kind left = nodes.Packed left

abbrev k_is_array : Kind → Bool
k_is_array array_kind = true
k_is_array struct_kind = false
k_is_array packed_kind = false

abbrev k_is_packed : Kind → Bool
k_is_packed array_kind = false
k_is_packed struct_kind = false
k_is_packed packed_kind = true

-- `[`, `{` or `<{`
abbrev pub opener : Kind → List ℕ → List ℕ
opener array_kind r = 91 ∷ r
opener struct_kind r = 123 ∷ r
opener packed_kind r = 60 ∷ 123 ∷ r

-- `]`, `}` or `}>` of a list without items
abbrev pub closer : Kind → List ℕ → List ℕ
closer array_kind r = 93 ∷ r
closer struct_kind r = 125 ∷ r
closer packed_kind r = 125 ∷ 62 ∷ r

-- a struct with items has blanks within its braces
abbrev pub gap : Kind → List ℕ → List ℕ
gap array_kind r = r
gap struct_kind r = 32 ∷ r
gap packed_kind r = 32 ∷ r

abbrev mark_of_end : Kind → ℕ
mark_of_end array_kind = 93
mark_of_end struct_kind = 125
mark_of_end packed_kind = 125

first_of_empty : (k : Kind) (r : List ℕ) → is_mark (mark_of_end k) (token_at (closer k r)).0 ≡ true
unfolding token_at behind_blanks
first_of_empty array_kind r = refl
first_of_empty struct_kind r = refl
first_of_empty packed_kind r = refl

ends_here : (k : Kind) (r : List ℕ) → is_mark 44 (token_at (gap k (closer k r))).0 ≡ false
unfolding token_at behind_blanks
ends_here array_kind r = refl
ends_here struct_kind r = refl
ends_here packed_kind r = refl

closes_empty : (k : Kind) (r : List ℕ) → (list_end (k_is_array k) (k_is_packed k)).Is (closer k r) tt r
unfolding list_end struct_end punctuation token_at behind_blanks
closes_empty array_kind r = (refl, refl)
closes_empty struct_kind r = (tt, r, (refl, refl), (refl, refl))
closes_empty packed_kind r = (tt, 62 ∷ r, (refl, refl), (refl, refl))

closes_gap : (k : Kind) (r : List ℕ) → (list_end (k_is_array k) (k_is_packed k)).Is (gap k (closer k r)) tt r
unfolding list_end struct_end punctuation token_at behind_blanks
closes_gap array_kind r = (refl, refl)
closes_gap struct_kind r = (tt, r, (refl, refl), (refl, refl))
closes_gap packed_kind r = (tt, 62 ∷ r, (refl, refl), (refl, refl))

list_opens_by : (k : Kind) (wanted : List ℕ) (before : List InitNode) (t u : List ℕ) (next : OpenInit) → (list_start (open_at wanted before) (k_is_array k) (k_is_packed k) (node_of k (left_at (opener k t)))).Is t next u → (init_turn (open_at wanted before)).Is (opener k t) (true, next) u
unfolding init_start
list_opens_by array_kind wanted before t u next h = (next, u, (left_at (91 ∷ t), 91 ∷ t, (refl, refl), rw (bracket_token t) (tt, t, opens_bracket t, h)), (refl, refl))
list_opens_by struct_kind wanted before t u next h = (next, u, (left_at (123 ∷ t), 123 ∷ t, (refl, refl), rw (brace_token t) (tt, t, opens_brace t, h)), (refl, refl))
list_opens_by packed_kind wanted before t u next h = (next, u, (left_at (60 ∷ 123 ∷ t), 60 ∷ 123 ∷ t, (refl, refl), rw (angle_token (123 ∷ t)) (tt, 123 ∷ t, opens_angle (123 ∷ t), (tt, t, opens_brace t, h))), (refl, refl))

list_opens : (k : Kind) (wanted : List ℕ) (before : List InitNode) (t u : List ℕ) (parts : List TypeNode) → is_mark (mark_of_end k) (token_at t).0 ≡ false → type_form.Is t parts u
    → (init_turn (open_at wanted before)).Is (opener k t) (true, open_at (wanted_of k ∷ wanted) (before ++ node_of k (left_at (opener k t)) ∷ nodes.Of parts ∷ [])) u
unfolding list_start
list_opens array_kind wanted before t u parts e h = list_opens_by array_kind wanted before t u _ (rw e (parts, u, h, (refl, refl)))
list_opens struct_kind wanted before t u parts e h = list_opens_by struct_kind wanted before t u _ (rw e (parts, u, h, (refl, refl)))
list_opens packed_kind wanted before t u parts e h = list_opens_by packed_kind wanted before t u _ (rw e (parts, u, h, (refl, refl)))

list_empty : (k : Kind) (wanted : List ℕ) (before : List InitNode) (r : List ℕ)
    → (init_turn (open_at wanted before)).Is (opener k (closer k r)) (true, done_at wanted ((before ++ node_of k (left_at (opener k (closer k r))) ∷ []) ++ nodes.Close (left_at (closer k r)) ∷ [])) r
unfolding list_start
list_empty array_kind wanted before r = list_opens_by array_kind wanted before (closer array_kind r) r _ (rw (first_of_empty array_kind r) (left_at (closer array_kind r), closer array_kind r, (refl, refl), (tt, r, closes_empty array_kind r, (refl, refl))))
list_empty struct_kind wanted before r = list_opens_by struct_kind wanted before (closer struct_kind r) r _ (rw (first_of_empty struct_kind r) (left_at (closer struct_kind r), closer struct_kind r, (refl, refl), (tt, r, closes_empty struct_kind r, (refl, refl))))
list_empty packed_kind wanted before r = list_opens_by packed_kind wanted before (closer packed_kind r) r _ (rw (first_of_empty packed_kind r) (left_at (closer packed_kind r), closer packed_kind r, (refl, refl), (tt, r, closes_empty packed_kind r, (refl, refl))))

next_item : (k : Kind) (wanted : List ℕ) (before : List InitNode) (t u : List ℕ) (parts : List TypeNode) → type_form.Is t parts u → (init_turn (done_at (wanted_of k ∷ wanted) before)).Is (44 ∷ t) (true, open_at (wanted_of k ∷ wanted) (before ++ nodes.Of parts ∷ [])) u
unfolding init_end
next_item k wanted before t u parts h = rw (nat_some (length wanted)) (open_at (wanted_of k ∷ wanted) (before ++ nodes.Of parts ∷ []), u, rw (comma_token t) (tt, t, comma_here t, (parts, u, h, (refl, refl))), (refl, refl))

list_closes : (k : Kind) (wanted : List ℕ) (before : List InitNode) (r : List ℕ) → (init_turn (done_at (wanted_of k ∷ wanted) before)).Is (gap k (closer k r)) (true, done_at wanted (before ++ nodes.Close (left_at (gap k (closer k r))) ∷ [])) r
unfolding init_end
list_closes array_kind wanted before r = rw (nat_some (length wanted)) (done_at wanted (before ++ nodes.Close (left_at (gap array_kind (closer array_kind r))) ∷ []), r, rw (ends_here array_kind r) (left_at (gap array_kind (closer array_kind r)), gap array_kind (closer array_kind r), (refl, refl), (tt, r, closes_gap array_kind r, (refl, refl))), (refl, refl))
list_closes struct_kind wanted before r = rw (nat_some (length wanted)) (done_at wanted (before ++ nodes.Close (left_at (gap struct_kind (closer struct_kind r))) ∷ []), r, rw (ends_here struct_kind r) (left_at (gap struct_kind (closer struct_kind r)), gap struct_kind (closer struct_kind r), (refl, refl), (tt, r, closes_gap struct_kind r, (refl, refl))), (refl, refl))
list_closes packed_kind wanted before r = rw (nat_some (length wanted)) (done_at wanted (before ++ nodes.Close (left_at (gap packed_kind (closer packed_kind r))) ∷ []), r, rw (ends_here packed_kind r) (left_at (gap packed_kind (closer packed_kind r)), gap packed_kind (closer packed_kind r), (refl, refl), (tt, r, closes_gap packed_kind r, (refl, refl))), (refl, refl))

-- ---- one item

-- an initial value without parts
record Leaf (t : List ℕ) (node : InitNode) (r : List ℕ) : Type 0 where
  read : plain_init.Is t node r
  no_bracket : is_mark 91 (token_at t).0 ≡ false
  no_brace : is_mark 123 (token_at t).0 ≡ false
  no_angle : is_mark 60 (token_at t).0 ≡ false

leaf_turn : (wanted : List ℕ) (before : List InitNode) (t : List ℕ) (node : InitNode) (r : List ℕ) → Leaf t node r → (init_turn (open_at wanted before)).Is t (true, done_at wanted (before ++ node ∷ [])) r
unfolding init_start
leaf_turn wanted before t node r l = (_, r, (left_at t, t, (refl, refl), rw (l.no_bracket, l.no_brace, l.no_angle) (node, r, l.read, (refl, refl))), (refl, refl))

number_read : (given : Number) (negative : Bool) (digits t r : List ℕ) → token_at t ≡ (number negative digits, r) → numeral.Is t given r → plain_init.Is t (nodes.Number given) r
unfolding plain_init
number_read given negative digits t r e h = rw e (given, r, h, (refl, refl))

number_leaf : (given : Number) (negative : Bool) (digits t r : List ℕ) → token_at t ≡ (number negative digits, r) → numeral.Is t given r → Leaf t (nodes.Number given) r
number_leaf given negative digits t r e h = record { read = number_read given negative digits t r e h; no_bracket = rw e refl; no_brace = rw e refl; no_angle = rw e refl }

word_read : (node : ℕ → InitNode) (name t r : List ℕ) → token_at t ≡ (word name, r) → ((left : ℕ) → token_init_of left (word name) ≡ Some (node left)) → bytes_eq name (codes "getelementptr") ≡ false → plain_init.Is t (node (left_at t)) r
unfolding plain_init token_init
word_read node name t r e is other = rw (e, other) (left_at t, t, (refl, refl), rw e (is (left_at t), refl))

word_leaf : (node : ℕ → InitNode) (name t r : List ℕ) → token_at t ≡ (word name, r) → ((left : ℕ) → token_init_of left (word name) ≡ Some (node left)) → bytes_eq name (codes "getelementptr") ≡ false → Leaf t (node (left_at t)) r
word_leaf node name t r e is other = record { read = word_read node name t r e is other; no_bracket = rw e refl; no_brace = rw e refl; no_angle = rw e refl }

bytes_read : (inner t r : List ℕ) → token_at t ≡ (bytes inner, r) → plain_init.Is t (nodes.Bytes inner (left_at t)) r
unfolding plain_init token_init
bytes_read inner t r e = rw e (left_at t, t, (refl, refl), rw e (refl, refl))

bytes_leaf : (inner t r : List ℕ) → token_at t ≡ (bytes inner, r) → Leaf t (nodes.Bytes inner (left_at t)) r
bytes_leaf inner t r e = record { read = bytes_read inner t r e; no_bracket = rw e refl; no_brace = rw e refl; no_angle = rw e refl }

null_token : (r : List ℕ) → Ends r → token_at (codes "null" ++ r) ≡ (word (codes "null"), r)
unfolding token_at behind_blanks
null_token r ends = run_token (codes "null") r refl ends

zero_token : (r : List ℕ) → Ends r → token_at (codes "zeroinitializer" ++ r) ≡ (word (codes "zeroinitializer"), r)
unfolding token_at behind_blanks
zero_token r ends = run_token (codes "zeroinitializer") r refl ends

text_token : (given r : List ℕ) → token_at (99 ∷ 34 ∷ given ++ 34 ∷ r) ≡ bytes_or_mark (quoted (given ++ 34 ∷ r)) (34 ∷ given ++ 34 ∷ r)
unfolding token_at behind_blanks
text_token given r = refl

-- the address of an operand, where that is one
abbrev AddressAt : List ℕ → Address → List ℕ → Type 0
AddressAt t one r = address.Is t one r × (begins_address (token_at t).0 ≡ true)

same_address : (one other : Address) → written.Address one ≡ written.Address other → one ≡ other
same_address one other e = cc

no_address_word : (left : ℕ) (name : List ℕ) (one : Address) (a b c d : Bool) → bytes_eq name (codes "true") ≡ a → bytes_eq name (codes "false") ≡ b → bytes_eq name (codes "null") ≡ c → bytes_eq name (codes "poison") ≡ d
    → word_value left name ≡ Some (written.Address one) → ⊥
no_address_word left name one true b c d p q r s e = let h = rw p at e in absurd cc
no_address_word left name one false true c d p q r s e = let h = rw (p, q) at e in absurd cc
no_address_word left name one false false true d p q r s e = let h = rw (p, q, r) at e in absurd cc
no_address_word left name one false false false true p q r s e = let h = rw (p, q, r, s) at e in absurd cc
no_address_word left name one false false false false p q r s e = let h = rw (p, q, r, s) at e in absurd cc

address_of_word : (t r : List ℕ) (name : List ℕ) (one : Address) (is_one : Bool) → (token_at t).0 ≡ word name → bytes_eq name (codes "getelementptr") ≡ is_one → operand.Is t (written.Address one) r → AddressAt t one r
unfolding operand word_operand
address_of_word t r name one true is e h =
    let g = rw (is, e) at h in
    (subst (λ (x : Address). address.Is t x r) (sym (same_address one g.0 g.3.0)) (subst (λ (x : List ℕ). address.Is t g.0 x) (sym g.3.1) g.2), rw is e)
address_of_word t r name one false is e h =
    let g = rw (is, e) at h in
    let here = subst (λ (x : List ℕ). word_value_of g.0 (token_at x).0 ≡ Some (written.Address one)) g.2.1 g.3.0 in
    absurd (no_address_word g.0 name one _ _ _ _ refl refl refl refl (subst (λ (x : Token). word_value_of g.0 x ≡ Some (written.Address one)) is here))

address_of_by : (t r : List ℕ) (one : Address) (token : Token) → (token_at t).0 ≡ token → operand.Is t (written.Address one) r → AddressAt t one r
unfolding operand word_operand
address_of_by t r one (word name) is h = address_of_word t r name one (bytes_eq name (codes "getelementptr")) is refl h
address_of_by t r one (global spelling name) is h =
    let g = rw is at h in
    (subst (λ (x : Address). address.Is t x r) (sym (same_address one g.0 g.3.0)) (subst (λ (x : List ℕ). address.Is t g.0 x) (sym g.3.1) g.2), rw is refl)
address_of_by t r one (local spelling name) is h = let g = rw is at h in let e = g.3.0 in absurd cc
address_of_by t r one (number negative digits) is h = let g = rw is at h in let e = g.3.0 in absurd cc
address_of_by t r one (label spelling name) is h = let g = rw is at h in let f = rw g.2.1 at g.3.0 in let e = rw is at f in absurd cc
address_of_by t r one (string inner) is h = let g = rw is at h in let f = rw g.2.1 at g.3.0 in let e = rw is at f in absurd cc
address_of_by t r one (bytes inner) is h = let g = rw is at h in let f = rw g.2.1 at g.3.0 in let e = rw is at f in absurd cc
address_of_by t r one (mark byte) is h = let g = rw is at h in let f = rw g.2.1 at g.3.0 in let e = rw is at f in absurd cc
address_of_by t r one end is h = let g = rw is at h in let f = rw g.2.1 at g.3.0 in let e = rw is at f in absurd cc

-- a token by which an address begins
no_mark : (b : ℕ) (token : Token) → begins_address token ≡ true → is_mark b token ≡ false
no_mark b (word name) e = refl
no_mark b (global spelling name) e = refl
no_mark b (local spelling name) e = absurd cc
no_mark b (number negative digits) e = absurd cc
no_mark b (label spelling name) e = absurd cc
no_mark b (string inner) e = absurd cc
no_mark b (bytes inner) e = absurd cc
no_mark b (mark byte) e = absurd cc
no_mark b end e = absurd cc

no_number : (token : Token) → begins_address token ≡ true → is_number token ≡ false
no_number (word name) e = refl
no_number (global spelling name) e = refl
no_number (local spelling name) e = absurd cc
no_number (number negative digits) e = absurd cc
no_number (label spelling name) e = absurd cc
no_number (string inner) e = absurd cc
no_number (bytes inner) e = absurd cc
no_number (mark byte) e = absurd cc
no_number end e = absurd cc

address_read : (t r : List ℕ) (one : Address) (token : Token) → (token_at t).0 ≡ token → begins_address token ≡ true → address.Is t one r → plain_init.Is t (nodes.Address one) r
unfolding plain_init
address_read t r one token is e h = rw (is, no_number token e, e) (one, r, h, (refl, refl))

address_leaf_by : (t r : List ℕ) (one : Address) (token : Token) → (token_at t).0 ≡ token → begins_address token ≡ true → address.Is t one r → Leaf t (nodes.Address one) r
address_leaf_by t r one token is e h =
    let f : begins_address (token_at t).0 ≡ true = ap begins_address is ∙ e in
    record { read = address_read t r one token is e h; no_bracket = ap (is_mark 91) is ∙ no_mark 91 token e; no_brace = ap (is_mark 123) is ∙ no_mark 123 token e; no_angle = ap (is_mark 60) is ∙ no_mark 60 token e }

-- an item behind a blank
pub record LeafStands (globals : List Global) (init : Init) (ty : MemTy) (r : List ℕ) : Type 0 where
  node : InitNode
  leaf : Leaf (32 ∷ init_text globals init ty ++ r) node r
  tree : (more : List InitNode) → IsInitTree globals (node ∷ more) init ty more

at_text : (globals : List Global) (init : Init) (ty : MemTy) (r text : List ℕ) (node : InitNode) → init_text globals init ty ≡ text → Leaf (32 ∷ text ++ r) node r → ((more : List InitNode) → IsInitTree globals (node ∷ more) init ty more) → LeafStands globals init ty r
at_text globals init ty r text node e leaf tree = record { node = node; leaf = subst (λ (t : List ℕ). Leaf (32 ∷ t ++ r) node r) (sym e) leaf; tree = tree }

width_int : (w : ℕ) → width_of_memory (Int w) ≡ w
width_int w = rw (out_int w) refl

not_one : (w n m : ℕ) → nat_eq w 1 ≡ false → (w == 1 && n == m) ≡ false
not_one w n m e = rw e refl

wide_number : (w n : ℕ) → nat_eq w 1 ≡ false → number_text w n ≡ signed_form (has_sign w n) w n
wide_number w n e = rw (not_one w n 0 e, not_one w n 1 e) (wide_text _ (is_negative w n) w n refl refl)

number_stands : (globals : List Global) (n w : ℕ) (r : List ℕ) → nat_eq w 1 ≡ false → Ends r → LeafStands globals (inits.Num n) (Int w) r
number_stands globals n w r wide ends =
    let h = signed_here w n r ends in
    let t = signed_form (has_sign w n) w n ++ r in
    let text = init_num globals n (Int w) ∙ ap (λ (x : ℕ). number_text x n) (width_int w) ∙ wide_number w n wide in
    at_text globals (inits.Num n) (Int w) r (signed_form (has_sign w n) w n) (nodes.Number h.0) text (number_leaf h.0 h.0.is_negative h.0.digits (32 ∷ t) r (token_blank t ∙ h.2) (blind-numeral.skips 32 refl t h.0 r h.1)) (λ more. number_init h.3)

null_stands : (globals : List Global) (ty : MemTy) (r : List ℕ) → Ends r → LeafStands globals inits.Null ty r
null_stands globals ty r ends =
    at_text globals inits.Null ty r (codes "null") _ (init_null globals ty) (word_leaf (λ left. nodes.Null left) (codes "null") (32 ∷ codes "null" ++ r) r (token_blank (codes "null" ++ r) ∙ null_token r ends) (λ left. refl) refl) (λ more. null_init)

zero_stands : (globals : List Global) (ty : MemTy) (r : List ℕ) → Ends r → LeafStands globals inits.Zero ty r
zero_stands globals ty r ends =
    at_text globals inits.Zero ty r (codes "zeroinitializer") _ (init_zero globals ty) (word_leaf (λ left. nodes.Zero left) (codes "zeroinitializer") (32 ∷ codes "zeroinitializer" ++ r) r (token_blank (codes "zeroinitializer" ++ r) ∙ zero_token r ends) (λ left. refl) refl) (λ more. zero_init)

place_stands : (globals : List Global) (k offset : ℕ) (ty : MemTy) (r : List ℕ) → Ends r → LeafStands globals (inits.Place k offset) ty r
place_stands globals k offset ty r ends =
    let h = operand_back globals values.Ptr (operands.Place k offset) r ends in
    let t = 32 ∷ place_text globals k offset ++ r in
    let a = address_of_by t r h.tree.0 (token_at t).0 refl (subst (λ (v : Value). operand.Is t v r) h.tree.1 h.read) in
    at_text globals (inits.Place k offset) ty r (place_text globals k offset) (nodes.Address h.tree.0) (init_place globals k offset ty) (address_leaf_by t r h.tree.0 (token_at t).0 refl a.1 a.0) (λ more. place_init h.tree.2)

text_stands : (globals : List Global) (given : List ℕ) (ty : MemTy) (r : List ℕ) → LeafStands globals (inits.Bytes given) ty r
text_stands globals given ty r =
    let inner = flat_map quoted_byte given in
    let t = codes "c" ▸ quoted_text given ▸ r in
    let shown : (codes "c" ++ quoted_text given) ++ r ≡ 99 ∷ 34 ∷ inner ++ 34 ∷ r = ap (λ (x : List ℕ). 99 ∷ 34 ∷ x) (append_assoc inner (codes "\"") r) in
    let token : token_at (32 ∷ (codes "c" ++ quoted_text given) ++ r) ≡ (bytes inner, r) =
    token_blank ((codes "c" ++ quoted_text given) ++ r) ∙ ap (λ (x : List ℕ). token_at x) shown ∙ text_token inner r ∙ ap (λ (o : Option Spelled). bytes_or_mark o (34 ∷ inner ++ 34 ∷ r)) (quoted_back inner r (no_quote given)) in
    at_text globals (inits.Bytes given) ty r (codes "c" ++ quoted_text given) _ (init_bytes globals given ty) (bytes_leaf inner (32 ∷ (codes "c" ++ quoted_text given) ++ r) r token) (λ more. text_init)

-- ---- values

pub record InitSeg (globals : List Global) (init : Init) (ty : MemTy) (wanted : List ℕ) (before : List InitNode) (t r : List ℕ) : Type 0 where
  pub count : ℕ
  pub given : List InitNode
  pub bound : count + 1 ≤ 2 * value_count init
  pub seg : Seg init_turn count (open_at wanted before) t (done_at wanted (before ++ given)) r
  pub tree : (more : List InitNode) → IsInitTree globals (given ++ more) init ty more

-- the types and items of a list from this number on
abbrev pub item_texts : List Global → ℕ → List Init → List MemTy → List ℕ
item_texts globals i [] tys = []
item_texts globals i (item ∷ items) [] = []
item_texts globals i (item ∷ items) (ty ∷ tys) = (comma i ++ memory_text ty ++ codes " " ++ init_text globals item ty) ++ item_texts globals (i + 1) items tys

abbrev pub counts : List Init → ℕ
counts items = sum_by (λ (n : ℕ). n) (map value_count items)

pub counts_more : (item : Init) (items : List Init) → counts (item ∷ items) ≡ value_count item + counts items
counts_more item items = sum_by-cons (λ (n : ℕ). n) (value_count item) (map value_count items)

counted : (init : Init) (one : layer.Init-F Init) → roll-Init one ≡ init → value_count init ≡ value_step (map-Init Init ℕ value_count one)
counted init one e = ap value_count (sym e) ∙ fold-roll-Init ℕ value_step one

pub count_num : (n : ℕ) → value_count (inits.Num n) ≡ 1
count_num n = counted (inits.Num n) (layer.Num n) (inits.rolls-Num n)

pub count_null : value_count inits.Null ≡ 1
count_null = counted inits.Null layer.Null inits.rolls-Null

pub count_zero : value_count inits.Zero ≡ 1
count_zero = counted inits.Zero layer.Zero inits.rolls-Zero

pub count_place : (k offset : ℕ) → value_count (inits.Place k offset) ≡ 1
count_place k offset = counted (inits.Place k offset) (layer.Place k offset) (inits.rolls-Place k offset)

pub count_bytes : (given : List ℕ) → value_count (inits.Bytes given) ≡ 1
count_bytes given = counted (inits.Bytes given) (layer.Bytes given) (inits.rolls-Bytes given)

pub count_list : (items : List Init) → value_count (inits.List items) ≡ 1 + counts items
count_list items = counted (inits.List items) (layer.List items) (inits.rolls-List items)

leaf_seg : (globals : List Global) (init : Init) (ty : MemTy) (wanted : List ℕ) (before : List InitNode) (r : List ℕ) → value_count init ≡ 1 → LeafStands globals init ty r → InitSeg globals init ty wanted before (32 ∷ init_text globals init ty ++ r) r
leaf_seg globals init ty wanted before r one l =
    record { count = 1; given = l.node ∷ []; bound = omega (arith, one); seg = one_turn init_turn _ _ _ r (leaf_turn wanted before _ l.node r l.leaf); tree = l.tree }

blind-init_start : (wanted : List ℕ) (before : List InitNode) (t : List ℕ) (k : Kind) (next : Bool × OpenInit) (u : List ℕ) → (init_turn (open_at wanted before)).Is (opener k t) next u → (init_turn (open_at wanted before)).Is (32 ∷ opener k t) next u
unfolding init_start punctuation token_at behind_blanks
blind-init_start wanted before t array_kind next u h = (h.0, h.1, (h.2.0, 32 ∷ opener array_kind t, (h.2.2.0, refl), rw h.2.2.1 at h.2.3), h.3)
blind-init_start wanted before t struct_kind next u h = (h.0, h.1, (h.2.0, 32 ∷ opener struct_kind t, (h.2.2.0, refl), rw h.2.2.1 at h.2.3), h.3)
blind-init_start wanted before t packed_kind next u h = (h.0, h.1, (h.2.0, 32 ∷ opener packed_kind t, (h.2.2.0, refl), rw h.2.2.1 at h.2.3), h.3)

-- ---- lists

record LaterSeg (globals : List Global) (k : Kind) (items : List Init) (tys : List MemTy) (wanted : List ℕ) (before : List InitNode) (t r : List ℕ) : Type 0 where
  count : ℕ
  given : List InitNode
  bound : count ≤ 2 * counts items
  seg : Seg init_turn count (done_at (wanted_of k ∷ wanted) before) t (done_at (wanted_of k ∷ wanted) (before ++ given)) r
  tree : (left : ℕ) (more : List InitNode) → AreInitTrees globals (given ++ nodes.Close left ∷ more) items tys more

record ListSeg (globals : List Global) (k : Kind) (items : List Init) (tys : List MemTy) (wanted : List ℕ) (before : List InitNode) (t r : List ℕ) : Type 0 where
  count : ℕ
  left : ℕ
  inner : List InitNode
  bound : count + 1 ≤ 2 * (1 + counts items)
  seg : Seg init_turn count (open_at wanted before) t (done_at wanted (before ++ node_of k left ∷ inner)) r
  tree : (more : List InitNode) → AreInitTrees globals (inner ++ more) items tys more

-- a list as it is printed
abbrev pub list_at : List Global → Kind → List Init → List MemTy → List ℕ → List ℕ
list_at globals k [] tys r = opener k (closer k r)
list_at globals k (item ∷ items) [] r = opener k (closer k r)
list_at globals k (item ∷ items) (ty ∷ tys) r = opener k (gap k (memory_text ty ▸ 32 ∷ init_text globals item ty ▸ item_texts globals 1 items tys ▸ gap k (closer k r)))

gap_ends : (k : Kind) (r : List ℕ) → Ends (gap k (closer k r))
gap_ends array_kind r = record { no_name = refl; no_colon = refl }
gap_ends struct_kind r = record { no_name = refl; no_colon = refl }
gap_ends packed_kind r = record { no_name = refl; no_colon = refl }

items_ends : (globals : List Global) (i : ℕ) (items : List Init) (tys : List MemTy) (tail : List ℕ) → Ends tail → Ends (item_texts globals (i + 1) items tys ++ tail)
items_ends globals i [] tys tail ends = ends
items_ends globals i (item ∷ items) [] tail ends = ends
items_ends globals i (item ∷ items) (ty ∷ tys) tail ends = rw (comma_later i) (record { no_name = refl; no_colon = refl })

items_shown : (globals : List Global) (i : ℕ) (item : Init) (items : List Init) (ty : MemTy) (tys : List MemTy) (tail : List ℕ)
    → item_texts globals (i + 1) (item ∷ items) (ty ∷ tys) ++ tail ≡ 44 ∷ 32 ∷ memory_text ty ▸ 32 ∷ init_text globals item ty ▸ item_texts globals (i + 1 + 1) items tys ▸ tail
items_shown globals i item items ty tys tail =
    ap (λ (c : List ℕ). ((((c ++ memory_text ty) ++ codes " ") ++ init_text globals item ty) ++ item_texts globals (i + 1 + 1) items tys) ++ tail) (comma_later i)
    ∙ nest5 (codes ", ") (memory_text ty) (codes " ") (init_text globals item ty) (item_texts globals (i + 1 + 1) items tys) tail

gap_type : (k : Kind) (t u : List ℕ) (parts : List TypeNode) → type_form.Is t parts u → type_form.Is (gap k t) parts u
gap_type array_kind t u parts h = h
gap_type struct_kind t u parts h = blind-type_form.skips 32 refl t parts u h
gap_type packed_kind t u parts h = blind-type_form.skips 32 refl t parts u h

gap_plain : (k : Kind) (t : List ℕ) → Plain (token_at t).0 → is_mark (mark_of_end k) (token_at (gap k t)).0 ≡ false
gap_plain array_kind t p = p.bracket
gap_plain struct_kind t p = ap (λ (x : Token × List ℕ). is_mark 125 x.0) (token_blank t) ∙ p.brace
gap_plain packed_kind t p = ap (λ (x : Token × List ℕ). is_mark 125 x.0) (token_blank t) ∙ p.brace

behind_blank : (k : Kind) (t : List ℕ) (wanted : List ℕ) (before : List InitNode) (i : ℕ) (v : OpenInit) (q : List ℕ) → (turns init_turn (suc i) (open_at wanted before)).Is (opener k t) v q → (turns init_turn (suc i) (open_at wanted before)).Is (32 ∷ opener k t) v q
unfolding turns
behind_blank k t wanted before i v q h = (h.0, h.1, blind-init_start wanted before t k h.0 h.1 h.2, h.3)

-- a list stands behind a blank
opener_blank : (k : Kind) (t : List ℕ) (wanted : List ℕ) (before : List InitNode) → (n : ℕ) (next : OpenInit) (r : List ℕ) → Seg init_turn (1 + n) (open_at wanted before) (opener k t) next r → Seg init_turn (1 + n) (open_at wanted before) (32 ∷ opener k t) next r
opener_blank k t wanted before n next r f = λ m v q w.
    let e : m + (1 + n) ≡ suc (m + n) = omega arith in
    let h = subst (λ (i : ℕ). (turns init_turn i (open_at wanted before)).Is (opener k t) v q) e (f m v q w) in
    subst (λ (i : ℕ). (turns init_turn i (open_at wanted before)).Is (32 ∷ opener k t) v q) (sym e) (behind_blank k t wanted before (m + n) v q h)

-- ---- the parts of a list, joined

three : (a b c more : List InitNode) → (a ▸ b ▸ c) ++ more ≡ a ▸ b ▸ c ▸ more
three a b c more = append_assoc a (b ++ c) more ∙ ap (λ (t : List InitNode). a ++ t) (append_assoc b c more)

list_whole : (globals : List Global) (k : Kind) (item : Init) (items : List Init) (ty : MemTy) (tys : List MemTy) (wanted : List ℕ) (before : List InitNode) (r t : List ℕ) (parts : List TypeNode) (given others : List InitNode) (n m left close : ℕ) (u tail last : List ℕ)
    → n + 1 ≤ 2 * value_count item → m ≤ 2 * counts items → IsMemoryTree parts ty []
    → Seg init_turn 1 (open_at wanted before) (opener k t) (open_at (wanted_of k ∷ wanted) (before ++ node_of k left ∷ nodes.Of parts ∷ [])) u
    → Seg init_turn n (open_at (wanted_of k ∷ wanted) (before ++ node_of k left ∷ nodes.Of parts ∷ [])) u (done_at (wanted_of k ∷ wanted) ((before ++ node_of k left ∷ nodes.Of parts ∷ []) ++ given)) tail
    → Seg init_turn m (done_at (wanted_of k ∷ wanted) ((before ++ node_of k left ∷ nodes.Of parts ∷ []) ++ given)) tail (done_at (wanted_of k ∷ wanted) (((before ++ node_of k left ∷ nodes.Of parts ∷ []) ++ given) ++ others)) last
    → Seg init_turn 1 (done_at (wanted_of k ∷ wanted) (((before ++ node_of k left ∷ nodes.Of parts ∷ []) ++ given) ++ others)) last (done_at wanted ((((before ++ node_of k left ∷ nodes.Of parts ∷ []) ++ given) ++ others) ++ nodes.Close close ∷ [])) r
    → ((more : List InitNode) → IsInitTree globals (given ++ more) item ty more)
    → ((at : ℕ) (more : List InitNode) → AreInitTrees globals (others ++ nodes.Close at ∷ more) items tys more)
    → ListSeg globals k (item ∷ items) (ty ∷ tys) wanted before (32 ∷ opener k t) r
list_whole globals k item items ty tys wanted before r t parts given others n m left close u tail last b c memory first second third fourth tree trees =
    let all = then_turns init_turn 1 (n + (m + 1)) _ _ _ _ _ _ first (then_turns init_turn n (m + 1) _ _ _ _ _ _ second (then_turns init_turn m 1 _ _ _ _ _ _ third fourth)) in
    let more_counts = counts_more item items in
    let inner = nodes.Of parts ∷ given ▸ others ▸ nodes.Close close ∷ [] in
    let text = nest4 before (node_of k left ∷ nodes.Of parts ∷ []) given others (nodes.Close close ∷ []) in
    record {
      count = 1 + (n + (m + 1));
      left = left;
      inner = inner;
      bound = omega (arith, b, c, more_counts);
      seg = opener_blank k t wanted before (n + (m + 1)) _ r (subst (λ (p : List InitNode). Seg init_turn (1 + (n + (m + 1))) (open_at wanted before) (opener k t) (done_at wanted p) r) text all);
      tree = λ more. subst (λ (p : List InitNode). AreInitTrees globals (nodes.Of parts ∷ p) (item ∷ items) (ty ∷ tys) more) (sym (three given others (nodes.Close close ∷ []) more)) (next_init memory (tree (others ++ nodes.Close close ∷ more)) (trees close more));
    }

later_whole : (globals : List Global) (k : Kind) (item : Init) (items : List Init) (ty : MemTy) (tys : List MemTy) (wanted : List ℕ) (before : List InitNode) (r : List ℕ) (parts : List TypeNode) (given others : List InitNode) (n m : ℕ) (t u tail shown : List ℕ) → shown ≡ t
    → n + 1 ≤ 2 * value_count item → m ≤ 2 * counts items → IsMemoryTree parts ty []
    → Seg init_turn 1 (done_at (wanted_of k ∷ wanted) before) t (open_at (wanted_of k ∷ wanted) (before ++ nodes.Of parts ∷ [])) u
    → Seg init_turn n (open_at (wanted_of k ∷ wanted) (before ++ nodes.Of parts ∷ [])) u (done_at (wanted_of k ∷ wanted) ((before ++ nodes.Of parts ∷ []) ++ given)) tail
    → Seg init_turn m (done_at (wanted_of k ∷ wanted) ((before ++ nodes.Of parts ∷ []) ++ given)) tail (done_at (wanted_of k ∷ wanted) (((before ++ nodes.Of parts ∷ []) ++ given) ++ others)) r
    → ((more : List InitNode) → IsInitTree globals (given ++ more) item ty more)
    → ((at : ℕ) (more : List InitNode) → AreInitTrees globals (others ++ nodes.Close at ∷ more) items tys more)
    → LaterSeg globals k (item ∷ items) (ty ∷ tys) wanted before shown r
later_whole globals k item items ty tys wanted before r parts given others n m t u tail shown e b c memory first second third tree trees =
    let all = then_turns init_turn 1 (n + m) _ _ _ _ _ _ first (then_turns init_turn n m _ _ _ _ _ _ second third) in
    let more_counts = counts_more item items in
    let text = nest3 before (nodes.Of parts ∷ []) given others in
    record {
      count = 1 + (n + m);
      given = nodes.Of parts ∷ given ▸ others;
      bound = omega (arith, b, c, more_counts);
      seg = subst (λ (x : List ℕ). Seg init_turn (1 + (n + m)) (done_at (wanted_of k ∷ wanted) before) x (done_at (wanted_of k ∷ wanted) (before ▸ nodes.Of parts ∷ given ▸ others)) r) (sym e)
          (subst (λ (p : List InitNode). Seg init_turn (1 + (n + m)) (done_at (wanted_of k ∷ wanted) before) t (done_at (wanted_of k ∷ wanted) p) r) text all);
      tree = λ left more. subst (λ (p : List InitNode). AreInitTrees globals (nodes.Of parts ∷ p) (item ∷ items) (ty ∷ tys) more) (sym (append_assoc given others (nodes.Close left ∷ more))) (next_init memory (tree (others ++ nodes.Close left ∷ more)) (trees left more));
    }

-- ---- the text of a list

abbrev pub kind_of : Bool → Kind
kind_of true = packed_kind
kind_of false = struct_kind

slice_at : {X : Type 0} (ds : List X) (x : X) (xs : List X) → slice_get (ds ++ x ∷ xs) (length ds) ≡ Some x
slice_at [] x xs = refl
slice_at (d ∷ ds) x xs = slice_at ds x xs

length_more : {X : Type 0} (ds : List X) (x : X) → length (ds ++ x ∷ []) ≡ length ds + 1
length_more [] x = refl
length_more (d ∷ ds) x = let e = length_more ds x in omega (arith, e)

one_part : (part : memory.MemTy-F MemTy) (i : ℕ) (ty : MemTy) (shown : MemTy → List ℕ) → part_of part i ≡ Some ty → part_text (part_of part i) i shown ≡ comma i ++ memory_text ty ++ codes " " ++ shown ty
one_part part i ty shown e = rw e refl

parts_struct : (globals : List Global) (is_packed : Bool) (fields ds tys : List MemTy) (items : List Init) → fields ≡ ds ++ tys → AreWrittenInits items tys → parts_text (memory.Struct fields is_packed) (length ds) (map (init_text globals) items) ≡ item_texts globals (length ds) items tys
unfolding parts_text
parts_struct globals is_packed fields ds [] [] e none_written = refl
parts_struct globals is_packed fields ds [] (item ∷ items) e x = elim x [ ]
parts_struct globals is_packed fields ds (ty ∷ tys) [] e x = elim x [ ]
parts_struct globals is_packed fields ds (ty ∷ tys) (item ∷ items) e (next_written few one others) =
    let at : slice_get fields (length ds) ≡ Some ty = ap (λ (x : List MemTy). slice_get x (length ds)) e ∙ slice_at ds ty tys in
    let first = one_part (memory.Struct fields is_packed) (length ds) ty (init_text globals item) at in
    let longer : fields ≡ (ds ++ ty ∷ []) ++ tys = e ∙ sym (append_assoc ds (ty ∷ []) tys) in
    let rest = parts_struct globals is_packed fields (ds ++ ty ∷ []) tys items longer others in
    let moved = subst (λ (n : ℕ). parts_text (memory.Struct fields is_packed) n (map (init_text globals) items) ≡ item_texts globals n items tys) (length_more ds ty) rest in
    ap (λ (t : List ℕ). t ++ parts_text (memory.Struct fields is_packed) (length ds + 1) (map (init_text globals) items)) first
    ∙ ap (λ (t : List ℕ). (comma (length ds) ++ memory_text ty ++ codes " " ++ init_text globals item ty) ++ t) moved

parts_array : (globals : List Global) (count i : ℕ) (element : MemTy) (items : List Init) → parts_text (memory.Array count element) i (map (init_text globals) items) ≡ item_texts globals i items (repeated element items)
unfolding parts_text repeated
parts_array globals count i element [] = refl
parts_array globals count i element (item ∷ items) = ap (λ (t : List ℕ). (comma i ++ memory_text element ++ codes " " ++ init_text globals item element) ++ t) (parts_array globals count (i + 1) element items)

pub array_shown : (globals : List Global) (count : ℕ) (element : MemTy) (items : List Init) (r : List ℕ) → list_text (memory.Array count element) (map (init_text globals) items) ++ r ≡ list_at globals array_kind items (repeated element items) r
unfolding parts_text repeated
array_shown globals count element [] r = refl
array_shown globals count element (item ∷ items) r =
    let m = memory_text element in
    let i = init_text globals item element in
    ap (λ (t : List ℕ). (codes "[" ++ (((m ++ codes " ") ++ i) ++ t) ++ codes "]") ++ r) (parts_array globals count 1 element items)
    ∙ ap (λ (t : List ℕ). 91 ∷ t) (append_assoc (((m ++ codes " ") ++ i) ++ item_texts globals 1 items (repeated element items)) (codes "]") r ∙ nest4 m (codes " ") i (item_texts globals 1 items (repeated element items)) (93 ∷ r))

pub struct_shown : (globals : List Global) (is_packed : Bool) (fields : List MemTy) (items : List Init) (r : List ℕ) → AreWrittenInits items fields → list_text (memory.Struct fields is_packed) (map (init_text globals) items) ++ r ≡ list_at globals (kind_of is_packed) items fields r
unfolding parts_text
struct_shown globals false [] [] r none_written = refl
struct_shown globals true [] [] r none_written = refl
struct_shown globals false [] (item ∷ items) r x = elim x [ ]
struct_shown globals true [] (item ∷ items) r x = elim x [ ]
struct_shown globals is_packed (ty ∷ tys) [] r x = elim x [ ]
struct_shown globals is_packed (ty ∷ tys) (item ∷ items) r (next_written few one others) =
    let m = memory_text ty in
    let i = init_text globals item ty in
    let later = parts_struct globals is_packed (ty ∷ tys) (ty ∷ []) tys items refl others in
    let e = nat_some (length (map (init_text globals) items)) in
    ap (λ (t : List ℕ). (list_opening (memory.Struct (ty ∷ tys) is_packed) (nat_eq (suc (length (map (init_text globals) items))) 0) ++ (((m ++ codes " ") ++ i) ++ t) ++ list_ending (memory.Struct (ty ∷ tys) is_packed) (nat_eq (suc (length (map (init_text globals) items))) 0)) ++ r) later
    ∙ ap (λ (b : Bool). (list_opening (memory.Struct (ty ∷ tys) is_packed) b ++ (((m ++ codes " ") ++ i) ++ item_texts globals 1 items tys) ++ list_ending (memory.Struct (ty ∷ tys) is_packed) b) ++ r) e
    ∙ bracketed globals is_packed m i (item_texts globals 1 items tys) r
  where
    bracketed : (globals : List Global) (is_packed : Bool) (m i rest r : List ℕ) → (opening_of is_packed false ++ (((m ++ codes " ") ++ i) ++ rest) ++ ending_of is_packed false) ++ r ≡ opener (kind_of is_packed) (gap (kind_of is_packed) (m ▸ 32 ∷ i ▸ rest ▸ gap (kind_of is_packed) (closer (kind_of is_packed) r)))
    bracketed globals false m i rest r = ap (λ (t : List ℕ). 123 ∷ 32 ∷ t) (append_assoc (((m ++ codes " ") ++ i) ++ rest) (32 ∷ 125 ∷ []) r ∙ nest4 m (codes " ") i rest (32 ∷ 125 ∷ r))
    bracketed globals true m i rest r = ap (λ (t : List ℕ). 60 ∷ 123 ∷ 32 ∷ t) (append_assoc (((m ++ codes " ") ++ i) ++ rest) (32 ∷ 125 ∷ 62 ∷ []) r ∙ nest4 m (codes " ") i rest (32 ∷ 125 ∷ 62 ∷ r))

of_array : (globals : List Global) (items : List Init) (count : ℕ) (element : MemTy) (wanted : List ℕ) (before : List InitNode) (r : List ℕ) → ListSeg globals array_kind items (repeated element items) wanted before (32 ∷ list_at globals array_kind items (repeated element items) r) r
    → InitSeg globals (inits.List items) (Array count element) wanted before (32 ∷ init_text globals (inits.List items) (Array count element) ++ r) r
of_array globals items count element wanted before r s =
    let text = ap (λ (t : List ℕ). t ++ r) (init_list globals items (Array count element) ∙ ap (λ (l : memory.MemTy-F MemTy). list_text l (map (init_text globals) items)) (out_array count element)) ∙ array_shown globals count element items r in
    let b = s.bound in
    let c = count_list items in
    record {
      count = s.count;
      given = nodes.Array s.left ∷ s.inner;
      bound = omega (arith, b, c);
      seg = subst (λ (t : List ℕ). Seg init_turn s.count (open_at wanted before) (32 ∷ t) (done_at wanted (before ++ nodes.Array s.left ∷ s.inner)) r) (sym text) s.seg;
      tree = λ more. array_init element (s.tree more);
    }

of_struct : (globals : List Global) (items : List Init) (fields : List MemTy) (is_packed : Bool) (wanted : List ℕ) (before : List InitNode) (r : List ℕ) → AreWrittenInits items fields → ListSeg globals (kind_of is_packed) items fields wanted before (32 ∷ list_at globals (kind_of is_packed) items fields r) r
    → InitSeg globals (inits.List items) (Struct fields is_packed) wanted before (32 ∷ init_text globals (inits.List items) (Struct fields is_packed) ++ r) r
of_struct globals items fields is_packed wanted before r d s =
    let text = ap (λ (t : List ℕ). t ++ r) (init_list globals items (Struct fields is_packed) ∙ ap (λ (l : memory.MemTy-F MemTy). list_text l (map (init_text globals) items)) (out_struct fields is_packed)) ∙ struct_shown globals is_packed fields items r d in
    let b = s.bound in
    let c = count_list items in
    record {
      count = s.count;
      given = node_of (kind_of is_packed) s.left ∷ s.inner;
      bound = omega (arith, b, c);
      seg = subst (λ (t : List ℕ). Seg init_turn s.count (open_at wanted before) (32 ∷ t) (done_at wanted (before ++ node_of (kind_of is_packed) s.left ∷ s.inner)) r) (sym text) s.seg;
      tree = λ more. struct_tree globals items fields is_packed s.left s.inner more (s.tree more);
    }
  where
    struct_tree : (globals : List Global) (items : List Init) (fields : List MemTy) (is_packed : Bool) (left : ℕ) (inner more : List InitNode) → AreInitTrees globals (inner ++ more) items fields more → IsInitTree globals ((node_of (kind_of is_packed) left ∷ inner) ++ more) (inits.List items) (Struct fields is_packed) more
    struct_tree globals items fields false left inner more d = struct_init d
    struct_tree globals items fields true left inner more d = packed_init d

mutual
  init_seg : (globals : List Global) (init : Init) (ty : MemTy) → IsWrittenInit init ty → (wanted : List ℕ) (before : List InitNode) (r : List ℕ) → Ends r → InitSeg globals init ty wanted before (32 ∷ init_text globals init ty ++ r) r
  init_seg globals _ _ (number_written {n = n} {width = width} e) wanted before r ends = leaf_seg globals (inits.Num n) (Int width) wanted before r (count_num n) (number_stands globals n width r e ends)
  init_seg globals _ ty null_written wanted before r ends = leaf_seg globals inits.Null ty wanted before r count_null (null_stands globals ty r ends)
  init_seg globals _ ty zero_written wanted before r ends = leaf_seg globals inits.Zero ty wanted before r count_zero (zero_stands globals ty r ends)
  init_seg globals _ ty (place_written {k = k} {offset = offset}) wanted before r ends = leaf_seg globals (inits.Place k offset) ty wanted before r (count_place k offset) (place_stands globals k offset ty r ends)
  init_seg globals _ ty (text_written {bytes = shown}) wanted before r ends = leaf_seg globals (inits.Bytes shown) ty wanted before r (count_bytes shown) (text_stands globals shown ty r)
  init_seg globals _ _ (array_written {count = count} element {items = items} d) wanted before r ends =
      of_array globals items count element wanted before r (list_seg globals array_kind items (repeated element items) d wanted before r ends)
  init_seg globals _ _ (struct_written {fields = fields} {is_packed = is_packed} {items = items} d) wanted before r ends =
      of_struct globals items fields is_packed wanted before r d (list_seg globals (kind_of is_packed) items fields d wanted before r ends)

  list_seg : (globals : List Global) (k : Kind) (items : List Init) (tys : List MemTy) → AreWrittenInits items tys → (wanted : List ℕ) (before : List InitNode) (r : List ℕ) → Ends r → ListSeg globals k items tys wanted before (32 ∷ list_at globals k items tys r) r
  list_seg globals k [] [] none_written wanted before r ends =
      record {
        count = 1;
        left = left_at (opener k (closer k r));
        inner = nodes.Close (left_at (closer k r)) ∷ [];
        bound = omega arith;
        seg = opener_blank k (closer k r) wanted before 0 _ r
            (subst (λ (p : List InitNode). Seg init_turn 1 (open_at wanted before) (opener k (closer k r)) (done_at wanted p) r) (append_assoc before (node_of k (left_at (opener k (closer k r))) ∷ []) (nodes.Close (left_at (closer k r)) ∷ []))
            (one_turn init_turn _ _ (opener k (closer k r)) r (list_empty k wanted before r)));
        tree = λ more. ends_init;
      }
  list_seg globals k (item ∷ items) (ty ∷ tys) (next_written few one others) wanted before r ends =
      let last_text = gap k (closer k r) in
      let tail = item_texts globals 1 items tys ++ last_text in
      let tail_ends = items_ends globals 0 items tys last_text (gap_ends k r) in
      let u = 32 ∷ init_text globals item ty ++ tail in
      let parts = memory_back ty u (blank_ends _) few in
      let t = memory_text ty ++ u in
      let left = left_at (opener k (gap k t)) in
      let start = list_opens k wanted before (gap k t) u parts.0 (gap_plain k t (type_plain t u parts.0 parts.1)) (gap_type k t u parts.0 parts.1) in
      let head = before ++ node_of k left ∷ nodes.Of parts.0 ∷ [] in
      let first = init_seg globals item ty one (wanted_of k ∷ wanted) head tail tail_ends in
      let rest = later_seg globals k items tys others 0 wanted (head ++ first.given) last_text (gap_ends k r) in
      let last = list_closes k wanted ((head ++ first.given) ++ rest.given) r in
      list_whole globals k item items ty tys wanted before r (gap k t) parts.0 first.given rest.given first.count rest.count left (left_at last_text) u tail last_text
      first.bound rest.bound parts.2 (one_turn init_turn _ _ (opener k (gap k t)) u start) first.seg rest.seg (one_turn init_turn _ _ last_text r last)
      first.tree rest.tree

  later_seg : (globals : List Global) (k : Kind) (items : List Init) (tys : List MemTy) → AreWrittenInits items tys → (i : ℕ) (wanted : List ℕ) (before : List InitNode) (tail : List ℕ) → Ends tail
      → LaterSeg globals k items tys wanted before (item_texts globals (i + 1) items tys ++ tail) tail
  later_seg globals k [] [] none_written i wanted before tail ends =
      record {
        count = 0;
        given = [];
        bound = omega arith;
        seg = subst (λ (p : List InitNode). Seg init_turn 0 (done_at (wanted_of k ∷ wanted) before) tail (done_at (wanted_of k ∷ wanted) p) tail) (sym (append-nil before)) (no_turn init_turn (done_at (wanted_of k ∷ wanted) before) tail);
        tree = λ left more. ends_init;
      }
  later_seg globals k (item ∷ items) (ty ∷ tys) (next_written few one others) i wanted before tail ends =
      let rest_text = item_texts globals (i + 1 + 1) items tys ++ tail in
      let u = 32 ∷ init_text globals item ty ++ rest_text in
      let t = memory_text ty ++ u in
      let parts = memory_back ty u (blank_ends _) few in
      let comes = next_item k wanted before (32 ∷ t) u parts.0 (blind-type_form.skips 32 refl t parts.0 u parts.1) in
      let head = before ++ nodes.Of parts.0 ∷ [] in
      let first = init_seg globals item ty one (wanted_of k ∷ wanted) head rest_text (items_ends globals (i + 1) items tys tail ends) in
      let rest = later_seg globals k items tys others (i + 1) wanted (head ++ first.given) tail ends in
      later_whole globals k item items ty tys wanted before tail parts.0 first.given rest.given first.count rest.count (44 ∷ 32 ∷ t) u rest_text (item_texts globals (i + 1) (item ∷ items) (ty ∷ tys) ++ tail) (items_shown globals i item items ty tys tail)
      first.bound rest.bound parts.2 (one_turn init_turn _ _ (44 ∷ 32 ∷ t) u comes) first.seg rest.seg first.tree rest.tree

-- an initial value, whole
pub init_back : (globals : List Global) (init : Init) (ty : MemTy) (r : List ℕ) → IsWrittenInit init ty → 2 * value_count init < most_turns → Ends r
    → (given : List InitNode) × init_form.Is (32 ∷ init_text globals init ty ++ r) given r × IsInitTree globals given init ty []
unfolding init_form
init_back globals init ty r is few ends =
    let s = init_seg globals init ty is [] [] r ends in
    let b = s.bound in
    let lt : s.count < most_turns = omega (arith, b, few) in (
      s.given,
      (done_at [] s.given, r, all_turns init_turn s.count _ _ _ _ r lt s.seg (refl, refl), (refl, refl)),
      subst (λ (p : List InitNode). IsInitTree globals p init ty []) (append-nil s.given) (s.tree []),
    )
