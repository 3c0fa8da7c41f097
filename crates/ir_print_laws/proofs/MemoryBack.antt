-- Printed types of memory are read as their trees.
use Rattle.std.proofs.Common.{◌≡◌, ℕ, suc, ◌+◌, ◌*◌, ◌≤◌, Bool, true, false, List, [], ◌∷◌, ◌++◌, map, length, refl, sym, ◌∙◌, ap, subst, arith, append_assoc, append-nil}
use Rattle.std.specs.Prelude.{nat_eq, codes, decimal, sum_by}
use Rattle.std.proofs.lemmas.List.Sums.{sum_by-cons}
use Rattle.ir_text.specs.declared.name.Number.{Number}
use Rattle.ir_text.specs.Token.{token_at}
use Rattle.ir_text.specs.Form.{left_at}
use Rattle.ir_text.specs.Words.{is_mark, keyword, numeral}
use Rattle.ir_core.specs.declared.types.MemTy.{MemTy, roll-MemTy}
use Rattle.ir_core.specs.declared.types.MemTy.TheVariants.{Int, Ptr, Array, Struct, rolls-Int, rolls-Ptr, rolls-Array, rolls-Struct}
use Rattle.ir_core.specs.declared.types.MemTy.TheOpen as layer
use Rattle.ir_core.specs.declared.types.MemTy.TheFolds.{ind-MemTy, map-MemTy}
use Rattle.ir_core.specs.Layout.{Measure, measure}
use Rattle.ir_core.proofs.Layouts.{measure-Int, measure-Ptr, measure-Array, measure-Struct}
use Rattle.ir_grammar.specs.declared.type_tree.TypeNode.{TypeNode}
use Rattle.ir_grammar.specs.declared.type_tree.TypeNode.TheVariants as nodes
use Rattle.ir_grammar.specs.declared.types.OpenType.{OpenType}
use Rattle.ir_grammar.specs.Types.{struct_end, struct_node, struct_start, type_start, type_end, type_turn, type_form}
use Rattle.ir_print.specs.Types.{comma, listed, opening_of, ending_of, memory_text}
use Rattle.ir_print.proofs.Layers.{memory_int, memory_ptr, memory_array, memory_struct}
use Rattle.ir_print_laws.specs.FormTrees.{IsMemoryTree, AreFieldTrees, integer, pointer, array, structure, packed, ended, another}
use Rattle.ir_print_laws.proofs.Joined.{◌▸◌, nest3, nest4, nest5}
use Rattle.ir_print_laws.proofs.Tokens.{Ends, token_blank, int_token, ptr_token}
use Rattle.ir_print_laws.proofs.Segments.{Seg, one_turn, no_turn, then_turns, IsBlind, blind_forms, blind_seg}
use Rattle.ir_print_laws.proofs.Marks.{blind_words, comma_here, opens_bracket, closes_bracket, opens_brace, closes_brace, opens_angle, closes_angle, count_here, x_here, bracket_token, brace_token, angle_token, comma_token, end_token}
use Rattle.ir_print_laws.proofs.TypesBack.{open_at, done_at, blind-open, int_seg, ptr_seg, form_by}

-- a printed type of memory is read, some turns at a time
pub record TypeSeg (ty : MemTy) (wanted : List ℕ) (before : List TypeNode) (t r : List ℕ) : Type 0 where
  pub count : ℕ
  pub parts : List TypeNode
  pub bound : count + 1 ≤ 4 * (measure ty).nodes
  pub begins : is_mark 125 (token_at t).0 ≡ false
  pub seg : Seg type_turn count (open_at wanted before) t (done_at wanted (before ++ parts)) r
  pub tree : (more : List TypeNode) → IsMemoryTree (parts ++ more) ty more

abbrev MemoryBack : MemTy → Type 0
MemoryBack ty = (wanted : List ℕ) (before : List TypeNode) (r : List ℕ) → Ends r → TypeSeg ty wanted before (memory_text ty ++ r) r

abbrev Part : Type 0
Part = (ty : MemTy) × MemoryBack ty

abbrev types_of : List Part → List MemTy
types_of parts = map (λ e. e.0) parts

-- ---- how many parts a type has

abbrev sum_nodes : List MemTy → ℕ
sum_nodes fields = sum_by (λ (m : Measure). m.nodes) (map measure fields)

nodes_int : (w : ℕ) → (measure (Int w)).nodes ≡ 1
nodes_int w = ap (λ (m : Measure). m.nodes) (measure-Int w)

nodes_ptr : (measure Ptr).nodes ≡ 1
nodes_ptr = ap (λ (m : Measure). m.nodes) measure-Ptr

nodes_array : (count : ℕ) (element : MemTy) → (measure (Array count element)).nodes ≡ 1 + (measure element).nodes
nodes_array count element =
    let one = ap (λ (m : Measure). m.nodes) (measure-Array count element) in
    let sum = sum_by-cons (λ (m : Measure). m.nodes) (measure element) [] in
    omega (arith, one, sum)

nodes_struct : (fields : List MemTy) (is_packed : Bool) → (measure (Struct fields is_packed)).nodes ≡ 1 + sum_nodes fields
nodes_struct fields is_packed = ap (λ (m : Measure). m.nodes) (measure-Struct fields is_packed)

nodes_more : (field : MemTy) (fields : List MemTy) → sum_nodes (field ∷ fields) ≡ (measure field).nodes + sum_nodes fields
nodes_more field fields = sum_by-cons (λ (m : Measure). m.nodes) (measure field) (map measure fields)

-- the same of an equal text
at_text : (ty : MemTy) (wanted : List ℕ) (before : List TypeNode) (t u r : List ℕ) → u ≡ t → TypeSeg ty wanted before t r → TypeSeg ty wanted before u r
at_text ty wanted before t u r e s = subst (λ (x : List ℕ). TypeSeg ty wanted before x r) (sym e) s

int_case : (w : ℕ) → MemoryBack (Int w)
int_case w = λ wanted before r ends.
    at_text (Int w) wanted before (105 ∷ decimal w ++ r) (memory_text (Int w) ++ r) r (ap (λ (t : List ℕ). t ++ r) (memory_int w))
    (record { count = 1; parts = _ ∷ []; bound = (let m = nodes_int w in omega (arith, m)); begins = rw (int_token w r ends) refl; seg = int_seg wanted before w r ends; tree = λ more. integer })

ptr_case : MemoryBack Ptr
ptr_case = λ wanted before r ends.
    at_text Ptr wanted before (112 ∷ 116 ∷ 114 ∷ r) (memory_text Ptr ++ r) r (ap (λ (t : List ℕ). t ++ r) memory_ptr)
    (record { count = 1; parts = _ ∷ []; bound = (let m = nodes_ptr in omega (arith, m)); begins = rw (ptr_token r ends) refl; seg = ptr_seg wanted before r ends; tree = λ more. pointer })

nat_more : (n : ℕ) → nat_eq (n + 1) 0 ≡ false
nat_more n = grind arith

pub nat_some : (n : ℕ) → nat_eq (suc n) 0 ≡ false
nat_some n = grind arith

-- ---- arrays

array_starts : (wanted : List ℕ) (before : List TypeNode) (count : Number) (u v w : List ℕ) → numeral.Is u count v → (keyword (codes "x")).Is v tt w
    → (type_turn (open_at wanted before)).Is (91 ∷ u) (true, open_at (93 ∷ wanted) (before ++ nodes.Array count (left_at (91 ∷ u)) ∷ [])) w
unfolding type_start
array_starts wanted before count u v w number x =
    (_, w, (left_at (91 ∷ u), 91 ∷ u, (refl, refl), rw (bracket_token u) (tt, u, opens_bracket u, (count, v, number, (tt, w, x, (refl, refl))))), (refl, refl))

array_ends : (wanted : List ℕ) (parts : List TypeNode) (r : List ℕ) → (type_turn (done_at (93 ∷ wanted) parts)).Is (93 ∷ r) (true, done_at wanted parts) r
unfolding type_end
array_ends wanted parts r = rw (nat_some (length wanted)) (done_at wanted parts, r, (tt, r, closes_bracket r, (refl, refl)), (refl, refl))

array_text : (count : ℕ) (element : MemTy) (r : List ℕ) → memory_text (Array count element) ++ r ≡ 91 ∷ decimal count ▸ 32 ∷ 120 ∷ 32 ∷ memory_text element ▸ 93 ∷ r
array_text count element r = ap (λ (t : List ℕ). t ++ r) (memory_array count element) ∙ nest5 (codes "[") (decimal count) (codes " x ") (memory_text element) (codes "]") r

array_case : (count : ℕ) (part : Part) → MemoryBack (Array count part.0)
array_case count part = λ wanted before r ends.
    let inner = memory_text part.0 ++ 93 ∷ r in
    let u = decimal count ++ 32 ∷ 120 ∷ 32 ∷ inner in
    let n = count_here count (32 ∷ 120 ∷ 32 ∷ inner) (record { no_name = refl; no_colon = refl }) in
    let head : TypeNode = nodes.Array n.0 (left_at (91 ∷ u)) in
    let one = array_starts wanted before n.0 u (32 ∷ 120 ∷ 32 ∷ inner) (32 ∷ inner) n.1 (x_here inner) in
    let element = part.1 (93 ∷ wanted) (before ++ head ∷ []) (93 ∷ r) (record { no_name = refl; no_colon = refl }) in
    let last = array_ends wanted ((before ++ head ∷ []) ++ element.parts) r in
    let first_seg = one_turn type_turn _ _ (91 ∷ u) (32 ∷ inner) one in
    let middle_seg = blind_seg type_turn element.count 32 _ _ inner (93 ∷ r) refl (blind-open (93 ∷ wanted) (before ++ head ∷ [])) element.seg in
    let last_seg = one_turn type_turn _ _ (93 ∷ r) r last in
    let all = then_turns type_turn 1 (element.count + 1) _ _ _ _ _ _ first_seg (then_turns type_turn element.count 1 _ _ _ _ _ _ middle_seg last_seg) in
    at_text (Array count part.0) wanted before (91 ∷ u) (memory_text (Array count part.0) ++ r) r (array_text count part.0 r)
    (record {
      count = 1 + (element.count + 1);
      parts = head ∷ element.parts;
      bound = let b = element.bound in let m = nodes_array count part.0 in omega (arith, b, m);
      begins = rw (bracket_token u) refl;
      seg = subst (λ (p : List TypeNode). Seg type_turn (1 + (element.count + 1)) (open_at wanted before) (91 ∷ u) (done_at wanted p) r) (append_assoc before (head ∷ []) element.parts) all;
      tree = λ more. array n.2 (element.tree more);
    })

-- ---- structs

abbrev closer_of : Bool → ℕ
closer_of false = 125
closer_of true = 62

abbrev closing_text : Bool → List ℕ → List ℕ
closing_text false r = 125 ∷ r
closing_text true r = 125 ∷ 62 ∷ r

struct_ends : (is_packed : Bool) (wanted : List ℕ) (parts : List TypeNode) (r : List ℕ) → (type_turn (done_at (closer_of is_packed ∷ wanted) parts)).Is (closing_text is_packed r) (true, done_at wanted (parts ++ nodes.Close ∷ [])) r
unfolding type_end struct_end
struct_ends false wanted parts r = rw (nat_some (length wanted)) (done_at wanted (parts ++ nodes.Close ∷ []), r, rw (end_token r) (tt, r, (tt, r, closes_brace r, (refl, refl)), (refl, refl)), (refl, refl))
struct_ends true wanted parts r = rw (nat_some (length wanted)) (done_at wanted (parts ++ nodes.Close ∷ []), r, rw (end_token (62 ∷ r)) (tt, r, (tt, 62 ∷ r, closes_brace (62 ∷ r), closes_angle r), (refl, refl)), (refl, refl))

next_field : (is_packed : Bool) (wanted : List ℕ) (parts : List TypeNode) (r : List ℕ) → (type_turn (done_at (closer_of is_packed ∷ wanted) parts)).Is (44 ∷ r) (true, open_at (closer_of is_packed ∷ wanted) parts) r
unfolding type_end
next_field false wanted parts r = rw (nat_some (length wanted)) (open_at (closer_of false ∷ wanted) parts, r, rw (comma_token r) (tt, r, comma_here r, (refl, refl)), (refl, refl))
next_field true wanted parts r = rw (nat_some (length wanted)) (open_at (closer_of true ∷ wanted) parts, r, rw (comma_token r) (tt, r, comma_here r, (refl, refl)), (refl, refl))

abbrev opening_text : Bool → List ℕ → List ℕ
opening_text false r = 123 ∷ r
opening_text true r = 60 ∷ 123 ∷ r

struct_opens : (is_packed : Bool) (wanted : List ℕ) (parts : List TypeNode) (r : List ℕ) → is_mark 125 (token_at r).0 ≡ false
    → (type_turn (open_at wanted parts)).Is (opening_text is_packed r) (true, open_at (closer_of is_packed ∷ wanted) (parts ++ struct_node is_packed (left_at (opening_text is_packed r)) ∷ [])) r
unfolding type_start struct_start
struct_opens false wanted parts r e =
    (_, r, (_, 123 ∷ r, (refl, refl), rw (brace_token r) (tt, r, opens_brace r, rw e (refl, refl))), (refl, refl))
struct_opens true wanted parts r e =
    (_, r, (_, 60 ∷ 123 ∷ r, (refl, refl), rw (angle_token (123 ∷ r)) (tt, 123 ∷ r, opens_angle (123 ∷ r), (tt, r, opens_brace r, rw e (refl, refl)))), (refl, refl))

struct_empty : (is_packed : Bool) (wanted : List ℕ) (parts : List TypeNode) (r : List ℕ)
    → (type_turn (open_at wanted parts)).Is (opening_text is_packed (closing_text is_packed r)) (true, done_at wanted ((parts ++ struct_node is_packed (left_at (opening_text is_packed (closing_text is_packed r))) ∷ []) ++ nodes.Close ∷ [])) r
unfolding type_start struct_start struct_end
struct_empty false wanted parts r =
    (_, r, (_, 123 ∷ 125 ∷ r, (refl, refl), rw (brace_token (125 ∷ r)) (tt, 125 ∷ r, opens_brace (125 ∷ r), rw (end_token r) (tt, r, (tt, r, closes_brace r, (refl, refl)), (refl, refl)))), (refl, refl))
struct_empty true wanted parts r = (
  _,
  r,
  (
    _,
    60 ∷ 123 ∷ 125 ∷ 62 ∷ r,
    (refl, refl),
    rw (angle_token (123 ∷ 125 ∷ 62 ∷ r)) (
      tt,
      123 ∷ 125 ∷ 62 ∷ r,
      opens_angle (123 ∷ 125 ∷ 62 ∷ r),
      (
        tt,
        125 ∷ 62 ∷ r,
        opens_brace (125 ∷ 62 ∷ r),
        rw (end_token (62 ∷ r)) (tt, r, (tt, 62 ∷ r, closes_brace (62 ∷ r), closes_angle r), (refl, refl)),
      ),
    ),
  ),
  (refl, refl),
)

blind-type_end : (s : OpenType) → IsBlind (type_end s)
unfolding type_end struct_end
blind-type_end s = search (blind_forms, blind_words) depth 20

blind-done : (closer : ℕ) (wanted : List ℕ) (parts : List TypeNode) → IsBlind (type_turn (done_at (closer ∷ wanted) parts))
blind-done closer wanted parts =
    record { skips = λ b e t v r w. rw (nat_some (length wanted)) (let h = rw (nat_some (length wanted)) at w in (h.0, h.1, (blind-type_end (done_at (closer ∷ wanted) parts)).skips b e t h.0 h.1 h.2, h.3)) }

pub comma_later : (i : ℕ) → comma (i + 1) ≡ codes ", "
comma_later i = rw (nat_more i) refl

ends_later : (fields : List MemTy) (i : ℕ) (tail : List ℕ) → Ends tail → Ends (listed memory_text (i + 1) fields ++ tail)
unfolding listed
ends_later [] i tail ends = ends
ends_later (field ∷ fields) i tail ends = rw (comma_later i) (record { no_name = refl; no_colon = refl })

-- the fields behind the first one
record FieldsSeg (is_packed : Bool) (fields : List MemTy) (wanted : List ℕ) (before : List TypeNode) (t r : List ℕ) : Type 0 where
  count : ℕ
  parts : List TypeNode
  bound : count ≤ 4 * sum_nodes fields
  seg : Seg type_turn count (done_at (closer_of is_packed ∷ wanted) before) t (done_at (closer_of is_packed ∷ wanted) (before ++ parts)) r
  tree : (more : List TypeNode) → AreFieldTrees (parts ++ nodes.Close ∷ more) fields more

fields_text : (i : ℕ) (field : MemTy) (fields : List MemTy) (tail : List ℕ)
    → listed memory_text (i + 1) (field ∷ fields) ++ tail ≡ 44 ∷ 32 ∷ memory_text field ▸ listed memory_text (i + 1 + 1) fields ▸ tail
unfolding listed
fields_text i field fields tail =
    ap (λ (c : List ℕ). ((c ++ memory_text field) ++ listed memory_text (i + 1 + 1) fields) ++ tail) (comma_later i) ∙ nest3 (codes ", ") (memory_text field) (listed memory_text (i + 1 + 1) fields) tail

later_fields : (is_packed : Bool) (parts : List Part) (i : ℕ) (wanted : List ℕ) (before : List TypeNode) (tail : List ℕ) → Ends tail
    → FieldsSeg is_packed (types_of parts) wanted before (listed memory_text (i + 1) (types_of parts) ++ tail) tail
unfolding listed
later_fields is_packed [] i wanted before tail ends =
    record {
      count = 0;
      parts = [];
      bound = omega arith;
      seg = subst (λ (p : List TypeNode). Seg type_turn 0 (done_at (closer_of is_packed ∷ wanted) before) tail (done_at (closer_of is_packed ∷ wanted) p) tail) (sym (append-nil before)) (no_turn type_turn (done_at (closer_of is_packed ∷ wanted) before) tail);
      tree = λ more. ended;
    }
later_fields is_packed (part ∷ parts) i wanted before tail ends =
    let rest = listed memory_text (i + 1 + 1) (types_of parts) ++ tail in
    let t = memory_text part.0 ++ rest in
    let one = part.1 (closer_of is_packed ∷ wanted) before rest (ends_later (types_of parts) (i + 1) tail ends) in
    let others = later_fields is_packed parts (i + 1) wanted (before ++ one.parts) tail ends in
    let first_seg = one_turn type_turn _ _ (44 ∷ 32 ∷ t) (32 ∷ t) (next_field is_packed wanted before (32 ∷ t)) in
    let middle_seg = blind_seg type_turn one.count 32 _ _ t rest refl (blind-open (closer_of is_packed ∷ wanted) before) one.seg in
    let all = then_turns type_turn 1 (one.count + others.count) _ _ _ _ _ _ first_seg (then_turns type_turn one.count others.count _ _ _ _ _ _ middle_seg others.seg) in
    let placed = subst (λ (p : List TypeNode). Seg type_turn (1 + (one.count + others.count)) (done_at (closer_of is_packed ∷ wanted) before) (44 ∷ 32 ∷ t) (done_at (closer_of is_packed ∷ wanted) p) tail) (append_assoc before one.parts others.parts) all in
    record {
      count = 1 + (one.count + others.count);
      parts = one.parts ++ others.parts;
      bound = let b = one.bound in let c = others.bound in let m = nodes_more part.0 (types_of parts) in omega (arith, b, c, m);
      seg = subst (λ (x : List ℕ). Seg type_turn (1 + (one.count + others.count)) (done_at (closer_of is_packed ∷ wanted) before) x (done_at (closer_of is_packed ∷ wanted) (before ▸ one.parts ▸ others.parts)) tail) (sym (fields_text i part.0 (types_of parts) tail)) placed;
      tree = λ more. subst (λ (p : List TypeNode). AreFieldTrees p (part.0 ∷ types_of parts) more) (sym (append_assoc one.parts others.parts (nodes.Close ∷ more))) (another (one.tree (others.parts ++ nodes.Close ∷ more)) (others.tree more));
    }

empty_text : (is_packed : Bool) (r : List ℕ) → memory_text (Struct [] is_packed) ++ r ≡ opening_text is_packed (closing_text is_packed r)
unfolding listed
empty_text false r = ap (λ (t : List ℕ). t ++ r) (memory_struct [] false)
empty_text true r = ap (λ (t : List ℕ). t ++ r) (memory_struct [] true)

struct_shown : (is_packed : Bool) (field : MemTy) (fields : List MemTy) → memory_text (Struct (field ∷ fields) is_packed) ≡ opening_of is_packed false ++ listed memory_text 0 (field ∷ fields) ++ ending_of is_packed false
struct_shown is_packed field fields =
    memory_struct (field ∷ fields) is_packed ∙ ap (λ (b : Bool). opening_of is_packed b ++ listed memory_text 0 (field ∷ fields) ++ ending_of is_packed b) (nat_some (length fields))

struct_text : (is_packed : Bool) (field : MemTy) (fields : List MemTy) (r : List ℕ)
    → memory_text (Struct (field ∷ fields) is_packed) ++ r ≡ opening_text is_packed (32 ∷ memory_text field ▸ listed memory_text (0 + 1) fields ▸ 32 ∷ closing_text is_packed r)
unfolding listed
struct_text false field fields r =
    ap (λ (t : List ℕ). t ++ r) (struct_shown false field fields)
    ∙ ap (λ (t : List ℕ). 123 ∷ 32 ∷ t) (nest3 (memory_text field) (listed memory_text (0 + 1) fields) (32 ∷ 125 ∷ []) r)
struct_text true field fields r =
    ap (λ (t : List ℕ). t ++ r) (struct_shown true field fields)
    ∙ ap (λ (t : List ℕ). 60 ∷ 123 ∷ 32 ∷ t) (nest3 (memory_text field) (listed memory_text (0 + 1) fields) (32 ∷ 125 ∷ 62 ∷ []) r)

node_tree : (is_packed : Bool) (left : ℕ) (fields : List MemTy) (inner rest : List TypeNode) → AreFieldTrees inner fields rest → IsMemoryTree (struct_node is_packed left ∷ inner) (Struct fields is_packed) rest
node_tree false left fields inner rest f = structure f
node_tree true left fields inner rest f = packed f

opening_begins : (is_packed : Bool) (r : List ℕ) → is_mark 125 (token_at (opening_text is_packed r)).0 ≡ false
opening_begins false r = rw (brace_token r) refl
opening_begins true r = rw (angle_token (123 ∷ r)) refl

four : (a : List TypeNode) (x : TypeNode) (b c d : List TypeNode) → (((a ++ x ∷ []) ++ b) ++ c) ++ d ≡ a ▸ x ∷ b ▸ c ▸ d
four a x b c d = nest4 a (x ∷ []) b c d

three : (a b c more : List TypeNode) → (a ▸ b ▸ c) ++ more ≡ a ▸ b ▸ c ▸ more
three a b c more = append_assoc a (b ++ c) more ∙ ap (λ (t : List TypeNode). a ++ t) (append_assoc b c more)

struct_case : (parts : List Part) (is_packed : Bool) → MemoryBack (Struct (types_of parts) is_packed)
struct_case [] is_packed = λ wanted before r ends.
    let t = opening_text is_packed (closing_text is_packed r) in
    let node = struct_node is_packed (left_at t) in
    let all = one_turn type_turn _ _ t r (struct_empty is_packed wanted before r) in
    at_text (Struct [] is_packed) wanted before t (memory_text (Struct [] is_packed) ++ r) r (empty_text is_packed r)
    (record {
      count = 1;
      parts = node ∷ nodes.Close ∷ [];
      bound = let m = nodes_struct [] is_packed in omega (arith, m);
      begins = opening_begins is_packed (closing_text is_packed r);
      seg = subst (λ (p : List TypeNode). Seg type_turn 1 (open_at wanted before) t (done_at wanted p) r) (append_assoc before (node ∷ []) (nodes.Close ∷ [])) all;
      tree = λ more. node_tree is_packed (left_at t) [] (nodes.Close ∷ more) more ended;
    })
struct_case (part ∷ parts) is_packed = λ wanted before r ends.
    let tail = 32 ∷ closing_text is_packed r in
    let rest = listed memory_text (0 + 1) (types_of parts) ++ tail in
    let inner = memory_text part.0 ++ rest in
    let t = opening_text is_packed (32 ∷ inner) in
    let node = struct_node is_packed (left_at t) in
    let closer = closer_of is_packed in
    let one = part.1 (closer ∷ wanted) (before ++ node ∷ []) rest (ends_later (types_of parts) 0 tail (record { no_name = refl; no_colon = refl })) in
    let others = later_fields is_packed parts 0 wanted ((before ++ node ∷ []) ++ one.parts) tail (record { no_name = refl; no_colon = refl }) in
    let first_seg = one_turn type_turn _ _ t (32 ∷ inner) (struct_opens is_packed wanted before (32 ∷ inner) (rw (token_blank inner) one.begins)) in
    let middle_seg = blind_seg type_turn one.count 32 _ _ inner rest refl (blind-open (closer ∷ wanted) (before ++ node ∷ [])) one.seg in
    let last_parts = ((before ++ node ∷ []) ++ one.parts) ++ others.parts in
    let last_seg = blind_seg type_turn 1 32 _ _ (closing_text is_packed r) r refl (blind-done closer wanted last_parts) (one_turn type_turn _ _ (closing_text is_packed r) r (struct_ends is_packed wanted last_parts r)) in
    let all = then_turns type_turn 1 (one.count + (others.count + 1)) _ _ _ _ _ _ first_seg (then_turns type_turn one.count (others.count + 1) _ _ _ _ _ _ middle_seg (then_turns type_turn others.count 1 _ _ _ _ _ _ others.seg last_seg)) in
    at_text (Struct (types_of (part ∷ parts)) is_packed) wanted before t (memory_text (Struct (types_of (part ∷ parts)) is_packed) ++ r) r (struct_text is_packed part.0 (types_of parts) r)
    (record {
      count = 1 + (one.count + (others.count + 1));
      parts = node ∷ one.parts ▸ others.parts ▸ nodes.Close ∷ [];
      bound = let b = one.bound in let c = others.bound in let m = nodes_struct (part.0 ∷ types_of parts) is_packed in let k = nodes_more part.0 (types_of parts) in omega (arith, b, c, m, k);
      begins = opening_begins is_packed (32 ∷ inner);
      seg = subst (λ (p : List TypeNode). Seg type_turn (1 + (one.count + (others.count + 1))) (open_at wanted before) t (done_at wanted p) r) (four before node one.parts others.parts (nodes.Close ∷ [])) all;
      tree = λ more. node_tree is_packed (left_at t) (part.0 ∷ types_of parts) ((one.parts ▸ others.parts ▸ nodes.Close ∷ []) ++ more) more
          (subst (λ (p : List TypeNode). AreFieldTrees p (part.0 ∷ types_of parts) more) (sym (three one.parts others.parts (nodes.Close ∷ []) more)) (another (one.tree (others.parts ++ nodes.Close ∷ more)) (others.tree more)));
    })

by_layer : (y : layer.MemTy-F Part) → MemoryBack (roll-MemTy (map-MemTy Part MemTy (λ (e : Part). e.0) y))
by_layer (layer.Int w) = subst MemoryBack (sym (rolls-Int w)) (int_case w)
by_layer layer.Ptr = subst MemoryBack (sym rolls-Ptr) ptr_case
by_layer (layer.Array count part) = subst MemoryBack (sym (rolls-Array count part.0)) (array_case count part)
by_layer (layer.Struct parts is_packed) = subst MemoryBack (sym (rolls-Struct (types_of parts) is_packed)) (struct_case parts is_packed)

pub memory_seg : (ty : MemTy) → MemoryBack ty
memory_seg = ind-MemTy MemoryBack (λ x y is. subst (λ z. MemoryBack (roll-MemTy z)) is (by_layer y))

-- the printed type of memory, whole
pub memory_back : (ty : MemTy) (r : List ℕ) → Ends r → (measure ty).nodes ≤ 4096 → (parts : List TypeNode) × type_form.Is (memory_text ty ++ r) parts r × IsMemoryTree parts ty []
memory_back ty r ends few =
    let s = memory_seg ty [] [] r ends in
    let b = s.bound in
    (s.parts, form_by s.count s.parts (memory_text ty ++ r) r (omega (arith, b, few)) s.seg, subst (λ (p : List TypeNode). IsMemoryTree p ty []) (append-nil s.parts) (s.tree []))
