-- Printed lists are read item by item.
use Rattle.std.proofs.Common.{◌≡◌, ℕ, suc, ◌+◌, ◌<◌, Bool, true, false, List, [], ◌∷◌, ◌++◌, length, refl, sym, ◌∙◌, ap, subst, arith, append_assoc, append-nil}
use Rattle.std.specs.Prelude.{codes, decimal}
use Rattle.std.specs.List.{flat_map}
use Rattle.ir_text.specs.declared.name.Name.{Name}
use Rattle.ir_text.specs.Token.{mark, token_at, behind_blanks}
use Rattle.ir_text.specs.Form.{Form, most_turns}
use Rattle.ir_text.specs.Words.{is_mark, punctuation, keyword, local_name}
use Rattle.ir_core.specs.declared.types.Ty.{Ty}
use Rattle.ir_core.specs.declared.code.Operand.{Operand}
use Rattle.ir_core.specs.declared.program.Global.{Global}
use Rattle.ir_grammar.specs.declared.type_tree.TypeNode.{TypeNode}
use Rattle.ir_grammar.specs.Types.{type_form}
use Rattle.ir_value_trees.specs.declared.value_tree.Value.{Value}
use Rattle.ir_value_trees.specs.Values.{operand}
use Rattle.ir_instruction_trees.specs.declared.tree.Incoming.{Incoming}
use Rattle.ir_instruction_trees.specs.declared.tree.Operation.TheVariants as operations
use Rattle.ir_instruction_trees.specs.declared.instructions.IncomingList.{IncomingList}
use Rattle.ir_instruction_trees.specs.Instructions.{incoming, incoming_turn, more_incoming, choice}
use Rattle.ir_print.specs.Types.{ty_text, listed}
use Rattle.ir_print.specs.Values.{operand_text}
use Rattle.ir_print.specs.Instructions.{incoming_text}
use Rattle.ir_print_laws.specs.FormTrees.{IsTyTree}
use Rattle.ir_print_laws.specs.Instructions.{AreTrees, IsIncomingTree}
use Rattle.ir_print_laws.proofs.Joined.{◌▸◌, nest4, nest5}
use Rattle.ir_print_laws.proofs.Tokens.{Ends, token_blank}
use Rattle.ir_print_laws.proofs.Segments.{Seg, one_turn, no_turn, then_turns, all_turns}
use Rattle.ir_print_laws.proofs.Marks.{blind-local_name, comma_here, comma_token, bracket_token, block_here}
use Rattle.ir_print_laws.proofs.TypesBack.{ty_back, blind-type_form}
use Rattle.ir_print_laws.proofs.MemoryBack.{comma_later}
use Rattle.ir_print_laws.proofs.ValuesBack.{operand_back}
use Rattle.ir_print_laws.proofs.OperationsBack.{blank_ends, comma_ends}

-- ---- any list

-- a list whose items are each read by a turn
pub record ListIsRead {X Y S : Type 0} (turn : S → Form (Bool × S)) (state : List Y → S) (Is : X → Y → Type 0) (xs : List X) (before : List Y) (t r : List ℕ) : Type 0 where
  pub items : List Y
  pub seg : Seg turn (length xs) (state before) t (state (before ++ items)) r
  pub trees : AreTrees Is xs items

module _ {X Y S : Type 0} (turn : S → Form (Bool × S)) (state : List Y → S) (text : X → List ℕ) (Is : X → Y → Type 0)
    (starts : (x : X) (r : List ℕ) → Ends (text x ++ r))
    (step : (x : X) (before : List Y) (r : List ℕ) → Ends r → (y : Y) × (turn (state before)).Is (text x ++ r) (true, state (before ++ y ∷ [])) r × Is x y) where
  ends_of : (xs : List X) (r : List ℕ) → Ends r → Ends (flat_map text xs ++ r)
  ends_of [] r ends = ends
  ends_of (x ∷ xs) r ends = subst (λ (t : List ℕ). Ends t) (sym (append_assoc (text x) (flat_map text xs) r)) (starts x (flat_map text xs ++ r))

  pub list_back : (xs : List X) (before : List Y) (r : List ℕ) → Ends r → ListIsRead turn state Is xs before (flat_map text xs ++ r) r
  list_back [] before r ends =
      record {
        items = [];
        seg = subst (λ (ys : List Y). Seg turn 0 (state before) r (state ys) r) (sym (append-nil before)) (no_turn turn (state before) r);
        trees = tt;
      }
  list_back (x ∷ xs) before r ends =
      let u = flat_map text xs ++ r in
      let one = step x before u (ends_of xs r ends) in
      let others = list_back xs (before ++ one.0 ∷ []) r ends in
      let all = then_turns turn 1 (length xs) _ _ _ _ _ _ (one_turn turn (state before) (state (before ++ one.0 ∷ [])) (text x ++ u) u one.1) others.seg in
      let count : 1 + length xs ≡ suc (length xs) = omega arith in
      let counted = subst (λ (n : ℕ). Seg turn n (state before) (text x ++ u) (state ((before ++ one.0 ∷ []) ++ others.items)) r) count all in
      let placed = subst (λ (ys : List Y). Seg turn (suc (length xs)) (state before) (text x ++ u) (state ys) r) (append_assoc before (one.0 ∷ []) others.items) counted in
      record {
        items = one.0 ∷ others.items;
        seg = subst (λ (t : List ℕ). Seg turn (suc (length xs)) (state before) t (state (before ++ one.0 ∷ others.items)) r) (sym (append_assoc (text x) (flat_map text xs) r)) placed;
        trees = (one.2, others.trees);
      }

-- items behind the first one, each with a comma before it
pub listed_later : {X : Type 0} (text : X → List ℕ) (i : ℕ) (xs : List X) → listed text (i + 1) xs ≡ flat_map (λ x. codes ", " ++ text x) xs
unfolding listed
listed_later text i [] = refl
listed_later {X = X} text i (x ∷ xs) =
    ap (λ (c : List ℕ). (c ++ text x) ++ listed text (i + 1 + 1) xs) (comma_later i) ∙ ap (λ (t : List ℕ). (codes ", " ++ text x) ++ t) (listed_later text (i + 1) xs)

-- ---- what comes into a `phi`

opens_incoming : (t : List ℕ) → (punctuation 91).Is (32 ∷ 91 ∷ t) tt t
unfolding punctuation token_at behind_blanks
opens_incoming t = (refl, refl)

closes_incoming : (t : List ℕ) → (punctuation 93).Is (32 ∷ 93 ∷ t) tt t
unfolding punctuation token_at behind_blanks
closes_incoming t = (refl, refl)

incoming_is : (value : Value) (block : Name) (t u v w x r : List ℕ) → (punctuation 91).Is t tt u → operand.Is u value v → (punctuation 44).Is v tt w → local_name.Is w block x → (punctuation 93).Is x tt r → incoming.Is t (record { value = value; block = block }) r
unfolding incoming
incoming_is value block t u v w x r a b c d e = (tt, u, a, (value, v, b, (tt, w, c, (block, x, d, (tt, r, e, (refl, refl))))))

incoming_back : (globals : List Global) (ty : Ty) (one : Operand × ℕ) (r : List ℕ) → (given : Incoming) × incoming.Is (32 ∷ incoming_text globals ty one ++ r) given r × IsIncomingTree globals ty one given
incoming_back globals ty one r =
    let z = 32 ∷ 93 ∷ r in
    let y = 32 ∷ 37 ∷ 98 ∷ decimal one.1 ++ z in
    let value = operand_back globals ty one.0 (44 ∷ y) (comma_ends y) in
    let block = block_here one.1 z refl in
    let read = incoming_is value.value block.0 (32 ∷ 91 ∷ 32 ∷ operand_text globals ty one.0 ++ 44 ∷ y) _ (44 ∷ y) y z r (opens_incoming _) value.read (comma_here y) (blind-local_name.skips 32 refl (37 ∷ 98 ∷ decimal one.1 ++ z) block.0 z block.1) (closes_incoming r) in
    let text = nest5 (codes "[ ") (operand_text globals ty one.0) (codes ", %b") (decimal one.1) (codes " ]") r in
    (record { value = value.value; block = block.0 }, subst (λ (t : List ℕ). incoming.Is (32 ∷ t) (record { value = value.value; block = block.0 }) r) (sym text) read, (value.tree, block.2))

abbrev incoming_state : Incoming → List Incoming → IncomingList
incoming_state first others = record { incoming = first ∷ others }

comma_before_bracket : (t : List ℕ) → token_at (44 ∷ 32 ∷ 91 ∷ t) ≡ (mark 44, 32 ∷ 91 ∷ t)
comma_before_bracket t = comma_token (32 ∷ 91 ∷ t)

bracket_behind : (t : List ℕ) → token_at (32 ∷ 91 ∷ t) ≡ (mark 91, t)
bracket_behind t = token_blank (91 ∷ t) ∙ bracket_token t

incoming_turns : (s : IncomingList) (one : Incoming) (t r : List ℕ) → incoming.Is (32 ∷ 91 ∷ t) one r → (incoming_turn s).Is (44 ∷ 32 ∷ 91 ∷ t) (true, record { incoming = s.incoming ++ one ∷ [] }) r
incoming_turns s one t r h = rw (comma_before_bracket t, bracket_behind t) (tt, 32 ∷ 91 ∷ t, comma_here (32 ∷ 91 ∷ t), (one, r, h, (refl, refl)))

incoming_stops : (s : IncomingList) (r : List ℕ) → is_mark 44 (token_at r).0 ≡ false → (incoming_turn s).Is r (false, s) r
incoming_stops s r e = rw e (refl, refl)

incoming_step : (globals : List Global) (ty : Ty) (first : Incoming) (one : Operand × ℕ) (before : List Incoming) (r : List ℕ) → Ends r
    → (given : Incoming) × (incoming_turn (incoming_state first before)).Is ((codes ", " ++ incoming_text globals ty one) ++ r) (true, incoming_state first (before ++ given ∷ [])) r × IsIncomingTree globals ty one given
incoming_step globals ty first one before r ends =
    let h = incoming_back globals ty one r in
    (h.0, incoming_turns (incoming_state first before) h.0 _ r h.1, h.2)

incoming_starts : (globals : List Global) (ty : Ty) (one : Operand × ℕ) (r : List ℕ) → Ends ((codes ", " ++ incoming_text globals ty one) ++ r)
incoming_starts globals ty one r = record { no_name = refl; no_colon = refl }

more_is : (first : Incoming) (others : List Incoming) (n : ℕ) (t r : List ℕ) → n < most_turns → Seg incoming_turn n (incoming_state first []) t (incoming_state first others) r → is_mark 44 (token_at r).0 ≡ false → (more_incoming first).Is t (first ∷ others) r
unfolding more_incoming
more_is first others n t r lt f e = (incoming_state first others, r, all_turns incoming_turn n _ _ _ t r lt f (incoming_stops (incoming_state first others) r e), (refl, refl))

phi_word : (t : List ℕ) → (keyword (codes "phi")).Is (codes "phi " ++ t) tt (32 ∷ t)
unfolding keyword token_at behind_blanks
phi_word t = (refl, refl)

choice_is : (ty : List TypeNode) (first : Incoming) (others : List Incoming) (t u v w r : List ℕ) → (keyword (codes "phi")).Is t tt u → type_form.Is u ty v → incoming.Is v first w → (more_incoming first).Is w (first ∷ others) r → choice.Is t (operations.Phi ty (first ∷ others)) r
unfolding choice
choice_is ty first others t u v w r a b c d = (tt, u, a, (ty, v, b, (first, w, c, (first ∷ others, r, d, (refl, refl)))))

pub phi_back : (globals : List Global) (gives : Ty) (one : Operand × ℕ) (others : List (Operand × ℕ)) (r : List ℕ) → Ends r → is_mark 44 (token_at r).0 ≡ false → length others < most_turns
    → (ty : List TypeNode) × (all : List Incoming) × choice.Is ((codes "phi " ++ ty_text gives ++ codes " " ++ listed (incoming_text globals gives) 0 (one ∷ others)) ++ r) (operations.Phi ty all) r
    × IsTyTree gives ty × AreTrees (IsIncomingTree globals gives) (one ∷ others) all
unfolding listed
phi_back globals gives one others r ends no_comma few =
    let text_of = λ (x : Operand × ℕ). codes ", " ++ incoming_text globals gives x in
    let tail = flat_map text_of others ++ r in
    let z = incoming_text globals gives one ++ tail in
    let ty = ty_back gives (32 ∷ z) (blank_ends z) in
    let first = incoming_back globals gives one tail in
    let rest = list_back incoming_turn (incoming_state first.0) text_of (IsIncomingTree globals gives) (incoming_starts globals gives) (incoming_step globals gives first.0) others [] r ends in
    let more = more_is first.0 rest.items (length others) tail r few rest.seg no_comma in
    let read = choice_is ty.parts first.0 rest.items (codes "phi " ▸ ty_text gives ▸ 32 ∷ z) _ (32 ∷ z) tail r (phi_word _) (blind-type_form.skips 32 refl (ty_text gives ++ 32 ∷ z) ty.parts (32 ∷ z) ty.read) first.1 more in
    let list : listed (incoming_text globals gives) 0 (one ∷ others) ++ r ≡ z =
    ap (λ (t : List ℕ). (incoming_text globals gives one ++ t) ++ r) (listed_later (incoming_text globals gives) 0 others) ∙ append_assoc (incoming_text globals gives one) (flat_map text_of others) r in
    let text = nest4 (codes "phi ") (ty_text gives) (codes " ") (listed (incoming_text globals gives) 0 (one ∷ others)) r ∙ ap (λ (t : List ℕ). codes "phi " ▸ ty_text gives ▸ 32 ∷ t) list in
    (ty.parts, first.0 ∷ rest.items, subst (λ (t : List ℕ). choice.Is t (operations.Phi ty.parts (first.0 ∷ rest.items)) r) (sym text) read, ty.tree, (first.2, rest.trees))
