-- Printed addresses with an offset are read as their trees.
use Rattle.std.proofs.Common.{◌≡◌, ℕ, true, false, List, [], ◌∷◌, ◌++◌, refl, ◌∙◌, arith}
use Rattle.std.specs.Prelude.{nat_eq, codes, decimal}
use Rattle.ir_text.specs.declared.token.Spelling.{Spelling}
use Rattle.ir_text.specs.declared.name.Name.{Name}
use Rattle.ir_text.specs.Token.{word, global, mark, token_at, behind_blanks}
use Rattle.ir_text.specs.Form.{left_at}
use Rattle.ir_text.specs.Words.{punctuation, keyword, global_name}
use Rattle.ir_grammar.specs.declared.type_tree.TypeNode.{TypeNode}
use Rattle.ir_grammar.specs.declared.type_tree.TypeNode.TheVariants as nodes
use Rattle.ir_grammar.specs.Types.{integer, type_form}
use Rattle.ir_value_trees.specs.declared.value_tree.Index.{Index}
use Rattle.ir_value_trees.specs.declared.value_tree.Address.{Address}
use Rattle.ir_value_trees.specs.declared.value_tree.Value.TheVariants as written
use Rattle.ir_value_trees.specs.declared.values.AddressWordList.{AddressWordList}
use Rattle.ir_value_trees.specs.declared.values.IndexList.{IndexList}
use Rattle.ir_value_trees.specs.declared.values.HeadList.{HeadList}
use Rattle.ir_value_trees.specs.declared.values.TailList.{TailList}
use Rattle.ir_value_trees.specs.Values.{address_word_turn, address_words, index_form, index_turn, address_head, head_turn, address_tail, tail_turn, address_heads, address_tails, address, operand}
use Rattle.ir_print_names.specs.Names.{name_text}
use Rattle.ir_print_laws.specs.FormTrees.{IsOffsetTree, IsAddressTree}
use Rattle.ir_print_laws.proofs.Tokens.{token_blank}
use Rattle.ir_print_laws.proofs.Segments.{one_turn, no_turn, all_turns}
use Rattle.ir_print_laws.proofs.Marks.{blind-global_name, blind-numeral, comma_here, comma_token, count_here}
use Rattle.ir_print_laws.proofs.NamesHere.{global_token, global_here}
use Rattle.ir_print_laws.proofs.TypesBack.{word_seg, form_by}

-- ---- the head: `getelementptr (i8, ptr`

abbrev head_text : List ℕ → List ℕ
head_text t = codes "getelementptr (i8, ptr" ++ t

no_words : (t : List ℕ) → address_words.Is (32 ∷ 40 ∷ t) tt (32 ∷ 40 ∷ t)
unfolding address_words token_at behind_blanks
no_words t =
    let start : AddressWordList = record {} in
    (start, 32 ∷ 40 ∷ t, all_turns address_word_turn 0 start start start _ _ (omega arith) (no_turn address_word_turn start _) (refl, refl), (refl, refl))

byte_type : (t : List ℕ) → type_form.Is (105 ∷ 56 ∷ 44 ∷ t) (nodes.Int (codes "8") (left_at (105 ∷ 56 ∷ 44 ∷ t)) ∷ []) (44 ∷ t)
unfolding token_at behind_blanks
byte_type t = form_by 1 _ _ (44 ∷ t) (omega arith) (word_seg [] [] (105 ∷ 56 ∷ []) (λ left. nodes.Int (56 ∷ []) left) (105 ∷ 56 ∷ 44 ∷ t) (44 ∷ t) refl (λ left. refl))

head_word : (t : List ℕ) → (keyword (codes "getelementptr")).Is (32 ∷ codes "getelementptr" ++ 32 ∷ 40 ∷ t) tt (32 ∷ 40 ∷ t)
unfolding keyword token_at behind_blanks
head_word t = (refl, refl)

opens_operands : (t : List ℕ) → (punctuation 40).Is (32 ∷ 40 ∷ t) tt t
unfolding punctuation token_at behind_blanks
opens_operands t = (refl, refl)

ptr_word : (t : List ℕ) → (keyword (codes "ptr")).Is (32 ∷ 112 ∷ 116 ∷ 114 ∷ 32 ∷ t) tt (32 ∷ t)
unfolding keyword token_at behind_blanks
ptr_word t = (refl, refl)

abbrev byte_at : List ℕ → List TypeNode
byte_at t = nodes.Int (codes "8") (left_at (105 ∷ 56 ∷ 44 ∷ t)) ∷ []

head_read : (t : List ℕ) → address_head.Is (32 ∷ head_text (32 ∷ t)) (byte_at (32 ∷ 112 ∷ 116 ∷ 114 ∷ 32 ∷ t)) (32 ∷ t)
unfolding address_head
head_read t =
    let ptr = 32 ∷ 112 ∷ 116 ∷ 114 ∷ 32 ∷ t in
    let inner = 105 ∷ 56 ∷ 44 ∷ ptr in
    (tt, 32 ∷ 40 ∷ inner, head_word inner, (tt, 32 ∷ 40 ∷ inner, no_words inner, (tt, inner, opens_operands inner, (_, 44 ∷ ptr, byte_type ptr, (tt, ptr, comma_here ptr, (tt, 32 ∷ t, ptr_word t, (refl, refl)))))))

head_token : (t : List ℕ) → token_at (32 ∷ head_text (32 ∷ t)) ≡ (word (codes "getelementptr"), 32 ∷ codes "(i8, ptr" ++ 32 ∷ t)
unfolding token_at behind_blanks
head_token t = refl

head_turns : (t r name : List ℕ) (spelling : Spelling) → token_at (32 ∷ t) ≡ (global spelling name, r) → address_heads.Is (32 ∷ head_text (32 ∷ t)) (byte_at (32 ∷ 112 ∷ 116 ∷ 114 ∷ 32 ∷ t) ∷ []) (32 ∷ t)
unfolding address_heads
head_turns t r name spelling e =
    let start : HeadList = record { heads = [] } in
    let ty = byte_at (32 ∷ 112 ∷ 116 ∷ 114 ∷ 32 ∷ t) in
    let end : HeadList = record { heads = ty ∷ [] } in
    let turn : (head_turn start).Is (32 ∷ head_text (32 ∷ t)) (true, end) (32 ∷ t) = rw (head_token t) (ty, 32 ∷ t, head_read t, (refl, refl)) in
    (end, 32 ∷ t, all_turns head_turn 1 start end end _ _ (omega arith) (one_turn head_turn start end _ _ turn) (rw e (refl, refl)), (refl, refl))

-- ---- the tail: `, i64 OFFSET)`

wide_token : (t : List ℕ) → token_at (32 ∷ 105 ∷ 54 ∷ 52 ∷ 32 ∷ t) ≡ (word (codes "i64"), 32 ∷ t)
unfolding token_at behind_blanks
wide_token t = refl

wide_here : (t : List ℕ) → integer.Is (32 ∷ 105 ∷ 54 ∷ 52 ∷ 32 ∷ t) (nodes.Int (codes "64") (left_at (32 ∷ 105 ∷ 54 ∷ 52 ∷ 32 ∷ t))) (32 ∷ t)
unfolding integer
wide_here t = (_, 32 ∷ 105 ∷ 54 ∷ 52 ∷ 32 ∷ t, (refl, refl), rw (wide_token t) (refl, refl))

closes_operands : (t : List ℕ) → (punctuation 41).Is (41 ∷ t) tt t
unfolding punctuation token_at behind_blanks
closes_operands t = (refl, refl)

closing_token : (t : List ℕ) → token_at (41 ∷ t) ≡ (mark 41, t)
unfolding token_at behind_blanks
closing_token t = refl

index_read : (offset : ℕ) (r : List ℕ) → (index : Index) × index_form.Is (32 ∷ 105 ∷ 54 ∷ 52 ∷ 32 ∷ decimal offset ++ 41 ∷ r) index (41 ∷ r) × IsOffsetTree offset index
unfolding index_form
index_read offset r =
    let t = decimal offset ++ 41 ∷ r in
    let h = count_here offset (41 ∷ r) (record { no_name = refl; no_colon = refl }) in
    (_, (_, 32 ∷ t, wide_here t, (h.0, 41 ∷ r, blind-numeral.skips 32 refl t h.0 (41 ∷ r) h.1, (refl, refl))), ((_, refl), h.2))

abbrev tail_text : ℕ → List ℕ → List ℕ
tail_text offset r = 44 ∷ 32 ∷ 105 ∷ 54 ∷ 52 ∷ 32 ∷ decimal offset ++ 41 ∷ r

tail_read : (offset : ℕ) (r : List ℕ) → (index : Index) × address_tail.Is (tail_text offset r) (index ∷ []) r × IsOffsetTree offset index
unfolding address_tail
tail_read offset r =
    let h = index_read offset r in
    let t = 32 ∷ 105 ∷ 54 ∷ 52 ∷ 32 ∷ decimal offset ++ 41 ∷ r in
    let start : IndexList = record { indices = [] } in
    let end : IndexList = record { indices = h.0 ∷ [] } in
    let turn : (index_turn start).Is (44 ∷ t) (true, end) (41 ∷ r) = rw (comma_token t) (tt, t, comma_here t, (h.0, 41 ∷ r, h.1, (refl, refl))) in
    let stop : (index_turn end).Is (41 ∷ r) (false, end) (41 ∷ r) = rw (closing_token r) (refl, refl) in
    (h.0, (end, 41 ∷ r, all_turns index_turn 1 start end end _ _ (omega arith) (one_turn index_turn start end _ _ turn) stop, (tt, r, closes_operands r, (refl, refl))), h.2)

tail_turns : (index : Index) (t r : List ℕ) → address_tail.Is t (index ∷ []) r → (address_tails 1).Is t ((index ∷ []) ∷ []) r
unfolding address_tails
tail_turns index t r h =
    let start : TailList = record { count = 1; tails = [] } in
    let end : TailList = record { count = 1; tails = (index ∷ []) ∷ [] } in
    let turn : (tail_turn start).Is t (true, end) r = (index ∷ [], r, h, (refl, refl)) in
    (end, r, all_turns tail_turn 1 start end end t r (omega arith) (one_turn tail_turn start end t r turn) (refl, refl), (refl, refl))

-- ---- the whole

address_by : (ty : List TypeNode) (name : Name) (index : Index) (t u v r : List ℕ) → address_heads.Is t (ty ∷ []) u → global_name.Is u name v → (address_tails 1).Is v ((index ∷ []) ∷ []) r
    → address.Is t (record { left = left_at t; heads = ty ∷ []; name = name; tails = (index ∷ []) ∷ [] }) r
unfolding address
address_by ty name index t u v r heads h tails = (left_at t, t, (refl, refl), (ty ∷ [], u, heads, (name, v, h, ((index ∷ []) ∷ [], r, tails, (refl, refl)))))

operand_by : (one : Address) (t u r : List ℕ) → token_at t ≡ (word (codes "getelementptr"), u) → address.Is t one r → operand.Is t (written.Address one) r
unfolding operand
operand_by one t u r e h = rw e (one, r, h, (refl, refl))

abbrev pub place_at : List ℕ → ℕ → List ℕ → List ℕ
place_at name offset r = 32 ∷ head_text (32 ∷ 64 ∷ name_text name ++ tail_text offset r)

pub place_read : (name : List ℕ) (offset : ℕ) (r : List ℕ) → nat_eq offset 0 ≡ false → (one : Address) × operand.Is (place_at name offset r) (written.Address one) r × IsAddressTree name offset one
place_read name offset r some =
    let v = tail_text offset r in
    let u = 64 ∷ name_text name ++ v in
    let h = global_here name v refl in
    let last = tail_read offset r in
    let heads = head_turns u v _ _ (token_blank u ∙ global_token name v refl) in
    let one = address_by _ h.0 last.0 (32 ∷ head_text (32 ∷ u)) (32 ∷ u) v r heads (blind-global_name.skips 32 refl u h.0 v h.1) (tail_turns last.0 v r last.1) in
    (_, operand_by _ (32 ∷ head_text (32 ∷ u)) _ r (head_token u) one, (h.2, rw some ((_, refl), (last.0, refl, last.2))))
