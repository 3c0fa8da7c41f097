-- Printed operands are read as their trees.
use Rattle.std.proofs.Common.{◌≡◌, ℕ, zero, suc, Bool, true, false, List, [], ◌∷◌, ◌++◌, Some, refl, sym, ◌∙◌, ap, subst, arith}
use Rattle.std.specs.Prelude.{◌&&◌, ◌==◌, nat_eq, nat_le, slice_get, codes, decimal}
use Rattle.std.specs.Fmt.{digits}
use Rattle.std.specs.Str.{bytes_eq}
use Rattle.rj_num.specs.Width.{is_negative, holds_unsigned}
use Rattle.ir_text.specs.declared.token.Spelling.{Spelling}
use Rattle.ir_text.specs.declared.token.Spelling.TheVariants.{Bare}
use Rattle.ir_text.specs.declared.name.Name.{Name}
use Rattle.ir_text.specs.declared.name.Number.{Number}
use Rattle.ir_text.specs.Token.{word, local, global, number, token_at, behind_blanks}
use Rattle.ir_text.specs.Form.{left_at}
use Rattle.ir_text.specs.Words.{local_name, global_name, numeral}
use Rattle.ir_core.specs.declared.types.Ty.{Ty}
use Rattle.ir_core.specs.declared.code.Operand.{Operand}
use Rattle.ir_core.specs.declared.code.Operand.TheVariants as operands
use Rattle.ir_core.specs.declared.program.Global.{Global}
use Rattle.ir_grammar.specs.declared.type_tree.TypeNode.{TypeNode}
use Rattle.ir_grammar.specs.Types.{type_form}
use Rattle.ir_value_trees.specs.declared.value_tree.Address.{Address}
use Rattle.ir_value_trees.specs.declared.value_tree.Value.{Value}
use Rattle.ir_value_trees.specs.declared.value_tree.Value.TheVariants as written
use Rattle.ir_value_trees.specs.declared.value_tree.Typed.{Typed}
use Rattle.ir_value_trees.specs.declared.values.HeadList.{HeadList}
use Rattle.ir_value_trees.specs.declared.values.TailList.{TailList}
use Rattle.ir_value_trees.specs.Values.{word_value_of, word_operand, head_turn, tail_turn, address_heads, address_tails, address, operand, typed}
use Rattle.ir_print_names.specs.Names.{name_text}
use Rattle.ir_print.specs.Types.{ty_text}
use Rattle.ir_print_names.specs.Numbers.{number_text}
use Rattle.ir_print.specs.Values.{width_of, global_of, global_text, place_text, operand_text, typed_text}
use Rattle.ir_print_laws.specs.FormTrees.{IsValueName, IsNumberTree, IsAddressTree, IsOperandTree, IsTypedTree, has_sign}
use Rattle.ir_print_laws.proofs.Joined.{nest3, nest5}
use Rattle.ir_print_laws.proofs.Tokens.{Ends, token_blank, value_token, run_token}
use Rattle.ir_print_laws.proofs.Segments.{no_turn, all_turns}
use Rattle.ir_print_laws.proofs.Marks.{blind-local_name, blind-global_name, blind-numeral, value_here}
use Rattle.ir_print_laws.proofs.NamesHere.{global_token, global_here, signed_form, wide_text, signed_here}
use Rattle.ir_print_laws.proofs.TypesBack.{ty_back}
use Rattle.ir_print_laws.proofs.MemoryBack.{nat_some}
use Rattle.ir_print_laws.proofs.AddressesBack.{place_at, place_read}

-- a printed operand behind a blank
pub record OperandIsRead (globals : List Global) (ty : Ty) (one : Operand) (t r : List ℕ) : Type 0 where
  pub value : Value
  pub read : operand.Is t value r
  pub tree : IsOperandTree globals ty one value

-- ---- words

word_read : (value : ℕ → Value) (name t r : List ℕ) → token_at t ≡ (word name, r) → ((left : ℕ) → word_value_of left (word name) ≡ Some (value left)) → bytes_eq name (codes "getelementptr") ≡ false → operand.Is t (value (left_at t)) r
unfolding operand word_operand
word_read value name t r e is other = rw (e, other) (left_at t, t, (refl, refl), rw (e, is (left_at t)) (refl, refl))

null_token : (r : List ℕ) → Ends r → token_at (32 ∷ codes "null" ++ r) ≡ (word (codes "null"), r)
unfolding token_at behind_blanks
null_token r ends = run_token (codes "null") r refl ends

poison_token : (r : List ℕ) → Ends r → token_at (32 ∷ codes "poison" ++ r) ≡ (word (codes "poison"), r)
unfolding token_at behind_blanks
poison_token r ends = run_token (codes "poison") r refl ends

true_token : (r : List ℕ) → Ends r → token_at (32 ∷ codes "true" ++ r) ≡ (word (codes "true"), r)
unfolding token_at behind_blanks
true_token r ends = run_token (codes "true") r refl ends

false_token : (r : List ℕ) → Ends r → token_at (32 ∷ codes "false" ++ r) ≡ (word (codes "false"), r)
unfolding token_at behind_blanks
false_token r ends = run_token (codes "false") r refl ends

-- ---- names and numbers

local_read : (name : Name) (given t r : List ℕ) → token_at t ≡ (local Bare given, r) → local_name.Is t name r → operand.Is t (written.Local name) r
unfolding operand
local_read name given t r e h = rw e (name, r, h, (refl, refl))

value_read : (v : ℕ) (r : List ℕ) → Ends r → (value : Value) × operand.Is (32 ∷ 37 ∷ 118 ∷ decimal v ++ r) value r × ((name : Name) × (value ≡ written.Local name) × IsValueName v name)
value_read v r ends =
    let t = 37 ∷ 118 ∷ decimal v ++ r in
    let h = value_here v r ends.no_name in
    (_, local_read h.0 (118 ∷ decimal v) (32 ∷ t) r (token_blank t ∙ value_token v r ends.no_name) (blind-local_name.skips 32 refl t h.0 r h.1), (h.0, refl, h.2))

pub numeral_read : (given : Number) (negative : Bool) (digits t r : List ℕ) → token_at t ≡ (number negative digits, r) → numeral.Is t given r → operand.Is t (written.Number given) r
unfolding operand
numeral_read given negative digits t r e h = rw e (given, r, h, (refl, refl))

number_read_by : (none one : Bool) (width n : ℕ) (r : List ℕ) → (width == 1 && n == 0) ≡ none → (width == 1 && n == 1) ≡ one → Ends r
    → (value : Value) × operand.Is (32 ∷ number_text width n ++ r) value r × IsNumberTree width n value
number_read_by true one width n r e f ends = rw e (_, word_read (λ left. written.False left) (codes "false") _ r (false_token r ends) (λ left. refl) refl, (_, refl))
number_read_by false true width n r e f ends = rw (e, f) (_, word_read (λ left. written.True left) (codes "true") _ r (true_token r ends) (λ left. refl) refl, (_, refl))
number_read_by false false width n r e f ends =
    let w = wide_text (nat_le 1 width && nat_le width 128 && holds_unsigned width n) (is_negative width n) width n refl refl in
    let h = signed_here width n r ends in
    let t = signed_form (has_sign width n) width n ++ r in
    let read = numeral_read h.0 h.0.is_negative h.0.digits (32 ∷ t) r (token_blank t ∙ h.2) (blind-numeral.skips 32 refl t h.0 r h.1) in
    rw (e, f) (_, subst (λ (x : List ℕ). operand.Is (32 ∷ x ++ r) (written.Number h.0) r) (sym w) read, (h.0, refl, h.3))

-- ---- addresses

no_heads : (t r : List ℕ) (name : List ℕ) (spelling : Spelling) → token_at t ≡ (global spelling name, r) → address_heads.Is t [] t
unfolding address_heads
no_heads t r name spelling e =
    let start : HeadList = record { heads = [] } in
    (start, t, all_turns head_turn 0 start start start t t (omega arith) (no_turn head_turn start t) (rw e (refl, refl)), (refl, refl))

no_tails : (t : List ℕ) → (address_tails 0).Is t [] t
unfolding address_tails
no_tails t =
    let start : TailList = record { count = 0; tails = [] } in
    (start, t, all_turns tail_turn 0 start start start t t (omega arith) (no_turn tail_turn start t) (refl, refl), (refl, refl))

bare_address : (name : Name) (t r : List ℕ) → address_heads.Is t [] t → global_name.Is t name r → address.Is t (record { left = left_at t; heads = []; name = name; tails = [] }) r
unfolding address
bare_address name t r heads h = (left_at t, t, (refl, refl), ([], t, heads, (name, r, h, ([], r, no_tails r, (refl, refl)))))

address_read : (one : Address) (t r after : List ℕ) (name : List ℕ) (spelling : Spelling) → token_at t ≡ (global spelling name, after) → address.Is t one r → operand.Is t (written.Address one) r
unfolding operand
address_read one t r after name spelling e h = rw e (one, r, h, (refl, refl))

place_read_bare : (name r : List ℕ) → Ends r → (one : Address) × operand.Is (32 ∷ 64 ∷ name_text name ++ r) (written.Address one) r × IsAddressTree name 0 one
place_read_bare name r ends =
    let t = 64 ∷ name_text name ++ r in
    let e = token_blank t ∙ global_token name r ends.no_name in
    let h = global_here name r ends.no_name in
    let heads = no_heads (32 ∷ t) r _ _ e in
    (_, address_read _ (32 ∷ t) r r _ _ e (bare_address h.0 (32 ∷ t) r heads (blind-global_name.skips 32 refl t h.0 r h.1)), (h.2, (refl, refl)))

place_text_bare : (globals : List Global) (k : ℕ) (r : List ℕ) → place_text globals k 0 ++ r ≡ 64 ∷ name_text (global_of (slice_get globals k)) ++ r
place_text_bare globals k r = refl

place_text_far : (globals : List Global) (k offset : ℕ) (r : List ℕ) → nat_eq offset 0 ≡ false
    → 32 ∷ place_text globals k offset ++ r ≡ place_at (global_of (slice_get globals k)) offset r
place_text_far globals k offset r some =
    rw some (ap (λ (t : List ℕ). 32 ∷ t) (nest5 (codes "getelementptr (i8, ptr ") (global_text globals k) (codes ", i64 ") (decimal offset) (codes ")") r))

place_back : (far : Bool) (globals : List Global) (k offset : ℕ) (r : List ℕ) → nat_eq offset 0 ≡ far → Ends r
    → (one : Address) × operand.Is (32 ∷ place_text globals k offset ++ r) (written.Address one) r × IsAddressTree (global_of (slice_get globals k)) offset one
place_back true globals k zero r e ends = place_read_bare (global_of (slice_get globals k)) r ends
place_back true globals k (suc offset) r e ends = let other = nat_some offset in absurd cc
place_back false globals k offset r e ends =
    let h = place_read (global_of (slice_get globals k)) offset r e in
    (h.0, subst (λ (t : List ℕ). operand.Is t (written.Address h.0) r) (sym (place_text_far globals k offset r e)) h.1, h.2)

pub operand_back : (globals : List Global) (ty : Ty) (one : Operand) (r : List ℕ) → Ends r → OperandIsRead globals ty one (32 ∷ operand_text globals ty one ++ r) r
operand_back globals ty (operands.Value v) r ends = let h = value_read v r ends in record { value = h.0; read = h.1; tree = h.2 }
operand_back globals ty (operands.Num n) r ends =
    let h = number_read_by (width_of ty == 1 && n == 0) (width_of ty == 1 && n == 1) (width_of ty) n r refl refl ends in
    record { value = h.0; read = h.1; tree = h.2 }
operand_back globals ty operands.Null r ends = record { value = _; read = word_read (λ left. written.Null left) (codes "null") _ r (null_token r ends) (λ left. refl) refl; tree = (_, refl) }
operand_back globals ty (operands.Place k offset) r ends =
    let h = place_back (nat_eq offset 0) globals k offset r refl ends in
    record { value = written.Address h.0; read = h.1; tree = (h.0, refl, h.2) }
operand_back globals ty operands.Poison r ends = record { value = _; read = word_read (λ left. written.Poison left) (codes "poison") _ r (poison_token r ends) (λ left. refl) refl; tree = (_, refl) }

-- `T V`
pub record TypedIsRead (globals : List Global) (ty : Ty) (one : Operand) (t r : List ℕ) : Type 0 where
  pub value : Typed
  pub read : typed.Is t value r
  pub tree : IsTypedTree globals ty one value

pub typed_by : (ty : List TypeNode) (value : Value) (t u r : List ℕ) → type_form.Is t ty u → operand.Is u value r → typed.Is t (record { ty = ty; value = value }) r
unfolding typed
typed_by ty value t u r f g = (ty, u, f, (value, r, g, (refl, refl)))

pub typed_back : (globals : List Global) (ty : Ty) (one : Operand) (r : List ℕ) → Ends r → TypedIsRead globals ty one (typed_text globals ty one ++ r) r
typed_back globals ty one r ends =
    let u = 32 ∷ operand_text globals ty one ++ r in
    let f = ty_back ty u (record { no_name = refl; no_colon = refl }) in
    let g = operand_back globals ty one r ends in
    record {
      value = record { ty = f.parts; value = g.value };
      read = subst (λ (t : List ℕ). typed.Is t (record { ty = f.parts; value = g.value }) r) (sym (nest3 (ty_text ty) (codes " ") (operand_text globals ty one) r)) (typed_by f.parts g.value (ty_text ty ++ u) u r f.read g.read);
      tree = (f.tree, g.tree);
    }
