-- A printed `getelementptr` is read as its tree.
use Rattle.std.proofs.Common.{◌≡◌, ℕ, ◌<◌, ◌≤◌, Bool, true, false, List, [], ◌∷◌, ◌++◌, length, refl, sym, ◌∙◌, ap, subst}
use Rattle.std.specs.Prelude.{codes, decimal}
use Rattle.std.specs.List.{flat_map, list_all}
use Rattle.std.specs.Char.{is_ascii_digit}
use Rattle.ir_text.specs.Token.{Token, word, token_at, behind_blanks}
use Rattle.ir_text.specs.Form.{most_turns}
use Rattle.ir_text.specs.Words.{is_mark, punctuation, keyword}
use Rattle.ir_core.specs.declared.types.Ty.{Ty}
use Rattle.ir_core.specs.declared.types.Ty.TheVariants as values
use Rattle.ir_core.specs.declared.types.MemTy.{MemTy}
use Rattle.ir_core.specs.declared.code.Operand.{Operand}
use Rattle.ir_core.specs.declared.program.Global.{Global}
use Rattle.ir_core.specs.Layout.{measure}
use Rattle.ir_grammar.specs.declared.type_tree.TypeNode.{TypeNode}
use Rattle.ir_grammar.specs.Words.{is_int_name, begins_word_item, words}
use Rattle.ir_grammar.specs.Types.{is_int, type_form}
use Rattle.ir_value_trees.specs.declared.value_tree.Typed.{Typed}
use Rattle.ir_value_trees.specs.Values.{typed}
use Rattle.ir_instruction_trees.specs.declared.tree.Operation.{Operation}
use Rattle.ir_instruction_trees.specs.declared.tree.Operation.TheVariants as operations
use Rattle.ir_instruction_trees.specs.declared.instructions.OffsetList.{OffsetList}
use Rattle.ir_instruction_trees.specs.Instructions.{offset_turn, offsets, addressing, valued}
use Rattle.ir_print.specs.Types.{ty_text, memory_text}
use Rattle.ir_print.specs.Values.{operand_text, typed_text}
use Rattle.ir_print.specs.Instructions.{offset_text}
use Rattle.ir_print_laws.specs.FormTrees.{IsMemoryTree, IsTypedTree}
use Rattle.ir_print_laws.specs.Instructions.{AreTrees, IsArgumentTree}
use Rattle.ir_print_laws.proofs.Joined.{◌▸◌, nest3, nest5}
use Rattle.ir_print_laws.proofs.Tokens.{Ends, Begun, token_blank, decimal_begun, decimal_digits, int_token}
use Rattle.ir_print_laws.proofs.Segments.{Seg, all_turns}
use Rattle.ir_print_laws.proofs.Marks.{comma_token, comma_here}
use Rattle.ir_print_laws.proofs.TypesBack.{blind-type_form}
use Rattle.ir_print_laws.proofs.MemoryBack.{memory_back}
use Rattle.ir_print_laws.proofs.OperationsBack.{typed_here, blank_ends, comma_ends}
use Rattle.ir_print_laws.specs.Written.{Each, IsInteger, IsOffset}
use Rattle.ir_print_laws.proofs.Between.{type_plain, no_words}
use Rattle.ir_print_laws.proofs.Lists.{texts, AreRead, items_back, behind, same_place, texts_flat}

-- ---- offsets

int_name : (ds : List ℕ) → Begun ds → list_all is_ascii_digit ds ≡ true → is_int_name (105 ∷ ds) ≡ true
int_name [] b all = let e = b.is in absurd cc
int_name (d ∷ ds) b all = all

record IntStands (t u : List ℕ) : Type 0 where
  name : List ℕ
  token : token_at t ≡ (word name, u)
  int : is_int (word name) ≡ true

int_stands : (ty : Ty) (u : List ℕ) → IsInteger ty → Ends u → IntStands (ty_text ty ++ u) u
int_stands values.Void u int ends = absurd int
int_stands (values.Int w) u int ends = record { name = 105 ∷ decimal w; token = int_token w u ends; int = int_name (decimal w) (decimal_begun w) (decimal_digits w) }
int_stands values.Ptr u int ends = absurd int

abbrev offset_state : List Typed → OffsetList
offset_state given = record { offsets = given }

offset_turns : (before : List Typed) (one : Typed) (t u r : List ℕ) → IntStands t u → typed.Is (32 ∷ t) one r → (offset_turn (offset_state before)).Is (44 ∷ 32 ∷ t) (true, offset_state (before ++ one ∷ [])) r
offset_turns before one t u r s h = rw (comma_token (32 ∷ t), token_blank t, s.token, s.int) (tt, 32 ∷ t, comma_here (32 ∷ t), (one, r, h, (refl, refl)))

abbrev at_offset : List Global → Unit {0} → Ty × Operand → List ℕ
at_offset globals i one = offset_text globals one

abbrev is_at_offset : List Global → Unit {0} → Ty × Operand → Typed → Type 0
is_at_offset globals i one given = IsArgumentTree globals one given

offset_step : (globals : List Global) (i : Unit {0}) (one : Ty × Operand) (before : List Typed) (r : List ℕ) → IsOffset one → Ends r
    → (given : Typed) × (offset_turn (offset_state before)).Is (at_offset globals i one ++ r) (true, offset_state (before ++ given ∷ [])) r × is_at_offset globals i one given
offset_step globals i one before r int ends =
    let u = 32 ∷ operand_text globals one.0 one.1 ++ r in
    let given = typed_here globals one.0 one.1 r ends in
    let text : typed_text globals one.0 one.1 ++ r ≡ ty_text one.0 ++ u = nest3 (ty_text one.0) (codes " ") (operand_text globals one.0 one.1) r in
    let stands = subst (λ (t : List ℕ). IntStands t u) (sym text) (int_stands one.0 u int (blank_ends _)) in
    (given.value, offset_turns before given.value (typed_text globals one.0 one.1 ++ r) u r stands given.read, given.tree)

offset_starts : (globals : List Global) (i : Unit {0}) (one : Ty × Operand) (r : List ℕ) → IsOffset one → Ends r → Ends (at_offset globals i one ++ r)
offset_starts globals i one r int ends = record { no_name = refl; no_colon = refl }

offsets_stop : (s : OffsetList) (r : List ℕ) → is_mark 44 (token_at r).0 ≡ false → (offset_turn s).Is r (false, s) r
offsets_stop s r e = rw e (refl, refl)

offsets_are : (n : ℕ) (given : List Typed) (t r : List ℕ) → n < most_turns → is_mark 44 (token_at r).0 ≡ false → Seg offset_turn n (offset_state []) t (offset_state given) r → offsets.Is t given r
unfolding offsets
offsets_are n given t r lt e f = (offset_state given, r, all_turns offset_turn n _ _ _ t r lt f (offsets_stop (offset_state given) r e), (refl, refl))

offset_trees : (globals : List Global) (all : List (Ty × Operand)) (given : List Typed) → AreRead (is_at_offset globals) same_place tt all given → AreTrees (IsArgumentTree globals) all given
offset_trees globals [] [] h = tt
offset_trees globals [] (one ∷ more) h = absurd h
offset_trees globals (one ∷ all) [] h = absurd h
offset_trees globals (one ∷ all) (given ∷ more) h = (h.0, offset_trees globals all more h.1)

-- ---- the whole

gep_word : (t : List ℕ) → (keyword (codes "getelementptr")).Is (codes "getelementptr " ++ t) tt (32 ∷ t)
unfolding keyword token_at behind_blanks
gep_word t = (refl, refl)

addressing_is : (parts : List TypeNode) (base : Typed) (given : List Typed) (t u v w x r : List ℕ) → (keyword (codes "getelementptr")).Is t tt u → words.Is u tt u → type_form.Is u parts v → (punctuation 44).Is v tt w → typed.Is w base x → offsets.Is x given r
    → addressing.Is t (operations.Gep parts base given) r
unfolding addressing
addressing_is parts base given t u v w x r a b c d e f = (tt, u, a, (tt, u, b, (parts, v, c, (tt, w, d, (base, x, e, (given, r, f, (refl, refl)))))))

gep_valued : (t r : List ℕ) (o : Operation) → addressing.Is (codes "getelementptr " ++ t) o r → valued.Is (codes "getelementptr " ++ t) o r
unfolding valued token_at behind_blanks
gep_valued t r o h = h

abbrev item_first : Token × List ℕ → Bool
item_first x = begins_word_item x.0

pub gep_back : (globals : List Global) (ty : MemTy) (base : Operand) (all : List (Ty × Operand)) (r : List ℕ) → (measure ty).nodes ≤ 4096 → Each IsOffset all → length all < most_turns → Ends r → is_mark 44 (token_at r).0 ≡ false
    → (parts : List TypeNode) × (from : Typed) × (given : List Typed)
    × valued.Is ((codes "getelementptr " ++ memory_text ty ++ codes ", " ++ typed_text globals values.Ptr base ++ flat_map (offset_text globals) all) ++ r) (operations.Gep parts from given) r
    × IsMemoryTree parts ty [] × IsTypedTree globals values.Ptr base from × AreTrees (IsArgumentTree globals) all given
gep_back globals ty base all r few ints short ends no_comma =
    let y = texts (at_offset globals) same_place tt all ++ r in
    let list = items_back offset_turn offset_state (at_offset globals) same_place (is_at_offset globals) IsOffset Ends (offset_starts globals) (offset_step globals) tt all [] r ints ends in
    let y_ends = behind offset_turn offset_state (at_offset globals) same_place (is_at_offset globals) IsOffset Ends (offset_starts globals) (offset_step globals) tt all r ints ends in
    let from = typed_here globals values.Ptr base y y_ends in
    let x = 32 ∷ typed_text globals values.Ptr base ++ y in
    let u = memory_text ty ++ 44 ∷ x in
    let parts = memory_back ty (44 ∷ x) (comma_ends x) few in
    let plain = type_plain u (44 ∷ x) parts.0 parts.1 in
    let read = addressing_is parts.0 from.value list.items (codes "getelementptr " ▸ u) (32 ∷ u) (44 ∷ x) x y r (gep_word u) (no_words (32 ∷ u) (ap item_first (token_blank u) ∙ plain.item)) (blind-type_form.skips 32 refl u parts.0 (44 ∷ x) parts.1) (comma_here x) from.read
    (offsets_are (length all) list.items y r short no_comma list.seg) in
    let flat : flat_map (offset_text globals) all ++ r ≡ y = ap (λ (t : List ℕ). t ++ r) (sym (texts_flat (offset_text globals) all)) in
    let text = nest5 (codes "getelementptr ") (memory_text ty) (codes ", ") (typed_text globals values.Ptr base) (flat_map (offset_text globals) all) r
    ∙ ap (λ (t : List ℕ). codes "getelementptr " ▸ memory_text ty ▸ codes ", " ▸ typed_text globals values.Ptr base ▸ t) flat in
    (parts.0, from.value, list.items, subst (λ (t : List ℕ). valued.Is t (operations.Gep parts.0 from.value list.items) r) (sym text) (gep_valued u r _ read), parts.2, from.tree, offset_trees globals all list.items list.trees)
