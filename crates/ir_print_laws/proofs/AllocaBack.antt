-- A printed `alloca` is read as its tree.
use Rattle.std.proofs.Common.{◌≡◌, ℕ, ◌≤◌, Bool, true, false, List, [], ◌∷◌, ◌++◌, Option, Some, None, refl, sym, ◌∙◌, subst, arith}
use Rattle.std.specs.Prelude.{◌==◌, codes, decimal}
use Rattle.ir_text.specs.Token.{word, token_at, behind_blanks}
use Rattle.ir_text.specs.Form.{left_at}
use Rattle.ir_text.specs.Words.{is_mark, keyword}
use Rattle.ir_core.specs.declared.types.MemTy.{MemTy}
use Rattle.ir_core.specs.Layout.{measure}
use Rattle.ir_grammar.specs.declared.type_tree.TypeNode.{TypeNode}
use Rattle.ir_grammar.specs.declared.type_tree.TypeNode.TheVariants as nodes
use Rattle.ir_grammar.specs.Types.{type_form}
use Rattle.ir_value_trees.specs.declared.value_tree.Value.TheVariants as written
use Rattle.ir_value_trees.specs.declared.value_tree.Typed.{Typed}
use Rattle.ir_value_trees.specs.Values.{typed}
use Rattle.ir_instruction_trees.specs.declared.tree.Operation.TheVariants as operations
use Rattle.ir_instruction_trees.specs.Instructions.{count, allocation}
use Rattle.ir_print.specs.Types.{memory_text}
use Rattle.ir_print.specs.Instructions.{count_text}
use Rattle.ir_print_laws.specs.FormTrees.{IsMemoryTree}
use Rattle.ir_print_laws.specs.Instructions.{IsWideCount, IsCountTree}
use Rattle.ir_print_laws.proofs.Joined.{◌▸◌, nest3}
use Rattle.ir_print_laws.proofs.Tokens.{Ends, token_blank, count_token}
use Rattle.ir_print_laws.proofs.Marks.{blind-numeral, comma_here, comma_token, count_here}
use Rattle.ir_print_laws.proofs.TypesBack.{word_seg, form_by, blind-type_form}
use Rattle.ir_print_laws.proofs.MemoryBack.{memory_back}
use Rattle.ir_print_laws.proofs.ValuesBack.{numeral_read, typed_by}
use Rattle.ir_print_laws.proofs.OperationsBack.{blind-typed}

wide_type : (t : List ℕ) → type_form.Is (105 ∷ 54 ∷ 52 ∷ 32 ∷ t) (nodes.Int (codes "64") (left_at (105 ∷ 54 ∷ 52 ∷ 32 ∷ t)) ∷ []) (32 ∷ t)
unfolding token_at behind_blanks
wide_type t = form_by 1 _ _ (32 ∷ t) (omega arith) (word_seg [] [] (105 ∷ 54 ∷ 52 ∷ []) (λ left. nodes.Int (54 ∷ 52 ∷ []) left) (105 ∷ 54 ∷ 52 ∷ 32 ∷ t) (32 ∷ t) refl (λ left. refl))

wide_word : (t : List ℕ) → token_at (32 ∷ 105 ∷ 54 ∷ 52 ∷ 32 ∷ t) ≡ (word (105 ∷ 54 ∷ 52 ∷ []), 32 ∷ t)
unfolding token_at behind_blanks
wide_word t = refl

-- `i64 COUNT`
wide_count : (n : ℕ) (r : List ℕ) → Ends r → (one : Typed) × typed.Is (105 ∷ 54 ∷ 52 ∷ 32 ∷ decimal n ++ r) one r × IsWideCount n one
wide_count n r ends =
    let t = decimal n ++ r in
    let h = count_here n r ends in
    let value = numeral_read h.0 false (decimal n) (32 ∷ t) r (token_blank t ∙ count_token n r ends) (blind-numeral.skips 32 refl t h.0 r h.1) in
    (_, typed_by _ (written.Number h.0) (105 ∷ 54 ∷ 52 ∷ 32 ∷ t) (32 ∷ t) r (wide_type t) value, ((_, refl), (h.0, refl, h.2)))

no_count : (r : List ℕ) → is_mark 44 (token_at r).0 ≡ false → count.Is r None r
unfolding count
no_count r e = rw e (refl, refl)

some_count : (one : Typed) (t r : List ℕ) → typed.Is (32 ∷ 105 ∷ 54 ∷ 52 ∷ 32 ∷ t) one r → count.Is (44 ∷ 32 ∷ 105 ∷ 54 ∷ 52 ∷ 32 ∷ t) (Some one) r
unfolding count
some_count one t r h = rw (comma_token (32 ∷ 105 ∷ 54 ∷ 52 ∷ 32 ∷ t), wide_word t) (tt, 32 ∷ 105 ∷ 54 ∷ 52 ∷ 32 ∷ t, comma_here _, (one, r, h, (refl, refl)))

count_ends : (n : ℕ) (single : Bool) (r : List ℕ) → (n == 1) ≡ single → Ends r → Ends (count_text n ++ r)
count_ends n true r e ends = rw e ends
count_ends n false r e ends = rw e (record { no_name = refl; no_colon = refl })

count_back : (n : ℕ) (single : Bool) (r : List ℕ) → (n == 1) ≡ single → Ends r → is_mark 44 (token_at r).0 ≡ false → (given : Option Typed) × count.Is (count_text n ++ r) given r × IsCountTree n given
count_back n true r e ends no_comma = rw e (None, no_count r no_comma, refl)
count_back n false r e ends no_comma =
    let h = wide_count n r ends in
    let read = some_count h.0 (decimal n ++ r) r (blind-typed.skips 32 refl (105 ∷ 54 ∷ 52 ∷ 32 ∷ decimal n ++ r) h.0 r h.1) in
    rw e (Some h.0, read, (h.0, refl, h.2))

alloca_word : (t : List ℕ) → (keyword (codes "alloca")).Is (codes "alloca " ++ t) tt (32 ∷ t)
unfolding keyword token_at behind_blanks
alloca_word t = (refl, refl)

allocation_is : (parts : List TypeNode) (given : Option Typed) (t u v r : List ℕ) → (keyword (codes "alloca")).Is t tt u → type_form.Is u parts v → count.Is v given r → allocation.Is t (operations.Alloca (left_at t) parts given) r
unfolding allocation
allocation_is parts given t u v r a b c = (left_at t, t, (refl, refl), (tt, u, a, (parts, v, b, (given, r, c, (refl, refl)))))

pub alloca_back : (ty : MemTy) (n : ℕ) (r : List ℕ) → (measure ty).nodes ≤ 4096 → Ends r → is_mark 44 (token_at r).0 ≡ false
    → (left : ℕ) × (parts : List TypeNode) × (given : Option Typed) × allocation.Is ((codes "alloca " ++ memory_text ty ++ count_text n) ++ r) (operations.Alloca left parts given) r × IsMemoryTree parts ty [] × IsCountTree n given
alloca_back ty n r few ends no_comma =
    let u = count_text n ++ r in
    let parts = memory_back ty u (count_ends n (n == 1) r refl ends) few in
    let given = count_back n (n == 1) r refl ends no_comma in
    let t = codes "alloca " ▸ memory_text ty ▸ u in
    let read = allocation_is parts.0 given.0 t _ u r (alloca_word (memory_text ty ++ u)) (blind-type_form.skips 32 refl (memory_text ty ++ u) parts.0 u parts.1) given.1 in
    let text = nest3 (codes "alloca ") (memory_text ty) (count_text n) r in
    (left_at t, parts.0, given.0, subst (λ (x : List ℕ). allocation.Is x (operations.Alloca (left_at t) parts.0 given.0) r) (sym text) read, parts.2, given.2)
