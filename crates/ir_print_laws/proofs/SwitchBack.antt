-- Printed switches are read as their trees.
use Rattle.std.proofs.Common.{◌≡◌, ℕ, ◌<◌, true, false, List, [], ◌∷◌, ◌++◌, length, refl, sym, ◌∙◌, subst, append_assoc}
use Rattle.std.specs.Prelude.{codes}
use Rattle.std.specs.List.{flat_map}
use Rattle.ir_text.specs.declared.name.Name.{Name}
use Rattle.ir_text.specs.Token.{word, mark, token_at, behind_blanks}
use Rattle.ir_text.specs.Form.{most_turns}
use Rattle.ir_text.specs.Words.{punctuation, keyword}
use Rattle.ir_core.specs.declared.types.Ty.{Ty}
use Rattle.ir_core.specs.declared.code.Operand.{Operand}
use Rattle.ir_core.specs.declared.code.Operand.TheVariants as operands
use Rattle.ir_core.specs.declared.program.Global.{Global}
use Rattle.ir_value_trees.specs.declared.value_tree.Typed.{Typed}
use Rattle.ir_value_trees.specs.Values.{typed}
use Rattle.ir_instruction_trees.specs.declared.tree.Case.{Case}
use Rattle.ir_instruction_trees.specs.declared.tree.Operation.TheVariants as operations
use Rattle.ir_instruction_trees.specs.declared.instructions.CaseList.{CaseList}
use Rattle.ir_instruction_trees.specs.Instructions.{case_form, case_turn, cases, switching, label_of_block}
use Rattle.ir_print.specs.Types.{ty_text}
use Rattle.ir_print_names.specs.Numbers.{number_text}
use Rattle.ir_print.specs.Values.{width_of, typed_text}
use Rattle.ir_print.specs.Instructions.{block_text, case_text}
use Rattle.ir_print_laws.specs.FormTrees.{IsBlockName, IsTypedTree}
use Rattle.ir_print_laws.specs.Instructions.{AreTrees, IsCaseTree}
use Rattle.ir_print_laws.proofs.Joined.{◌▸◌, nest6}
use Rattle.ir_print_laws.proofs.Tokens.{Ends, token_blank}
use Rattle.ir_print_laws.proofs.Segments.{Seg, all_turns}
use Rattle.ir_print_laws.proofs.Marks.{comma_here}
use Rattle.ir_print_laws.proofs.FlagsBack.{type_stands}
use Rattle.ir_print_laws.proofs.OperationsBack.{typed_here, label_here, blank_ends, comma_ends}
use Rattle.ir_print_laws.proofs.ListsBack.{list_back}

-- ---- one case

case_is : (given : Typed) (block : Name) (t u v r : List ℕ) → typed.Is t given u → (punctuation 44).Is u tt v → label_of_block.Is v block r → case_form.Is t (record { ty = given.ty; value = given.value; block = block }) r
unfolding case_form
case_is given block t u v r a b c = (given, u, a, (tt, v, b, (block, r, c, (refl, refl))))

abbrev case_at : Ty → ℕ × ℕ → List ℕ → List ℕ
case_at ty one r = 32 ∷ ty_text ty ▸ 32 ∷ number_text (width_of ty) one.0 ▸ 44 ∷ 32 ∷ block_text one.1 ▸ r

case_shown : (ty : Ty) (one : ℕ × ℕ) (r : List ℕ) → case_text ty one ++ r ≡ case_at ty one r
case_shown ty one r = nest6 (codes " ") (ty_text ty) (codes " ") (number_text (width_of ty) one.0) (codes ", ") (block_text one.1) r

case_read : (ty : Ty) (one : ℕ × ℕ) (r : List ℕ) → Ends r → (given : Case) × case_form.Is (case_at ty one r) given r × IsCaseTree ty one given
case_read ty one r ends =
    let y = 32 ∷ block_text one.1 ++ r in
    let given = typed_here [] ty (operands.Num one.0) (44 ∷ y) (comma_ends y) in
    let block = label_here one.1 r ends.no_name in
    let text : typed_text [] ty (operands.Num one.0) ++ 44 ∷ y ≡ ty_text ty ▸ 32 ∷ number_text (width_of ty) one.0 ▸ 44 ∷ y = append_assoc (ty_text ty ++ codes " ") (number_text (width_of ty) one.0) (44 ∷ y) ∙ append_assoc (ty_text ty) (codes " ") (number_text (width_of ty) one.0 ++ 44 ∷ y) in
    let read = subst (λ (t : List ℕ). typed.Is (32 ∷ t) given.value (44 ∷ y)) text given.read in
    (_, case_is given.value block.0 (case_at ty one r) (44 ∷ y) y r read (comma_here y) block.1, (given.tree.0, given.tree.1, block.2))

abbrev case_state : List Case → CaseList
case_state given = record { cases = given }

case_turns : (before : List Case) (one : Case) (name t u r : List ℕ) → token_at t ≡ (word name, u) → case_form.Is t one r → (case_turn (case_state before)).Is t (true, case_state (before ++ one ∷ [])) r
case_turns before one name t u r e h = rw e (one, r, h, (refl, refl))

case_step : (ty : Ty) (one : ℕ × ℕ) (before : List Case) (r : List ℕ) → Ends r → (given : Case) × (case_turn (case_state before)).Is (case_text ty one ++ r) (true, case_state (before ++ given ∷ [])) r × IsCaseTree ty one given
case_step ty one before r ends =
    let h = case_read ty one r ends in
    let u = 32 ∷ number_text (width_of ty) one.0 ▸ 44 ∷ 32 ∷ block_text one.1 ▸ r in
    let stands = type_stands ty u (blank_ends _) in
    let turn = case_turns before h.0 stands.name (case_at ty one r) u r (token_blank (ty_text ty ++ u) ∙ stands.token) h.1 in
    (h.0, subst (λ (t : List ℕ). (case_turn (case_state before)).Is t (true, case_state (before ++ h.0 ∷ [])) r) (sym (case_shown ty one r)) turn, h.2)

case_starts : (ty : Ty) (one : ℕ × ℕ) (r : List ℕ) → Ends (case_text ty one ++ r)
case_starts ty one r = record { no_name = refl; no_colon = refl }

closing : (r : List ℕ) → token_at (32 ∷ 93 ∷ r) ≡ (mark 93, r)
unfolding token_at behind_blanks
closing r = refl

cases_stop : (given : List Case) (r : List ℕ) → (case_turn (case_state given)).Is (32 ∷ 93 ∷ r) (false, case_state given) (32 ∷ 93 ∷ r)
cases_stop given r = rw (closing r) (refl, refl)

cases_is : (n : ℕ) (given : List Case) (t r : List ℕ) → n < most_turns → Seg case_turn n (case_state []) t (case_state given) (32 ∷ 93 ∷ r) → cases.Is t given (32 ∷ 93 ∷ r)
unfolding cases
cases_is n given t r lt f = (case_state given, 32 ∷ 93 ∷ r, all_turns case_turn n _ _ _ t (32 ∷ 93 ∷ r) lt f (cases_stop given r), (refl, refl))

-- ---- the whole

switch_word : (t : List ℕ) → (keyword (codes "switch")).Is (codes "switch " ++ t) tt (32 ∷ t)
unfolding keyword token_at behind_blanks
switch_word t = (refl, refl)

opens_cases : (t : List ℕ) → (punctuation 91).Is (32 ∷ 91 ∷ t) tt t
unfolding punctuation token_at behind_blanks
opens_cases t = (refl, refl)

closes_cases : (t : List ℕ) → (punctuation 93).Is (32 ∷ 93 ∷ t) tt t
unfolding punctuation token_at behind_blanks
closes_cases t = (refl, refl)

switching_is : (given : Typed) (block : Name) (all : List Case) (t u v w x y z r : List ℕ) → (keyword (codes "switch")).Is t tt u → typed.Is u given v → (punctuation 44).Is v tt w → label_of_block.Is w block x → (punctuation 91).Is x tt y → cases.Is y all z → (punctuation 93).Is z tt r
    → switching.Is t (operations.Switch given block all) r
unfolding switching
switching_is given block all t u v w x y z r a b c d e f g = (tt, u, a, (given, v, b, (tt, w, c, (block, x, d, (tt, y, e, (all, z, f, (tt, r, g, (refl, refl))))))))

pub switch_back : (globals : List Global) (ty : Ty) (value : Operand) (otherwise : ℕ) (all : List (ℕ × ℕ)) (r : List ℕ) → length all < most_turns
    → (given : Typed) × (block : Name) × (trees : List Case) × switching.Is ((codes "switch " ++ typed_text globals ty value ++ codes ", " ++ block_text otherwise ++ codes " [" ++ flat_map (case_text ty) all ++ codes " ]") ++ r) (operations.Switch given block trees) r
    × IsTypedTree globals ty value given × IsBlockName otherwise block × AreTrees (IsCaseTree ty) all trees
switch_back globals ty value otherwise all r few =
    let z = 32 ∷ 93 ∷ r in
    let y = flat_map (case_text ty) all ++ z in
    let x = 32 ∷ 91 ∷ y in
    let w = 32 ∷ block_text otherwise ++ x in
    let given = typed_here globals ty value (44 ∷ w) (comma_ends w) in
    let block = label_here otherwise x refl in
    let list = list_back case_turn case_state (case_text ty) (IsCaseTree ty) (case_starts ty) (case_step ty) all [] z (blank_ends (93 ∷ r)) in
    let read = switching_is given.value block.0 list.items (codes "switch " ▸ typed_text globals ty value ▸ 44 ∷ w) _ (44 ∷ w) w x y z r (switch_word _) given.read (comma_here w) block.1 (opens_cases y) (cases_is (length all) list.items y r few list.seg) (closes_cases r) in
    let text = append_assoc (codes "switch " ++ typed_text globals ty value ++ codes ", " ++ block_text otherwise ++ codes " [" ++ flat_map (case_text ty) all) (codes " ]") r
    ∙ nest6 (codes "switch ") (typed_text globals ty value) (codes ", ") (block_text otherwise) (codes " [") (flat_map (case_text ty) all) z in
    (given.value, block.0, list.items, subst (λ (t : List ℕ). switching.Is t (operations.Switch given.value block.0 list.items) r) (sym text) read, given.tree, block.2, list.trees)
