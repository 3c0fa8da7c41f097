-- Printed arguments and calls are read as their trees.
use Rattle.std.proofs.Common.{◌≡◌, ℕ, suc, ◌+◌, ◌<◌, Bool, true, false, List, [], ◌∷◌, ◌++◌, Option, Some, length, refl, sym, ◌∙◌, ap, subst, append_assoc, arith}
use Rattle.std.specs.Prelude.{codes}
use Rattle.std.specs.List.{flat_map}
use Rattle.ir_text.specs.declared.name.Name.{Name}
use Rattle.ir_text.specs.Token.{Token, word, mark, token_at, behind_blanks}
use Rattle.ir_text.specs.Form.{most_turns}
use Rattle.ir_text.specs.Words.{is_mark, punctuation, keyword, global_name}
use Rattle.ir_core.specs.declared.types.Ty.{Ty}
use Rattle.ir_core.specs.declared.code.Operand.{Operand}
use Rattle.ir_core.specs.declared.program.Global.{Global}
use Rattle.ir_grammar.specs.declared.type_tree.TypeNode.{TypeNode}
use Rattle.ir_grammar.specs.Words.{begins_word_item, begins_attribute, words, attributes, suffixes}
use Rattle.ir_grammar.specs.Types.{type_form}
use Rattle.ir_value_trees.specs.declared.value_tree.Value.{Value}
use Rattle.ir_value_trees.specs.declared.value_tree.Typed.{Typed}
use Rattle.ir_value_trees.specs.Values.{is_local, operand, argument}
use Rattle.ir_instruction_trees.specs.declared.tree.Operation.TheVariants as operations
use Rattle.ir_instruction_trees.specs.declared.tree.Instruction.{Instruction}
use Rattle.ir_instruction_trees.specs.declared.instructions.ArgumentList.{ArgumentList}
use Rattle.ir_instruction_trees.specs.Instructions.{argument_turn, argument_list, arguments, tail_word, call_start, is_dropped_name, call_rest, call}
use Rattle.ir_print_names.specs.Names.{name_text}
use Rattle.ir_print.specs.Types.{ty_text, listed}
use Rattle.ir_print.specs.Values.{operand_text}
use Rattle.ir_print.specs.Instructions.{argument_text, call_text}
use Rattle.ir_print_laws.specs.FormTrees.{written_of, IsNameOf, IsTyTree}
use Rattle.ir_print_laws.specs.Instructions.{AreTrees, IsArgumentTree}
use Rattle.ir_print_laws.proofs.Joined.{◌▸◌, nest3, nest6}
use Rattle.ir_print_laws.proofs.Tokens.{Ends, token_blank}
use Rattle.ir_print_laws.proofs.Segments.{Seg, one_turn, no_turn, then_turns, all_turns, IsBlind, blind-then}
use Rattle.ir_print_laws.proofs.Marks.{blind-global_name, comma_token, comma_here}
use Rattle.ir_print_laws.proofs.NamesHere.{global_token, global_here}
use Rattle.ir_print_laws.proofs.TypesBack.{ty_back, blind-type_form}
use Rattle.ir_print_laws.proofs.MemoryBack.{nat_some}
use Rattle.ir_print_laws.proofs.ValuesBack.{operand_back}
use Rattle.ir_print_laws.proofs.OperationsBack.{blank_ends}
use Rattle.ir_print_laws.proofs.ListsBack.{list_back, listed_later}
use Rattle.ir_print_laws.proofs.Between.{operand_plain, type_plain, no_words, no_attributes, no_suffixes}

-- ---- arguments

argument_is : (ty : List TypeNode) (value : Value) (t u r : List ℕ) → type_form.Is t ty u → attributes.Is u tt u → operand.Is u value r → argument.Is t (record { ty = ty; value = value }) r
unfolding argument
argument_is ty value t u r a b c = (ty, u, a, (tt, u, b, (value, r, c, (refl, refl))))

blind-argument : IsBlind argument
unfolding argument
blind-argument = blind-then _ _ blind-type_form

record ArgumentIsRead (globals : List Global) (one : Ty × Operand) (r : List ℕ) : Type 0 where
  given : Typed
  read : argument.Is (argument_text globals one ++ r) given r
  tree : IsArgumentTree globals one given
  begins : is_mark 41 (token_at (argument_text globals one ++ r)).0 ≡ false

argument_here : (globals : List Global) (one : Ty × Operand) (r : List ℕ) → Ends r → ArgumentIsRead globals one r
argument_here globals one r ends =
    let u = 32 ∷ operand_text globals one.0 one.1 ++ r in
    let t = ty_text one.0 ++ u in
    let f = ty_back one.0 u (blank_ends _) in
    let g = operand_back globals one.0 one.1 r ends in
    let p = operand_plain u r g.value g.read in
    let given : Typed = record { ty = f.parts; value = g.value } in
    let read = argument_is f.parts g.value t u r f.read (no_attributes u (p.attribute _)) g.read in
    let text = nest3 (ty_text one.0) (codes " ") (operand_text globals one.0 one.1) r in
    record {
      given = given;
      read = subst (λ (x : List ℕ). argument.Is x given r) (sym text) read;
      tree = (f.tree, g.tree);
      begins = ap (λ (x : List ℕ). is_mark 41 (token_at x).0) text ∙ (type_plain t u f.parts f.read).closes;
    }

abbrev later : List Global → Ty × Operand → List ℕ
later globals one = codes ", " ++ argument_text globals one

abbrev behind : Typed → List Typed → ArgumentList
behind first others = record { arguments = first ∷ others }

first_turn : (one : Typed) (t r : List ℕ) → is_mark 41 (token_at t).0 ≡ false → argument.Is t one r → (argument_turn (record { arguments = [] })).Is t (true, behind one []) r
first_turn one t r e h = rw e (tt, t, (refl, refl), (one, r, h, (refl, refl)))

later_turn : (first one : Typed) (before : List Typed) (t r : List ℕ) → argument.Is (32 ∷ t) one r → (argument_turn (behind first before)).Is (44 ∷ 32 ∷ t) (true, behind first (before ++ one ∷ [])) r
later_turn first one before t r h = rw (comma_token (32 ∷ t), nat_some (length before)) (tt, 32 ∷ t, comma_here (32 ∷ t), (one, r, h, (refl, refl)))

closing : (r : List ℕ) → token_at (41 ∷ r) ≡ (mark 41, r)
unfolding token_at behind_blanks
closing r = refl

stops : (s : ArgumentList) (r : List ℕ) → (argument_turn s).Is (41 ∷ r) (false, s) (41 ∷ r)
stops s r = rw (closing r) (refl, refl)

argument_step : (globals : List Global) (first : Typed) (one : Ty × Operand) (before : List Typed) (r : List ℕ) → Ends r
    → (given : Typed) × (argument_turn (behind first before)).Is (later globals one ++ r) (true, behind first (before ++ given ∷ [])) r × IsArgumentTree globals one given
argument_step globals first one before r ends =
    let h = argument_here globals one r ends in
    (h.given, later_turn first h.given before (argument_text globals one ++ r) r (blind-argument.skips 32 refl _ h.given r h.read), h.tree)

argument_starts : (globals : List Global) (one : Ty × Operand) (r : List ℕ) → Ends (later globals one ++ r)
argument_starts globals one r = record { no_name = refl; no_colon = refl }

ends_of_list : (r : List ℕ) → Ends (41 ∷ r)
ends_of_list r = record { no_name = refl; no_colon = refl }

later_ends : (globals : List Global) (others : List (Ty × Operand)) (r : List ℕ) → Ends (flat_map (later globals) others ++ 41 ∷ r)
later_ends globals [] r = ends_of_list r
later_ends globals (one ∷ others) r = record { no_name = refl; no_colon = refl }

list_is : (given : List Typed) (n : ℕ) (t r : List ℕ) → n < most_turns → Seg argument_turn n (record { arguments = [] }) t (record { arguments = given }) (41 ∷ r) → argument_list.Is t given (41 ∷ r)
unfolding argument_list
list_is given n t r lt f = (record { arguments = given }, 41 ∷ r, all_turns argument_turn n _ _ _ t (41 ∷ r) lt f (stops (record { arguments = given }) r), (refl, refl))

list_read : (globals : List Global) (all : List (Ty × Operand)) (r : List ℕ) → length all < most_turns
    → (given : List Typed) × argument_list.Is (listed (argument_text globals) 0 all ++ 41 ∷ r) given (41 ∷ r) × AreTrees (IsArgumentTree globals) all given
unfolding listed
list_read globals [] r few = ([], list_is [] 0 (41 ∷ r) r few (no_turn argument_turn _ _), tt)
list_read globals (one ∷ others) r few =
    let tail = flat_map (later globals) others ++ 41 ∷ r in
    let first = argument_here globals one tail (later_ends globals others r) in
    let rest = list_back argument_turn (behind first.given) (later globals) (IsArgumentTree globals) (argument_starts globals) (argument_step globals first.given) others [] (41 ∷ r) (ends_of_list r) in
    let t = argument_text globals one ++ tail in
    let start = one_turn argument_turn _ _ t tail (first_turn first.given t tail first.begins first.read) in
    let all = then_turns argument_turn 1 (length others) _ _ _ _ _ _ start rest.seg in
    let count : 1 + length others ≡ suc (length others) = omega arith in
    let text : listed (argument_text globals) 0 (one ∷ others) ++ 41 ∷ r ≡ t =
    ap (λ (x : List ℕ). (argument_text globals one ++ x) ++ 41 ∷ r) (listed_later (argument_text globals) 0 others) ∙ append_assoc (argument_text globals one) (flat_map (later globals) others) (41 ∷ r) in
    let read = list_is (first.given ∷ rest.items) (suc (length others)) t r few (subst (λ (n : ℕ). Seg argument_turn n (record { arguments = [] }) t (record { arguments = first.given ∷ rest.items }) (41 ∷ r)) count all) in
    (first.given ∷ rest.items, subst (λ (x : List ℕ). argument_list.Is x (first.given ∷ rest.items) (41 ∷ r)) (sym text) read, (first.tree, rest.trees))

opens : (t : List ℕ) → (punctuation 40).Is (40 ∷ t) tt t
unfolding punctuation token_at behind_blanks
opens t = (refl, refl)

closes : (t : List ℕ) → (punctuation 41).Is (41 ∷ t) tt t
unfolding punctuation token_at behind_blanks
closes t = (refl, refl)

arguments_is : (given : List Typed) (t r : List ℕ) → argument_list.Is t given (41 ∷ r) → arguments.Is (40 ∷ t) given r
unfolding arguments
arguments_is given t r h = (tt, t, opens t, (given, 41 ∷ r, h, (tt, r, closes r, (refl, refl))))

-- ---- calls

-- what stands behind a line: no suffix, no attribute and nothing that goes on with a name
pub record Stops (r : List ℕ) : Type 0 where
  pub ends : Ends r
  pub comma : is_mark 44 (token_at r).0 ≡ false
  pub attribute : begins_attribute (token_at r).0 (token_at (token_at r).1).0 ≡ false

no_tail : (t u : List ℕ) → token_at t ≡ (word (codes "call"), u) → tail_word.Is t tt t
unfolding tail_word
no_tail t u e = rw e (refl, refl)

call_word : (t u : List ℕ) → token_at t ≡ (word (codes "call"), u) → (keyword (codes "call")).Is t tt u
unfolding keyword
call_word t u e = rw e (refl, refl)

start_is : (ty : List TypeNode) (s t r : List ℕ) → token_at s ≡ (word (codes "call"), t) → words.Is t tt t → type_form.Is t ty r → call_start.Is s ty r
unfolding call_start
start_is ty s t r e a b = (tt, s, no_tail s t e, (tt, t, call_word s t e, (tt, t, a, b)))

abbrev item_first : Token × List ℕ → Bool
item_first x = begins_word_item x.0

start_here : (gives : Ty) (s r : List ℕ) → token_at s ≡ (word (codes "call"), 32 ∷ ty_text gives ++ r) → Ends r → (ty : List TypeNode) × call_start.Is s ty r × IsTyTree gives ty
start_here gives s r e ends =
    let t = ty_text gives ++ r in
    let f = ty_back gives r ends in
    let p = type_plain t r f.parts f.read in
    (f.parts, start_is f.parts s (32 ∷ t) r e (no_words (32 ∷ t) (ap item_first (token_blank t) ∙ p.item)) (blind-type_form.skips 32 refl t f.parts r f.read), f.tree)

rest_is : (left : ℕ) (result : Option Name) (ty : List TypeNode) (callee : Name) (given : List Typed) (t r : List ℕ) → arguments.Is t given r → attributes.Is r tt r → suffixes.Is r [] r
    → (call_rest left result ty false callee).Is t (Some (record { left = left; result = result; operation = operations.Call ty false callee given; aligns = [] })) r
unfolding call_rest
rest_is left result ty callee given t r a b c = (given, r, a, (tt, r, b, ([], r, c, (refl, refl))))

call_is : (left : ℕ) (result : Option Name) (ty : List TypeNode) (callee : Name) (one : Instruction) (t u v w r : List ℕ) (token : Token) → call_start.Is t ty u → token_at u ≡ (token, w) → is_local token ≡ false
    → global_name.Is u callee v → is_dropped_name callee.bytes ≡ false → (call_rest left result ty false callee).Is v (Some one) r → (call left result).Is t (Some one) r
unfolding call
call_is left result ty callee one t u v w r token a e f b kept c = (ty, u, a, rw (e, f) (callee, v, b, rw kept c))

pub record CallIsRead (globals : List Global) (gives : Ty) (name : List ℕ) (all : List (Ty × Operand)) (left : ℕ) (result : Option Name) (t r : List ℕ) : Type 0 where
  pub ty : List TypeNode
  pub callee : Name
  pub given : List Typed
  pub read : (call left result).Is t (Some (record { left = left; result = result; operation = operations.Call ty false callee given; aligns = [] })) r
  pub returned : IsTyTree gives ty
  pub named : IsNameOf name callee
  pub trees : AreTrees (IsArgumentTree globals) all given

-- what stands behind the word `call`
abbrev pub call_tail : List Global → Ty → List ℕ → List (Ty × Operand) → List ℕ → List ℕ
call_tail globals gives name all r = 32 ∷ ty_text gives ▸ 32 ∷ 64 ∷ name_text name ▸ 40 ∷ listed (argument_text globals) 0 all ▸ 41 ∷ r

pub call_shown : (globals : List Global) (gives : Ty) (name : List ℕ) (all : List (Ty × Operand)) (r : List ℕ) → call_text globals gives (codes "@" ++ name_text name) all ++ r ≡ codes "call" ▸ call_tail globals gives name all r
call_shown globals gives name all r =
    append_assoc (codes "call " ++ ty_text gives ++ codes " " ++ (codes "@" ++ name_text name) ++ codes "(" ++ listed (argument_text globals) 0 all) (codes ")") r
    ∙ nest6 (codes "call ") (ty_text gives) (codes " ") (codes "@" ++ name_text name) (codes "(") (listed (argument_text globals) 0 all) (41 ∷ r)

pub call_back : (globals : List Global) (gives : Ty) (name : List ℕ) (all : List (Ty × Operand)) (left : ℕ) (result : Option Name) (s r : List ℕ) → token_at s ≡ (word (codes "call"), call_tail globals gives name all r) → is_dropped_name (written_of name) ≡ false → length all < most_turns → Stops r
    → CallIsRead globals gives name all left result s r
call_back globals gives name all left result s r e kept few stop =
    let z = listed (argument_text globals) 0 all ++ 41 ∷ r in
    let v = 40 ∷ z in
    let n = 64 ∷ name_text name ++ v in
    let start = start_here gives s (32 ∷ n) e (blank_ends n) in
    let h = global_here name v refl in
    let list = list_read globals all r few in
    let token = token_blank n ∙ global_token name v refl in
    let rest = rest_is left result start.0 h.0 list.0 v r (arguments_is list.0 z r list.1) (no_attributes r stop.attribute) (no_suffixes r stop.comma) in
    let kept_name : is_dropped_name h.0.bytes ≡ false = ap is_dropped_name h.2.1 ∙ kept in
    let read = call_is left result start.0 h.0 _ s (32 ∷ n) v v r _ start.1 token refl (blind-global_name.skips 32 refl n h.0 v h.1) kept_name rest in
    record { ty = start.0; callee = h.0; given = list.0; read = read; returned = start.2; named = h.2; trees = list.2 }
