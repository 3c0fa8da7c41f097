-- A printed module is read as its tree.
use Rattle.std.proofs.Common.{◌≡◌, ℕ, suc, ◌+◌, ◌<◌, Bool, true, false, List, [], ◌∷◌, ◌++◌, length, refl, sym, ◌∙◌, ap, subst, append_assoc, append-nil, arith}
use Rattle.std.specs.Prelude.{codes}
use Rattle.std.specs.List.{flat_map}
use Rattle.ir_text.specs.declared.name.Name.{Name}
use Rattle.ir_text.specs.declared.token.Spelling.{Spelling}
use Rattle.ir_text.specs.Token.{Token, word, global, end, token_at, behind_blanks}
use Rattle.ir_text.specs.Form.{most_turns}
use Rattle.ir_text.specs.Words.{is_mark, punctuation, keyword, global_name, ending}
use Rattle.ir_core.specs.declared.program.Global.{Global}
use Rattle.ir_core.specs.declared.program.Function.{Function}
use Rattle.ir_core.specs.declared.program.Module.{Module}
use Rattle.ir_grammar.specs.declared.type_tree.TypeNode.{TypeNode}
use Rattle.ir_grammar.specs.Words.{begins_word_item, words, suffixes}
use Rattle.ir_grammar.specs.Types.{type_form}
use Rattle.ir_value_trees.specs.declared.value_tree.InitNode.{InitNode}
use Rattle.ir_value_trees.specs.Values.{init_form}
use Rattle.ir_tree.specs.declared.tree.Global.{Global as GlobalText}
use Rattle.ir_tree.specs.declared.tree.Function.{Function as FunctionText}
use Rattle.ir_tree.specs.declared.tree.Tree.{Tree}
use Rattle.ir_tree.specs.Modules.{global_word, global_form, function, item_turn, module_form, IsTextOf}
use Rattle.ir_print_names.specs.Names.{name_text}
use Rattle.ir_print.specs.Types.{memory_text}
use Rattle.ir_print.specs.Values.{init_text}
use Rattle.ir_print.specs.Modules.{function_lines, global_line, module_text}
use Rattle.ir_print_laws.specs.FormTrees.{spelling_of, written_of}
use Rattle.ir_print_laws.specs.Instructions.{AreTrees}
use Rattle.ir_print_laws.proofs.Joined.{◌▸◌, nest5}
use Rattle.ir_print_laws.proofs.Segments.{Seg, one_turn, no_turn, then_turns, all_turns, IsBlind, blind-then}
use Rattle.ir_print_laws.proofs.Marks.{blind-global_name}
use Rattle.ir_print_laws.proofs.NamesHere.{global_token, global_here}
use Rattle.ir_print_laws.proofs.TypesBack.{blind-type_form}
use Rattle.ir_print_laws.proofs.MemoryBack.{memory_back}
use Rattle.ir_print_laws.proofs.OperationsBack.{blank_ends}
use Rattle.ir_print_laws.specs.ModuleTrees.{IsFunctionTree, IsGlobalTree, IsModuleTree}
use Rattle.ir_print_laws.specs.Written.{Each, IsWrittenFunction, IsWrittenGlobal, IsWritten}
use Rattle.ir_print_laws.proofs.Between.{no_words, no_suffixes}
use Rattle.ir_print_laws.proofs.InitsBack.{init_back}
use Rattle.ir_print_laws.proofs.FunctionsBack.{function_tail, function_shown, function_back}

-- ---- globals

equals : (t : List ℕ) → (punctuation 61).Is (32 ∷ 61 ∷ t) tt t
unfolding punctuation token_at behind_blanks
equals t = (refl, refl)

global_stands : (t : List ℕ) → token_at (codes " global " ++ t) ≡ (word (codes "global"), 32 ∷ t)
unfolding token_at behind_blanks
global_stands t = refl

word_is : (t : List ℕ) → global_word.Is (codes " global " ++ t) tt (32 ∷ t)
unfolding global_word keyword token_at behind_blanks
word_is t = (refl, refl)

form_is : (name : Name) (parts : List TypeNode) (init : List InitNode) (s u v w x r : List ℕ) → global_name.Is s name u → (punctuation 61).Is u tt v → words.Is v tt v → global_word.Is v tt w → type_form.Is w parts x → init_form.Is x init r → suffixes.Is r [] r
    → global_form.Is s (record { name = name; ty = parts; init = init; aligns = [] }) r
unfolding global_form
form_is name parts init s u v w x r a b c d e f g = (name, u, a, (tt, v, b, (tt, v, c, (tt, w, d, (parts, x, e, (init, r, f, ([], r, g, (refl, refl))))))))

abbrev item_first : Token × List ℕ → Bool
item_first x = begins_word_item x.0

-- what stands behind the name of a global
abbrev global_tail : List Global → Global → List ℕ → List ℕ
global_tail globals one r = 32 ∷ 61 ∷ codes " global " ▸ memory_text one.ty ▸ 32 ∷ init_text globals one.init one.ty ▸ r

global_shown : (globals : List Global) (one : Global) (r : List ℕ) → global_line globals one ++ r ≡ 64 ∷ name_text one.name ▸ global_tail globals one (10 ∷ r)
global_shown globals one r =
    append_assoc (codes "@" ++ name_text one.name ++ codes " = global " ++ memory_text one.ty ++ codes " " ++ init_text globals one.init one.ty) (codes "\n") r
    ∙ append_assoc (codes "@" ++ name_text one.name ++ codes " = global " ++ memory_text one.ty ++ codes " ") (init_text globals one.init one.ty) (10 ∷ r)
    ∙ nest5 (codes "@") (name_text one.name) (codes " = global ") (memory_text one.ty) (codes " ") (init_text globals one.init one.ty ++ 10 ∷ r)

global_back : (globals : List Global) (one : Global) (r : List ℕ) → IsWrittenGlobal one → is_mark 44 (token_at (10 ∷ r)).0 ≡ false → (given : GlobalText) × global_form.Is (64 ∷ name_text one.name ▸ global_tail globals one (10 ∷ r)) given (10 ∷ r) × IsGlobalTree globals one given
global_back globals one r has no_comma =
    let z = 10 ∷ r in
    let x = 32 ∷ init_text globals one.init one.ty ++ z in
    let w = memory_text one.ty ++ x in
    let v = codes " global " ++ w in
    let u = 32 ∷ 61 ∷ v in
    let name = global_here one.name u refl in
    let parts = memory_back one.ty x (blank_ends _) has.0 in
    let init = init_back globals one.init one.ty z has.1.0 has.1.1 (record { no_name = refl; no_colon = refl }) in
    let read = form_is name.0 parts.0 init.0 (64 ∷ name_text one.name ++ u) u v (32 ∷ w) x z name.1 (equals v) (no_words v (ap item_first (global_stands w))) (word_is w) (blind-type_form.skips 32 refl w parts.0 x parts.1) init.1 (no_suffixes z no_comma) in
    (_, read, (name.2, (parts.2, (init.2, refl))))

-- ---- items

abbrev tree_of : List GlobalText → List FunctionText → Tree
tree_of globals functions = record { types = []; globals = globals; functions = functions }

global_turn : (globals : List GlobalText) (one : GlobalText) (t r : List ℕ) (spelling : Spelling) (name u : List ℕ) → token_at t ≡ (global spelling name, u) → global_form.Is t one r
    → (item_turn (tree_of globals [])).Is t (true, tree_of (globals ++ one ∷ []) []) r
global_turn globals one t r spelling name u e h = rw e (one, r, h, (refl, refl))

function_turn : (globals : List GlobalText) (functions : List FunctionText) (one : FunctionText) (t u r : List ℕ) → token_at t ≡ (word (codes "define"), u) → function.Is t one r
    → (item_turn (tree_of globals functions)).Is t (true, tree_of globals (functions ++ one ∷ [])) r
function_turn globals functions one t u r e h = rw e (one, r, h, (refl, refl))

-- an item behind the line of one before it, or at the front of the text
abbrev gap : Bool → List ℕ → List ℕ
gap true t = 10 ∷ t
gap false t = t

gap_token : (b : Bool) (t : List ℕ) → token_at (gap b t) ≡ token_at t
unfolding token_at behind_blanks
gap_token true t = refl
gap_token false t = refl

blind-global_form : IsBlind global_form
unfolding global_form
blind-global_form = blind-then _ _ blind-global_name

gap_global : (b : Bool) (t : List ℕ) (one : GlobalText) (r : List ℕ) → global_form.Is t one r → global_form.Is (gap b t) one r
gap_global true t one r h = blind-global_form.skips 10 refl t one r h
gap_global false t one r h = h

record GlobalsAreRead (globals : List Global) (xs : List Global) (before : List GlobalText) (t u : List ℕ) : Type 0 where
  items : List GlobalText
  behind : Bool
  seg : Seg item_turn (length xs) (tree_of before []) t (tree_of (before ++ items) []) (gap behind u)
  trees : AreTrees (IsGlobalTree globals) xs items

-- what stands behind a line begins no suffix
NoSuffix : List ℕ → Type 0
NoSuffix u = is_mark 44 (token_at (10 ∷ u)).0 ≡ false

line_feed : (t : List ℕ) → token_at (10 ∷ t) ≡ token_at t
unfolding token_at behind_blanks
line_feed t = refl

line_token : (globals : List Global) (one : Global) (r : List ℕ) → token_at (global_line globals one ++ r) ≡ (global (spelling_of one.name) (written_of one.name), global_tail globals one (10 ∷ r))
line_token globals one r = ap (λ (t : List ℕ). token_at t) (global_shown globals one r) ∙ global_token one.name (global_tail globals one (10 ∷ r)) refl

lines_begin : (globals xs : List Global) (u : List ℕ) → NoSuffix u → NoSuffix (flat_map (global_line globals) xs ++ u)
unfolding NoSuffix
lines_begin globals [] u no_comma = no_comma
lines_begin globals (one ∷ xs) u no_comma =
    let r = flat_map (global_line globals) xs ++ u in
    let e = line_feed (flat_map (global_line globals) (one ∷ xs) ++ u) ∙ ap (λ (t : List ℕ). token_at t) (append_assoc (global_line globals one) (flat_map (global_line globals) xs) u) ∙ line_token globals one r in
    ap (λ (x : Token × List ℕ). is_mark 44 x.0) e

globals_back : (globals xs : List Global) (b : Bool) (before : List GlobalText) (u : List ℕ) → Each IsWrittenGlobal xs → NoSuffix u → GlobalsAreRead globals xs before (gap b (flat_map (global_line globals) xs ++ u)) u
unfolding NoSuffix
globals_back globals [] b before u has no_comma =
    record { items = []; behind = b; seg = subst (λ (ys : List GlobalText). Seg item_turn 0 (tree_of before []) (gap b u) (tree_of ys []) (gap b u)) (sym (append-nil before)) (no_turn item_turn (tree_of before []) (gap b u)); trees = tt }
globals_back globals (one ∷ xs) b before u has no_comma =
    let r = flat_map (global_line globals) xs ++ u in
    let h = global_back globals one r has.0 (lines_begin globals xs u no_comma) in
    let shown = append_assoc (global_line globals one) (flat_map (global_line globals) xs) u ∙ global_shown globals one r in
    let t = 64 ∷ name_text one.name ▸ global_tail globals one (10 ∷ r) in
    let e = gap_token b t ∙ global_token one.name (global_tail globals one (10 ∷ r)) refl in
    let turn = global_turn before h.0 (gap b t) (10 ∷ r) _ _ _ e (gap_global b t h.0 (10 ∷ r) h.1) in
    let others = globals_back globals xs true (before ++ h.0 ∷ []) u has.1 no_comma in
    let all = then_turns item_turn 1 (length xs) _ _ _ _ _ _ (one_turn item_turn (tree_of before []) (tree_of (before ++ h.0 ∷ []) []) (gap b t) (10 ∷ r) turn) others.seg in
    let count : 1 + length xs ≡ suc (length xs) = omega arith in
    let counted = subst (λ (n : ℕ). Seg item_turn n (tree_of before []) (gap b t) (tree_of ((before ++ h.0 ∷ []) ++ others.items) []) (gap others.behind u)) count all in
    let placed = subst (λ (ys : List GlobalText). Seg item_turn (suc (length xs)) (tree_of before []) (gap b t) (tree_of ys []) (gap others.behind u)) (append_assoc before (h.0 ∷ []) others.items) counted in
    record {
      items = h.0 ∷ others.items;
      behind = others.behind;
      seg = subst (λ (x : List ℕ). Seg item_turn (suc (length xs)) (tree_of before []) (gap b x) (tree_of (before ++ h.0 ∷ others.items) []) (gap others.behind u)) (sym shown) placed;
      trees = (h.2, others.trees);
    }

record FunctionsAreRead (m : Module) (globals : List GlobalText) (xs : List Function) (before : List FunctionText) (t : List ℕ) : Type 0 where
  items : List FunctionText
  behind : Bool
  seg : Seg item_turn (length xs) (tree_of globals before) t (tree_of globals (before ++ items)) (gap behind [])
  trees : AreTrees (IsFunctionTree m) xs items

define_token : (t : List ℕ) → token_at (codes "define" ++ 32 ∷ t) ≡ (word (codes "define"), 32 ∷ t)
unfolding token_at behind_blanks
define_token t = refl

functions_back : (m : Module) (globals : List GlobalText) (xs : List Function) (b : Bool) (before : List FunctionText) → Each (IsWrittenFunction m) xs → FunctionsAreRead m globals xs before (gap b (flat_map (function_lines m) xs))
functions_back m globals [] b before has =
    record { items = []; behind = b; seg = subst (λ (ys : List FunctionText). Seg item_turn 0 (tree_of globals before) (gap b []) (tree_of globals ys) (gap b [])) (sym (append-nil before)) (no_turn item_turn (tree_of globals before) (gap b [])); trees = tt }
functions_back m globals (one ∷ xs) b before has =
    let r = flat_map (function_lines m) xs in
    let shown = function_shown m one r in
    let t = codes "define" ▸ function_tail m one (10 ∷ r) in
    let e = gap_token b t ∙ define_token _ in
    let h = function_back m one (gap b t) (10 ∷ r) has.0 e in
    let turn = function_turn globals before h.0 (gap b t) _ (10 ∷ r) e h.1 in
    let others = functions_back m globals xs true (before ++ h.0 ∷ []) has.1 in
    let all = then_turns item_turn 1 (length xs) _ _ _ _ _ _ (one_turn item_turn (tree_of globals before) (tree_of globals (before ++ h.0 ∷ [])) (gap b t) (10 ∷ r) turn) others.seg in
    let count : 1 + length xs ≡ suc (length xs) = omega arith in
    let counted = subst (λ (n : ℕ). Seg item_turn n (tree_of globals before) (gap b t) (tree_of globals ((before ++ h.0 ∷ []) ++ others.items)) (gap others.behind [])) count all in
    let placed = subst (λ (ys : List FunctionText). Seg item_turn (suc (length xs)) (tree_of globals before) (gap b t) (tree_of globals ys) (gap others.behind [])) (append_assoc before (h.0 ∷ []) others.items) counted in
    record {
      items = h.0 ∷ others.items;
      behind = others.behind;
      seg = subst (λ (x : List ℕ). Seg item_turn (suc (length xs)) (tree_of globals before) (gap b x) (tree_of globals (before ++ h.0 ∷ others.items)) (gap others.behind [])) (sym shown) placed;
      trees = (h.2, others.trees);
    }

functions_begin : (m : Module) (xs : List Function) → NoSuffix (flat_map (function_lines m) xs)
unfolding NoSuffix token_at behind_blanks
functions_begin m [] = refl
functions_begin m (one ∷ xs) = ap (λ (t : List ℕ). is_mark 44 (token_at (10 ∷ t)).0) (function_shown m one (flat_map (function_lines m) xs))

end_token : (b : Bool) → token_at (gap b []) ≡ (end, [])
unfolding token_at behind_blanks
end_token true = refl
end_token false = refl

end_turn : (s : Tree) (b : Bool) → (item_turn s).Is (gap b []) (false, s) (gap b [])
end_turn s b = rw (end_token b) (refl, refl)

ending_is : (b : Bool) → ending.Is (gap b []) tt []
unfolding ending
ending_is b = rw (end_token b) (refl, refl)

text_is : (n : ℕ) (tree : Tree) (t : List ℕ) (b : Bool) → n < most_turns → Seg item_turn n (tree_of [] []) t tree (gap b []) → IsTextOf t tree
unfolding IsTextOf module_form
text_is n tree t b lt f = ([], (tree, gap b [], all_turns item_turn n _ _ _ t (gap b []) lt f (end_turn tree b), (tt, [], ending_is b, (refl, refl))))

-- a printed module is a text of its tree
pub module_back : (m : Module) → IsWritten m → (tree : Tree) × IsTextOf (module_text m) tree × IsModuleTree m tree
module_back m has =
    let u = flat_map (function_lines m) m.functions in
    let globals = globals_back m.globals m.globals false [] u has.0 (functions_begin m m.functions) in
    let functions = functions_back m globals.items m.functions globals.behind [] has.1.0 in
    let all = then_turns item_turn (length m.globals) (length m.functions) _ _ _ _ _ _ globals.seg functions.seg in
    (tree_of globals.items functions.items, text_is (length m.globals + length m.functions) _ (module_text m) functions.behind has.1.1 all, (refl, (globals.trees, functions.trees)))
