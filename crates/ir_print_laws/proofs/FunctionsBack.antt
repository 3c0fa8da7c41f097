-- Printed functions are read as their trees.
use Rattle.std.proofs.Common.{◌≡◌, ℕ, suc, ◌+◌, ◌<◌, Bool, true, false, List, [], ◌∷◌, ◌++◌, Option, Some, length, refl, sym, ◌∙◌, ap, subst, append_assoc, arith}
use Rattle.std.specs.Prelude.{codes, decimal}
use Rattle.ir_text.specs.declared.name.Name.{Name}
use Rattle.ir_text.specs.declared.token.Spelling.TheVariants.{Bare}
use Rattle.ir_text.specs.Token.{Token, word, local, mark, token_at, behind_blanks}
use Rattle.ir_text.specs.Form.{most_turns}
use Rattle.ir_text.specs.Words.{is_mark, punctuation, keyword, global_name}
use Rattle.ir_core.specs.declared.types.Ty.{Ty}
use Rattle.ir_core.specs.declared.program.Function.{Function}
use Rattle.ir_core.specs.declared.program.Module.{Module}
use Rattle.ir_grammar.specs.declared.type_tree.TypeNode.{TypeNode}
use Rattle.ir_grammar.specs.Words.{begins_word_item, begins_attribute, words, attributes}
use Rattle.ir_grammar.specs.Types.{type_form}
use Rattle.ir_tree.specs.declared.tree.Block.{Block as BlockText}
use Rattle.ir_tree.specs.declared.tree.Parameter.{Parameter}
use Rattle.ir_tree.specs.declared.tree.Function.{Function as FunctionText}
use Rattle.ir_tree.specs.declared.modules.ParameterList.{ParameterList}
use Rattle.ir_tree.specs.declared.modules.FunctionAttributeList.{FunctionAttributeList}
use Rattle.ir_tree.specs.Modules.{parameter_name, parameter, parameter_turn, parameter_list, parameters, function_attribute_turn, function_attributes, body, function}
use Rattle.ir_print_names.specs.Names.{name_text}
use Rattle.ir_print.specs.Types.{ty_text}
use Rattle.ir_print.specs.Modules.{params_text, blocks_text, function_lines}
use Rattle.ir_print_laws.specs.FormTrees.{IsValueName, IsTyTree}
use Rattle.ir_print_laws.proofs.Joined.{◌▸◌, nest4, nest6}
use Rattle.ir_print_laws.proofs.Tokens.{Ends, token_blank, value_token}
use Rattle.ir_print_laws.proofs.Segments.{Seg, one_turn, no_turn, then_turns, all_turns, IsBlind, blind-then}
use Rattle.ir_print_laws.proofs.Marks.{blind-local_name, blind-global_name, comma_token, comma_here, value_here}
use Rattle.ir_print_laws.proofs.NamesHere.{global_here}
use Rattle.ir_print_laws.proofs.TypesBack.{ty_back, blind-type_form}
use Rattle.ir_print_laws.proofs.MemoryBack.{nat_some, comma_later}
use Rattle.ir_print_laws.proofs.OperationsBack.{blank_ends}
use Rattle.ir_print_laws.specs.ModuleTrees.{IsNamed, AreParameterTrees, IsFunctionTree}
use Rattle.ir_print_laws.specs.Written.{IsWrittenFunction}
use Rattle.ir_print_laws.proofs.Between.{type_plain, no_words, no_attributes}
use Rattle.ir_print_laws.proofs.Lists.{texts, AreRead, items_back, each_any}
use Rattle.ir_print_laws.proofs.BlocksBack.{body_back}

-- ---- parameters

-- `T %vK`
abbrev param_text : ℕ → Ty → List ℕ
param_text number ty = ty_text ty ++ 32 ∷ 37 ∷ 118 ∷ decimal number

local_behind : (v : ℕ) (r : List ℕ) → Ends r → token_at (32 ∷ 37 ∷ 118 ∷ decimal v ++ r) ≡ (local Bare (118 ∷ decimal v), r)
local_behind v r ends = token_blank (37 ∷ 118 ∷ decimal v ++ r) ∙ value_token v r ends.no_name

abbrev attribute_first : Token × List ℕ → Bool
attribute_first x = begins_attribute x.0 (token_at x.1).0

named : (v : ℕ) (r : List ℕ) → Ends r → (name : Name) × parameter_name.Is (32 ∷ 37 ∷ 118 ∷ decimal v ++ r) (Some name) r × IsValueName v name
unfolding parameter_name
named v r ends =
    let h = value_here v r ends.no_name in
    (h.0, rw (local_behind v r ends) (h.0, r, blind-local_name.skips 32 refl (37 ∷ 118 ∷ decimal v ++ r) h.0 r h.1, (refl, refl)), h.2)

parameter_is : (ty : List TypeNode) (name : Option Name) (t u r : List ℕ) → type_form.Is t ty u → attributes.Is u tt u → parameter_name.Is u name r → parameter.Is t (record { ty = ty; name = name }) r
unfolding parameter
parameter_is ty name t u r a b c = (ty, u, a, (tt, u, b, (name, r, c, (refl, refl))))

blind-parameter : IsBlind parameter
unfolding parameter
blind-parameter = blind-then _ _ blind-type_form

record ParameterIsRead (number : ℕ) (ty : Ty) (r : List ℕ) : Type 0 where
  given : Parameter
  read : parameter.Is (param_text number ty ++ r) given r
  tree : IsTyTree ty given.ty × IsNamed (IsValueName number) given.name
  begins : is_mark 41 (token_at (param_text number ty ++ r)).0 ≡ false

parameter_here : (number : ℕ) (ty : Ty) (r : List ℕ) → Ends r → ParameterIsRead number ty r
parameter_here number ty r ends =
    let u = 32 ∷ 37 ∷ 118 ∷ decimal number ++ r in
    let t = ty_text ty ++ u in
    let f = ty_back ty u (blank_ends _) in
    let name = named number r ends in
    let given : Parameter = record { ty = f.parts; name = Some name.0 } in
    let read = parameter_is f.parts (Some name.0) t u r f.read (no_attributes u (ap attribute_first (local_behind number r ends))) name.1 in
    let text : param_text number ty ++ r ≡ t = append_assoc (ty_text ty) (32 ∷ 37 ∷ 118 ∷ decimal number) r in
    record {
      given = given;
      read = subst (λ (x : List ℕ). parameter.Is x given r) (sym text) read;
      tree = (f.tree, (name.0, refl, name.2));
      begins = ap (λ (x : List ℕ). is_mark 41 (token_at x).0) text ∙ (type_plain t u f.parts f.read).closes;
    }

abbrev later : ℕ → Ty → List ℕ
later number ty = 44 ∷ 32 ∷ param_text number ty

abbrev next_number : ℕ → Ty → ℕ
next_number number ty = number + 1

abbrev is_parameter : ℕ → Ty → Parameter → Type 0
is_parameter number ty given = IsTyTree ty given.ty × IsNamed (IsValueName number) given.name

abbrev behind_first : Parameter → List Parameter → ParameterList
behind_first first others = record { parameters = first ∷ others }

first_turn : (one : Parameter) (t r : List ℕ) → is_mark 41 (token_at t).0 ≡ false → parameter.Is t one r → (parameter_turn (record { parameters = [] })).Is t (true, behind_first one []) r
first_turn one t r e h = rw e (tt, t, (refl, refl), (one, r, h, (refl, refl)))

later_turn : (first one : Parameter) (before : List Parameter) (t r : List ℕ) → parameter.Is (32 ∷ t) one r → (parameter_turn (behind_first first before)).Is (44 ∷ 32 ∷ t) (true, behind_first first (before ++ one ∷ [])) r
later_turn first one before t r h = rw (comma_token (32 ∷ t), nat_some (length before)) (tt, 32 ∷ t, comma_here (32 ∷ t), (one, r, h, (refl, refl)))

closing : (r : List ℕ) → token_at (41 ∷ r) ≡ (mark 41, r)
unfolding token_at behind_blanks
closing r = refl

stops : (s : ParameterList) (r : List ℕ) → (parameter_turn s).Is (41 ∷ r) (false, s) (41 ∷ r)
stops s r = rw (closing r) (refl, refl)

abbrev any : Ty → Type 0
any ty = Unit {0}

parameter_starts : (number : ℕ) (ty : Ty) (r : List ℕ) → any ty → Ends r → Ends (later number ty ++ r)
parameter_starts number ty r has ends = record { no_name = refl; no_colon = refl }

parameter_step : (first : Parameter) (number : ℕ) (ty : Ty) (before : List Parameter) (r : List ℕ) → any ty → Ends r
    → (given : Parameter) × (parameter_turn (behind_first first before)).Is (later number ty ++ r) (true, behind_first first (before ++ given ∷ [])) r × is_parameter number ty given
parameter_step first number ty before r has ends =
    let h = parameter_here number ty r ends in
    (h.given, later_turn first h.given before (param_text number ty ++ r) r (blind-parameter.skips 32 refl _ h.given r h.read), h.tree)

later_shown : (n : ℕ) (tys : List Ty) → params_text (n + 1) tys ≡ texts later next_number (n + 1) tys
unfolding params_text
later_shown n [] = refl
later_shown n (ty ∷ tys) =
    ap (λ (c : List ℕ). (((c ++ ty_text ty) ++ codes " %v") ++ decimal (n + 1)) ++ params_text (n + 1 + 1) tys) (comma_later n)
    ∙ ap (λ (t : List ℕ). (((codes ", " ++ ty_text ty) ++ codes " %v") ++ decimal (n + 1)) ++ t) (later_shown (n + 1) tys)
    ∙ ap (λ (t : List ℕ). 44 ∷ 32 ∷ t ++ texts later next_number (n + 1 + 1) tys) (append_assoc (ty_text ty) (codes " %v") (decimal (n + 1)))

list_is : (given : List Parameter) (n : ℕ) (t r : List ℕ) → n < most_turns → Seg parameter_turn n (record { parameters = [] }) t (record { parameters = given }) (41 ∷ r) → parameter_list.Is t given (41 ∷ r)
unfolding parameter_list
list_is given n t r lt f = (record { parameters = given }, 41 ∷ r, all_turns parameter_turn n _ _ _ t (41 ∷ r) lt f (stops (record { parameters = given }) r), (refl, refl))

ends_of_list : (r : List ℕ) → Ends (41 ∷ r)
ends_of_list r = record { no_name = refl; no_colon = refl }

later_ends : (n : ℕ) (tys : List Ty) (r : List ℕ) → Ends (texts later next_number n tys ++ 41 ∷ r)
later_ends n [] r = ends_of_list r
later_ends n (ty ∷ tys) r = record { no_name = refl; no_colon = refl }

later_trees : (n : ℕ) (tys : List Ty) (given : List Parameter) → AreRead is_parameter next_number n tys given → AreParameterTrees n tys given
later_trees n [] [] h = tt
later_trees n [] (one ∷ more) h = absurd h
later_trees n (ty ∷ tys) [] h = absurd h
later_trees n (ty ∷ tys) (one ∷ more) h = (h.0.0, (h.0.1, later_trees (n + 1) tys more h.1))

list_read : (all : List Ty) (r : List ℕ) → length all < most_turns → (given : List Parameter) × parameter_list.Is (params_text 0 all ++ 41 ∷ r) given (41 ∷ r) × AreParameterTrees 0 all given
unfolding params_text
list_read [] r few = ([], list_is [] 0 (41 ∷ r) r few (no_turn parameter_turn _ _), tt)
list_read (ty ∷ tys) r few =
    let tail = texts later next_number 1 tys ++ 41 ∷ r in
    let first = parameter_here 0 ty tail (later_ends 1 tys r) in
    let rest = items_back parameter_turn (behind_first first.given) later next_number is_parameter any Ends parameter_starts (parameter_step first.given) 1 tys [] (41 ∷ r) (each_any tys) (ends_of_list r) in
    let t = param_text 0 ty ++ tail in
    let start = one_turn parameter_turn _ _ t tail (first_turn first.given t tail first.begins first.read) in
    let all = then_turns parameter_turn 1 (length tys) _ _ _ _ _ _ start rest.seg in
    let count : 1 + length tys ≡ suc (length tys) = omega arith in
    let text : params_text 0 (ty ∷ tys) ++ 41 ∷ r ≡ t =
    ap (λ (x : List ℕ). (((ty_text ty ++ codes " %v") ++ decimal 0) ++ x) ++ 41 ∷ r) (later_shown 0 tys)
    ∙ nest4 (ty_text ty) (codes " %v") (decimal 0) (texts later next_number 1 tys) (41 ∷ r)
    ∙ sym (append_assoc (ty_text ty) (32 ∷ 37 ∷ 118 ∷ decimal 0) tail) in
    let read = list_is (first.given ∷ rest.items) (suc (length tys)) t r few (subst (λ (n : ℕ). Seg parameter_turn n (record { parameters = [] }) t (record { parameters = first.given ∷ rest.items }) (41 ∷ r)) count all) in
    (first.given ∷ rest.items, subst (λ (x : List ℕ). parameter_list.Is x (first.given ∷ rest.items) (41 ∷ r)) (sym text) read, (first.tree.0, (first.tree.1, later_trees 1 tys rest.items rest.trees)))

opens : (t : List ℕ) → (punctuation 40).Is (40 ∷ t) tt t
unfolding punctuation token_at behind_blanks
opens t = (refl, refl)

closes : (t : List ℕ) → (punctuation 41).Is (41 ∷ t) tt t
unfolding punctuation token_at behind_blanks
closes t = (refl, refl)

parameters_are : (given : List Parameter) (t r : List ℕ) → parameter_list.Is t given (41 ∷ r) → parameters.Is (40 ∷ t) given r
unfolding parameters
parameters_are given t r h = (tt, t, opens t, (given, 41 ∷ r, h, (tt, r, closes r, (refl, refl))))

-- ---- the whole

brace : (t : List ℕ) → token_at (32 ∷ 123 ∷ t) ≡ (mark 123, t)
unfolding token_at behind_blanks
brace t = refl

no_function_attributes : (t : List ℕ) → function_attributes.Is (32 ∷ 123 ∷ t) tt (32 ∷ 123 ∷ t)
unfolding function_attributes
no_function_attributes t =
    let start : FunctionAttributeList = record {} in
    (start, 32 ∷ 123 ∷ t, all_turns function_attribute_turn 0 start start start _ _ (omega arith) (no_turn function_attribute_turn start _) (rw (brace t) (refl, refl)), (refl, refl))

define_word : (s t : List ℕ) → token_at s ≡ (word (codes "define"), t) → (keyword (codes "define")).Is s tt t
unfolding keyword
define_word s t e = rw e (refl, refl)

function_is : (ret : List TypeNode) (name : Name) (given : List Parameter) (blocks : List BlockText) (s t u v w r : List ℕ) → (keyword (codes "define")).Is s tt t → words.Is t tt t → type_form.Is t ret u → global_name.Is u name v → parameters.Is v given w → function_attributes.Is w tt w → body.Is w blocks r
    → function.Is s (record { ret = ret; name = name; parameters = given; blocks = blocks }) r
unfolding function
function_is ret name given blocks s t u v w r a b c d e f g = (tt, t, a, (tt, t, b, (ret, u, c, (name, v, d, (given, w, e, (tt, w, f, (blocks, r, g, (refl, refl))))))))

-- what stands behind `define`, and the line feed at the end
abbrev pub function_tail : Module → Function → List ℕ → List ℕ
function_tail m one r = 32 ∷ ty_text one.ret ▸ 32 ∷ 64 ∷ name_text one.name ▸ 40 ∷ params_text 0 one.params ▸ 41 ∷ 32 ∷ 123 ∷ 10 ∷ blocks_text m one.ret 0 (length one.params) one.blocks ++ 125 ∷ r

pub function_shown : (m : Module) (one : Function) (r : List ℕ) → function_lines m one ++ r ≡ codes "define" ▸ function_tail m one (10 ∷ r)
function_shown m one r =
    let head = codes "define " ++ ty_text one.ret ++ codes " @" ++ name_text one.name ++ codes "(" ++ params_text 0 one.params in
    nest4 head (codes ") {\n") (blocks_text m one.ret 0 (length one.params) one.blocks) (codes "}\n") r
    ∙ nest6 (codes "define ") (ty_text one.ret) (codes " @") (name_text one.name) (codes "(") (params_text 0 one.params) (41 ∷ 32 ∷ 123 ∷ 10 ∷ blocks_text m one.ret 0 (length one.params) one.blocks ++ 125 ∷ 10 ∷ r)

abbrev item_first : Token × List ℕ → Bool
item_first x = begins_word_item x.0

pub function_back : (m : Module) (one : Function) (s r : List ℕ) → IsWrittenFunction m one → token_at s ≡ (word (codes "define"), function_tail m one r) → (given : FunctionText) × function.Is s given r × IsFunctionTree m one given
function_back m one s r has e =
    let w = 32 ∷ 123 ∷ 10 ∷ blocks_text m one.ret 0 (length one.params) one.blocks ++ 125 ∷ r in
    let p = params_text 0 one.params ++ 41 ∷ w in
    let v = 40 ∷ p in
    let n = 64 ∷ name_text one.name ++ v in
    let t = ty_text one.ret ++ 32 ∷ n in
    let ret = ty_back one.ret (32 ∷ n) (blank_ends n) in
    let plain = type_plain t (32 ∷ n) ret.parts ret.read in
    let name = global_here one.name v refl in
    let params = list_read one.params w has.1.1 in
    let blocks = body_back m one.ret (length one.params) one.blocks r has.0 has.1.0 in
    let read = function_is ret.parts name.0 params.0 blocks.0 s (32 ∷ t) (32 ∷ n) v w r (define_word s (32 ∷ t) e) (no_words (32 ∷ t) (ap item_first (token_blank t) ∙ plain.item)) (blind-type_form.skips 32 refl t ret.parts (32 ∷ n) ret.read) (blind-global_name.skips 32 refl n name.0 v name.1)
    (parameters_are params.0 p w params.1) (no_function_attributes _) blocks.1 in
    (_, read, (ret.tree, (name.2, (params.2, blocks.2))))
