-- Printed types are read as their trees.
use Rattle.std.proofs.Common.{◌≡◌, ℕ, ◌<◌, true, false, List, [], ◌∷◌, ◌++◌, Some, refl, arith}
use Rattle.std.specs.Prelude.{decimal}
use Rattle.std.specs.List.{list_all}
use Rattle.std.specs.Char.{is_ascii_digit}
use Rattle.ir_text.specs.Token.{Token, word, token_at}
use Rattle.ir_text.specs.Form.{left_at, most_turns}
use Rattle.ir_core.specs.declared.types.Ty.{Ty}
use Rattle.ir_core.specs.declared.types.Ty.TheVariants as values
use Rattle.ir_grammar.specs.declared.type_tree.TypeNode.{TypeNode}
use Rattle.ir_grammar.specs.declared.type_tree.TypeNode.TheVariants as nodes
use Rattle.ir_grammar.specs.declared.types.OpenType.{OpenType}
use Rattle.ir_grammar.specs.Types.{scalar_of, scalar, type_start, type_turn, type_form, completed}
use Rattle.ir_print.specs.Types.{ty_text}
use Rattle.ir_print_laws.specs.FormTrees.{IsTyTree}
use Rattle.ir_print_laws.proofs.Tokens.{Begun, Ends, decimal_digits, decimal_begun, int_token, void_token, ptr_token}
use Rattle.ir_print_laws.proofs.Segments.{Seg, one_turn, all_turns, IsBlind, blind_forms, blind-then, blind-repeat}
use Rattle.ir_print_laws.proofs.Marks.{blind_words}

-- a type of which a part comes, and one of which a part has ended
abbrev pub open_at : List ℕ → List TypeNode → OpenType
open_at wanted parts = record { wanted = wanted; nodes = parts; is_complete = false }

abbrev pub done_at : List ℕ → List TypeNode → OpenType
done_at wanted parts = record { wanted = wanted; nodes = parts; is_complete = true }

-- ---- blanks

blind-scalar : IsBlind scalar
unfolding scalar
blind-scalar = search blind_forms

blind-type_start : (s : OpenType) → IsBlind (type_start s)
unfolding type_start
blind-type_start s = search (blind_forms, blind_words, blind-scalar) depth 20

pub blind-open : (wanted : List ℕ) (parts : List TypeNode) → IsBlind (type_turn (open_at wanted parts))
blind-open wanted parts = record { skips = λ b e t v r w. (w.0, w.1, (blind-type_start (open_at wanted parts)).skips b e t w.0 w.1 w.2, w.3) }

pub blind-type_form : IsBlind type_form
unfolding type_form
blind-type_form = blind-then _ _ (blind-repeat type_turn (open_at [] []) (blind-open [] []))

-- ---- one token

scalar_here : (node : ℕ → TypeNode) (token : Token) (t r : List ℕ) → token_at t ≡ (token, r) → ((left : ℕ) → scalar_of left token ≡ Some (node left)) → scalar.Is t (node (left_at t)) r
unfolding scalar
scalar_here node token t r e is = (left_at t, t, (refl, refl), rw (e, is (left_at t)) (refl, refl))

start_here : (s : OpenType) (name : List ℕ) (node : TypeNode) (t r : List ℕ) → token_at t ≡ (word name, r) → scalar.Is t node r → (type_start s).Is t (completed s node) r
unfolding type_start
start_here s name node t r e h = (left_at t, t, (refl, refl), rw e (node, r, h, (refl, refl)))

pub word_seg : (wanted : List ℕ) (parts : List TypeNode) (name : List ℕ) (node : ℕ → TypeNode) (t r : List ℕ) → token_at t ≡ (word name, r) → ((left : ℕ) → scalar_of left (word name) ≡ Some (node left))
    → Seg type_turn 1 (open_at wanted parts) t (done_at wanted (parts ++ node (left_at t) ∷ [])) r
word_seg wanted parts name node t r e is =
    one_turn type_turn _ _ t r (_, r, start_here (open_at wanted parts) name (node (left_at t)) t r e (scalar_here node (word name) t r e is), (refl, refl))

type_ends : (parts : List TypeNode) (r : List ℕ) → (type_turn (done_at [] parts)).Is r (false, done_at [] parts) r
type_ends parts r = (refl, refl)

-- some turns from no part on are a type
pub form_by : (n : ℕ) (parts : List TypeNode) (t r : List ℕ) → n < most_turns → Seg type_turn n (open_at [] []) t (done_at [] parts) r → type_form.Is t parts r
unfolding type_form
form_by n parts t r lt f = (done_at [] parts, r, all_turns type_turn n _ _ _ t r lt f (type_ends parts r), (refl, refl))

int_scalar : (ds : List ℕ) (left : ℕ) → Begun ds → list_all is_ascii_digit ds ≡ true → scalar_of left (word (105 ∷ ds)) ≡ Some (nodes.Int ds left)
int_scalar [] left b all = let e = b.is in absurd cc
int_scalar (d ∷ ds) left b all = rw all refl

abbrev int_at : ℕ → ℕ → TypeNode
int_at w left = nodes.Int (decimal w) left

pub int_seg : (wanted : List ℕ) (parts : List TypeNode) (w : ℕ) (r : List ℕ) → Ends r
    → Seg type_turn 1 (open_at wanted parts) (105 ∷ decimal w ++ r) (done_at wanted (parts ++ int_at w (left_at (105 ∷ decimal w ++ r)) ∷ [])) r
int_seg wanted parts w r ends =
    word_seg wanted parts (105 ∷ decimal w) (int_at w) (105 ∷ decimal w ++ r) r (int_token w r ends) (λ left. int_scalar (decimal w) left (decimal_begun w) (decimal_digits w))

pub ptr_seg : (wanted : List ℕ) (parts : List TypeNode) (r : List ℕ) → Ends r
    → Seg type_turn 1 (open_at wanted parts) (112 ∷ 116 ∷ 114 ∷ r) (done_at wanted (parts ++ nodes.Ptr (left_at (112 ∷ 116 ∷ 114 ∷ r)) ∷ [])) r
ptr_seg wanted parts r ends =
    word_seg wanted parts (112 ∷ 116 ∷ 114 ∷ []) (λ left. nodes.Ptr left) (112 ∷ 116 ∷ 114 ∷ r) r (ptr_token r ends) (λ left. refl)

void_seg : (r : List ℕ) → Ends r → Seg type_turn 1 (open_at [] []) (118 ∷ 111 ∷ 105 ∷ 100 ∷ r) (done_at [] (nodes.Void (left_at (118 ∷ 111 ∷ 105 ∷ 100 ∷ r)) ∷ [])) r
void_seg r ends = word_seg [] [] (118 ∷ 111 ∷ 105 ∷ 100 ∷ []) (λ left. nodes.Void left) (118 ∷ 111 ∷ 105 ∷ 100 ∷ r) r (void_token r ends) (λ left. refl)

-- the printed type of a value
pub record TyIsRead (ty : Ty) (t r : List ℕ) : Type 0 where
  pub parts : List TypeNode
  pub read : type_form.Is t parts r
  pub tree : IsTyTree ty parts

pub ty_back : (ty : Ty) (r : List ℕ) → Ends r → TyIsRead ty (ty_text ty ++ r) r
ty_back values.Void r ends = record { parts = _; read = form_by 1 _ _ r (omega arith) (void_seg r ends); tree = (_, refl) }
ty_back (values.Int w) r ends = record { parts = _; read = form_by 1 _ _ r (omega arith) (int_seg [] [] w r ends); tree = (_, refl) }
ty_back values.Ptr r ends = record { parts = _; read = form_by 1 _ _ r (omega arith) (ptr_seg [] [] r ends); tree = (_, refl) }
