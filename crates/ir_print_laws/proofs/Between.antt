-- Where words, attributes and suffixes may stand, none are printed.
use Rattle.std.proofs.Common.{◌≡◌, ℕ, zero, suc, Bool, true, false, List, [], Some, refl, sym, subst, arith}
use Rattle.std.specs.Prelude.{◌&&◌, nat_eq, codes}
use Rattle.std.specs.Str.{bytes_eq}
use Rattle.std.specs.List.{list_all}
use Rattle.std.proofs.lemmas.Slice.Eq.{bytes_eq-Decides}
use Rattle.ir_text.specs.Token.{Token, word, local, global, label, number, string, bytes, mark, end, token_at}
use Rattle.ir_text.specs.Form.{Form, turns, most_turns}
use Rattle.ir_text.specs.Words.{is_mark}
use Rattle.ir_grammar.specs.declared.type_tree.TypeNode.{TypeNode}
use Rattle.ir_grammar.specs.declared.types.OpenType.{OpenType}
use Rattle.ir_grammar.specs.declared.words.WordList.{WordList}
use Rattle.ir_grammar.specs.declared.words.AttributeList.{AttributeList}
use Rattle.ir_grammar.specs.declared.words.SuffixList.{SuffixList}
use Rattle.ir_grammar.specs.Words.{is_int_name, is_lower_byte, begins_word_item, begins_attribute, word_turn, words, attribute_turn, attributes, suffix_turn, suffixes}
use Rattle.ir_grammar.specs.Types.{scalar, scalar_of, type_start, type_turn, type_form}
use Rattle.ir_value_trees.specs.declared.value_tree.Value.{Value}
use Rattle.ir_value_trees.specs.Values.{word_value, word_value_of, word_operand, operand}
use Rattle.ir_print_laws.proofs.Segments.{no_turn, all_turns}

pub no_words : (t : List ℕ) → begins_word_item (token_at t).0 ≡ false → words.Is t tt t
unfolding words
no_words t e =
    let start : WordList = record {} in
    (start, t, all_turns word_turn 0 start start start t t (omega arith) (no_turn word_turn start t) (rw e (refl, refl)), (refl, refl))

pub no_attributes : (t : List ℕ) → begins_attribute (token_at t).0 (token_at (token_at t).1).0 ≡ false → attributes.Is t tt t
unfolding attributes
no_attributes t e =
    let start : AttributeList = record {} in
    (start, t, all_turns attribute_turn 0 start start start t t (omega arith) (no_turn attribute_turn start t) (rw e (refl, refl)), (refl, refl))

pub no_suffixes : (t : List ℕ) → is_mark 44 (token_at t).0 ≡ false → suffixes.Is t [] t
unfolding suffixes
no_suffixes t e =
    let start : SuffixList = record { aligns = [] } in
    (start, t, all_turns suffix_turn 0 start start start t t (omega arith) (no_turn suffix_turn start t) (rw e (refl, refl)), (refl, refl))

-- ---- the first token of an operand

-- a token that is no attribute, whatever stands behind it, and closes no list
pub record Plain (token : Token) : Type 0 where
  pub attribute : (second : Token) → begins_attribute token second ≡ false
  pub item : begins_word_item token ≡ false
  pub closes : is_mark 41 token ≡ false
  pub bracket : is_mark 93 token ≡ false
  pub brace : is_mark 125 token ≡ false

plain_word : (name known : List ℕ) → bytes_eq name known ≡ true → Plain (word known) → Plain (word name)
plain_word name known e plain = subst (λ (x : List ℕ). Plain (word x)) (sym ((bytes_eq-Decides name known).0 e)) plain

abbrev known_plain : Plain (word (codes "getelementptr")) × Plain (word (codes "true")) × Plain (word (codes "false")) × Plain (word (codes "null")) × Plain (word (codes "poison"))
known_plain = (
  record { attribute = λ second. refl; item = refl; closes = refl; bracket = refl; brace = refl },
  record { attribute = λ second. refl; item = refl; closes = refl; bracket = refl; brace = refl },
  record { attribute = λ second. refl; item = refl; closes = refl; bracket = refl; brace = refl },
  record { attribute = λ second. refl; item = refl; closes = refl; bracket = refl; brace = refl },
  record { attribute = λ second. refl; item = refl; closes = refl; bracket = refl; brace = refl },
)

value_plain : (left : ℕ) (name : List ℕ) (value : Value) (a b c d : Bool) → bytes_eq name (codes "true") ≡ a → bytes_eq name (codes "false") ≡ b → bytes_eq name (codes "null") ≡ c → bytes_eq name (codes "poison") ≡ d
    → word_value left name ≡ Some value → Plain (word name)
value_plain left name value true b c d p q r s e = plain_word name (codes "true") p known_plain.1
value_plain left name value false true c d p q r s e = plain_word name (codes "false") q known_plain.2
value_plain left name value false false true d p q r s e = plain_word name (codes "null") r known_plain.3
value_plain left name value false false false true p q r s e = plain_word name (codes "poison") s known_plain.4
value_plain left name value false false false false p q r s e = let h = rw (p, q, r, s) at e in absurd cc

word_plain : (t r : List ℕ) (name : List ℕ) (value : Value) (address : Bool) → (token_at t).0 ≡ word name → bytes_eq name (codes "getelementptr") ≡ address → operand.Is t value r → Plain (word name)
unfolding operand word_operand
word_plain t r name value true is e h = plain_word name (codes "getelementptr") e known_plain.0
word_plain t r name value false is e h =
    let one = rw (is, e) at h in
    let here = subst (λ (x : List ℕ). word_value_of one.0 (token_at x).0 ≡ Some value) one.2.1 one.3.0 in
    value_plain one.0 name value _ _ _ _ refl refl refl refl (subst (λ (x : Token). word_value_of one.0 x ≡ Some value) is here)

operand_plain_by : (t r : List ℕ) (value : Value) (token : Token) → (token_at t).0 ≡ token → operand.Is t value r → Plain token
unfolding operand word_operand
operand_plain_by t r value (word name) is h = word_plain t r name value (bytes_eq name (codes "getelementptr")) is refl h
operand_plain_by t r value (local spelling name) is h = record { attribute = λ second. refl; item = refl; closes = refl; bracket = refl; brace = refl }
operand_plain_by t r value (global spelling name) is h = record { attribute = λ second. refl; item = refl; closes = refl; bracket = refl; brace = refl }
operand_plain_by t r value (number negative digits) is h = record { attribute = λ second. refl; item = refl; closes = refl; bracket = refl; brace = refl }
operand_plain_by t r value (label spelling name) is h = let one = rw is at h in let f = rw one.2.1 at one.3.0 in let g = rw is at f in absurd cc
operand_plain_by t r value (string inner) is h = let one = rw is at h in let f = rw one.2.1 at one.3.0 in let g = rw is at f in absurd cc
operand_plain_by t r value (bytes inner) is h = let one = rw is at h in let f = rw one.2.1 at one.3.0 in let g = rw is at f in absurd cc
operand_plain_by t r value (mark byte) is h = let one = rw is at h in let f = rw one.2.1 at one.3.0 in let g = rw is at f in absurd cc
operand_plain_by t r value end is h = let one = rw is at h in let f = rw one.2.1 at one.3.0 in let g = rw is at f in absurd cc

pub operand_plain : (t r : List ℕ) (value : Value) → operand.Is t value r → Plain (token_at t).0
operand_plain t r value h = operand_plain_by t r value (token_at t).0 refl h

-- ---- the first token of a type

first_turn : {S : Type 0} (turn : S → Form (Bool × S)) (k : ℕ) (s : S) (t : List ℕ) (v : S) (r : List ℕ) → (turns turn k s).Is t v r → (turned : Bool × S) × (u : List ℕ) × (turn s).Is t turned u
unfolding turns
first_turn turn zero s t v r h = absurd h
first_turn turn (suc k) s t v r h = (h.0, h.1, h.2)

never : (a : Bool) → (a && false) ≡ false
never true = refl
never false = refl

int_plain : (name : List ℕ) → is_int_name name ≡ true → Plain (word name)
int_plain name e = record { attribute = λ second. rw e (rw (never (list_all is_lower_byte name)) refl); item = rw e (rw (never (list_all is_lower_byte name)) refl); closes = refl; bracket = refl; brace = refl }

abbrev known_types : Plain (word (codes "ptr")) × Plain (word (codes "void"))
known_types = (record { attribute = λ second. refl; item = refl; closes = refl; bracket = refl; brace = refl }, record { attribute = λ second. refl; item = refl; closes = refl; bracket = refl; brace = refl })

scalar_plain_word : (left : ℕ) (name : List ℕ) (node : TypeNode) (a b c : Bool) → bytes_eq name (codes "ptr") ≡ a → bytes_eq name (codes "void") ≡ b → is_int_name name ≡ c → scalar_of left (word name) ≡ Some node → Plain (word name)
scalar_plain_word left name node true b c p q r e = plain_word name (codes "ptr") p known_types.0
scalar_plain_word left name node false true c p q r e = plain_word name (codes "void") q known_types.1
scalar_plain_word left name node false false true p q r e = int_plain name r
scalar_plain_word left name node false false false p q r e = let h = rw (p, q, r) at e in absurd cc

scalar_plain : (left : ℕ) (token : Token) (node : TypeNode) → scalar_of left token ≡ Some node → Plain token
scalar_plain left (word name) node e = scalar_plain_word left name node _ _ _ refl refl refl e
scalar_plain left (local spelling name) node e = record { attribute = λ second. refl; item = refl; closes = refl; bracket = refl; brace = refl }
scalar_plain left (global spelling name) node e = absurd cc
scalar_plain left (number negative digits) node e = absurd cc
scalar_plain left (label spelling name) node e = absurd cc
scalar_plain left (string inner) node e = absurd cc
scalar_plain left (bytes inner) node e = absurd cc
scalar_plain left (mark byte) node e = absurd cc
scalar_plain left end node e = absurd cc

nat_of : (a b : ℕ) → nat_eq a b ≡ true → a ≡ b
nat_of a b e = grind (arith, e)

known_mark : (byte known : ℕ) → nat_eq byte known ≡ true → Plain (mark known) → Plain (mark byte)
known_mark byte known e plain = subst (λ (x : ℕ). Plain (mark x)) (sym (nat_of byte known e)) plain

start_mark : (s next : OpenType) (t u : List ℕ) (byte : ℕ) (a b c : Bool) → (token_at t).0 ≡ mark byte → nat_eq byte 91 ≡ a → nat_eq byte 123 ≡ b → nat_eq byte 60 ≡ c → (type_start s).Is t next u → Plain (mark byte)
unfolding type_start scalar
start_mark s next t u byte true b c is p q r h = known_mark byte 91 p (record { attribute = λ second. refl; item = refl; closes = refl; bracket = refl; brace = refl })
start_mark s next t u byte false true c is p q r h = known_mark byte 123 q (record { attribute = λ second. refl; item = refl; closes = refl; bracket = refl; brace = refl })
start_mark s next t u byte false false true is p q r h = known_mark byte 60 r (record { attribute = λ second. refl; item = refl; closes = refl; bracket = refl; brace = refl })
start_mark s next t u byte false false false is p q r h = let g = rw h.2.1 at h.3 in let one = rw (is, p, q, r) at g in let s = one.2 in let f = rw s.2.1 at s.3.0 in let k = rw is at f in absurd cc

start_scalar : (s next : OpenType) (t u : List ℕ) (token : Token) → (token_at t).0 ≡ token → is_mark 91 token ≡ false → is_mark 123 token ≡ false → is_mark 60 token ≡ false → (type_start s).Is t next u → Plain token
unfolding type_start scalar
start_scalar s next t u token is p q r h =
    let g = rw h.2.1 at h.3 in
    let one = rw (is, p, q, r) at g in
    let s = one.2 in
    let f = rw s.2.1 at s.3.0 in
    scalar_plain s.0 token one.0 (rw is at f)

type_first : (s next : OpenType) (t u : List ℕ) (token : Token) → (token_at t).0 ≡ token → (type_start s).Is t next u → Plain token
type_first s next t u (mark byte) is h = start_mark s next t u byte _ _ _ is refl refl refl h
type_first s next t u (word name) is h = start_scalar s next t u (word name) is refl refl refl h
type_first s next t u (local spelling name) is h = start_scalar s next t u (local spelling name) is refl refl refl h
type_first s next t u (global spelling name) is h = start_scalar s next t u (global spelling name) is refl refl refl h
type_first s next t u (number negative digits) is h = start_scalar s next t u (number negative digits) is refl refl refl h
type_first s next t u (label spelling name) is h = start_scalar s next t u (label spelling name) is refl refl refl h
type_first s next t u (string inner) is h = start_scalar s next t u (string inner) is refl refl refl h
type_first s next t u (bytes inner) is h = start_scalar s next t u (bytes inner) is refl refl refl h
type_first s next t u end is h = start_scalar s next t u end is refl refl refl h

pub type_plain : (t r : List ℕ) (parts : List TypeNode) → type_form.Is t parts r → Plain (token_at t).0
unfolding type_form
type_plain t r parts h =
    let one = first_turn type_turn most_turns (record { wanted = []; nodes = []; is_complete = false }) t h.0 h.1 h.2 in
    type_first (record { wanted = []; nodes = []; is_complete = false }) one.2.0 t one.2.1 (token_at t).0 refl one.2.2
