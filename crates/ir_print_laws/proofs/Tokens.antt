-- The tokens of printed text.
use Rattle.std.proofs.Common.{◌≡◌, ℕ, zero, suc, ◌/◌, ◌%◌, ◌<◌, Bool, true, false, cond, List, [], ◌∷◌, ◌++◌, length, refl, ◌∙◌, ap, arith}
use Rattle.std.specs.Prelude.{◌==◌, nat_eq, decimal}
use Rattle.std.specs.List.{list_all}
use Rattle.std.specs.Char.{is_ascii_digit}
use Rattle.std.specs.Fmt.{digits, digits_onto, digit_glyph}
use Rattle.ir_text.specs.declared.token.Spelling.TheVariants.{Bare}
use Rattle.ir_text.specs.Token.{Token, word, local, label, number, Spelled, is_blank, is_name_byte, begins, begins_with, back, behind_blanks, labelled, bare_run, word_token, token_here, token_at}
use Rattle.ir_text.specs.Form.{left_at}
use Rattle.ir_print_names.proofs.NamesBack.{both_true, run_front, run_back, digits_are_names, values_back}
use Rattle.ir_print_names.proofs.NumbersBack.{digits_token}

-- ---- digits

glyph_digit : (n : ℕ) → is_ascii_digit (digit_glyph false (n % 10)) ≡ true
glyph_digit n = grind arith

all_of_either : (test : ℕ → Bool) (b : Bool) (xs ys : List ℕ) → list_all test xs ≡ true → list_all test ys ≡ true → list_all test (cond b xs ys) ≡ true
all_of_either test true xs ys p q = p
all_of_either test false xs ys p q = q

onto_digits : (k n : ℕ) (acc : List ℕ) → list_all is_ascii_digit acc ≡ true → list_all is_ascii_digit (digits_onto k 10 false n acc) ≡ true
onto_digits zero n acc all = all
onto_digits (suc k) n acc all =
    let more : list_all is_ascii_digit (digit_glyph false (n % 10) ∷ acc) ≡ true = rw (glyph_digit n, all) refl in
    all_of_either is_ascii_digit (n / 10 == 0) _ _ more (onto_digits k (n / 10) (digit_glyph false (n % 10) ∷ acc) more)

-- a list that has a first item
pub record Begun (xs : List ℕ) : Type 0 where
  pub first : ℕ
  pub others : List ℕ
  pub is : xs ≡ first ∷ others

begun_either : (b : Bool) (xs ys : List ℕ) → Begun xs → Begun ys → Begun (cond b xs ys)
begun_either true xs ys p q = p
begun_either false xs ys p q = q

onto_begun : (k n x : ℕ) (acc : List ℕ) → Begun (digits_onto k 10 false n (x ∷ acc))
onto_begun zero n x acc = record { first = x; others = acc; is = refl }
onto_begun (suc k) n x acc =
    begun_either (n / 10 == 0) _ _ (record { first = _; others = x ∷ acc; is = refl }) (onto_begun k (n / 10) (digit_glyph false (n % 10)) (x ∷ acc))

pub decimal_digits : (n : ℕ) → list_all is_ascii_digit (decimal n) ≡ true
unfolding digits
decimal_digits n = onto_digits 64 n [] refl

pub decimal_begun : (n : ℕ) → Begun (decimal n)
unfolding digits
decimal_begun n = begun_either (n / 10 == 0) _ _ (record { first = _; others = []; is = refl }) (onto_begun 63 (n / 10) (digit_glyph false (n % 10)) [])

pub decimal_some : (n : ℕ) → 0 < length (decimal n)
decimal_some n = let b = decimal_begun n in rw b.is (omega arith)

-- ---- blanks

pub token_blank : (t : List ℕ) → token_at (32 ∷ t) ≡ token_at t
unfolding token_at behind_blanks
token_blank t = refl

pub left_blank : (t : List ℕ) → left_at (32 ∷ t) ≡ left_at t
unfolding behind_blanks
left_blank t = refl

digit_no_blank : (d : ℕ) → is_ascii_digit d ≡ true → is_blank d ≡ false
digit_no_blank d e = grind arith

digit_no_comment : (d : ℕ) → is_ascii_digit d ≡ true → nat_eq d 59 ≡ false
digit_no_comment d e = grind arith

digits_no_blank : (ds t : List ℕ) → Begun ds → list_all is_ascii_digit ds ≡ true → behind_blanks false (ds ++ t) ≡ ds ++ t
unfolding behind_blanks
digits_no_blank [] t b all = let e = b.is in absurd cc
digits_no_blank (d ∷ ds) t b all =
    let s = both_true (is_ascii_digit d) (list_all is_ascii_digit ds) all in
    rw (digit_no_blank d s.0, digit_no_comment d s.0) refl

-- ---- words, names and numbers

-- neither a byte of a name nor a colon stands at the front
pub record Ends (rest : List ℕ) : Type 0 where
  pub no_name : begins is_name_byte rest ≡ false
  pub no_colon : begins_with 58 rest ≡ false

abbrev Lexed : Type 0
Lexed = Token × List ℕ

no_label : (s : Spelled) (other : Lexed) → begins_with 58 s.2 ≡ false → labelled s other ≡ other
no_label s other e = rw e refl

abbrev as_word : List ℕ → List ℕ → Lexed
as_word name rest = (word name, rest)

same_word : (f b name rest : List ℕ) → f ≡ name → b ≡ rest → as_word f b ≡ as_word name rest
same_word f b name rest p q = ap (λ (x : List ℕ). as_word x b) p ∙ ap (λ (x : List ℕ). as_word name x) q

abbrev as_local : List ℕ → List ℕ → Lexed
as_local name rest = (local Bare name, rest)

same_local : (f b name rest : List ℕ) → f ≡ name → b ≡ rest → as_local f b ≡ as_local name rest
same_local f b name rest p q = ap (λ (x : List ℕ). as_local x b) p ∙ ap (λ (x : List ℕ). as_local name x) q

abbrev as_label : List ℕ → List ℕ → Lexed
as_label name rest = (label Bare name, rest)

same_label : (f b name rest : List ℕ) → f ≡ name → b ≡ rest → as_label f b ≡ as_label name rest
same_label f b name rest p q = ap (λ (x : List ℕ). as_label x b) p ∙ ap (λ (x : List ℕ). as_label name x) q

pub run_token : (name rest : List ℕ) → list_all is_name_byte name ≡ true → Ends rest → labelled (bare_run (name ++ rest)) (word_token (name ++ rest)) ≡ (word name, rest)
run_token name rest names ends =
    let f = run_front is_name_byte name rest names ends.no_name in
    let b = run_back is_name_byte name rest names ends.no_name in
    let colon : begins_with 58 (back is_name_byte (name ++ rest)) ≡ false = ap (λ (t : List ℕ). begins_with 58 t) b ∙ ends.no_colon in
    no_label (bare_run (name ++ rest)) (word_token (name ++ rest)) colon ∙ same_word _ _ name rest f b

pub int_token : (w : ℕ) (rest : List ℕ) → Ends rest → token_at (105 ∷ decimal w ++ rest) ≡ (word (105 ∷ decimal w), rest)
unfolding token_at behind_blanks
int_token w rest ends = run_token (105 ∷ decimal w) rest (digits_are_names (decimal w) (decimal_digits w)) ends

pub void_token : (rest : List ℕ) → Ends rest → token_at (118 ∷ 111 ∷ 105 ∷ 100 ∷ rest) ≡ (word (118 ∷ 111 ∷ 105 ∷ 100 ∷ []), rest)
unfolding token_at behind_blanks
void_token rest ends = run_token (118 ∷ 111 ∷ 105 ∷ 100 ∷ []) rest refl ends

pub ptr_token : (rest : List ℕ) → Ends rest → token_at (112 ∷ 116 ∷ 114 ∷ rest) ≡ (word (112 ∷ 116 ∷ 114 ∷ []), rest)
unfolding token_at behind_blanks
ptr_token rest ends = run_token (112 ∷ 116 ∷ 114 ∷ []) rest refl ends

pub value_token : (v : ℕ) (rest : List ℕ) → begins is_name_byte rest ≡ false → token_at (37 ∷ 118 ∷ decimal v ++ rest) ≡ (local Bare (118 ∷ decimal v), rest)
unfolding token_at behind_blanks
value_token v rest ends = values_back (decimal v) rest (decimal_digits v) ends

pub block_token : (k : ℕ) (rest : List ℕ) → begins is_name_byte rest ≡ false → token_at (37 ∷ 98 ∷ decimal k ++ rest) ≡ (local Bare (98 ∷ decimal k), rest)
unfolding token_at behind_blanks
block_token k rest ends =
    let names : list_all is_name_byte (98 ∷ decimal k) ≡ true = digits_are_names (decimal k) (decimal_digits k) in
    same_local _ _ (98 ∷ decimal k) rest (run_front is_name_byte (98 ∷ decimal k) rest names ends) (run_back is_name_byte (98 ∷ decimal k) rest names ends)

pub count_token : (n : ℕ) (rest : List ℕ) → Ends rest → token_at (decimal n ++ rest) ≡ (number false (decimal n), rest)
unfolding token_at
count_token n rest ends =
    ap (λ (t : List ℕ). token_here t) (digits_no_blank (decimal n) rest (decimal_begun n) (decimal_digits n))
    ∙ digits_token (decimal n) rest (decimal_some n) (decimal_digits n) ends.no_name ends.no_colon
