-- Marks, words, names and numbers of printed text stand where they are read.
use Rattle.std.proofs.Common.{◌≡◌, ℕ, Bool, true, false, List, ◌∷◌, ◌++◌, refl}
use Rattle.std.specs.Prelude.{codes, decimal}
use Rattle.std.specs.Str.{bytes_eq}
use Rattle.ir_text.specs.declared.token.Spelling.TheVariants.{Bare}
use Rattle.ir_text.specs.declared.name.Name.{Name}
use Rattle.ir_text.specs.declared.name.Number.{Number}
use Rattle.ir_text.specs.Token.{word, local, number, mark, is_name_byte, begins, token_at, behind_blanks}
use Rattle.ir_text.specs.Form.{left_at}
use Rattle.ir_text.specs.Words.{punctuation, keyword, local_name, global_name, numeral}
use Rattle.ir_print_laws.proofs.Tokens.{Ends, value_token, block_token, count_token}
use Rattle.ir_print_laws.proofs.Segments.{IsBlind, blind_forms}
use Rattle.ir_print_laws.specs.FormTrees.{IsValueName, IsBlockName, IsCount}

pub blind-punctuation : (byte : ℕ) → IsBlind (punctuation byte)
unfolding punctuation
blind-punctuation byte = search blind_forms

pub blind-keyword : (name : List ℕ) → IsBlind (keyword name)
unfolding keyword
blind-keyword name = search blind_forms

pub blind-local_name : IsBlind local_name
unfolding local_name
blind-local_name = search blind_forms

pub blind-global_name : IsBlind global_name
unfolding global_name
blind-global_name = search blind_forms

pub blind-numeral : IsBlind numeral
unfolding numeral
blind-numeral = search blind_forms

pub ruleset blind_words = (blind-punctuation, blind-keyword, blind-local_name, blind-global_name, blind-numeral)

pub comma_token : (t : List ℕ) → token_at (44 ∷ t) ≡ (mark 44, t)
unfolding token_at behind_blanks
comma_token t = refl

pub bracket_token : (t : List ℕ) → token_at (91 ∷ t) ≡ (mark 91, t)
unfolding token_at behind_blanks
bracket_token t = refl

pub brace_token : (t : List ℕ) → token_at (123 ∷ t) ≡ (mark 123, t)
unfolding token_at behind_blanks
brace_token t = refl

pub end_token : (t : List ℕ) → token_at (125 ∷ t) ≡ (mark 125, t)
unfolding token_at behind_blanks
end_token t = refl

pub angle_token : (t : List ℕ) → token_at (60 ∷ t) ≡ (mark 60, t)
unfolding token_at behind_blanks
angle_token t = refl

-- ` x ` between the count and the element of an array
pub x_here : (t : List ℕ) → (keyword (codes "x")).Is (32 ∷ 120 ∷ 32 ∷ t) tt (32 ∷ t)
unfolding keyword token_at behind_blanks
x_here t = (refl, refl)

pub comma_here : (t : List ℕ) → (punctuation 44).Is (44 ∷ t) tt t
unfolding punctuation token_at behind_blanks
comma_here t = (refl, refl)

pub opens_bracket : (t : List ℕ) → (punctuation 91).Is (91 ∷ t) tt t
unfolding punctuation token_at behind_blanks
opens_bracket t = (refl, refl)

pub closes_bracket : (t : List ℕ) → (punctuation 93).Is (93 ∷ t) tt t
unfolding punctuation token_at behind_blanks
closes_bracket t = (refl, refl)

pub opens_brace : (t : List ℕ) → (punctuation 123).Is (123 ∷ t) tt t
unfolding punctuation token_at behind_blanks
opens_brace t = (refl, refl)

pub closes_brace : (t : List ℕ) → (punctuation 125).Is (125 ∷ t) tt t
unfolding punctuation token_at behind_blanks
closes_brace t = (refl, refl)

pub opens_angle : (t : List ℕ) → (punctuation 60).Is (60 ∷ t) tt t
unfolding punctuation token_at behind_blanks
opens_angle t = (refl, refl)

pub closes_angle : (t : List ℕ) → (punctuation 62).Is (62 ∷ t) tt t
unfolding punctuation token_at behind_blanks
closes_angle t = (refl, refl)

pub word_here : (name t r : List ℕ) → token_at t ≡ (word name, r) → bytes_eq name name ≡ true → (keyword name).Is t tt r
unfolding keyword
word_here name t r e same = rw (e, same) (refl, refl)

pub local_here : (name t r : List ℕ) → token_at t ≡ (local Bare name, r) → local_name.Is t (record { spelling = Bare; bytes = name; left = left_at t }) r
unfolding local_name
local_here name t r e = (left_at t, t, (refl, refl), rw e (refl, refl))

pub value_here : (v : ℕ) (r : List ℕ) → begins is_name_byte r ≡ false → (name : Name) × local_name.Is (37 ∷ 118 ∷ decimal v ++ r) name r × IsValueName v name
value_here v r ends = (_, local_here (118 ∷ decimal v) (37 ∷ 118 ∷ decimal v ++ r) r (value_token v r ends), (refl, refl))

pub block_here : (k : ℕ) (r : List ℕ) → begins is_name_byte r ≡ false → (name : Name) × local_name.Is (37 ∷ 98 ∷ decimal k ++ r) name r × IsBlockName k name
block_here k r ends = (_, local_here (98 ∷ decimal k) (37 ∷ 98 ∷ decimal k ++ r) r (block_token k r ends), (refl, refl))

pub number_here : (negative : Bool) (digits t r : List ℕ) → token_at t ≡ (number negative digits, r) → numeral.Is t (record { is_negative = negative; digits = digits; left = left_at t }) r
unfolding numeral
number_here negative digits t r e = (left_at t, t, (refl, refl), rw e (refl, refl))

pub count_here : (n : ℕ) (r : List ℕ) → Ends r → (given : Number) × numeral.Is (decimal n ++ r) given r × IsCount n given
count_here n r ends = (_, number_here false (decimal n) (decimal n ++ r) r (count_token n r ends), (refl, refl))
