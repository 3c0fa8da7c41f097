-- Printed names of globals and printed numbers stand where they are read.
use Rattle.std.proofs.Common.{◌≡◌, ℕ, suc, ◌-◌, ◌^◌, ◌/◌, ◌%◌, ◌<◌, Bool, true, false, cond, List, [], ◌∷◌, ◌++◌, Option, Some, pos, negsuc, ◌-ℤ◌, refl, ◌∙◌, ap, arith, append_assoc}
use Rattle.std.specs.Prelude.{not, ◌&&◌, nat_lt, nat_le, codes, decimal, if◌then◌else◌}
use Rattle.std.specs.List.{list_all, flat_map}
use Rattle.std.specs.Char.{is_ascii_digit}
use Rattle.std.specs.Fmt.{signed_decimal}
use Rattle.std.proofs.lemmas.Int.{ints}
use Rattle.std.proofs.lemmas.List.Folds.{list_all-append}
use Rattle.rj_num.specs.Width.{is_negative, signed, holds_unsigned}
use Rattle.ir_text.specs.declared.token.Spelling.{Spelling}
use Rattle.ir_text.specs.declared.token.Spelling.TheVariants.{Bare, Numbered, Quoted}
use Rattle.ir_text.specs.declared.name.Name.{Name}
use Rattle.ir_text.specs.declared.name.Number.{Number}
use Rattle.ir_text.specs.Token.{global, number, Spelled, is_name_byte, is_no_quote, begins, name_at, quoted, token_at, behind_blanks, global_or_mark}
use Rattle.ir_text.specs.Form.{left_at}
use Rattle.ir_text.specs.Words.{global_name, numeral}
use Rattle.ir_print_names.specs.Names.{is_bare, is_numeral, hexadecimal_digit, is_plain, quoted_byte, quoted_text, name_text}
use Rattle.ir_print_names.proofs.NamesBack.{both_true, not_true, run_front, run_back, no_digit, quoted_back}
use Rattle.ir_print_names.proofs.NumbersBack.{negative_token}
use Rattle.ir_print_laws.specs.FormTrees.{spelling_of, written_of, IsNameOf, has_sign, IsSignedTree}
use Rattle.ir_print_laws.proofs.Tokens.{Ends, decimal_digits, decimal_some, count_token}
use Rattle.ir_print_laws.proofs.Marks.{number_here}

-- ---- names of globals

digit_is_no_quote : (value : ℕ) → is_no_quote (hexadecimal_digit value) ≡ true
digit_is_no_quote value = grind arith

plain_is_no_quote : (byte : ℕ) → is_plain byte ≡ true → is_no_quote byte ≡ true
plain_is_no_quote byte e = grind arith

byte_has_no_quote : (plain : Bool) (byte : ℕ) → is_plain byte ≡ plain → list_all is_no_quote (quoted_byte byte) ≡ true
byte_has_no_quote true byte e = rw (e, plain_is_no_quote byte e) refl
byte_has_no_quote false byte e = rw (e, digit_is_no_quote (byte / 16), digit_is_no_quote (byte % 16)) refl

pub no_quote : (name : List ℕ) → list_all is_no_quote (flat_map quoted_byte name) ≡ true
no_quote [] = refl
no_quote (byte ∷ name) = list_all-append is_no_quote (quoted_byte byte) (flat_map quoted_byte name) ∙ rw (byte_has_no_quote (is_plain byte) byte refl, no_quote name) refl

abbrev spell : Spelling → List ℕ → List ℕ → Option Spelled
spell spelling written rest = Some (spelling, written, rest)

same_spelled : (spelling : Spelling) (f b written rest : List ℕ) → f ≡ written → b ≡ rest → spell spelling f b ≡ spell spelling written rest
same_spelled spelling f b written rest p q = ap (λ (x : List ℕ). spell spelling x b) p ∙ ap (λ (x : List ℕ). spell spelling written x) q

pick_first : (a : Bool) (x y : Option Spelled) → a ≡ true → cond a x y ≡ x
pick_first a x y p = rw p refl

pick_second : (a b : Bool) (x y z : Option Spelled) → a ≡ false → b ≡ true → cond a x (cond b y z) ≡ y
pick_second a b x y z p q = rw (p, q) refl

bare_at : (name rest : List ℕ) → is_bare name ≡ true → begins is_name_byte rest ≡ false → name_at (name ++ rest) ≡ spell Bare name rest
bare_at [] rest bare ends = absurd cc
bare_at (byte ∷ name) rest bare ends =
    let s = both_true (not (is_ascii_digit byte)) (list_all is_name_byte (byte ∷ name)) bare in
    let first = both_true (is_name_byte byte) (list_all is_name_byte name) s.1 in
    pick_second (is_ascii_digit byte) (is_name_byte byte) _ _ _ (not_true _ s.0) first.0
    ∙ same_spelled Bare _ _ (byte ∷ name) rest (run_front is_name_byte (byte ∷ name) rest s.1 ends) (run_back is_name_byte (byte ∷ name) rest s.1 ends)

numeral_at : (name rest : List ℕ) → is_numeral name ≡ true → begins is_name_byte rest ≡ false → name_at (name ++ rest) ≡ spell Numbered name rest
numeral_at [] rest numeral ends = absurd cc
numeral_at (byte ∷ name) rest numeral ends =
    let first = both_true (is_ascii_digit byte) (list_all is_ascii_digit name) numeral in
    pick_first (is_ascii_digit byte) _ _ first.0
    ∙ same_spelled Numbered _ _ (byte ∷ name) rest (run_front is_ascii_digit (byte ∷ name) rest numeral (no_digit rest ends)) (run_back is_ascii_digit (byte ∷ name) rest numeral (no_digit rest ends))

quotes_at : (name rest : List ℕ) → name_at (quoted_text name ++ rest) ≡ spell Quoted (flat_map quoted_byte name) rest
quotes_at name rest =
    ap (λ (t : List ℕ). quoted t) (append_assoc (flat_map quoted_byte name) (codes "\"") rest) ∙ quoted_back (flat_map quoted_byte name) rest (no_quote name)

name_here_by : (bare numeral : Bool) (name rest : List ℕ) → is_bare name ≡ bare → is_numeral name ≡ numeral → begins is_name_byte rest ≡ false
    → name_at (name_text name ++ rest) ≡ spell (spelling_of name) (written_of name) rest
name_here_by true numeral name rest b n ends = rw b (bare_at name rest b ends)
name_here_by false true name rest b n ends = rw (b, n) (numeral_at name rest n ends)
name_here_by false false name rest b n ends = rw (b, n) (quotes_at name rest)

global_here_by : (text : List ℕ) (spelled : Spelled) → name_at text ≡ Some spelled → token_at (64 ∷ text) ≡ (global spelled.0 spelled.1, spelled.2)
unfolding token_at behind_blanks
global_here_by text spelled e = ap (λ (o : Option Spelled). global_or_mark o 64 text) e

pub global_token : (name rest : List ℕ) → begins is_name_byte rest ≡ false → token_at (64 ∷ name_text name ++ rest) ≡ (global (spelling_of name) (written_of name), rest)
global_token name rest ends = global_here_by (name_text name ++ rest) (spelling_of name, written_of name, rest) (name_here_by (is_bare name) (is_numeral name) name rest refl refl ends)

name_read : (spelling : Spelling) (written t r : List ℕ) → token_at t ≡ (global spelling written, r) → global_name.Is t (record { spelling = spelling; bytes = written; left = left_at t }) r
unfolding global_name
name_read spelling written t r e = (left_at t, t, (refl, refl), rw e (refl, refl))

pub global_here : (name r : List ℕ) → begins is_name_byte r ≡ false → (given : Name) × global_name.Is (64 ∷ name_text name ++ r) given r × IsNameOf name given
global_here name r ends = (_, name_read (spelling_of name) (written_of name) (64 ∷ name_text name ++ r) r (global_token name r ends), (refl, refl))

-- ---- numbers

below_zero : (n m : ℕ) → n < m → pos n -ℤ pos m ≡ negsuc (m - suc n)
below_zero n m lt = omega (arith, ints)

lt_of : (n m : ℕ) → nat_lt n m ≡ true → n < m
lt_of n m e = grind (arith, e)

-- a number of a width that isn't one bit, by its sign and its digits
signed_text : (width n : ℕ) → is_negative width n ≡ true → holds_unsigned width n ≡ true → signed_decimal (signed width n) ≡ 45 ∷ decimal (2 ^ width - n)
signed_text width n e holds =
    let lt : n < 2 ^ width = lt_of n (2 ^ width) holds in
    let is : pos n -ℤ pos (2 ^ width) ≡ negsuc (2 ^ width - suc n) = below_zero n (2 ^ width) lt in
    let same : suc (2 ^ width - suc n) ≡ 2 ^ width - n = omega (arith, lt) in
    rw (e, is, same) refl

abbrev pub signed_form : Bool → ℕ → ℕ → List ℕ
signed_form true width n = 45 ∷ decimal (2 ^ width - n)
signed_form false width n = decimal n

holds_of : (a b c : Bool) → (a && b && c) ≡ true → c ≡ true
holds_of true true true e = refl
holds_of true true false e = absurd cc
holds_of true false c e = absurd cc
holds_of false b c e = absurd cc

pub wide_text : (inside sign : Bool) (width n : ℕ) → (nat_le 1 width && nat_le width 128 && holds_unsigned width n) ≡ inside → is_negative width n ≡ sign
    → (if nat_le 1 width && nat_le width 128 && holds_unsigned width n then signed_decimal (signed width n) else decimal n) ≡ signed_form (has_sign width n) width n
wide_text false sign width n e s = rw e refl
wide_text true false width n e s = rw (e, s) refl
wide_text true true width n e s =
    let holds = holds_of (nat_le 1 width) (nat_le width 128) (holds_unsigned width n) e in
    let text = signed_text width n s holds in
    rw (e, s) (rw s at text)

signed_token : (sign : Bool) (width n : ℕ) (r : List ℕ) → Ends r → token_at (signed_form sign width n ++ r) ≡ (number sign (decimal (if sign then 2 ^ width - n else n)), r)
unfolding token_at behind_blanks
signed_token true width n r ends = negative_token (decimal (2 ^ width - n)) r (decimal_some (2 ^ width - n)) (decimal_digits (2 ^ width - n)) ends.no_name ends.no_colon
signed_token false width n r ends = count_token n r ends

pub signed_here : (width n : ℕ) (r : List ℕ) → Ends r → (given : Number) × numeral.Is (signed_form (has_sign width n) width n ++ r) given r × (token_at (signed_form (has_sign width n) width n ++ r) ≡ (number given.is_negative given.digits, r)) × IsSignedTree width n given
signed_here width n r ends =
    let t = signed_form (has_sign width n) width n ++ r in
    let e = signed_token (has_sign width n) width n r ends in
    (_, number_here (has_sign width n) (decimal (if has_sign width n then 2 ^ width - n else n)) t r e, e, (refl, refl))
