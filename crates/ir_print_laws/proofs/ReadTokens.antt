-- The tokens of bytes are made of bytes.
use Rattle.std.proofs.Common.{◌≡◌, ℕ, zero, suc, Bool, true, false, List, [], ◌∷◌, take, drop, Option, Some, None, refl}
use Rattle.std.specs.Prelude.{nat_lt, nat_eq, not, ◌&&◌, ◌||◌, if◌then◌else◌}
use Rattle.std.specs.List.{prefix_len, list_all}
use Rattle.std.specs.Char.{is_ascii_digit}
use Rattle.ir_text.specs.Token.{Token, word, local, global, label, number, string, bytes, mark, end, is_blank, behind_blanks, is_letter, is_name_byte, is_no_quote, front, back, begins, begins_with, behind_one, Spelled, closed_quote, quoted, name_at, local_or_mark, global_or_mark, labelled, string_or_label, bytes_or_mark, bare_run, digit_run, number_token, word_token, two_dots, dots, token_here, token_at}

-- each is below 256
abbrev pub Bytes : List ℕ → Type 0
Bytes [] = Unit {0}
Bytes (byte ∷ more) = (nat_lt byte 256 ≡ true) × Bytes more

abbrev pub is_byte : ℕ → Bool
is_byte byte = nat_lt byte 256

and_both : (a b : Bool) → a ≡ true → b ≡ true → (a && b) ≡ true
and_both true b p q = q
and_both false b p q = p

and_parts : (a b : Bool) → (a && b) ≡ true → (a ≡ true) × (b ≡ true)
and_parts true b e = (refl, e)
and_parts false b e = absurd cc

pub all_bytes : (xs : List ℕ) → Bytes xs → list_all is_byte xs ≡ true
all_bytes [] all = refl
all_bytes (x ∷ xs) all = and_both (nat_lt x 256) (list_all is_byte xs) all.0 (all_bytes xs all.1)

pub bytes_all : (xs : List ℕ) → list_all is_byte xs ≡ true → Bytes xs
bytes_all [] e = tt
bytes_all (x ∷ xs) e = let p = and_parts (nat_lt x 256) (list_all is_byte xs) e in (p.0, bytes_all xs p.1)

pub take_bytes : (n : ℕ) (xs : List ℕ) → Bytes xs → Bytes (take n xs)
take_bytes zero xs all = tt
take_bytes (suc n) [] all = tt
take_bytes (suc n) (x ∷ xs) all = (all.0, take_bytes n xs all.1)

pub drop_bytes : (n : ℕ) (xs : List ℕ) → Bytes xs → Bytes (drop n xs)
drop_bytes zero xs all = all
drop_bytes (suc n) [] all = tt
drop_bytes (suc n) (x ∷ xs) all = drop_bytes n xs all.1

one_bytes : (xs : List ℕ) → Bytes xs → Bytes (behind_one xs)
one_bytes [] all = tt
one_bytes (x ∷ xs) all = all.1

pub either : {A : Type 0} (P : A → Type 0) (b : Bool) (x y : A) → P x → P y → P (if b then x else y)
either P true x y p q = p
either P false x y p q = q

pub blanks_bytes : (commented : Bool) (text : List ℕ) → Bytes text → Bytes (behind_blanks commented text)
unfolding behind_blanks
blanks_bytes true [] all = tt
blanks_bytes false [] all = tt
blanks_bytes true (byte ∷ text) all = blanks_bytes (not (nat_eq byte 10)) text all.1
blanks_bytes false (byte ∷ text) all =
    either Bytes (is_blank byte) (behind_blanks false text) (if nat_eq byte 59 then behind_blanks true text else byte ∷ text) (blanks_bytes false text all.1)
    (either Bytes (nat_eq byte 59) (behind_blanks true text) (byte ∷ text) (blanks_bytes true text all.1) all)

-- what a token says
abbrev pub TokenBytes : Token → Type 0
TokenBytes (word name) = Bytes name
TokenBytes (local spelling name) = Bytes name
TokenBytes (global spelling name) = Bytes name
TokenBytes (label spelling name) = Bytes name
TokenBytes (number negative digits) = Bytes digits
TokenBytes (string inner) = Bytes inner
TokenBytes (bytes inner) = Bytes inner
TokenBytes (mark byte) = Unit {0}
TokenBytes end = Unit {0}

-- a token, and what comes behind it
abbrev pub Taken : Token × List ℕ → Type 0
Taken read = TokenBytes read.0 × Bytes read.1

abbrev Spelt : Spelled → Type 0
Spelt spelled = Bytes spelled.1 × Bytes spelled.2

abbrev MaySpell : Option Spelled → Type 0
MaySpell None = Unit {0}
MaySpell (Some spelled) = Spelt spelled

front_bytes : (test : ℕ → Bool) (text : List ℕ) → Bytes text → Bytes (front test text)
front_bytes test text all = take_bytes (prefix_len test text) text all

pub back_bytes : (test : ℕ → Bool) (text : List ℕ) → Bytes text → Bytes (back test text)
back_bytes test text all = drop_bytes (prefix_len test text) text all

closed_bytes : (inner rest : List ℕ) → Bytes inner → Bytes rest → MaySpell (closed_quote inner rest)
closed_bytes inner [] a b = tt
closed_bytes inner (quote ∷ rest) a b = (a, b.1)

quoted_bytes : (text : List ℕ) → Bytes text → MaySpell (quoted text)
quoted_bytes text all = closed_bytes (front is_no_quote text) (back is_no_quote text) (front_bytes is_no_quote text all) (back_bytes is_no_quote text all)

run_bytes : (test : ℕ → Bool) (text : List ℕ) → Bytes text → Bytes (front test text) × Bytes (back test text)
run_bytes test text all = (front_bytes test text all, back_bytes test text all)

name_bytes : (text : List ℕ) → Bytes text → MaySpell (name_at text)
name_bytes [] all = tt
name_bytes (byte ∷ text) all =
    either MaySpell (is_ascii_digit byte) _ _ (run_bytes is_ascii_digit (byte ∷ text) all)
    (either MaySpell (is_name_byte byte) _ _ (run_bytes is_name_byte (byte ∷ text) all)
    (either MaySpell (nat_eq byte 34) _ _ (quoted_bytes text all.1) tt))

local_bytes : (o : Option Spelled) (byte : ℕ) (text : List ℕ) → MaySpell o → Bytes text → Taken (local_or_mark o byte text)
local_bytes None byte text a b = (tt, b)
local_bytes (Some spelled) byte text a b = a

global_bytes : (o : Option Spelled) (byte : ℕ) (text : List ℕ) → MaySpell o → Bytes text → Taken (global_or_mark o byte text)
global_bytes None byte text a b = (tt, b)
global_bytes (Some spelled) byte text a b = a

label_bytes : (spelled : Spelled) (other : Token × List ℕ) → Spelt spelled → Taken other → Taken (labelled spelled other)
label_bytes spelled other a b = either Taken (begins_with 58 spelled.2) (label spelled.0 spelled.1, behind_one spelled.2) other (a.0, one_bytes spelled.2 a.1) b

string_bytes : (o : Option Spelled) (text : List ℕ) → MaySpell o → Bytes text → Taken (string_or_label o text)
string_bytes None text a b = (tt, b)
string_bytes (Some spelled) text a b = label_bytes spelled (string spelled.1, spelled.2) a a

text_bytes : (o : Option Spelled) (text : List ℕ) → MaySpell o → Bytes text → Taken (bytes_or_mark o text)
text_bytes None text a b = (tt, b)
text_bytes (Some spelled) text a b = a

here_bytes : (text : List ℕ) → Bytes text → Taken (token_here text)
here_bytes [] all = (tt, tt)
here_bytes (byte ∷ text) all =
    let bare = run_bytes is_name_byte (byte ∷ text) all in
    let digits = run_bytes is_ascii_digit (byte ∷ text) all in
    let plain : Taken (mark byte, text) = (tt, all.1) in
    either Taken (nat_eq byte 37) _ _ (local_bytes (name_at text) 37 text (name_bytes text all.1) all.1)
    (either Taken (nat_eq byte 64) _ _ (global_bytes (name_at text) 64 text (name_bytes text all.1) all.1)
    (either Taken (nat_eq byte 34) _ _ (string_bytes (quoted text) text (quoted_bytes text all.1) all.1)
    (either Taken (is_ascii_digit byte) _ _ (label_bytes (digit_run (byte ∷ text)) (number_token false (byte ∷ text)) digits digits)
    (either Taken (nat_eq byte 45 && begins is_ascii_digit text) _ _ (label_bytes (bare_run (byte ∷ text)) (number_token true text) bare (run_bytes is_ascii_digit text all.1))
    (either Taken (nat_eq byte 99 && begins_with 34 text) _ _ (text_bytes (quoted (behind_one text)) text (quoted_bytes (behind_one text) (one_bytes text all.1)) all.1)
    (either Taken (nat_eq byte 46 && two_dots text) _ _ (label_bytes (bare_run (byte ∷ text)) (word dots, behind_one (behind_one text)) bare ((refl, (refl, (refl, tt))), one_bytes (behind_one text) (one_bytes text all.1)))
    (either Taken (is_letter byte) _ _ (label_bytes (bare_run (byte ∷ text)) (word_token (byte ∷ text)) bare bare)
    (either Taken (is_name_byte byte) _ _ (label_bytes (bare_run (byte ∷ text)) (mark byte, text) bare plain) plain))))))))

pub token_bytes : (text : List ℕ) → Bytes text → Taken (token_at text)
unfolding token_at
token_bytes text all = here_bytes (behind_blanks false text) (blanks_bytes false text all)
