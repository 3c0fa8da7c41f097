-- Printed names are read as names that say their bytes.
use Rattle.std.proofs.Common.{◌≡◌, ℕ, ◌/◌, ◌%◌, ◌<◌, Bool, true, false, cond, List, [], ◌∷◌, ◌++◌, Option, Some, length, refl, ◌∙◌, ap, arith, append_assoc}
use Rattle.std.specs.Prelude.{not, ◌&&◌, nat_lt, nat_eq, codes}
use Rattle.std.specs.List.{list_all, flat_map, prefix_len}
use Rattle.std.specs.Char.{is_ascii_digit}
use Rattle.std.proofs.Math.Seq.{take-append_seam, drop-append_seam}
use Rattle.std.proofs.lemmas.List.Folds.{list_all-append}
use Rattle.ir_text.specs.declared.token.Spelling.{Spelling}
use Rattle.ir_text.specs.declared.token.Spelling.TheVariants.{Bare, Numbered, Quoted}
use Rattle.ir_text.specs.declared.quoted.Escape.TheVariants.{Closed}
use Rattle.ir_text.specs.Token.{local, global, bytes, is_name_byte, is_no_quote, begins, front, back, name_at, Spelled, quoted, local_or_mark, global_or_mark, bytes_or_mark, token_here}
use Rattle.ir_text.specs.Quoted.{hexadecimal, escaped, before, unquoted_behind, unquoted, said}
use Rattle.ir_print_names.specs.Names.{is_bare, is_numeral, hexadecimal_digit, is_plain, quoted_byte, quoted_text, name_text}

-- ---- tests

pub both_true : (a b : Bool) → (a && b) ≡ true → (a ≡ true) × (b ≡ true)
both_true true true e = (refl, refl)
both_true true false e = absurd cc
both_true false b e = absurd cc

pub not_true : (a : Bool) → not a ≡ true → a ≡ false
not_true true e = absurd cc
not_true false e = refl

-- ---- runs of name

-- a run of name that pass a test ends where a byte doesn't
pub run_len : (test : ℕ → Bool) (xs rest : List ℕ) → list_all test xs ≡ true → begins test rest ≡ false → prefix_len test (xs ++ rest) ≡ length xs
run_len test [] [] all ends = refl
run_len test [] (y ∷ ys) all ends = rw ends refl
run_len test (x ∷ xs) rest all ends =
    let s = both_true (test x) (list_all test xs) all in
    let h = run_len test xs rest s.1 ends in
    rw s.0 (omega (arith, h))

pub run_front : (test : ℕ → Bool) (xs rest : List ℕ) → list_all test xs ≡ true → begins test rest ≡ false → front test (xs ++ rest) ≡ xs
run_front test xs rest all ends = rw (run_len test xs rest all ends) (take-append_seam xs rest)

pub run_back : (test : ℕ → Bool) (xs rest : List ℕ) → list_all test xs ≡ true → begins test rest ≡ false → back test (xs ++ rest) ≡ rest
run_back test xs rest all ends = rw (run_len test xs rest all ends) (drop-append_seam xs rest)

digit_in_name : (byte : ℕ) → is_name_byte byte ≡ false → is_ascii_digit byte ≡ false
digit_in_name byte e = grind arith

pub no_digit : (rest : List ℕ) → begins is_name_byte rest ≡ false → begins is_ascii_digit rest ≡ false
no_digit [] e = refl
no_digit (byte ∷ rest) e = digit_in_name byte e

digit_is_name : (byte : ℕ) → is_ascii_digit byte ≡ true → is_name_byte byte ≡ true
digit_is_name byte e = grind arith

pub digits_are_names : (ds : List ℕ) → list_all is_ascii_digit ds ≡ true → list_all is_name_byte ds ≡ true
digits_are_names [] all = refl
digits_are_names (d ∷ ds) all = let s = both_true (is_ascii_digit d) (list_all is_ascii_digit ds) all in rw (digit_is_name d s.0, digits_are_names ds s.1) refl

-- ---- quoted name

digit_back : (value : ℕ) → value < 16 → hexadecimal (hexadecimal_digit value) ≡ Some value
digit_back value lt = grind arith

digit_is_no_backslash : (value : ℕ) → value < 16 → nat_eq (hexadecimal_digit value) 92 ≡ false
digit_is_no_backslash value lt = grind arith

digit_is_no_quote : (value : ℕ) → value < 16 → is_no_quote (hexadecimal_digit value) ≡ true
digit_is_no_quote value lt = grind arith

escape_back : (byte : ℕ) → byte < 256 → escaped (hexadecimal_digit (byte / 16)) (hexadecimal_digit (byte % 16)) ≡ Some byte
escape_back byte lt = rw (digit_back (byte / 16) (omega arith), digit_back (byte % 16) (omega arith)) (ap (λ (n : ℕ). Some n) (omega arith))

plain_is_no_backslash : (byte : ℕ) → is_plain byte ≡ true → nat_eq byte 92 ≡ false
plain_is_no_backslash byte e = grind arith

plain_is_no_quote : (byte : ℕ) → is_plain byte ≡ true → is_no_quote byte ≡ true
plain_is_no_quote byte e = grind arith

byte_back_by : (plain : Bool) (byte : ℕ) (rest : List ℕ) → is_plain byte ≡ plain → byte < 256 → unquoted_behind Closed (quoted_byte byte ++ rest) ≡ before (Some byte) (unquoted_behind Closed rest)
unfolding unquoted_behind
byte_back_by true byte rest e lt = rw (e, plain_is_no_backslash byte e) refl
byte_back_by false byte rest e lt = rw (e, digit_is_no_backslash (byte / 16) (omega arith), escape_back byte lt) refl

pub bytes_back : (name : List ℕ) → list_all (λ byte. nat_lt byte 256) name ≡ true → unquoted (flat_map quoted_byte name) ≡ Some name
unfolding unquoted_behind
bytes_back [] all = refl
bytes_back (byte ∷ name) all =
    let s = both_true (nat_lt byte 256) (list_all (λ byte. nat_lt byte 256) name) all in
    byte_back_by (is_plain byte) byte (flat_map quoted_byte name) refl (grind (arith, s.0)) ∙ rw (bytes_back name s.1) refl

byte_has_no_quote_by : (plain : Bool) (byte : ℕ) → is_plain byte ≡ plain → byte < 256 → list_all is_no_quote (quoted_byte byte) ≡ true
byte_has_no_quote_by true byte e lt = rw (e, plain_is_no_quote byte e) refl
byte_has_no_quote_by false byte e lt = rw (e, digit_is_no_quote (byte / 16) (omega arith), digit_is_no_quote (byte % 16) (omega arith)) refl

no_quote : (name : List ℕ) → list_all (λ byte. nat_lt byte 256) name ≡ true → list_all is_no_quote (flat_map quoted_byte name) ≡ true
no_quote [] all = refl
no_quote (byte ∷ name) all =
    let s = both_true (nat_lt byte 256) (list_all (λ byte. nat_lt byte 256) name) all in
    list_all-append is_no_quote (quoted_byte byte) (flat_map quoted_byte name) ∙ rw (byte_has_no_quote_by (is_plain byte) byte refl (grind (arith, s.0)), no_quote name s.1) refl

pub quoted_back : (inner rest : List ℕ) → list_all is_no_quote inner ≡ true → quoted (inner ++ 34 ∷ rest) ≡ Some (Quoted, inner, rest)
quoted_back inner rest all = rw (run_front is_no_quote inner (34 ∷ rest) all refl, run_back is_no_quote inner (34 ∷ rest) all refl) refl

-- ---- names

-- a name that is read, and says these name
abbrev pub ReadsAs : List ℕ → List ℕ → List ℕ → Type 0
ReadsAs text name rest = (spelling : Spelling) × (written : List ℕ) × (name_at (text ++ rest) ≡ Some (spelling, written, rest)) × (said spelling written ≡ Some name)

abbrev spell : Spelling → List ℕ → List ℕ → Option Spelled
spell spelling written rest = Some (spelling, written, rest)

same_spelled : (spelling : Spelling) (f b written rest : List ℕ) → f ≡ written → b ≡ rest → spell spelling f b ≡ spell spelling written rest
same_spelled spelling f b written rest p q = ap (λ (x : List ℕ). spell spelling x b) p ∙ ap (λ (x : List ℕ). spell spelling written x) q

pick_first : (a : Bool) (x y : Option Spelled) → a ≡ true → cond a x y ≡ x
pick_first a x y p = rw p refl

pick_second : (a b : Bool) (x y z : Option Spelled) → a ≡ false → b ≡ true → cond a x (cond b y z) ≡ y
pick_second a b x y z p q = rw (p, q) refl

bare_back : (name rest : List ℕ) → is_bare name ≡ true → begins is_name_byte rest ≡ false → ReadsAs name name rest
bare_back [] rest bare ends = absurd cc
bare_back (byte ∷ name) rest bare ends =
    let s = both_true (not (is_ascii_digit byte)) (list_all is_name_byte (byte ∷ name)) bare in
    let first = both_true (is_name_byte byte) (list_all is_name_byte name) s.1 in
    let same = same_spelled Bare _ _ (byte ∷ name) rest (run_front is_name_byte (byte ∷ name) rest s.1 ends) (run_back is_name_byte (byte ∷ name) rest s.1 ends) in
    (Bare, byte ∷ name, pick_second (is_ascii_digit byte) (is_name_byte byte) _ _ _ (not_true _ s.0) first.0 ∙ same, refl)

numeral_back : (name rest : List ℕ) → is_numeral name ≡ true → begins is_name_byte rest ≡ false → ReadsAs name name rest
numeral_back [] rest numeral ends = absurd cc
numeral_back (byte ∷ name) rest numeral ends =
    let first = both_true (is_ascii_digit byte) (list_all is_ascii_digit name) numeral in
    let same = same_spelled Numbered _ _ (byte ∷ name) rest (run_front is_ascii_digit (byte ∷ name) rest numeral (no_digit rest ends)) (run_back is_ascii_digit (byte ∷ name) rest numeral (no_digit rest ends)) in
    (Numbered, byte ∷ name, pick_first (is_ascii_digit byte) _ _ first.0 ∙ same, refl)

quotes_back : (name rest : List ℕ) → list_all (λ byte. nat_lt byte 256) name ≡ true → ReadsAs (quoted_text name) name rest
quotes_back name rest all =
    let inner = flat_map quoted_byte name in
    (Quoted, inner, ap (λ (t : List ℕ). quoted t) (append_assoc inner (codes "\"") rest) ∙ quoted_back inner rest (no_quote name all), bytes_back name all)

names_back_by : (bare numeral : Bool) (name rest : List ℕ) → is_bare name ≡ bare → is_numeral name ≡ numeral → list_all (λ byte. nat_lt byte 256) name ≡ true → begins is_name_byte rest ≡ false → ReadsAs (name_text name) name rest
names_back_by true numeral name rest b n all ends = rw b (bare_back name rest b ends)
names_back_by false true name rest b n all ends = rw (b, n) (numeral_back name rest n ends)
names_back_by false false name rest b n all ends = rw (b, n) (quotes_back name rest all)

pub names_back : (name rest : List ℕ) → list_all (λ byte. nat_lt byte 256) name ≡ true → begins is_name_byte rest ≡ false → ReadsAs (name_text name) name rest
names_back name rest all ends = names_back_by (is_bare name) (is_numeral name) name rest refl refl all ends

-- ---- tokens

global_token : (text : List ℕ) (spelled : Spelled) → name_at text ≡ Some spelled → token_here (64 ∷ text) ≡ (global spelled.0 spelled.1, spelled.2)
global_token text spelled e = ap (λ (o : Option Spelled). global_or_mark o 64 text) e

local_token : (text : List ℕ) (spelled : Spelled) → name_at text ≡ Some spelled → token_here (37 ∷ text) ≡ (local spelled.0 spelled.1, spelled.2)
local_token text spelled e = ap (λ (o : Option Spelled). local_or_mark o 37 text) e

pub globals_back : (name rest : List ℕ) → list_all (λ byte. nat_lt byte 256) name ≡ true → begins is_name_byte rest ≡ false
    → (spelling : Spelling) × (written : List ℕ) × (token_here (codes "@" ++ name_text name ++ rest) ≡ (global spelling written, rest)) × (said spelling written ≡ Some name)
globals_back name rest all ends =
    let r = names_back name rest all ends in
    (r.0, r.1, global_token (name_text name ++ rest) (r.0, r.1, rest) r.2, r.3)

bytes_token : (text : List ℕ) (spelled : Spelled) → quoted text ≡ Some spelled → token_here (99 ∷ 34 ∷ text) ≡ (bytes spelled.1, spelled.2)
bytes_token text spelled e = ap (λ (o : Option Spelled). bytes_or_mark o (34 ∷ text)) e

pub texts_back : (text rest : List ℕ) → list_all (λ byte. nat_lt byte 256) text ≡ true
    → (inner : List ℕ) × (token_here (codes "c" ++ quoted_text text ++ rest) ≡ (bytes inner, rest)) × (unquoted inner ≡ Some text)
texts_back text rest all =
    let inner = flat_map quoted_byte text in
    let e : quoted ((inner ++ 34 ∷ []) ++ rest) ≡ Some (Quoted, inner, rest) = ap (λ (t : List ℕ). quoted t) (append_assoc inner (34 ∷ []) rest) ∙ quoted_back inner rest (no_quote text all) in
    (inner, bytes_token ((inner ++ 34 ∷ []) ++ rest) (Quoted, inner, rest) e, bytes_back text all)

-- a value's name is a bare part
pub values_back : (digits rest : List ℕ) → list_all is_ascii_digit digits ≡ true → begins is_name_byte rest ≡ false → token_here (codes "%v" ++ digits ++ rest) ≡ (local Bare (codes "v" ++ digits), rest)
values_back digits rest all ends =
    let names : list_all is_name_byte (118 ∷ digits) ≡ true = digits_are_names digits all in
    let same = same_spelled Bare _ _ (118 ∷ digits) rest (run_front is_name_byte (118 ∷ digits) rest names ends) (run_back is_name_byte (118 ∷ digits) rest names ends) in
    local_token (118 ∷ digits ++ rest) (Bare, 118 ∷ digits, rest) same
