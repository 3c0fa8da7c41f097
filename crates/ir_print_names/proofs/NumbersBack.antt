-- Printed numbers are read as digits that say them.
use Rattle.std.proofs.Common.{◌≡◌, ℕ, suc, ◌-◌, ◌^◌, ◌<◌, ◌≤◌, Bool, true, false, cond, List, [], ◌∷◌, ◌++◌, length, pos, negsuc, ◌-ℤ◌, refl, ◌∙◌, ap, arith}
use Rattle.std.proofs.lemmas.Int.{ints}
use Rattle.std.specs.Prelude.{nat_lt, nat_le, nat_eq, codes, decimal}
use Rattle.std.specs.List.{list_all}
use Rattle.std.specs.Char.{is_ascii_digit}
use Rattle.std.specs.Fmt.{signed_decimal}
use Rattle.std.specs.Str.Parse.{AllDigits}
use Rattle.std.proofs.Math.Pow.{pow_mono}
use Rattle.std.proofs.lemmas.Fmt.{decimal_is_IsNumeral_wide}
use Rattle.std.proofs.lemmas.Str.Parse.{digit_at}
use Rattle.rj_num.specs.Width.{is_negative, signed}
use Rattle.ir_text.specs.declared.token.Spelling.TheVariants.{Bare}
use Rattle.ir_text.specs.Token.{Token, local, number, Spelled, is_name_byte, begins, begins_with, back, labelled, digit_run, bare_run, number_token, token_here}
use Rattle.ir_print_names.specs.Numbers.{number_text}
use Rattle.ir_print_names.specs.Laws.{literal_value}
use Rattle.ir_print_names.proofs.NamesBack.{both_true, run_front, run_back, no_digit, digits_are_names, values_back}

one_digit : (d : ℕ) (ds : List ℕ) → AllDigits 10 (d ∷ ds) → is_ascii_digit d ≡ true
one_digit d ds all = let h = digit_at (d ∷ ds) 0 all (omega arith) in grind (arith, h)

pub are_digits : (ds : List ℕ) → AllDigits 10 ds → list_all is_ascii_digit ds ≡ true
are_digits [] all = refl
are_digits (d ∷ ds) all = rw (one_digit d ds all, are_digits ds all.1) refl

digit_is : (d : ℕ) → is_ascii_digit d ≡ true → (nat_eq d 37 ≡ false) × (nat_eq d 64 ≡ false) × (nat_eq d 34 ≡ false)
digit_is d e = (grind arith, grind arith, grind arith)

abbrev Lexed : Type 0
Lexed = Token × List ℕ

pick_first : (a : Bool) (x y : Lexed) → a ≡ true → cond a x y ≡ x
pick_first a x y p = rw p refl

pick_fourth : (a b c d : Bool) (w x y z v : Lexed) → a ≡ false → b ≡ false → c ≡ false → d ≡ true → cond a w (cond b x (cond c y (cond d z v))) ≡ z
pick_fourth a b c d w x y z v p q r s = rw (p, q, r, s) refl

no_label : (s : Spelled) (other : Lexed) → begins_with 58 s.2 ≡ false → labelled s other ≡ other
no_label s other e = rw e refl

abbrev lexed : Bool → List ℕ → List ℕ → Lexed
lexed negative digits rest = (number negative digits, rest)

same_number : (negative : Bool) (f b digits rest : List ℕ) → f ≡ digits → b ≡ rest → lexed negative f b ≡ lexed negative digits rest
same_number negative f b digits rest p q = ap (λ (x : List ℕ). lexed negative x b) p ∙ ap (λ (x : List ℕ). lexed negative digits x) q

pub digits_token : (ds rest : List ℕ) → 0 < length ds → list_all is_ascii_digit ds ≡ true → begins is_name_byte rest ≡ false → begins_with 58 rest ≡ false → token_here (ds ++ rest) ≡ (number false ds, rest)
digits_token [] rest some all ends colon = absurd (omega arith)
digits_token (d ∷ ds) rest some all ends colon =
    let first = both_true (is_ascii_digit d) (list_all is_ascii_digit ds) all in
    let other = digit_is d first.0 in
    let f = run_front is_ascii_digit (d ∷ ds) rest all (no_digit rest ends) in
    let b = run_back is_ascii_digit (d ∷ ds) rest all (no_digit rest ends) in
    let label : begins_with 58 (back is_ascii_digit (d ∷ ds ++ rest)) ≡ false = ap (λ (t : List ℕ). begins_with 58 t) b ∙ colon in
    pick_fourth (nat_eq d 37) (nat_eq d 64) (nat_eq d 34) (is_ascii_digit d) _ _ _ _ _ other.0 other.1 other.2 first.0
    ∙ no_label (digit_run (d ∷ ds ++ rest)) (number_token false (d ∷ ds ++ rest)) label ∙ same_number false _ _ (d ∷ ds) rest f b

pub negative_token : (ds rest : List ℕ) → 0 < length ds → list_all is_ascii_digit ds ≡ true → begins is_name_byte rest ≡ false → begins_with 58 rest ≡ false → token_here (45 ∷ ds ++ rest) ≡ (number true ds, rest)
negative_token [] rest some all ends colon = absurd (omega arith)
negative_token (d ∷ ds) rest some all ends colon =
    let first = both_true (is_ascii_digit d) (list_all is_ascii_digit ds) all in
    let names : list_all is_name_byte (45 ∷ d ∷ ds) ≡ true = digits_are_names (d ∷ ds) all in
    let f = run_front is_ascii_digit (d ∷ ds) rest all (no_digit rest ends) in
    let b = run_back is_ascii_digit (d ∷ ds) rest all (no_digit rest ends) in
    let label : begins_with 58 (back is_name_byte (45 ∷ d ∷ ds ++ rest)) ≡ false = ap (λ (t : List ℕ). begins_with 58 t) (run_back is_name_byte (45 ∷ d ∷ ds) rest names ends) ∙ colon in
    pick_first (is_ascii_digit d) _ _ first.0
    ∙ no_label (bare_run (45 ∷ d ∷ ds ++ rest)) (number_token true (d ∷ ds ++ rest)) label ∙ same_number true _ _ (d ∷ ds) rest f b

below_zero : (n m : ℕ) → n < m → pos n -ℤ pos m ≡ negsuc (m - suc n)
below_zero n m lt = omega (arith, ints)

pub value_names_back : (value : ℕ) (rest : List ℕ) → value < 2 ^ 64 → begins is_name_byte rest ≡ false → token_here (codes "%v" ++ decimal value ++ rest) ≡ (local Bare (codes "v" ++ decimal value), rest)
value_names_back value rest lt ends =
    let d = decimal_is_IsNumeral_wide value (omega (arith, lt)) in
    values_back (decimal value) rest (are_digits (decimal value) d.0.1) ends

within : (width n : ℕ) → width ≤ 128 → n ≤ 2 ^ width → n < 10 ^ 64
within width n le lt = let m = pow_mono {i = width} {j = 128} le in omega (arith, m, lt)

wide : (width n : ℕ) → 2 ≤ width → width ≤ 128 → n < 2 ^ width → number_text width n ≡ signed_decimal (signed width n)
wide width n least most lt =
    let apart : nat_eq width 1 ≡ false = grind (arith, least) in
    let low : nat_le 1 width ≡ true = grind (arith, least) in
    let high : nat_le width 128 ≡ true = grind (arith, most) in
    let holds : nat_lt n (2 ^ width) ≡ true = grind (arith, lt) in
    rw (apart, low, high, holds) refl

-- what is read of a number of a width
abbrev pub NumberIsRead : ℕ → ℕ → List ℕ → List ℕ → Type 0
NumberIsRead width n text rest = (negative : Bool) × (digits : List ℕ) × (token_here (text ++ rest) ≡ (number negative digits, rest)) × (literal_value width negative digits ≡ n)

signed_back : (sign : Bool) (width n : ℕ) (rest : List ℕ) → is_negative width n ≡ sign → width ≤ 128 → n < 2 ^ width → begins is_name_byte rest ≡ false → begins_with 58 rest ≡ false → NumberIsRead width n (signed_decimal (signed width n)) rest
signed_back false width n rest e most lt ends colon =
    let d = decimal_is_IsNumeral_wide n (within width n most (omega (arith, lt))) in
    rw e (false, decimal n, digits_token (decimal n) rest d.0.0 (are_digits (decimal n) d.0.1) ends colon, d.1)
signed_back true width n rest e most lt ends colon =
    let m = 2 ^ width - n in
    let d = decimal_is_IsNumeral_wide m (within width m most (omega (arith, lt))) in
    let is : pos n -ℤ pos (2 ^ width) ≡ negsuc (2 ^ width - suc n) = below_zero n (2 ^ width) lt in
    let same : suc (2 ^ width - suc n) ≡ m = omega (arith, lt) in
    rw (e, is, same) (true, decimal m, negative_token (decimal m) rest d.0.0 (are_digits (decimal m) d.0.1) ends colon, rw d.1 (omega (arith, lt)))

pub numbers_back : (width n : ℕ) (rest : List ℕ) → 2 ≤ width → width ≤ 128 → n < 2 ^ width → begins is_name_byte rest ≡ false → begins_with 58 rest ≡ false → NumberIsRead width n (number_text width n) rest
numbers_back width n rest least most lt ends colon = rw (wide width n least most lt) (signed_back (is_negative width n) width n rest refl most lt ends colon)
