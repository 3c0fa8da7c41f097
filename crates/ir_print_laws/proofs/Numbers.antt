-- Numbers and names in a list of calls are read as what they were.
use Rattle.std.proofs.Common.{◌≡◌, ℕ, zero, suc, ◌+◌, ◌-◌, ◌*◌, ◌^◌, ◌<◌, Bool, true, false, List, [], ◌∷◌, ◌++◌, Some, refl, sym, ◌∙◌, ap, arith}
use Rattle.std.specs.Prelude.{decimal, codes}
use Rattle.std.specs.List.{list_all, AllPass}
use Rattle.std.specs.Char.{is_ascii_digit, digit_value}
use Rattle.std.specs.Str.Parse.{digits_value_after}
use Rattle.std.proofs.lemmas.Fmt.{decimal_is_IsNumeral_wide}
use Rattle.ir_text.specs.declared.token.Spelling.TheVariants.{Bare}
use Rattle.ir_text.specs.Token.{Token, global, is_name_byte, begins as begins_by, token_at, behind_blanks}
use Rattle.ir_types.specs.Numbers.{digits_onto}
use Rattle.ir_types.specs.Numbers as numbers
use Rattle.ir_print_names.proofs.NamesBack.{both_true, run_front, run_back, digits_are_names}
use Rattle.ir_print_laws.proofs.Tokens.{Begun, decimal_digits, decimal_begun}
use Rattle.jit_calls.specs.Form.{Stops, run}
use Rattle.jit_calls.specs.Numbers.{some_digits, if_some}
use Rattle.jit_calls.proofs.Exact.{exact-run}
use Rattle.ir_print_laws.specs.Modules.{name_of}

-- ---- digits say their number

digit_says : (d : ℕ) → is_ascii_digit d ≡ true → digit_value d ≡ d - 48
digit_says d e = grind (arith, e)

onto_says : (n : ℕ) (ds : List ℕ) → list_all is_ascii_digit ds ≡ true → digits_onto n ds ≡ digits_value_after 10 n ds
unfolding digits_onto
onto_says n [] all = refl
onto_says n (d ∷ ds) all =
    let s = both_true (is_ascii_digit d) (list_all is_ascii_digit ds) all in
    onto_says (n * 10 + (d - 48)) ds s.1 ∙ ap (λ (x : ℕ). digits_value_after 10 (n * 10 + x) ds) (sym (digit_says d s.0))

pub decimal_says : (n : ℕ) → n < 10 ^ 64 → numbers.decimal (decimal n) ≡ n
decimal_says n lt = onto_says 0 (decimal n) (decimal_digits n) ∙ (decimal_is_IsNumeral_wide n lt).1

-- ---- runs of digits

all_pass : (test : ℕ → Bool) (xs : List ℕ) → list_all test xs ≡ true → AllPass test xs
all_pass test [] all k d lt = absurd (omega (arith, lt))
all_pass test (x ∷ xs) all zero d lt = (both_true (test x) (list_all test xs) all).0
all_pass test (x ∷ xs) all (suc k) d lt = all_pass test xs (both_true (test x) (list_all test xs) all).1 k d (omega (arith, lt))

begun_some : (xs : List ℕ) → Begun xs → if_some xs ≡ Some xs
begun_some [] b = let e = b.is in absurd cc
begun_some (x ∷ xs) b = refl

run_read : (n : ℕ) (rest : List ℕ) → Stops is_ascii_digit rest → (run is_ascii_digit).read (decimal n ++ rest) ≡ Some (decimal n, rest)
unfolding run
run_read n rest stops = (exact-run is_ascii_digit).complete (decimal n ++ rest) (decimal n) rest (refl, all_pass is_ascii_digit (decimal n) (decimal_digits n), stops)

-- digits of a number are read as these digits
pub digits_read : (n : ℕ) (rest : List ℕ) → Stops is_ascii_digit rest → some_digits.read (decimal n ++ rest) ≡ Some (decimal n, rest)
unfolding some_digits
digits_read n rest stops = rw (run_read n rest stops) (rw (begun_some (decimal n) (decimal_begun n)) refl)

-- ---- names

abbrev as_global : List ℕ → List ℕ → Token × List ℕ
as_global name rest = (global Bare name, rest)

same_global : (f b name rest : List ℕ) → f ≡ name → b ≡ rest → as_global f b ≡ as_global name rest
same_global f b name rest p q = ap (λ (x : List ℕ). as_global x b) p ∙ ap (λ (x : List ℕ). as_global name x) q

pub name_token : (j : ℕ) (rest : List ℕ) → begins_by is_name_byte rest ≡ false → token_at (codes "@" ++ (name_of j ++ rest)) ≡ (global Bare (name_of j), rest)
unfolding token_at behind_blanks
name_token j rest ends =
    let names : list_all is_name_byte (name_of j) ≡ true = digits_are_names (decimal j) (decimal_digits j) in
    same_global _ _ (name_of j) rest (run_front is_name_byte (name_of j) rest names ends) (run_back is_name_byte (name_of j) rest names ends)
