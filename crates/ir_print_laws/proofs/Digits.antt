-- Printed digits say their numbers.
use Rattle.std.proofs.Common.{◌≡◌, ℕ, zero, suc, ◌+◌, ◌-◌, ◌*◌, ◌%◌, ◌^◌, ◌<◌, ◌≤◌, Bool, true, false, List, [], ◌∷◌, Some, refl, sym, ◌∙◌, ap, arith, mod-eq_of_lt}
use native.Mathlib.Numerals.{unary_clauses}
use Rattle.std.specs.Prelude.{not, ◌&&◌, nat_lt, nat_le, decimal, if◌then◌else◌}
use Rattle.std.specs.List.{list_all}
use Rattle.std.specs.Char.{is_ascii_digit, digit_value}
use Rattle.std.specs.Str.Parse.{digits_value_after}
use Rattle.std.proofs.lemmas.Fmt.{decimal_is_IsNumeral_wide}
use Rattle.std.proofs.Math.Pow.{pow_mono}
use Rattle.rj_num.specs.Width.{is_negative}
use Rattle.ir_core.specs.declared.types.TheConstants.{MAX_WIDTH}
use Rattle.ir_text.specs.declared.name.Number.{Number}
use Rattle.std.specs.Prelude.{Ok}
use Rattle.ir_types.specs.Numbers.{digits_onto, natural, small, negative, signed, literal}
use Rattle.ir_types.specs.Numbers as numbers
use Rattle.ir_resolve.specs.Literals.{literal_of}
use Rattle.ir_print_laws.specs.FormTrees.{has_sign, IsCount, IsSignedTree}
use Rattle.ir_print_laws.proofs.Tokens.{decimal_digits}
use Rattle.ir_print_names.proofs.NamesBack.{both_true}

digit_says : (d : ℕ) → is_ascii_digit d ≡ true → digit_value d ≡ d - 48
digit_says d e = grind (arith, e)

onto_says : (n : ℕ) (ds : List ℕ) → list_all is_ascii_digit ds ≡ true → digits_onto n ds ≡ digits_value_after 10 n ds
unfolding digits_onto
onto_says n [] all = refl
onto_says n (d ∷ ds) all =
    let s = both_true (is_ascii_digit d) (list_all is_ascii_digit ds) all in
    onto_says (n * 10 + (d - 48)) ds s.1 ∙ ap (λ (x : ℕ). digits_value_after 10 (n * 10 + x) ds) (sym (digit_says d s.0))

-- the number that printed digits stand for
pub decimal_says : (n : ℕ) → n < 10 ^ 64 → numbers.decimal (decimal n) ≡ n
decimal_says n lt = onto_says 0 (decimal n) (decimal_digits n) ∙ (decimal_is_IsNumeral_wide n lt).1

pub natural_says : (n : ℕ) → n < 2 ^ 128 → natural (decimal n) ≡ Some n
natural_says n lt =
    let e = decimal_says n (omega (arith, lt)) in
    let b : nat_lt n (2 ^ 128) ≡ true = grind (arith, lt) in
    rw (e, b) refl

-- two numbers with the same digits are the same
pub same_digits : (n m : ℕ) → n < 10 ^ 64 → m < 10 ^ 64 → decimal n ≡ decimal m → n ≡ m
same_digits n m p q e = sym (decimal_says n p) ∙ ap numbers.decimal e ∙ decimal_says m q

pub count_says : (n : ℕ) (given : Number) → n < 2 ^ 128 → IsCount n given → natural given.digits ≡ Some n
count_says n given lt is = ap natural is.1 ∙ natural_says n lt

below : (w n : ℕ) → w ≤ 64 → n ≤ 2 ^ w → n < 2 ^ 128
below w n le lt = let m = pow_mono {i = w} {j = 64} le in omega (arith, m, lt)

double_of : (k : ℕ) → 2 ^ suc k ≡ 2 * 2 ^ k
double_of k = simp unary_clauses (omega arith)

less_one : (k : ℕ) → suc k - 1 ≡ k
less_one k = omega arith

high_of : (n b : ℕ) → not (nat_lt n b) ≡ true → b ≤ n
high_of n b e = grind (arith, e)

mod_small : (n b : ℕ) → n < b → n % b ≡ n
mod_small n b lt = mod-eq_of_lt lt

-- a number of a width reads as a literal that says it
negative_says : (w n : ℕ) → 1 ≤ w → w ≤ 64 → n < 2 ^ w → is_negative w n ≡ true → negative (2 ^ w) (2 ^ w - n) ≡ Some n
negative_says zero n least most lt e = absurd (omega (arith, least))
negative_says (suc k) n least most lt e =
    let double : 2 ^ suc k ≡ 2 * 2 ^ k = double_of k in
    let high : 2 ^ k ≤ n = high_of n (2 ^ k) (ap (λ (i : ℕ). not (nat_lt n (2 ^ i))) (sym (less_one k)) ∙ e) in
    let fits : nat_le (2 * (2 ^ suc k - n)) (2 ^ suc k) ≡ true = (let b : 2 * (2 ^ suc k - n) ≤ 2 ^ suc k = omega (arith, double, high, lt) in grind (arith, b)) in
    let back : 2 ^ suc k - (2 ^ suc k - n) ≡ n = omega (arith, lt) in
    rw (fits, back, mod_small n (2 ^ suc k) lt) refl

signed_says : (w n : ℕ) (sign : Bool) → 1 ≤ w → w ≤ 64 → n < 2 ^ w → has_sign w n ≡ sign → signed (2 ^ w) sign (if sign then 2 ^ w - n else n) ≡ Some n
signed_says w n false least most lt e = let b : nat_lt n (2 ^ w) ≡ true = grind (arith, lt) in rw b refl
signed_says w n true least most lt e = negative_says w n least most lt (last_of _ (is_negative w n) e)
  where
    last_of : (a b : Bool) → (a && b) ≡ true → b ≡ true
    last_of true b e = e
    last_of false b e = absurd cc

digits_fit : (w n : ℕ) (sign : Bool) → w ≤ 64 → n < 2 ^ w → (if sign then 2 ^ w - n else n) < 2 ^ 128
digits_fit w n true le lt = below w (2 ^ w - n) le (omega arith)
digits_fit w n false le lt = below w n le (omega (arith, lt))

pub literal_says : (w n : ℕ) (given : Number) → 1 ≤ w → w ≤ MAX_WIDTH → n < 2 ^ w → IsSignedTree w n given → literal_of given w ≡ Ok n
unfolding literal_of
literal_says w n given least most lt is =
    let digits = ap natural is.1 ∙ natural_says _ (digits_fit w n (has_sign w n) most lt) in
    let wide : nat_le w MAX_WIDTH ≡ true = grind (arith, most) in
    rw (digits, is.0, wide, signed_says w n (has_sign w n) least most lt refl) refl
