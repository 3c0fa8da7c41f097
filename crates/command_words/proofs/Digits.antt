-- What std's `parse` reads of digits.
use Rattle.std.proofs.Common.{◌≡◌, ◌<◌, ◌≤◌, ◌^◌, ◌&&◌, ℕ, Bool, true, false, List, length, Some, Result, Ok, Err, rules, arith, nat_le, refl, ap}
use Rattle.std.specs.List.{list_all}
use Rattle.std.specs.Char.{is_ascii_digit}
use Rattle.std.specs.Str.Parse.{ParsesUnsigned, digits_value}
use Rattle.std.specs.Result.{OkIff, result_ok}
use Rattle.std.specs.Option.{option_and_then}
use Rattle.std.proofs.lemmas.Bool.{leb-true}
use Rattle.std.proofs.lemmas.Str.Parse.{IsDigitsTest, IsNumeralModel, numerals_by_value, parse_digits}
use Rattle.std.proofs.lemmas.Bool.Decides.{nat_tests}
use Rattle.command_words.specs.Commands.{within, number}

tells : IsDigitsTest (λ ds. list_all is_ascii_digit ds ≡ true)
tells = search rules

model : IsNumeralModel (λ ds. list_all is_ascii_digit ds ≡ true) (digits_value 10)
model = numerals_by_value _ tells

too_great : (v : ℕ) → ¬ (v < 2 ^ 64) → nat_le v 18446744073709551615 ≡ false
too_great v high = go (nat_le v 18446744073709551615) refl
  where
    go : (b : Bool) → nat_le v 18446744073709551615 ≡ b → nat_le v 18446744073709551615 ≡ false
    go true is = let low : v ≤ 18446744073709551615 = leb-true v 18446744073709551615 is in absurd (high (omega arith))
    go false is = is

and_false : (b : Bool) → (b && false) ≡ false
and_false true = refl
and_false false = refl

by_bound : {E : Type 0} (r : Result ℕ E) (n v : ℕ) → 0 < n → OkIff r ((0 < n) × (v < 2 ^ 64)) v → result_ok r ≡ within 0 18446744073709551615 v
by_bound (Ok x) n v some h =
    let at : x ≡ v = h.1 in
    let low : (nat_le 0 v && nat_le v 18446744073709551615) ≡ true = grind (arith, nat_tests) in
    rw low (ap Some at)
by_bound (Err e) n v some h =
    rw (too_great v (λ low. h (some, low)), and_false (nat_le 0 v)) refl

pub parsed : {E : Type 0} (bs : List ℕ) (r : Result ℕ E) → ParsesUnsigned 64 10 bs r → list_all is_ascii_digit bs ≡ true → 0 < length bs
    → result_ok r ≡ within 0 18446744073709551615 (digits_value 10 bs)
parsed bs r h digits some = by_bound r (length bs) (digits_value 10 bs) some (parse_digits model 64 bs r h digits)

both_true : (a b : Bool) → (a && b) ≡ true → (a ≡ true) × (b ≡ true)
both_true true b e = (refl, e)
both_true false b e = absurd (cc)

pub number_is : {E : Type 0} (text : List ℕ) (r : Result ℕ E) → ParsesUnsigned 64 10 text r
    → (nat_le 1 (length text) && nat_le (length text) 20 && list_all is_ascii_digit text) ≡ true
    → result_ok r ≡ option_and_then (within 0 18446744073709551615) (number text)
number_is text r h is =
    let outer = both_true (nat_le 1 (length text) && nat_le (length text) 20) (list_all is_ascii_digit text) is in
    let inner = both_true (nat_le 1 (length text)) (nat_le (length text) 20) outer.0 in
    let some : 1 ≤ length text = leb-true 1 (length text) inner.0 in
    rw is (parsed text r h outer.1 (omega arith))
