-- The line of a call says the call.
use Rattle.std.proofs.Common.{◌≡◌, ℕ, suc, ◌%◌, ◌^◌, ◌<◌, true, false, List, [], ◌∷◌, ◌++◌, length, slice_get, Option, Some, Ok, refl, ◌∙◌, ap, arith}
use Rattle.std.specs.Prelude.{decimal, codes, nat_lt, nat_eq}
use Rattle.std.specs.List.{list_all}
use Rattle.std.specs.Char.{is_ascii_digit}
use Rattle.ir_core.specs.declared.program.Function.{Function}
use Rattle.ir_types.specs.Numbers.{digits_onto}
use Rattle.ir_types.specs.Numbers as numbers
use Rattle.jit_calls.specs.declared.line.Written.{Written}
use Rattle.jit_calls.specs.Form.{begins, literal, run, repeat, whole}
use Rattle.jit_calls.specs.Names.{name, function_named}
use Rattle.jit_calls.specs.Numbers.{some_digits, number}
use Rattle.jit_calls.specs.Line.{Argument, integer_value, integer, next_argument, with_argument, arguments, turns, call, line_call, resolved, by_form}
use Rattle.ir_print_names.proofs.NamesBack.{both_true}
use Rattle.ir_print_laws.proofs.Tokens.{Begun, decimal_digits, decimal_begun}
use Rattle.ir_print_laws.specs.Modules.{word, name_of, call_of, function_of}
use Rattle.ir_print_laws.proofs.Numbers.{decimal_says, digits_read, name_token}

-- the first byte of a number is no letter and no sign
differs : (c x : ℕ) → is_ascii_digit c ≡ false → is_ascii_digit x ≡ true → nat_eq c x ≡ false
differs c x no_digit digit = grind (arith, no_digit, digit)

first_apart : (c : ℕ) (xs : List ℕ) (rest tail : List ℕ) → is_ascii_digit c ≡ false → Begun xs → list_all is_ascii_digit xs ≡ true → begins (c ∷ tail) (xs ++ rest) ≡ false
first_apart c [] rest tail no_digit b all = let e = b.is in absurd cc
first_apart c (x ∷ xs) rest tail no_digit b all =
    rw (differs c x no_digit (both_true (is_ascii_digit x) (list_all is_ascii_digit xs) all).0) refl

number_apart : (c : ℕ) (i : ℕ) (rest tail : List ℕ) → is_ascii_digit c ≡ false → begins (c ∷ tail) (decimal i ++ rest) ≡ false
number_apart c i rest tail no_digit = first_apart c (decimal i) rest tail no_digit (decimal_begun i) (decimal_digits i)

-- a number of 64 bits behind which `)` stands
number_says : (i : ℕ) (rest : List ℕ) → i < 2 ^ 64 → (integer_value 64).read (decimal i ++ 41 ∷ rest) ≡ Some (Some i, 41 ∷ rest)
unfolding integer_value number literal
number_says i rest lt =
    let says : numbers.decimal (decimal i) ≡ i = decimal_says i (omega (arith, lt)) in
    let fits : nat_lt i (2 ^ 64) ≡ true = grind (arith, lt) in
    rw (number_apart 116 i (41 ∷ rest) (codes "rue") refl, number_apart 102 i (41 ∷ rest) (codes "alse") refl, number_apart 45 i (41 ∷ rest) [] refl)
    (rw (digits_read i (41 ∷ rest) refl) (rw (says, fits) refl))

width_read : (rest : List ℕ) → some_digits.read (54 ∷ 52 ∷ 32 ∷ rest) ≡ Some (54 ∷ 52 ∷ [], 32 ∷ rest)
unfolding some_digits run
width_read rest = refl

sixty_four : numbers.decimal (54 ∷ 52 ∷ []) ≡ 64
unfolding digits_onto
sixty_four = refl

-- an argument behind which `)` stands
argument_says : (i : ℕ) (rest : List ℕ) → i < 2 ^ 64 → integer.read (codes "i64 " ++ decimal i ++ 41 ∷ rest) ≡ Some ((word, Some i), 41 ∷ rest)
unfolding integer literal
argument_says i rest lt = rw (width_read (decimal i ++ 41 ∷ rest)) (rw sixty_four (rw (number_says i rest lt) refl))

abbrev items_of : ℕ → List Argument
items_of i = (word, Some i) ∷ []

all_arguments : (i steps : ℕ) (rest : List ℕ) → i < 2 ^ 64
    → (repeat (next_argument []) with_argument (suc (suc steps)) []).read (codes "i64 " ++ decimal i ++ 41 ∷ rest) ≡ Some ((items_of i, tt), rest)
unfolding repeat next_argument literal
all_arguments i steps rest lt = rw (argument_says i rest lt) refl

arguments_say : (i : ℕ) (rest : List ℕ) → i < 2 ^ 64 → (arguments []).read (codes "i64 " ++ decimal i ++ 41 ∷ rest) ≡ Some (items_of i, rest)
unfolding arguments
arguments_say i rest lt = rw (all_arguments i (length (codes "4 " ++ decimal i ++ 41 ∷ rest)) rest lt) refl

-- the name, and what stands behind it
name_says : (j : ℕ) (rest : List ℕ) → name.read (codes "@" ++ (name_of j ++ 40 ∷ rest)) ≡ Some (name_of j, 40 ∷ rest)
unfolding name
name_says j rest = rw (name_token j (40 ∷ rest) refl) refl

abbrev written_of : ℕ → Written
written_of i = record { name = name_of (i % 64); args = items_of i; turns = 1000000 }

-- the line of call i
abbrev pub line_of : ℕ → List ℕ
line_of i = codes "@f" ++ (decimal (i % 64) ++ (codes "(i64 " ++ (decimal i ++ codes ")")))

call_says : (i : ℕ) → i < 2 ^ 64 → whole (call []) (line_of i) ≡ Some (written_of i)
unfolding call literal turns
call_says i lt = rw (name_says (i % 64) (codes "i64 " ++ decimal i ++ 41 ∷ [])) (rw (arguments_say i [] lt) refl)

-- functions that are found by their names and numbers
pub record AreFound (functions : List Function) : Type 0 where
  pub named : (j : ℕ) → j < 64 → function_named functions (name_of j) ≡ Some j
  pub there : (j : ℕ) → j < 64 → slice_get functions j ≡ Some (function_of j)

resolves : (functions : List Function) (i : ℕ) → AreFound functions → i < 2 ^ 64 → resolved functions (written_of i) ≡ Ok (call_of i)
resolves functions i found lt =
    let below : i % 64 < 64 = omega arith in
    let fits : nat_lt i (2 ^ 64) ≡ true = grind (arith, lt) in
    rw (found.named (i % 64) below) (rw (found.there (i % 64) below, fits) refl)

pub line_says : (functions : List Function) (i : ℕ) → AreFound functions → i < 2 ^ 64 → line_call functions [] (line_of i) ≡ Ok (call_of i)
line_says functions i found lt = ap (λ (o : Option Written). by_form functions o) (call_says i lt) ∙ resolves functions i found lt
