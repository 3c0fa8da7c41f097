-- The text of a list of calls is this list.
use Rattle.std.proofs.Common.{◌≡◌, ℕ, zero, suc, ◌+◌, ◌-◌, ◌*◌, ◌%◌, ◌^◌, ◌<◌, ◌≤◌, Bool, true, not, List, [], ◌∷◌, ◌++◌, length, slice_get, Some, Ok, refl, sym, ◌∙◌, ap, subst, append_assoc, append-nil, length-append, arith}
use Rattle.std.specs.Prelude.{Result, decimal, codes, nat_le, nat_eq}
use Rattle.std.specs.List.{list_all}
use Rattle.std.specs.Char.{is_ascii_digit}
use Rattle.std.proofs.lemmas.Fmt.{length-decimal-le}
use Rattle.std.proofs.lemmas.List.Folds.{list_all-append}
use Rattle.ir_core.specs.declared.program.Function.{Function}
use Rattle.ir_core.specs.declared.program.Module.{Module}
use Rattle.ir_meaning.specs.declared.calls.ListedCall.{ListedCall}
use Rattle.jit_calls.specs.declared.lists.CallsRefusal.{CallsRefusal}
use Rattle.jit_calls.specs.Lists.{without_return, lines_behind, lines, with_lines, all_lines, few, calls_of}
use Rattle.ir_print_names.proofs.NamesBack.{both_true, not_true}
use Rattle.ir_print_laws.proofs.Tokens.{decimal_digits}
use Rattle.jit_text.specs.ManyCallsTexts.{call_text, calls_text}
use Rattle.ir_print_laws.specs.Modules.{many_module, call_of, calls_before}
use Rattle.ir_print_laws.proofs.ManyCallsNames.{function_at, function_is}
use Rattle.ir_print_laws.proofs.Lines.{AreFound, line_of, line_says}

-- ---- the lines of the text

abbrev Split : Type 0
Split = List (List ℕ) × List ℕ

abbrev before : List ℕ → Split → Split
before line text = (line ∷ text.0, text.1)

abbrev no_feed : ℕ → Bool
no_feed byte = not (nat_eq byte 10)

one_line : (start line rest : List ℕ) → list_all no_feed line ≡ true → lines_behind start (line ++ 10 ∷ rest) ≡ before (without_return (start ++ line)) (lines rest)
one_line start [] rest all = ap (λ (l : List ℕ). before (without_return l) (lines rest)) (sym (append-nil start))
one_line start (byte ∷ line) rest all =
    let s = both_true (no_feed byte) (list_all no_feed line) all in
    rw (not_true (nat_eq byte 10) s.0)
    (one_line (start ++ byte ∷ []) line rest s.1 ∙ ap (λ (l : List ℕ). before (without_return l) (lines rest)) (append_assoc start (byte ∷ []) line))

digit_no_feed : (d : ℕ) → is_ascii_digit d ≡ true → no_feed d ≡ true
digit_no_feed d e = grind (arith, e)

digits_no_feed : (ds : List ℕ) → list_all is_ascii_digit ds ≡ true → list_all no_feed ds ≡ true
digits_no_feed [] all = refl
digits_no_feed (d ∷ ds) all = let s = both_true (is_ascii_digit d) (list_all is_ascii_digit ds) all in rw (digit_no_feed d s.0, digits_no_feed ds s.1) refl

number_no_feed : (n : ℕ) (rest : List ℕ) → list_all no_feed rest ≡ true → list_all no_feed (decimal n ++ rest) ≡ true
number_no_feed n rest all = list_all-append no_feed (decimal n) rest ∙ rw (digits_no_feed (decimal n) (decimal_digits n), all) refl

line_no_feed : (i : ℕ) → list_all no_feed (line_of i) ≡ true
line_no_feed i = number_no_feed (i % 64) (codes "(i64 " ++ (decimal i ++ codes ")")) (number_no_feed i (codes ")") refl)

-- the last byte of a line is `)`
last_at : (xs : List ℕ) (x : ℕ) → slice_get (xs ++ x ∷ []) (length xs) ≡ Some x
last_at [] x = refl
last_at (y ∷ xs) x = last_at xs x

less_one : (n : ℕ) → n + 1 - 1 ≡ n
less_one n = omega arith

last_is : (xs : List ℕ) (x : ℕ) → slice_get (xs ++ x ∷ []) (length (xs ++ x ∷ []) - 1) ≡ Some x
last_is xs x =
    ap (λ (n : ℕ). slice_get (xs ++ x ∷ []) (n - 1)) (length-append xs (x ∷ []))
    ∙ ap (λ (n : ℕ). slice_get (xs ++ x ∷ []) n) (less_one (length xs)) ∙ last_at xs x

kept : (xs : List ℕ) → without_return (xs ++ 41 ∷ []) ≡ xs ++ 41 ∷ []
kept xs = rw (last_is xs 41) refl

line_kept : (i : ℕ) → without_return (line_of i) ≡ line_of i
line_kept i = subst (λ (l : List ℕ). without_return l ≡ l) (sym (both i)) (kept (codes "@f" ++ (decimal (i % 64) ++ (codes "(i64 " ++ decimal i))))
  where
    both : (i : ℕ) → line_of i ≡ (codes "@f" ++ (decimal (i % 64) ++ (codes "(i64 " ++ decimal i))) ++ 41 ∷ []
    both i = ap (λ (l : List ℕ). codes "@f" ++ l) (sym (append_assoc (decimal (i % 64)) (codes "(i64 " ++ decimal i) (41 ∷ [])))

-- so many calls, from this one on
text_from : ℕ → ℕ → List ℕ
text_from i zero = []
text_from i (suc more) = call_text i ++ text_from (i + 1) more

lines_from : ℕ → ℕ → List (List ℕ)
lines_from i zero = []
lines_from i (suc more) = line_of i ∷ lines_from (i + 1) more

ends_line : (i : ℕ) (rest : List ℕ) → call_text i ++ rest ≡ line_of i ++ 10 ∷ rest
ends_line i rest =
    let first = decimal (i % 64) in
    let inner = codes "(i64 " in
    let second = decimal i in
    let end = codes ")\n" in
    ap (λ (l : List ℕ). codes "@f" ++ l) (append_assoc (first ++ inner ++ second) end rest
    ∙ append_assoc (first ++ inner) second (end ++ rest) ∙ append_assoc first inner (second ++ (end ++ rest))
    ∙ ap (λ (l : List ℕ). first ++ (inner ++ l)) (sym (append_assoc second (codes ")") (10 ∷ rest)))
    ∙ sym (append_assoc first (inner ++ (second ++ codes ")")) (10 ∷ rest)))

lines_are : (i more : ℕ) → lines (text_from i more) ≡ (lines_from i more, [])
unfolding text_from lines_from
lines_are i zero = refl
lines_are i (suc more) =
    ap (λ (t : List ℕ). lines t) (ends_line i (text_from (i + 1) more))
    ∙ one_line [] (line_of i) (text_from (i + 1) more) (line_no_feed i)
    ∙ ap (λ (l : List ℕ). before l (lines (text_from (i + 1) more))) (line_kept i)
    ∙ ap (λ (text : Split). before (line_of i) text) (lines_are (i + 1) more)

one_behind : (i : ℕ) → suc i ≡ i + 1
one_behind i = omega arith

text_is : (i more : ℕ) → calls_text i ++ text_from i more ≡ calls_text (i + more)
unfolding text_from calls_text
text_is i zero = append-nil (calls_text i) ∙ ap (λ (n : ℕ). calls_text n) (let e : i ≡ i + 0 = omega arith in e)
text_is i (suc more) =
    sym (append_assoc (calls_text i) (call_text i) (text_from (i + 1) more))
    ∙ ap (λ (n : ℕ). calls_text n ++ text_from (i + 1) more) (one_behind i)
    ∙ text_is (i + 1) more
    ∙ ap (λ (n : ℕ). calls_text n) (let e : i + 1 + more ≡ i + suc more = omega arith in e)

-- ---- the calls of the lines

abbrev Read : Type 0
Read = Result (List ListedCall) CallsRefusal

calls_are : (functions : List Function) (n i more : ℕ) → AreFound functions → i + more ≤ 65536 → with_lines functions [] n (calls_before i) (lines_from i more) ≡ Ok (calls_before (i + more))
unfolding lines_from
calls_are functions n i zero found le = ap {B = Read} (λ (k : ℕ). Ok (calls_before k)) (let e : i ≡ i + 0 = omega arith in e)
calls_are functions n i (suc more) found le =
    rw (line_says functions i found (omega (arith, le)))
    (ap (λ (k : ℕ). with_lines functions [] (n + 1) (calls_before k) (lines_from (i + 1) more)) (one_behind i)
    ∙ calls_are functions (n + 1) (i + 1) more found (omega (arith, le))
    ∙ ap {B = Read} (λ (k : ℕ). Ok (calls_before k)) (let e : i + 1 + more ≡ i + suc more = omega arith in e))

-- ---- the text is short, and the calls are few

call_short : (i : ℕ) → i < 2 ^ 64 → length (call_text i) ≤ 64
call_short i lt =
    let first = decimal (i % 64) in
    let inner = codes "(i64 " in
    let second = decimal i in
    let a : length first ≤ 20 = length-decimal-le 20 (i % 64) (omega arith) (omega arith) (omega arith) in
    let b : length second ≤ 20 = length-decimal-le 20 i (omega arith) (omega (arith, lt)) lt in
    let c : length (first ++ inner) ≡ length first + 5 = length-append first inner in
    let d : length (first ++ inner ++ second) ≡ length (first ++ inner) + length second = length-append (first ++ inner) second in
    let e : length (first ++ inner ++ second ++ codes ")\n") ≡ length (first ++ inner ++ second) + 2 = length-append (first ++ inner ++ second) (codes ")\n") in
    omega (arith, a, b, c, d, e)

text_short : (n : ℕ) → n ≤ 65536 → length (calls_text n) ≤ 64 * n
unfolding calls_text
text_short zero le = omega arith
text_short (suc i) le =
    let a = text_short i (omega (arith, le)) in
    let b = call_short i (omega (arith, le)) in
    let c = length-append (calls_text i) (call_text i) in
    omega (arith, a, b, c)

count_is : (n : ℕ) → length (calls_before n) ≡ n
count_is zero = refl
count_is (suc i) =
    let a = count_is i in
    let b = length-append (calls_before i) (call_of i ∷ []) in
    omega (arith, a, b)

are_few : (n : ℕ) → n ≤ 65536 → few (calls_before n) ≡ Ok (calls_before n)
are_few n le =
    let fits : nat_le (length (calls_before n)) 65536 ≡ true = (let a = count_is n in let b : length (calls_before n) ≤ 65536 = omega (arith, a, le) in grind (arith, b)) in
    rw fits refl

all_are : (functions : List Function) (n : ℕ) → AreFound functions → n ≤ 65536 → all_lines functions [] (lines_from 0 n, []) ≡ Ok (calls_before n)
all_are functions n found le =
    let read : with_lines functions [] 1 [] (lines_from 0 n) ≡ Ok (calls_before n) =
    (calls_are functions 1 0 n found (omega (arith, le)) ∙ ap {B = Read} (λ (k : ℕ). Ok (calls_before k)) (let e : 0 + n ≡ n = omega arith in e)) in
    rw read (are_few n le)

calls_of_text : (module_ : Module) (n : ℕ) → module_.globals ≡ [] → AreFound module_.functions → n ≤ 65536 → calls_of module_ (calls_text n) ≡ Ok (calls_before n)
unfolding calls_text
calls_of_text module_ n none found le =
    let short : nat_le (length (calls_text n)) 4194304 ≡ true = (let a = text_short n le in let b : length (calls_text n) ≤ 4194304 = omega (arith, a, le) in grind (arith, b)) in
    let text : calls_text n ≡ text_from 0 n = sym (text_is 0 n ∙ ap (λ (k : ℕ). calls_text k) (let e : 0 + n ≡ n = omega arith in e)) in
    rw (short, none) (ap (λ (t : Split). all_lines module_.functions [] t) (ap (λ (t : List ℕ). lines t) text ∙ lines_are 0 n) ∙ all_are module_.functions n found le)

pub calls_read : (n : ℕ) → n ≤ 65536 → calls_of many_module (calls_text n) ≡ Ok (calls_before n)
calls_read n le = calls_of_text many_module n refl (record { named = λ j lt. function_is 64 j (omega arith) lt; there = λ j lt. function_at 64 j lt }) le
