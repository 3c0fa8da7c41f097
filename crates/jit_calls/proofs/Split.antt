-- The first line of a text.
use Rattle.std.proofs.Common.{◌≡◌, ℕ, zero, suc, ◌+◌, ◌-◌, ◌<◌, ◌≤◌, Bool, true, false, not, cond, List, [], ◌∷◌, ◌++◌, length, take, drop, Option, Some, None, refl, sym, ap, ◌∙◌, arith, append_assoc, append-nil}
use Rattle.std.specs.Prelude.{nat_eq, ◌==◌}
use Rattle.std.specs.List.{prefix_len}
use Rattle.std.proofs.lemmas.Bool.{eqb-true, eqb-false}
use Rattle.std.specs.Prelude.{Result, Ok, Err}
use Rattle.ir_meaning.specs.declared.calls.ListedCall.{ListedCall}
use Rattle.jit_calls.specs.declared.lists.CallsRefusal.{CallsRefusal}
use Rattle.jit_calls.specs.declared.lists.CallsRefusal.TheVariants as refusals
use Rattle.jit_calls.specs.Lists.{without_return, lines_behind, lines, and_then}
use Rattle.jit_calls.specs.Listing.{Refuses, is_in_line, line_at, next_line_of}

-- what a text has as lines, by its first line
abbrev split_as : List ℕ → List ℕ → ℕ → List (List ℕ) × List ℕ
split_as line text len =
    cond (len == length text) ([], line ++ text) (without_return (line ++ take len text) ∷ (lines_behind [] (drop (suc len) text)).0, (lines_behind [] (drop (suc len) text)).1)

-- what stands behind a line that ends here
abbrev as_lines : ℕ → List ℕ → List ℕ → List ℕ → List (List ℕ) × List ℕ
as_lines len text a b = cond (len == length text) ([], a) (without_return b ∷ (lines_behind [] (drop (suc len) text)).0, (lines_behind [] (drop (suc len) text)).1)

eq-suc : (a b : ℕ) → (a == b) ≡ (suc a == suc b)
eq-suc a b = by (a == b) (suc a == suc b) refl refl
  where
    by : (p q : Bool) → (a == b) ≡ p → (suc a == suc b) ≡ q → p ≡ q
    by true true e f = refl
    by false false e f = refl
    by true false e f = absurd (eqb-false (suc a) (suc b) f (ap (λ (n : ℕ). suc n) (eqb-true a b e)))
    by false true e f = absurd (eqb-false a b e (let same : suc a ≡ suc b = eqb-true (suc a) (suc b) f in omega (arith, same)))

zero-suc : (n : ℕ) → (0 == suc n) ≡ false
zero-suc n = by (0 == suc n) refl
  where
    by : (p : Bool) → (0 == suc n) ≡ p → p ≡ false
    by false e = refl
    by true e = absurd (let same : 0 ≡ suc n = eqb-true 0 (suc n) e in omega (arith, same))

shifted : (line : List ℕ) (byte : ℕ) (text : List ℕ) (len : ℕ) → split_as (line ++ byte ∷ []) text len ≡ split_as line (byte ∷ text) (suc len)
shifted line byte text len =
    ap (λ (a : List ℕ). as_lines len text a ((line ++ byte ∷ []) ++ take len text)) (append_assoc line (byte ∷ []) text)
    ∙ ap (λ (b : List ℕ). as_lines len text (line ++ byte ∷ text) b) (append_assoc line (byte ∷ []) (take len text))
    ∙ ap (λ (b : Bool). cond b ([], line ++ byte ∷ text) (without_return (line ++ byte ∷ take len text) ∷ (lines_behind [] (drop (suc len) text)).0, (lines_behind [] (drop (suc len) text)).1)) (eq-suc len (length text))

feed : (line : List ℕ) (byte : ℕ) (text : List ℕ) (b : Bool) → nat_eq byte 10 ≡ b
    → ((line : List ℕ) → lines_behind line text ≡ split_as line text (prefix_len is_in_line text))
    → cond b (without_return line ∷ (lines_behind [] text).0, (lines_behind [] text).1) (lines_behind (line ++ byte ∷ []) text) ≡ split_as line (byte ∷ text) (cond (not b) (1 + prefix_len is_in_line text) 0)
feed line byte text true e ih = ap (λ (l : List ℕ). (without_return l ∷ (lines_behind [] text).0, (lines_behind [] text).1)) (sym (append-nil line))
    ∙ ap (λ (b : Bool). cond b ([], line ++ byte ∷ text) (without_return (line ++ []) ∷ (lines_behind [] text).0, (lines_behind [] text).1)) (sym (zero-suc (length text)))
feed line byte text false e ih = ih (line ++ byte ∷ []) ∙ shifted line byte text (prefix_len is_in_line text) ∙ ap (λ (len : ℕ). split_as line (byte ∷ text) len) (let e : suc (prefix_len is_in_line text) ≡ 1 + prefix_len is_in_line text = omega arith in e)

pub split : (line text : List ℕ) → lines_behind line text ≡ split_as line text (prefix_len is_in_line text)
split line [] = ap (λ (l : List ℕ). ([], l)) (sym (append-nil line))
split line (byte ∷ text) = feed line byte text (nat_eq byte 10) refl (λ l. split l text)

abbrev by_next : Option (List ℕ × List ℕ) → List ℕ → List (List ℕ) × List ℕ
by_next None text = ([], text)
by_next (Some pair) text = (pair.0 ∷ (lines pair.1).0, (lines pair.1).1)

by-length : (b : Bool) (len : ℕ) (text : List ℕ)
    → cond b ([], text) (without_return (take len text) ∷ (lines_behind [] (drop (suc len) text)).0, (lines_behind [] (drop (suc len) text)).1) ≡ by_next (cond b None (Some (without_return (take len text), drop (len + 1) text))) text
by-length true len text = refl
by-length false len text = ap (λ (k : ℕ). by_next (Some (without_return (take len text), drop k text)) text) (let e : suc len ≡ len + 1 = omega arith in e)

lines-next : (text : List ℕ) → lines text ≡ by_next (next_line_of text) text
lines-next text = split [] text ∙ by-length (prefix_len is_in_line text == length text) (prefix_len is_in_line text) text

-- no line feed is left
pub none-left : (text : List ℕ) → next_line_of text ≡ None → lines text ≡ ([], text)
none-left text e = lines-next text ∙ ap (λ (o : Option (List ℕ × List ℕ)). by_next o text) e

-- a line, and those behind it
pub one-more : (text one behind : List ℕ) → next_line_of text ≡ Some (one, behind) → lines text ≡ (one ∷ (lines behind).0, (lines behind).1)
one-more text one behind e = lines-next text ∙ ap (λ (o : Option (List ℕ × List ℕ)). by_next o text) e

-- a refusal of a part refuses the whole
pub refuses-then : {A : Type 0} (refusal : CallsRefusal) (part : Result (List ListedCall) CallsRefusal) (k : List ListedCall → Result A CallsRefusal) (all : Result A CallsRefusal)
    → Refuses refusal part → and_then part k ≡ all → Refuses refusal all
refuses-then refusals.NoMemory part k all why e = tt
refuses-then (refusals.Syntax line) part k all why e = (let due : all ≡ and_then part k = sym e in due ∙ ap (λ (p : Result (List ListedCall) CallsRefusal). and_then p k) why)
refuses-then (refusals.NoSuchFunction line) part k all why e = (let due : all ≡ and_then part k = sym e in due ∙ ap (λ (p : Result (List ListedCall) CallsRefusal). and_then p k) why)
refuses-then (refusals.Shape line) part k all why e = (let due : all ≡ and_then part k = sym e in due ∙ ap (λ (p : Result (List ListedCall) CallsRefusal). and_then p k) why)
refuses-then (refusals.Limit count) part k all why e = (let due : all ≡ and_then part k = sym e in due ∙ ap (λ (p : Result (List ListedCall) CallsRefusal). and_then p k) why)
