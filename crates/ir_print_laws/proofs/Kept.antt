-- What stands behind a form of a text of bytes is bytes again, and what holds of its value.
use Rattle.std.proofs.Common.{◌≡◌, ℕ, zero, suc, ◌+◌, ◌≤◌, Bool, true, false, List, Option, Some, None, refl, sym, ap, subst, arith}
use Rattle.std.specs.Prelude.{MatchBool}
use Rattle.ir_text.specs.Token.{Token, token_at}
use Rattle.ir_text.specs.Form.{Form, ◌>>=◌, yield, nothing, place, taken, by_token, by_two, by_flag, rest_of_line, is_no_line_feed, after_turn, turns, repeat, most_turns}
use Rattle.ir_print_laws.proofs.ReadTokens.{Bytes, TokenBytes, token_bytes, back_bytes}

pub record IsKept {A : Type 0} (f : Form A) : Type 0 where
  pub rest : (text : List ℕ) (v : A) (rest : List ℕ) → Bytes text → f.Is text v rest → Bytes rest

pub kept-then : {A B : Type 0} (f : Form A) (k : A → Form B) → IsKept f → ((x : A) → IsKept (k x)) → IsKept (f >>= k)
kept-then f k p q = record { rest = λ text v rest all w. (q w.0).rest w.1 v rest (p.rest text w.0 w.1 all w.2) w.3 }

pub kept-yield : {A : Type 0} (x : A) → IsKept (yield x)
kept-yield x = record { rest = λ text v rest all w. subst Bytes (sym w.1) all }

pub kept-place : IsKept place
kept-place = record { rest = λ text v rest all w. subst Bytes (sym w.1) all }

pub kept-taken : {A : Type 0} (value : Token → Option A) → IsKept (taken value)
kept-taken value = record { rest = λ text v rest all w. subst Bytes (sym w.1) (token_bytes text all).1 }

pub kept-nothing : {A : Type 0} → IsKept (nothing {A = A})
kept-nothing = record { rest = λ text v rest all w. absurd w }

by_match : (b : Bool) (p q r : Type 0) → (p → r) → (q → r) → MatchBool b p q → r
by_match true p q r f g w = f w
by_match false p q r f g w = g w

pub kept-by_token : {A : Type 0} (test : Token → Bool) (f g : Form A) → IsKept f → IsKept g → IsKept (by_token test f g)
kept-by_token test f g p q = record { rest = λ text v rest all w. by_match (test (token_at text).0) (f.Is text v rest) (g.Is text v rest) (Bytes rest) (p.rest text v rest all) (q.rest text v rest all) w }

pub kept-by_two : {A : Type 0} (test : Token → Token → Bool) (f g : Form A) → IsKept f → IsKept g → IsKept (by_two test f g)
kept-by_two test f g p q = record { rest = λ text v rest all w. by_match (test (token_at text).0 (token_at (token_at text).1).0) (f.Is text v rest) (g.Is text v rest) (Bytes rest) (p.rest text v rest all) (q.rest text v rest all) w }

pub kept-by_flag : {A : Type 0} (flag : Bool) (f g : Form A) → IsKept f → IsKept g → IsKept (by_flag flag f g)
kept-by_flag flag f g p q = record { rest = λ text v rest all w. by_match flag (f.Is text v rest) (g.Is text v rest) (Bytes rest) (p.rest text v rest all) (q.rest text v rest all) w }

pub kept-rest_of_line : IsKept rest_of_line
kept-rest_of_line = record { rest = λ text v rest all w. subst Bytes (sym w) (back_bytes is_no_line_feed text all) }

kept-turns : {S : Type 0} (turn : S → Form (Bool × S)) → ((s : S) → IsKept (turn s)) → (steps : ℕ) (s : S) → IsKept (turns turn steps s)
unfolding turns
kept-turns turn p zero s = kept-nothing
kept-turns turn p (suc steps) s = kept-then (turn s) (λ turned. after_turn turned (turns turn steps)) (p s) (λ turned. record {
  rest = λ text v rest all w. by_match turned.0 ((turns turn steps turned.1).Is text v rest) ((v ≡ turned.1) × (rest ≡ text)) (Bytes rest) ((kept-turns turn p steps turned.1).rest text v rest all) (λ e. subst Bytes (sym e.1) all) w;
})

pub kept-repeat : {S : Type 0} (turn : S → Form (Bool × S)) (s : S) → ((s : S) → IsKept (turn s)) → IsKept (repeat turn s)
kept-repeat turn s p = record { rest = λ text v rest all w. (kept-turns turn p most_turns s).rest text v rest all w }

pub ruleset kept_forms = (kept-then, kept-yield, kept-place, kept-taken, kept-nothing, kept-by_token, kept-by_two, kept-by_flag, kept-rest_of_line, kept-repeat)

-- ---- what holds of values

pub record Holds {A : Type 0} (f : Form A) (P : A → Type 0) : Type 0 where
  pub value : (text : List ℕ) (v : A) (rest : List ℕ) → Bytes text → f.Is text v rest → P v

-- one form, and then another by what holds of the first one's value
pub holds-then : {A B : Type 0} (f : Form A) (k : A → Form B) (Q : A → Type 0) (P : B → Type 0) → IsKept f → Holds f Q → ((x : A) → Q x → Holds (k x) P) → Holds (f >>= k) P
holds-then f k Q P p q r = record { value = λ text v rest all w. (r w.0 (q.value text w.0 w.1 all w.2)).value w.1 v rest (p.rest text w.0 w.1 all w.2) w.3 }

-- a form whose value doesn't matter, and then another
pub holds-behind : {A B : Type 0} (f : Form A) (k : A → Form B) (P : B → Type 0) → IsKept f → ((x : A) → Holds (k x) P) → Holds (f >>= k) P
holds-behind f k P p r = record { value = λ text v rest all w. (r w.0).value w.1 v rest (p.rest text w.0 w.1 all w.2) w.3 }

pub holds-yield : {A : Type 0} (x : A) (P : A → Type 0) → P x → Holds (yield x) P
holds-yield x P p = record { value = λ text v rest all w. subst P (sym w.0) p }

pub holds-taken : {A : Type 0} (value : Token → Option A) (P : A → Type 0) → ((token : Token) (v : A) → TokenBytes token → value token ≡ Some v → P v) → Holds (taken value) P
holds-taken value P p = record { value = λ text v rest all w. p (token_at text).0 v (token_bytes text all).0 w.0 }

pub holds-by_token : {A : Type 0} (test : Token → Bool) (f g : Form A) (P : A → Type 0) → Holds f P → Holds g P → Holds (by_token test f g) P
holds-by_token test f g P p q = record { value = λ text v rest all w. by_match (test (token_at text).0) (f.Is text v rest) (g.Is text v rest) (P v) (p.value text v rest all) (q.value text v rest all) w }

pub holds-by_two : {A : Type 0} (test : Token → Token → Bool) (f g : Form A) (P : A → Type 0) → Holds f P → Holds g P → Holds (by_two test f g) P
holds-by_two test f g P p q = record { value = λ text v rest all w. by_match (test (token_at text).0 (token_at (token_at text).1).0) (f.Is text v rest) (g.Is text v rest) (P v) (p.value text v rest all) (q.value text v rest all) w }

pub holds-by_flag : {A : Type 0} (flag : Bool) (f g : Form A) (P : A → Type 0) → Holds f P → Holds g P → Holds (by_flag flag f g) P
holds-by_flag flag f g P p q = record { value = λ text v rest all w. by_match flag (f.Is text v rest) (g.Is text v rest) (P v) (p.value text v rest all) (q.value text v rest all) w }

module _ {S : Type 0} (turn : S → Form (Bool × S)) (kept : (s : S) → IsKept (turn s)) where
  -- what each turn keeps
  holds-turns : (P : S → Type 0) → ((s : S) → P s → Holds (turn s) (λ x. P x.1)) → (steps : ℕ) (s : S) → P s → Holds (turns turn steps s) P
  unfolding turns
  holds-turns P one zero s p = record { value = λ text v rest all w. absurd w }
  holds-turns P one (suc steps) s p = holds-then (turn s) (λ turned. after_turn turned (turns turn steps)) (λ x. P x.1) P (kept s) (one s p) (λ turned q. record {
    value = λ text v rest all w. by_match turned.0 ((turns turn steps turned.1).Is text v rest) ((v ≡ turned.1) × (rest ≡ text)) (P v) ((holds-turns P one steps turned.1 q).value text v rest all) (λ e. subst P (sym e.0) q) w;
  })

  pub holds-repeat : (P : S → Type 0) (s : S) → ((s : S) → P s → Holds (turn s) (λ x. P x.1)) → P s → Holds (repeat turn s) P
  holds-repeat P s one p = record { value = λ text v rest all w. (holds-turns P one most_turns s p).value text v rest all w }

  -- a count that each turn raises by one at most
  counted-turns : (count : S → ℕ) → ((s : S) → Holds (turn s) (λ x. count x.1 ≤ count s + 1)) → (steps : ℕ) (s : S) → Holds (turns turn steps s) (λ v. count v ≤ count s + steps)
  unfolding turns
  counted-turns count one zero s = record { value = λ text v rest all w. absurd w }
  counted-turns count one (suc steps) s = holds-then (turn s) (λ turned. after_turn turned (turns turn steps)) (λ x. count x.1 ≤ count s + 1) (λ v. count v ≤ count s + suc steps) (kept s) (one s) (λ turned q. record {
    value = λ text v rest all w. by_match turned.0 ((turns turn steps turned.1).Is text v rest) ((v ≡ turned.1) × (rest ≡ text)) (count v ≤ count s + suc steps)
        (λ w. let more = (counted-turns count one steps turned.1).value text v rest all w in omega (arith, more, q))
        (λ e. let same = ap count e.0 in omega (arith, same, q)) w;
  })

  pub counted-repeat : (count : S → ℕ) (s : S) → ((s : S) → Holds (turn s) (λ x. count x.1 ≤ count s + 1)) → Holds (repeat turn s) (λ v. count v ≤ count s + most_turns)
  counted-repeat count s one = record { value = λ text v rest all w. (counted-turns count one most_turns s).value text v rest all w }
