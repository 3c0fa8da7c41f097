-- What holds of a value that a form gives.
use Rattle.std.proofs.Common.{◌≡◌, ℕ, ◌≤◌, ◌^◌, Bool, true, false, cond, List, ◌∷◌, [], Option, Some, None, refl, ap, arith}
use Rattle.std.specs.Prelude.{nat_le, ◌&&◌, codes}
use Rattle.std.specs.Option.{option_and_then, option_map}
use Rattle.std.proofs.lemmas.Bool.{and_parts, leb-true}
use Rattle.ir_core.specs.declared.program.Global.{Global}
use Rattle.ir_types.specs.Numbers.{decimal}
use Rattle.jit_calls.specs.declared.line.Written.{Written}
use Rattle.jit_calls.specs.Form.{Form, ◌>>=◌, yield, chosen, by_next, begins, literal, whole, if_ended}
use Rattle.jit_calls.specs.Numbers.{some_digits, if_between, number_between}
use Rattle.jit_calls.specs.Names.{name}
use Rattle.jit_calls.specs.Line.{Argument, arguments, turns, call}

abbrev pub Given : {A : Type 0} → Form A → (A → Type 0) → Type 0
Given f P = (text : List ℕ) (v : _) (rest : List ℕ) → f.read text ≡ Some (v, rest) → P v

abbrev Any : {A : Type 0} → A → Type 0
Any x = Unit {0}

any : {A : Type 0} (f : Form A) → Given f Any
any f text v rest e = tt

then-by : {A B : Type 0} (f : Form A) (k : A → Form B) (Q : A → Type 0) (P : B → Type 0) → Given f Q → ((x : A) → Q x → Given (k x) P)
    → (text : List ℕ) (v : B) (rest : List ℕ) (o : Option (A × List ℕ)) → f.read text ≡ o → option_and_then (λ x. (k x.0).read x.1) o ≡ Some (v, rest) → P v
then-by f k Q P q p text v rest None is e = absurd cc
then-by f k Q P q p text v rest (Some x) is e = p x.0 (q text x.0 x.1 is) x.1 v rest e

pub given-then : {A B : Type 0} (f : Form A) (k : A → Form B) (Q : A → Type 0) (P : B → Type 0) → Given f Q → ((x : A) → Q x → Given (k x) P) → Given (f >>= k) P
given-then f k Q P q p text v rest e = then-by f k Q P q p text v rest (f.read text) refl e

first_or : {A : Type 0} → A → Option (A × List ℕ) → A
first_or x None = x
first_or x (Some found) = found.0

first-same : {A : Type 0} (x v : A) (text rest : List ℕ) → ◌≡◌ {A = Option (A × List ℕ)} (Some (x, text)) (Some (v, rest)) → x ≡ v
unfolding first_or
first-same x v text rest e = ap (first_or x) e

given-yield : {A : Type 0} (P : A → Type 0) (x : A) → P x → Given (yield x) P
given-yield P x p text v rest e = rw (← first-same x v text rest e) p

chosen-by : {A : Type 0} (P : A → Type 0) (o : Option A) (text : List ℕ) (v : A) (rest : List ℕ) → ((x : A) → o ≡ Some x → P x) → option_map {U = A × List ℕ} (λ x. (x, text)) o ≡ Some (v, rest) → P v
chosen-by P None text v rest all e = absurd cc
chosen-by P (Some x) text v rest all e = rw (← first-same x v text rest e) (all x refl)

given-chosen : {A : Type 0} (P : A → Type 0) (o : Option A) → ((x : A) → o ≡ Some x → P x) → Given (chosen o) P
given-chosen P o all text v rest e = chosen-by P o text v rest all e

next-by : {A : Type 0} (P : A → Type 0) (b : Bool) (f g : Form A) (text : List ℕ) (v : A) (rest : List ℕ) → Given f P → Given g P → cond b (f.read text) (g.read text) ≡ Some (v, rest) → P v
next-by P true f g text v rest p q e = p text v rest e
next-by P false f g text v rest p q e = q text v rest e

given-next : {A : Type 0} (P : A → Type 0) (test : List ℕ → Bool) (f g : Form A) → Given f P → Given g P → Given (by_next test f g) P
given-next P test f g p q text v rest e = next-by P (test text) f g text v rest p q e

abbrev Between : ℕ → ℕ → ℕ → Type 0
Between least most n = (least ≤ n) × (n ≤ most)

between-by : (b : Bool) (least most n v : ℕ) → (nat_le least n && nat_le n most) ≡ b → cond b (Some n) None ≡ Some v → Between least most v
between-by true least most n v test e =
    let parts = and_parts (nat_le least n) (nat_le n most) test in
    let same : n ≡ v = cc in
    rw (← same) (leb-true least n parts.0, leb-true n most parts.1)
between-by false least most n v test e = absurd cc

given-between : (least most : ℕ) → Given (number_between least most) (Between least most)
unfolding number_between
given-between least most =
    given-then some_digits (λ digits. chosen (if_between least most (decimal digits))) Any (Between least most) (any some_digits)
    (λ digits _. given-chosen (Between least most) (if_between least most (decimal digits)) (λ n e. between-by _ least most (decimal digits) n refl e))

given-turns : Given turns (Between 1 (2 ^ 32))
unfolding turns
given-turns =
    given-next (Between 1 (2 ^ 32)) (begins (codes " turns ")) (literal (codes " turns ") >>= λ _. number_between 1 (2 ^ 32)) (yield 1000000)
    (given-then (literal (codes " turns ")) (λ _. number_between 1 (2 ^ 32)) Any (Between 1 (2 ^ 32)) (any (literal (codes " turns "))) (λ _ _. given-between 1 (2 ^ 32)))
    (given-yield (Between 1 (2 ^ 32)) 1000000 (omega arith, omega arith))

abbrev HasTurns : Written → Type 0
HasTurns written = Between 1 (2 ^ 32) written.turns

abbrev timed : List ℕ → List Argument → ℕ → Form Written
timed word args spent = yield (record { name = word; args = args; turns = spent })

abbrev argued : List ℕ → List Argument → Form Written
argued word args = turns >>= timed word args

abbrev opened : List Global → List ℕ → Unit {0} → Form Written
opened globals word _ = arguments globals >>= argued word

abbrev named : List Global → List ℕ → Form Written
named globals word = literal (codes "(") >>= opened globals word

given-call : (globals : List Global) → Given (call globals) HasTurns
unfolding call
given-call globals =
    given-then name (named globals) Any HasTurns (any name) (λ word _.
    given-then (literal (codes "(")) (opened globals word) Any HasTurns (any (literal (codes "("))) (λ _ _.
    given-then (arguments globals) (argued word) Any HasTurns (any (arguments globals)) (λ args _.
    given-then turns (timed word args) (Between 1 (2 ^ 32)) HasTurns given-turns (λ spent fits. given-yield HasTurns (record { name = word; args = args; turns = spent }) fits))))

ended-by : (b : Bool) (found : Written × List ℕ) (written : Written) → cond b (Some found.0) None ≡ Some written → HasTurns found.0 → HasTurns written
ended-by true found written e has = let same : found.0 ≡ written = cc in rw (← same) has
ended-by false found written e has = absurd cc

whole-by : (globals : List Global) (line : List ℕ) (written : Written) (o : Option (Written × List ℕ)) → (call globals).read line ≡ o → option_and_then if_ended o ≡ Some written → HasTurns written
whole-by globals line written None is e = absurd cc
whole-by globals line written (Some found) is e = ended-by _ found written e (given-call globals line found.0 found.1 is)

-- a call that is written has from 1 to 2^32 turns
pub written-turns : (globals : List Global) (line : List ℕ) (written : Written) → whole (call globals) line ≡ Some written → HasTurns written
written-turns globals line written e = whole-by globals line written ((call globals).read line) refl e
