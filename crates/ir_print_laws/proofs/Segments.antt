-- Lists of a form some turns at a time, and blanks before a form.
use Rattle.std.proofs.Common.{◌≡◌, ℕ, zero, suc, ◌+◌, ◌-◌, ◌<◌, Bool, true, false, List, ◌∷◌, Option, refl, sym, ◌∙◌, subst, arith}
use Rattle.std.specs.Prelude.{MatchBool}
use Rattle.ir_text.specs.Token.{Token, is_blank, token_at, behind_blanks}
use Rattle.ir_text.specs.Form.{Form, ◌>>=◌, place, taken, by_token, by_two, by_flag, left_at, turns, repeat, most_turns}

-- ---- turns

-- so many turns lead from a state at one text to a state at another, whatever comes behind
abbrev pub Seg : {S : Type 0} → (S → Form (Bool × S)) → ℕ → S → List ℕ → S → List ℕ → Type 0
Seg {S = S} turn n s t u r = (k : ℕ) (v : S) (q : List ℕ) → (turns turn k u).Is r v q → (turns turn (k + n) s).Is t v q

one_more : {S : Type 0} (turn : S → Form (Bool × S)) (s u : S) (t r : List ℕ) (k : ℕ) (v : S) (q : List ℕ) → (turn s).Is t (true, u) r → (turns turn k u).Is r v q → (turns turn (suc k) s).Is t v q
unfolding turns
one_more turn s u t r k v q h w = ((true, u), r, h, w)

pub one_turn : {S : Type 0} (turn : S → Form (Bool × S)) (s u : S) (t r : List ℕ) → (turn s).Is t (true, u) r → Seg turn 1 s t u r
one_turn turn s u t r h = λ k v q w.
    let e : suc k ≡ k + 1 = omega arith in
    subst (λ (i : ℕ). (turns turn i s).Is t v q) e (one_more turn s u t r k v q h w)

pub no_turn : {S : Type 0} (turn : S → Form (Bool × S)) (s : S) (t : List ℕ) → Seg turn 0 s t s t
no_turn turn s t = λ k v q w.
    let e : k ≡ k + 0 = omega arith in
    subst (λ (i : ℕ). (turns turn i s).Is t v q) e w

pub then_turns : {S : Type 0} (turn : S → Form (Bool × S)) (n m : ℕ) (s u v : S) (t r q : List ℕ) → Seg turn n s t u r → Seg turn m u r v q → Seg turn (n + m) s t v q
then_turns turn n m s u v t r q f g = λ k x p w.
    let e : k + m + n ≡ k + (n + m) = omega arith in
    subst (λ (i : ℕ). (turns turn i s).Is t x p) e (f (k + m) x p (g k x p w))

last_turn : {S : Type 0} (turn : S → Form (Bool × S)) (k : ℕ) (u v : S) (r : List ℕ) → (turn u).Is r (false, v) r → (turns turn (suc k) u).Is r v r
unfolding turns
last_turn turn k u v r h = ((false, v), r, h, (refl, refl))

turns_left : (n most : ℕ) → n < most → suc (most - n - 1) + n ≡ most
turns_left n most lt = omega (arith, lt)

-- a list whose turns are fewer than the most
pub all_turns : {S : Type 0} (turn : S → Form (Bool × S)) (n : ℕ) (s u v : S) (t r : List ℕ) → n < most_turns → Seg turn n s t u r → (turn u).Is r (false, v) r → (repeat turn s).Is t v r
all_turns turn n s u v t r lt f h =
    let k = most_turns - n - 1 in
    subst (λ (i : ℕ). (turns turn i s).Is t v r) (turns_left n most_turns lt) (f (suc k) v r (last_turn turn k u v r h))

-- ---- blanks

-- a form that reads the same behind a blank
pub record IsBlind {A : Type 0} (f : Form A) : Type 0 where
  pub skips : (b : ℕ) → is_blank b ≡ true → (t : List ℕ) (v : A) (r : List ℕ) → f.Is t v r → f.Is (b ∷ t) v r

pub token_skips : (b : ℕ) (t : List ℕ) → is_blank b ≡ true → token_at (b ∷ t) ≡ token_at t
unfolding token_at behind_blanks
token_skips b t e = rw e refl

left_skips : (b : ℕ) (t : List ℕ) → is_blank b ≡ true → left_at (b ∷ t) ≡ left_at t
unfolding behind_blanks
left_skips b t e = rw e refl

pub blind-then : {A B : Type 0} (f : Form A) (k : A → Form B) → IsBlind f → IsBlind (f >>= k)
blind-then f k p = record { skips = λ b e t v r w. (w.0, w.1, p.skips b e t w.0 w.1 w.2, w.3) }

pub blind-place : {B : Type 0} (k : ℕ → Form B) → ((left : ℕ) → IsBlind (k left)) → IsBlind (place >>= k)
blind-place k p = record { skips = λ b e t v r w. (w.0, b ∷ t, (w.2.0 ∙ sym (left_skips b t e), refl), (p w.0).skips b e t v r (subst (λ (m : List ℕ). (k w.0).Is m v r) w.2.1 w.3)) }

pub blind-taken : {A : Type 0} (value : Token → Option A) → IsBlind (taken value)
blind-taken value = record { skips = λ b e t v r w. rw (token_skips b t e) w }

either_blind : (c : Bool) (p q x y : Type 0) → (p → x) → (q → y) → MatchBool c p q → MatchBool c x y
either_blind true p q x y f g w = f w
either_blind false p q x y f g w = g w

pub blind-by_token : {A : Type 0} (test : Token → Bool) (f g : Form A) → IsBlind f → IsBlind g → IsBlind (by_token test f g)
blind-by_token test f g p q = record { skips = λ b e t v r w. rw (token_skips b t e) (either_blind (test (token_at t).0) _ _ _ _ (p.skips b e t v r) (q.skips b e t v r) w) }

pub blind-by_two : {A : Type 0} (test : Token → Token → Bool) (f g : Form A) → IsBlind f → IsBlind g → IsBlind (by_two test f g)
blind-by_two test f g p q = record { skips = λ b e t v r w. rw (token_skips b t e) (either_blind (test (token_at t).0 (token_at (token_at t).1).0) _ _ _ _ (p.skips b e t v r) (q.skips b e t v r) w) }

pub blind-by_flag : {A : Type 0} (flag : Bool) (f g : Form A) → IsBlind f → IsBlind g → IsBlind (by_flag flag f g)
blind-by_flag flag f g p q = record { skips = λ b e t v r w. either_blind flag _ _ _ _ (p.skips b e t v r) (q.skips b e t v r) w }

blind-turns : {S : Type 0} (turn : S → Form (Bool × S)) (s : S) → IsBlind (turn s) → (k b : ℕ) → is_blank b ≡ true → (t : List ℕ) (v : S) (r : List ℕ) → (turns turn k s).Is t v r → (turns turn k s).Is (b ∷ t) v r
unfolding turns
blind-turns turn s p zero b e t v r w = absurd w
blind-turns turn s p (suc k) b e t v r w = (w.0, w.1, p.skips b e t w.0 w.1 w.2, w.3)

pub blind-repeat : {S : Type 0} (turn : S → Form (Bool × S)) (s : S) → IsBlind (turn s) → IsBlind (repeat turn s)
blind-repeat turn s p = record { skips = λ b e t v r w. blind-turns turn s p most_turns b e t v r w }

-- the first of some turns may stand behind a blank
pub blind_seg : {S : Type 0} (turn : S → Form (Bool × S)) (n b : ℕ) (s u : S) (t r : List ℕ) → is_blank b ≡ true → IsBlind (turn s) → Seg turn n s t u r → Seg turn n s (b ∷ t) u r
blind_seg turn n b s u t r e p f = λ k v q w. blind-turns turn s p (k + n) b e t v q (f k v q w)

pub ruleset blind_forms = (blind-then, blind-place, blind-taken, blind-by_token, blind-by_two, blind-by_flag, blind-repeat)
