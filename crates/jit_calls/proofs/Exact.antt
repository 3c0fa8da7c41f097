-- A form is read exactly where it stands: what is read is of the form, and what is of the form is read.
use Rattle.std.proofs.Common.{zero, suc, ◌<◌, ◌-◌, get_or, add-zero, length-take, length-drop, length-append, ◌≡◌, ℕ, Bool, true, false, cond, List, [], ◌∷◌, ◌++◌, length, take, drop, Option, Some, None, refl, sym, ap, ◌∙◌, arith}
use Rattle.std.specs.Prelude.{MatchBool, nat_eq}
use Rattle.std.proofs.lemmas.Bool.{eqb-true}
use Rattle.std.specs.Option.{option_and_then, option_map}
use Rattle.std.specs.List.{prefix_len, AllPass}
use Rattle.std.proofs.lemmas.Slice.Eq.{starts_is}
use Rattle.std.proofs.lemmas.Bool.Decides.{Decides-eqb}
use Rattle.jit_calls.specs.Form.{Form, ◌>>=◌, yield, chosen, by_next, nothing, begins, literal, Stops, run, Next, more, stop, after_next, repeat, ends, if_ended, whole}
use Rattle.std.proofs.lemmas.List.{take-append-drop, get_or-take, get_or-drop, get_or-append_right, get_or_append_left, take_at, drop_at}
use Rattle.std.proofs.lemmas.List.Sums.{prefix_len_is, prefix_len_passes, prefix_len_stops}

pub record IsExact {A : Type 0} (f : Form A) : Type 0 where
  pub sound : (text : List ℕ) (v : A) (rest : List ℕ) → f.read text ≡ Some (v, rest) → f.Is text v rest
  pub complete : (text : List ℕ) (v : A) (rest : List ℕ) → f.Is text v rest → f.read text ≡ Some (v, rest)

-- what a step that gave something gave
and_then : {A B : Type 0} (f : A → Option B) (o : Option A) (y : B) → option_and_then f o ≡ Some y → (x : A) × (o ≡ Some x) × (f x ≡ Some y)
and_then f None y e = absurd cc
and_then f (Some x) y e = (x, refl, e)

pub exact-then : {A B : Type 0} (f : Form A) (k : A → Form B) → IsExact f → ((x : A) → IsExact (k x)) → IsExact (f >>= k)
exact-then f k p q = record {
  sound = λ text v rest e.
      let s = and_then (λ x. (k x.0).read x.1) (f.read text) (v, rest) e in
      (s.0.0, s.0.1, p.sound text s.0.0 s.0.1 s.1, (q s.0.0).sound s.0.1 v rest s.2);
  complete = λ text v rest w.
      rw (p.complete text w.0 w.1 w.2) ((q w.0).complete w.1 v rest w.3);
}

-- reading gave this value and this rest
abbrev pub gave : {A : Type 0} → A → List ℕ → Option (A × List ℕ)
gave x rest = Some (x, rest)

pub same_gave : {A : Type 0} (x y : A) (s t : List ℕ) → gave x s ≡ gave y t → (x ≡ y) × (s ≡ t)
same_gave {A = A} x y s t e = let pair : A × List ℕ = (x, s) in let other : A × List ℕ = (y, t) in let p : pair ≡ other = cc in (ap (λ (q : A × List ℕ). q.0) p, ap (λ (q : A × List ℕ). q.1) p)

pub same_rest : {A : Type 0} (x y : A) (s t : List ℕ) → gave x s ≡ gave y t → s ≡ t
same_rest x y s t e = (same_gave x y s t e).1

pub exact-yield : {A : Type 0} (x : A) → IsExact (yield x)
exact-yield x = record {
  sound = λ text v rest e. let s = same_gave x v text rest e in (sym s.0, sym s.1);
  complete = λ text v rest w. cc;
}

chosen_is : {A : Type 0} (o : Option A) (text : List ℕ) (v : A) (rest : List ℕ) → option_map {U = A × List ℕ} (λ v. (v, text)) o ≡ Some (v, rest) → (o ≡ Some v) × (rest ≡ text)
chosen_is None text v rest e = absurd cc
chosen_is (Some x) text v rest e = let s = same_gave x v text rest e in (ap (λ y. Some y) s.0, sym s.1)

pub exact-chosen : {A : Type 0} (o : Option A) → IsExact (chosen o)
exact-chosen o = record {
  sound = λ text v rest e. chosen_is o text v rest e;
  complete = λ text v rest w. rw (w.0, w.1) refl;
}

pub exact-nothing : {A : Type 0} → IsExact (nothing {A = A})
exact-nothing = record {
  sound = λ text v rest e. absurd cc;
  complete = λ text v rest w. absurd w;
}

by_sound : {A : Type 0} (b : Bool) (p q : Type 0) (x y : Option A) (v : A) → (x ≡ Some v → p) → (y ≡ Some v → q) → cond b x y ≡ Some v → MatchBool b p q
by_sound true p q x y v f g e = f e
by_sound false p q x y v f g e = g e

by_complete : {A : Type 0} (b : Bool) (p q : Type 0) (x y : Option A) (v : A) → (p → x ≡ Some v) → (q → y ≡ Some v) → MatchBool b p q → cond b x y ≡ Some v
by_complete true p q x y v f g w = f w
by_complete false p q x y v f g w = g w

pub exact-by_next : {A : Type 0} (test : List ℕ → Bool) (f g : Form A) → IsExact f → IsExact g → IsExact (by_next test f g)
exact-by_next test f g p q = record {
  sound = λ text v rest e. by_sound (test text) (f.Is text v rest) (g.Is text v rest) (f.read text) (g.read text) (v, rest) (p.sound text v rest) (q.sound text v rest) e;
  complete = λ text v rest w. by_complete (test text) (f.Is text v rest) (g.Is text v rest) (f.read text) (g.read text) (v, rest) (p.complete text v rest) (q.complete text v rest) w;
}

found : (b : Bool) (text rest : List ℕ) → cond b (gave {A = Unit {0}} tt text) None ≡ gave tt rest → (b ≡ true) × (text ≡ rest)
found true text rest e = (refl, (same_gave {A = Unit {0}} tt tt text rest e).1)
found false text rest e = absurd cc

pub exact-literal : (bytes : List ℕ) → IsExact (literal bytes)
unfolding literal
exact-literal bytes = record {
  sound = λ text v rest e.
      let f = found (begins bytes text) (drop (length bytes) text) rest e in
      (starts_is Decides-eqb text bytes (begins bytes text) refl).0 f.0 ∙ ap (λ (t : List ℕ). bytes ++ t) f.1;
  complete = λ text v rest w.
      let b : begins bytes text ≡ true = (starts_is Decides-eqb text bytes (begins bytes text) refl).1 rest w in
      let d : drop (length bytes) text ≡ rest = rw w (drop_at bytes rest (length bytes) refl) in
      rw (b, d) refl;
}

-- the run that is read is one, and stops
Stops-from : (test : ℕ → Bool) (rest : List ℕ) → (0 < length rest → test (get_or rest 0 0) ≡ false) → Stops test rest
Stops-from test [] h = tt
Stops-from test (x ∷ rest) h = h (omega arith)

Stops-at : (test : ℕ → Bool) (rest : List ℕ) → Stops test rest → 0 < length rest → test (get_or rest 0 0) ≡ false
Stops-at test [] h lt = absurd (omega arith)
Stops-at test (x ∷ rest) h lt = h

run_passes : (test : ℕ → Bool) (text : List ℕ) → AllPass test (take (prefix_len test text) text)
run_passes test text k d lt =
    let below : k < prefix_len test text = omega (arith, length-take {A = ℕ}) in
    rw (get_or-take (prefix_len test text) text k d below) (prefix_len_passes test text k d below)

run_stops : (test : ℕ → Bool) (text : List ℕ) → Stops test (drop (prefix_len test text) text)
run_stops test text = Stops-from test _ (λ lt.
    let within : prefix_len test text < length text = omega (arith, length-drop {A = ℕ}) in
    rw (get_or-drop, add-zero) (prefix_len_stops test text 0 within))

run_length : (test : ℕ → Bool) (v rest : List ℕ) → AllPass test v → Stops test rest → prefix_len test (v ++ rest) ≡ length v
run_length test v rest all stops = prefix_len_is test (v ++ rest) (length v) 0 (omega (arith, length-append {A = ℕ}))
    (λ k lt. rw (get_or_append_left v rest 0 k lt) (all k 0 lt))
    (λ lt. rw (get_or-append_right v rest (length v) (length v) 0 refl (omega arith)) (let z : length v - length v ≡ 0 = omega arith in rw z (Stops-at test rest stops (omega (arith, length-append {A = ℕ})))))

pub exact-run : (test : ℕ → Bool) → IsExact (run test)
unfolding run
exact-run test = record {
  sound = λ text v rest e.
      let s = same_gave (take (prefix_len test text) text) v (drop (prefix_len test text) text) rest e in
      rw (← s.0, ← s.1) (sym (take-append-drop (prefix_len test text) text), run_passes test text, run_stops test text);
  complete = λ text v rest w.
      let n : prefix_len test text ≡ length v = rw w.0 (run_length test v rest w.1 w.2) in
      rw (n, w.0, take_at v rest (length v) refl, drop_at v rest (length v) refl) refl;
}

exact-after_next : {X Y B : Type 0} (next : Next X Y) (go : X → Form B) (end : Y → Form B) → ((x : X) → IsExact (go x)) → ((y : Y) → IsExact (end y)) → IsExact (after_next next go end)
exact-after_next (more x) go end p q = p x
exact-after_next (stop y) go end p q = q y

pub exact-repeat : {S X Y : Type 0} (item : S → Form (Next X Y)) (add : S → X → S) → ((s : S) → IsExact (item s)) → (steps : ℕ) (s : S) → IsExact (repeat item add steps s)
unfolding repeat
exact-repeat item add p zero s = exact-nothing
exact-repeat item add p (suc steps) s = exact-then (item s) _ (p s) (λ next. exact-after_next next _ _ (λ x. exact-repeat item add p steps (add s x)) (λ y. exact-yield (s, y)))

-- ---- whole texts

some_is : {A : Type 0} (x y : A) → Some x ≡ Some y → x ≡ y
some_is x y e = cc

ended_never : {A : Type 0} (t : Bool) (y v : A) (n : ℕ) → nat_eq (suc n) 0 ≡ t → cond t (Some y) None ≡ Some v → ⊥
ended_never true y v n h e = absurd (omega (arith, eqb-true (suc n) 0 h))
ended_never false y v n h e = absurd cc

ended_at : {A : Type 0} (y : A) (rest : List ℕ) (v : A) → if_ended (y, rest) ≡ Some v → (y ≡ v) × (rest ≡ [])
ended_at y [] v e = (some_is y v e, refl)
ended_at y (b ∷ rest) v e = absurd (ended_never (ends (b ∷ rest)) y v (length rest) refl e)

pub whole_sound : {A : Type 0} (f : Form A) → IsExact f → (text : List ℕ) (v : A) → whole f text ≡ Some v → f.Is text v []
whole_sound f p text v e =
    let s = and_then if_ended (f.read text) v e in
    let t = ended_at s.0.0 s.0.1 v s.2 in
    rw (t.0, t.1) at (p.sound text s.0.0 s.0.1 s.1)

pub whole_complete : {A : Type 0} (f : Form A) → IsExact f → (text : List ℕ) (v : A) → f.Is text v [] → whole f text ≡ Some v
whole_complete f p text v w = rw (p.complete text v [] w) refl

-- what is read of a whole text is what it is
pub whole_same : {A : Type 0} (f : Form A) → IsExact f → (text : List ℕ) (v other : A) → whole f text ≡ Some v → f.Is text other [] → other ≡ v
whole_same f p text v other e w = some_is other v (sym (whole_complete f p text other w) ∙ e)
