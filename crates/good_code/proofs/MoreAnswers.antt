-- A run of words that isn't at a call is the same with more answers, and one that has ended stays as it is.
use Rattle.std.proofs.Common.{◌≡◌, refl, sym, subst, ◌∙◌, ℕ, zero, suc, ◌+◌, ◌-◌, ◌≤◌, Bool, true, false, List, [], ◌∷◌, ◌++◌, ◌⊎◌, inl, inr, arith}
use Rattle.std.specs.Prelude.{if◌then◌else◌, nat_lt}
use Rattle.ir_meaning.specs.Plays.{Meaning}
use Rattle.rv_play.specs.Machine.{Machine}
use Rattle.rv_play.specs.CodePlay.{Place, Point, CodeEnd, Running, Calls, Returns, Overflows, Fault, CodeReply, resume, code_step, code_run, go_on, code_play, place_of, entered}
use Rattle.rv_play.specs.Good.{IsRunning}

abbrev pub IsCall : CodeEnd → Type 0
IsCall (Running p) = ⊥
IsCall (Calls g p) = Unit {0}
IsCall (Returns p) = ⊥
IsCall (Overflows p) = ⊥
IsCall (Fault p) = ⊥

-- the first is at a call, or the second is the same
abbrev pub CallsOrStays : CodeEnd → CodeEnd → Type 0
CallsOrStays e e' = IsCall e ⊎ (e' ≡ e)

-- the first runs, or the second is the same
abbrev pub RunsOrStays : CodeEnd → CodeEnd → Type 0
RunsOrStays e e' = IsRunning e ⊎ (e' ≡ e)

module _ (m : Meaning) (place : Place) (more : List CodeReply) where
  go-stays : (n : ℕ) → ((p : Point) (rs : List CodeReply) → CallsOrStays (code_run m place n p rs) (code_run m place n p (rs ++ more))) → (rs : List CodeReply) (e : CodeEnd)
      → CallsOrStays (go_on (code_run m place n) rs e) (go_on (code_run m place n) (rs ++ more) e)
  go-stays n ih rs (Running p) = ih p rs
  go-stays n ih [] (Calls g p) = inl tt
  go-stays n ih (r ∷ rs) (Calls g p) = ih (resume p r) rs
  go-stays n ih rs (Returns p) = inr refl
  go-stays n ih rs (Overflows p) = inr refl
  go-stays n ih rs (Fault p) = inr refl

  pub run-stays : (n : ℕ) (p : Point) (rs : List CodeReply) → CallsOrStays (code_run m place n p rs) (code_run m place n p (rs ++ more))
  run-stays zero p rs = inr refl
  run-stays (suc n) p rs = go-stays n (run-stays n) rs (code_step m place p)

module _ (m : Meaning) (place : Place) where
  go-settles : (n k : ℕ) → ((p : Point) (rs : List CodeReply) → RunsOrStays (code_run m place n p rs) (code_run m place (n + k) p rs)) → (rs : List CodeReply) (e : CodeEnd)
      → RunsOrStays (go_on (code_run m place n) rs e) (go_on (code_run m place (n + k)) rs e)
  go-settles n k ih rs (Running p) = ih p rs
  go-settles n k ih [] (Calls g p) = inr refl
  go-settles n k ih (r ∷ rs) (Calls g p) = ih (resume p r) rs
  go-settles n k ih rs (Returns p) = inr refl
  go-settles n k ih rs (Overflows p) = inr refl
  go-settles n k ih rs (Fault p) = inr refl

  pub run-settles : (n k : ℕ) (p : Point) (rs : List CodeReply) → RunsOrStays (code_run m place n p rs) (code_run m place (n + k) p rs)
  run-settles zero k p rs = inl tt
  run-settles (suc n) k p rs =
      let count : suc n + k ≡ suc (n + k) = omega arith in
      subst (λ (z : ℕ). RunsOrStays (code_run m place (suc n) p rs) (code_run m place z p rs)) (sym count) (go-settles n k (run-settles n k) rs (code_step m place p))

-- the three steps of the stub come first
abbrev pub behind_stub : Meaning → List ℕ → ℕ → Machine → List CodeReply → ℕ → Bool → CodeEnd
behind_stub m words base s rs n short =
    if short then Running (record { machine = s; counted = []; steps = n }) else code_run m (place_of words base s) (n - 3) (entered base s) rs

-- more answers change a run of words at calls alone
pub more_answers : (m : Meaning) (words : List ℕ) (base : ℕ) (s : Machine) (rs more : List CodeReply) (n : ℕ)
    → CallsOrStays (code_play m words base s rs n) (code_play m words base s (rs ++ more) n)
more_answers m words base s rs more n = by_test (nat_lt n 3)
  where
    by_test : (short : Bool) → CallsOrStays (behind_stub m words base s rs n short) (behind_stub m words base s (rs ++ more) n short)
    by_test true = inr refl
    by_test false = run-stays m (place_of words base s) more (n - 3) (entered base s) rs

settles_by : (m : Meaning) (words : List ℕ) (base : ℕ) (s : Machine) (rs : List CodeReply) (n n' : ℕ) → n ≤ n' → (b : Bool) → nat_lt n 3 ≡ b → (b' : Bool) → nat_lt n' 3 ≡ b'
    → RunsOrStays (behind_stub m words base s rs n b) (behind_stub m words base s rs n' b')
settles_by m words base s rs n n' le true e b' e' = inl tt
settles_by m words base s rs n n' le false e true e' = absurd (let bad : ⊥ = grind arith in bad)
settles_by m words base s rs n n' le false e false e' =
    let high : 3 ≤ n = grind arith in
    let count : (n - 3) + (n' - n) ≡ n' - 3 = omega arith in
    subst (λ (z : ℕ). RunsOrStays (code_run m (place_of words base s) (n - 3) (entered base s) rs) (code_run m (place_of words base s) z (entered base s) rs))
    count (run-settles m (place_of words base s) (n - 3) (n' - n) (entered base s) rs)

-- more steps change a run of words that runs alone
pub more_steps : (m : Meaning) (words : List ℕ) (base : ℕ) (s : Machine) (rs : List CodeReply) (n n' : ℕ) → n ≤ n'
    → RunsOrStays (code_play m words base s rs n) (code_play m words base s rs n')
more_steps m words base s rs n n' le = settles_by m words base s rs n n' le (nat_lt n 3) refl (nat_lt n' 3) refl

-- where its end is known at some steps, it is the same at more
pub settled : (m : Meaning) (words : List ℕ) (base : ℕ) (s : Machine) (rs : List CodeReply) (n n' : ℕ) (e : CodeEnd) → n ≤ n' → code_play m words base s rs n ≡ e
    → (IsRunning e → ⊥) → code_play m words base s rs n' ≡ e
settled m words base s rs n n' e le h over = by_cases (more_steps m words base s rs n n' le)
  where
    by_cases : RunsOrStays (code_play m words base s rs n) (code_play m words base s rs n') → code_play m words base s rs n' ≡ e
    by_cases (inl running) = absurd (over (subst IsRunning h running))
    by_cases (inr same) = same ∙ h
