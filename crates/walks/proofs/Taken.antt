-- The last part of refinement, in the words of jumps that were taken.
use Rattle.std.proofs.Common.{◌≡◌, subst, ℕ, zero, suc, ◌+◌, ◌≤◌, List, ◌∷◌, arith}
use Rattle.ir_meaning.specs.Memory.{Memory}
use Rattle.walks.specs.Walk.{Bits, Reply, Entry, Does, Goes, Asks, Step, Walk, End, play_of}
use Rattle.walks.specs.Refines.{AllReply, RefinesEntry, RefinesPlay}
use Rattle.walks.proofs.Simulate.{Within, Within_on, to_within}

-- from this step the play has taken so many jumps, without ending, where it comes to another step
pub data Taken (S : Type 0) (step : S → Step S) : Step S → List Reply → ℕ → Type 0 where
  none : {st : Step S} {rs : List Reply} → Taken S step st rs 0
  goes : {st : Step S} {rs : List Reply} {j : ℕ} (s : S) → st.does ≡ Goes s → Taken S step (step s) rs j → Taken S step st rs (st.jumps + j)
  answered : {st : Step S} {rs : List Reply} {j : ℕ} (symbol : ℕ) (args : List Bits) (memory : Memory) (next : Reply → S) (r : Reply)
      → st.does ≡ Asks symbol args memory next → Taken S step (step (next r)) rs j → Taken S step st (r ∷ rs) (st.jumps + j)

module _ (S : Type 0) (step : S → Step S) where
  taken_within : {st : Step S} {rs : List Reply} {k : ℕ} → Taken S step st rs k → (n : ℕ) (e : End) (w j : ℕ) → Within S step n st rs e w j → k ≤ j
  taken_within none n e w j x = omega arith
  taken_within (goes s h rest) zero e w j x = absurd x
  taken_within (goes {st = st} {rs = rs} s h rest) (suc n) e w j x =
      let y = subst (λ (d : Does S). Within_on S step (Within S step n) st d rs e w j) h x in
      let low = taken_within rest n e y.0 y.1 y.2 in let same = y.4 in omega (arith, low, same)
  taken_within (answered symbol args memory next r h rest) zero e w j x = absurd x
  taken_within (answered {st = st} {rs = rs} symbol args memory next r h rest) (suc n) e w j x =
      let y = subst (λ (d : Does S). Within_on S step (Within S step n) st d (r ∷ rs) e w j) h x in
      let low = taken_within rest n e y.0 y.1 y.2 in let same = y.4 in omega (arith, low, same)

-- where the first play has taken so many jumps without ending, the second hasn't ended with fewer
pub not_before : (limit : ℕ) (p p' : Walk) → RefinesPlay limit (play_of p) (play_of p') → (a b : Entry) (rs rs' : List Reply) (k : ℕ) (e : End) (w j : ℕ) → RefinesEntry limit a b → AllReply limit rs rs'
    → Taken p.State p.step (p.enter a) rs k → play_of p' b rs' e w j → k ≤ j
not_before limit p p' refines a b rs rs' k e w j entry replies taken ends =
    let r = refines.ended a b rs rs' e w j entry replies ends in
    let y = to_within p.State p.step r.3 in
    let low = taken_within p.State p.step taken y.0 r.0 r.1 r.2 y.1 in
    let top = r.4 in omega (arith, low, top)
