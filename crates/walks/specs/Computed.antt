-- What a play comes to, computed.
use Rattle.std.specs.Prelude.{ℕ, zero, suc, ◌+◌, List, [], ◌∷◌, Option, Some, None}
use Rattle.walks.specs.Walk.{Reply, Entry, Does, Goes, Asks, Gives, Wants, Breaks, Step, Walk, End, Calls, Returns, Overflows, Undefined}

-- an end, with its weight and its jumps
abbrev pub Ended : Type 0
Ended = End × ℕ × ℕ

module _ (S : Type 0) (step : S → Step S) where
  -- behind a step
  abbrev pub behind : Step S → Option Ended → Option Ended
  behind st None = None
  behind st (Some (e, w, j)) = Some (e, st.weight + w, st.jumps + j)

  abbrev pub ended_at : (Step S → List Reply → Option Ended) → Step S → Does S → List Reply → Option Ended
  ended_at rest st (Goes s) rs = behind st (rest (step s) rs)
  ended_at rest st (Asks symbol args memory next) [] = Some (Calls symbol args memory, st.weight, st.jumps)
  ended_at rest st (Asks symbol args memory next) (r ∷ rs) = behind st (rest (step (next r)) rs)
  ended_at rest st (Gives value memory) rs = Some (Returns value memory, st.weight, st.jumps)
  ended_at rest st Wants rs = Some (Overflows, st.weight, st.jumps)
  ended_at rest st Breaks rs = Some (Undefined, st.weight, st.jumps)

  -- from this step on, where it ends within so many steps
  abbrev pub ended_within : ℕ → Step S → List Reply → Option Ended
  ended_within zero st rs = None
  ended_within (suc n) st rs = ended_at (ended_within n) st st.does rs

-- from this entry, with these replies, within so many steps
abbrev pub computed : Walk → Entry → List Reply → ℕ → Option Ended
computed p entry rs n = ended_within p.State p.step n (p.enter entry) rs
