-- When the steps of one walk follow those of another.
use Rattle.std.specs.Prelude.{◌≡◌, ℕ, ◌+◌, ◌<◌, ◌≤◌, List}
use Rattle.ir_meaning.specs.Memory.{Memory}
use Rattle.walks.specs.Walk.{Bits, Reply, Entry, Does, Goes, Asks, Gives, Wants, Breaks, Step, Walk}
use Rattle.walks.specs.Refines.{RefinesBits, AllRefine, RefinesMemory, RefinesReply, RefinesEntry}

-- from this step some steps go on to another step, with this weight and this many jumps before it
pub data Chain (S : Type 0) (step : S → Step S) : Step S → Step S → ℕ → ℕ → Type 0 where
  here : {st : Step S} → Chain S step st st 0 0
  further : {st st' : Step S} {w j : ℕ} (s : S) → st.does ≡ Goes s → Chain S step (step s) st' w j → Chain S step st st' (st.weight + w) (st.jumps + j)

module _ (limit : ℕ) (S S' : Type 0) (step' : S' → Step S') (R : S → S' → Type 0) (measure : S → ℕ) where
  -- How a step of the second walk answers one of the first, from a state of the first with this measure (for steps that wait). It may be
  -- the first step of a chain.
  pub data Follows (m : ℕ) : Step S → Step S' → Type 0 where
    -- the second goes on too, by one step or more
    moves : {st : Step S} {st' : Step S'} {before : Step S'} {w j : ℕ} (s : S) (s' : S') → st.does ≡ Goes s
        → Chain S' step' st' before w j → before.does ≡ Goes s' → R s s'
        → w + before.weight ≤ st.weight → st.jumps ≤ j + before.jumps → Follows m st st'
    -- the second waits, and the first goes on to a state of a lower measure, without a jump
    waits : {st : Step S} {st' : Step S'} (s : S) (s' : S') → st.does ≡ Goes s → st' ≡ step' s' → R s s' → measure s < m → st.jumps ≡ 0
        → Follows m st st'
    asks : {st : Step S} {st' : Step S'} {before : Step S'} {w j : ℕ} (symbol : ℕ) (args args' : List Bits) (memory memory' : Memory)
        (next : Reply → S) (next' : Reply → S') → st.does ≡ Asks symbol args memory next
        → Chain S' step' st' before w j → before.does ≡ Asks symbol args' memory' next'
        → AllRefine args args' → RefinesMemory memory memory'
        → ((r r' : Reply) → RefinesReply limit r r' → R (next r) (next' r'))
        → w + before.weight ≤ st.weight → st.jumps ≤ j + before.jumps → Follows m st st'
    gives : {st : Step S} {st' : Step S'} {before : Step S'} {w j : ℕ} (value value' : Bits) (memory memory' : Memory)
        → st.does ≡ Gives value memory → Chain S' step' st' before w j → before.does ≡ Gives value' memory'
        → RefinesBits value value' → RefinesMemory memory memory'
        → w + before.weight ≤ st.weight → st.jumps ≤ j + before.jumps → Follows m st st'
    wants : {st : Step S} {st' : Step S'} {before : Step S'} {w j : ℕ} → st.does ≡ Wants → Chain S' step' st' before w j
        → before.does ≡ Wants → w + before.weight ≤ st.weight → st.jumps ≤ j + before.jumps → Follows m st st'
    -- nothing is asked where the first is undefined
    breaks : {st : Step S} {st' : Step S'} → st.does ≡ Breaks → st.jumps ≡ 0 → Follows m st st'

-- a relation of states that the steps keep
pub record Simulation (limit : ℕ) (p p' : Walk) (R : p.State → p'.State → Type 0) (measure : p.State → ℕ) : Type 0 where
  pub enters : (a b : Entry) → RefinesEntry limit a b → (m : ℕ) × Follows limit p.State p'.State p'.step R measure m (p.enter a) (p'.enter b)
  pub steps : (s : p.State) (s' : p'.State) → R s s' → Follows limit p.State p'.State p'.step R measure (measure s) (p.step s) (p'.step s')

-- a fact on states that a step keeps
abbrev pub KeptBy : (S : Type 0) → (S → Type 0) → Does S → Type 0
KeptBy S P (Goes s) = P s
KeptBy S P (Asks symbol args memory next) = (r : Reply) → P (next r)
KeptBy S P (Gives value memory) = Unit {0}
KeptBy S P Wants = Unit {0}
KeptBy S P Breaks = Unit {0}
