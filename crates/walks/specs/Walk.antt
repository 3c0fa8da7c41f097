-- Activations that go on step by step over bits. Each step has a weight, and a number of jumps: edges taken and bytes moved.
use Rattle.std.specs.Prelude.{◌≡◌, ℕ, ◌+◌, Bool, List, [], ◌∷◌, Option}
use Rattle.ir_meaning.specs.Memory.{Memory}

-- a value by the places of its bits: each is 0, 1 or free
abbrev pub Bits : Type 0
Bits = ℕ → Option Bool

-- the answer to a call
pub record Reply : Type 0 where
  pub value : Bits
  pub memory : Memory

-- what an activation is entered with
pub record Entry : Type 0 where
  pub args : List Bits
  pub memory : Memory
  pub sp : ℕ

-- what a step leads to: it goes on, asks for the answer to a call, answers, wants stack, or nothing says what comes
pub data Does (S : Type 0) : Type 0 where
  Goes : (next : S) → Does S
  Asks : (symbol : ℕ) (args : List Bits) (memory : Memory) (next : Reply → S) → Does S
  Gives : (value : Bits) (memory : Memory) → Does S
  Wants : Does S
  Breaks : Does S

pub record Step (S : Type 0) : Type 0 where
  pub weight : ℕ
  pub jumps : ℕ
  pub does : Does S

-- how an activation is entered, and how it goes on
pub record Walk : Type 1 where
  pub State : Type 0
  pub enter : Entry → Step State
  pub step : State → Step State

-- how the play of an activation ends
pub data End : Type 0 where
  Calls : (symbol : ℕ) (args : List Bits) (memory : Memory) → End
  Returns : (value : Bits) (memory : Memory) → End
  Overflows : End
  Undefined : End

-- From this step on, with these replies to its calls, the play comes to this end, with this weight and this many jumps.
pub data Ends (S : Type 0) (step : S → Step S) : Step S → List Reply → End → ℕ → ℕ → Type 0 where
  returns : {st : Step S} {rs : List Reply} (value : Bits) (memory : Memory) → st.does ≡ Gives value memory
      → Ends S step st rs (Returns value memory) st.weight st.jumps
  overflows : {st : Step S} {rs : List Reply} → st.does ≡ Wants → Ends S step st rs Overflows st.weight st.jumps
  breaks : {st : Step S} {rs : List Reply} → st.does ≡ Breaks → Ends S step st rs Undefined st.weight st.jumps
  calls : {st : Step S} (symbol : ℕ) (args : List Bits) (memory : Memory) (next : Reply → S) → st.does ≡ Asks symbol args memory next
      → Ends S step st [] (Calls symbol args memory) st.weight st.jumps
  goes : {st : Step S} {rs : List Reply} {e : End} {w j : ℕ} (s : S) → st.does ≡ Goes s
      → Ends S step (step s) rs e w j → Ends S step st rs e (st.weight + w) (st.jumps + j)
  answered : {st : Step S} {rs : List Reply} {e : End} {w j : ℕ} (symbol : ℕ) (args : List Bits) (memory : Memory) (next : Reply → S) (r : Reply)
      → st.does ≡ Asks symbol args memory next
      → Ends S step (step (next r)) rs e w j → Ends S step st (r ∷ rs) e (st.weight + w) (st.jumps + j)

-- a play, by what it comes to: from this entry and with these replies, to this end, with this weight and this many jumps
abbrev pub Play : Type 1
Play = Entry → List Reply → End → ℕ → ℕ → Type 0

-- the play of a walk
abbrev pub play_of : Walk → Play
play_of p entry rs e w j = Ends p.State p.step (p.enter entry) rs e w j
