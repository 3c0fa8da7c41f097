-- When the play of one function refines that of another.
use Rattle.std.specs.Prelude.{◌≡◌, ℕ, ◌≤◌, Bool, List, [], ◌∷◌, length, slice_index_or, Some, None}
use Rattle.ir_meaning.specs.Memory.{Memory, top}
use Rattle.ir_meaning.specs.Ranges.{IsMemory}
use Rattle.walks.specs.Walk.{Bits, Reply, Entry, End, Calls, Returns, Overflows, Undefined, Play}

-- where a bit isn't free it is the same
abbrev pub RefinesBits : Bits → Bits → Type 0
RefinesBits a b = (i : ℕ) (bit : Bool) → a i ≡ Some bit → b i ≡ Some bit

-- item by item
abbrev pub AllRefine : List Bits → List Bits → Type 0
AllRefine [] [] = Unit {0}
AllRefine [] (b ∷ bs) = ⊥
AllRefine (a ∷ as_) [] = ⊥
AllRefine (a ∷ as_) (b ∷ bs) = RefinesBits a b × AllRefine as_ bs

-- as long, and where a byte isn't poison it is the same
pub record RefinesMemory (a b : Memory) : Type 0 where
  pub long : length b ≡ length a
  pub bytes : (i byte : ℕ) → slice_index_or a i None ≡ Some byte → slice_index_or b i None ≡ Some byte

-- an answer refines another: data memory doesn't pass its end, and the bytes of both are below 256
pub record RefinesReply (limit : ℕ) (a b : Reply) : Type 0 where
  pub value : RefinesBits a.value b.value
  pub memory : RefinesMemory a.memory b.memory
  pub room : top a.memory ≤ limit
  pub bytes : IsMemory a.memory
  pub bytes' : IsMemory b.memory

abbrev pub AllReply : ℕ → List Reply → List Reply → Type 0
AllReply limit [] [] = Unit {0}
AllReply limit [] (b ∷ bs) = ⊥
AllReply limit (a ∷ as_) [] = ⊥
AllReply limit (a ∷ as_) (b ∷ bs) = RefinesReply limit a b × AllReply limit as_ bs

-- what one is entered with refines what the other is entered with, at the same stack pointer: data memory doesn't pass its end, and the
-- bytes of both are below 256
pub record RefinesEntry (limit : ℕ) (a b : Entry) : Type 0 where
  pub args : AllRefine a.args b.args
  pub memory : RefinesMemory a.memory b.memory
  pub room : top a.memory ≤ limit
  pub bytes : IsMemory a.memory
  pub bytes' : IsMemory b.memory
  pub sp : b.sp ≡ a.sp

-- an end that is a call, a return or a want of stack is refined by one of its kind; what is undefined, by any
abbrev pub RefinesEnd : End → End → Type 0
RefinesEnd (Calls symbol args memory) (Calls symbol' args' memory') = (symbol' ≡ symbol) × AllRefine args args' × RefinesMemory memory memory'
RefinesEnd (Returns value memory) (Returns value' memory') = RefinesBits value value' × RefinesMemory memory memory'
RefinesEnd Overflows Overflows = Unit {0}
RefinesEnd Undefined e = Unit {0}
RefinesEnd _ _ = ⊥

-- an end that says something
abbrev pub IsDefined : End → Type 0
IsDefined Undefined = ⊥
IsDefined _ = Unit {0}

-- The play g refines the play f, where data memory ends at the limit: to each end of f that isn't undefined g comes too, with at most its weight; and where g comes to
-- an end, f does, with at most as many jumps.
pub record RefinesPlay (limit : ℕ) (f g : Play) : Type 0 where
  pub ends : (a b : Entry) (rs rs' : List Reply) (e : End) (w j : ℕ) → RefinesEntry limit a b → AllReply limit rs rs' → IsDefined e → f a rs e w j
      → (e' : End) × (w' : ℕ) × (j' : ℕ) × g b rs' e' w' j' × RefinesEnd e e' × (w' ≤ w)
  pub ended : (a b : Entry) (rs rs' : List Reply) (e' : End) (w' j' : ℕ) → RefinesEntry limit a b → AllReply limit rs rs' → g b rs' e' w' j'
      → (e : End) × (w : ℕ) × (j : ℕ) × f a rs e w j × (j ≤ j')
