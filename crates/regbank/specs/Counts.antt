-- How often registers are read.
use Rattle.std.specs.Prelude.{◌≡◌, ℕ, ◌+◌, ◌<◌, List, [], ◌∷◌, length, min, slice_index_or}
use Rattle.gmir.specs.declared.code.GInst.{GInst}
use Rattle.gmir.specs.declared.code.GFunction.{GFunction}
use Rattle.gmir.specs.Formed.{times}

-- the places in the uses of instructions that name a register: an instruction may name it more than once
abbrev pub uses_in : ℕ → List GInst → ℕ
uses_in r [] = 0
uses_in r (i ∷ is) = times r i.uses + uses_in r is

abbrev pub uses_in_blocks : ℕ → List (List GInst) → ℕ
uses_in_blocks r [] = 0
uses_in_blocks r (b ∷ bs) = uses_in r b + uses_in_blocks r bs

abbrev pub uses_of : GFunction → ℕ → ℕ
uses_of f r = uses_in_blocks r f.blocks

-- for each register so many, or the greatest number of 32 bits where there are more
abbrev pub AreCounts : (ℕ → ℕ) → List ℕ → Type 0
AreCounts n counts = (r : ℕ) → r < length counts → slice_index_or counts r 0 ≡ min (n r) 4294967295

-- so many more are counted of each register
pub record Counts (more : ℕ → ℕ) (old new : List ℕ) : Type 0 where
  pub long : length new ≡ length old
  pub counts : (n : ℕ → ℕ) → AreCounts n old → AreCounts (λ r. n r + more r) new
