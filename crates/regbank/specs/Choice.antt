-- Which constants stay in a register: where the words that load them there, and one more for the register, are no more than the words
-- that load them at each use.
use Rattle.std.specs.Prelude.{◌≡◌, ℕ, ◌+◌, ◌*◌, ◌%◌, ◌^◌, ◌<◌, Bool, true, false, nat_le, List, [], ◌∷◌, ◌++◌, slice_get, Some, IsTrue, if◌then◌else◌}
use Rattle.gmir.specs.declared.code.GOp.{GOp}
use Rattle.gmir.specs.declared.code.GOp.TheVariants.{Constant}
use Rattle.gmir.specs.declared.code.GInst.{GInst}
use Rattle.gmir.specs.declared.code.GFunction.{GFunction}
use Rattle.gmir.specs.Play.{def_at}
use Rattle.rj_num.specs.Constant.{words_of_constant}
use Rattle.regbank.specs.Counts.{uses_of}

abbrev pub is_constant : GOp → Bool
is_constant Constant = true
is_constant _ = false

-- a constant of so many words with so many uses: kept on a tie
abbrev pub is_kept : ℕ → ℕ → Bool
is_kept words uses = nat_le (words + 1) (uses * words)

-- the words of an instruction's constant, read as a number of 64 bits
abbrev pub words_of : GInst → ℕ
words_of i = words_of_constant (i.num % 2 ^ 64)

-- one item for each constant, in order of text; `uses` says how often a register is read
abbrev pub choices : (ℕ → ℕ) → List GInst → List Bool
choices uses [] = []
choices uses (i ∷ is) = if is_constant i.op then is_kept (words_of i) (uses (def_at i 0)) ∷ choices uses is else choices uses is

abbrev pub block_choices : (ℕ → ℕ) → List (List GInst) → List Bool
block_choices uses [] = []
block_choices uses (b ∷ bs) = choices uses b ++ block_choices uses bs

abbrev pub kept_of : GFunction → List Bool
kept_of f = block_choices (uses_of f) f.blocks

-- each constant of these is written to a register below the bound
abbrev pub WritesBelow : ℕ → List GInst → Type 0
WritesBelow bound insts = (k : ℕ) (i : GInst) → slice_get insts k ≡ Some i → IsTrue (is_constant i.op) → def_at i 0 < bound
