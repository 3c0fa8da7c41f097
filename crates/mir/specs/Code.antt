-- What an instruction reads and writes, where it goes, and which instruction comes next.
use Rattle.std.specs.Prelude.{◌≡◌, ℕ, zero, suc, ◌+◌, Bool, true, false, List, [], ◌∷◌, length, map, slice_get, slice_index_or, Option, Some}
use Rattle.std.specs.List.{Contains}
use Rattle.mir.specs.declared.code.MInst.{MInst}
use Rattle.mir.specs.declared.code.MInst.TheVariants.{Param, Op, Imm, Const, Move, Load, Store, Phi, Call, TakeData, CopyBytes, FillBytes, Branch, Jump, Return, Trap}
use Rattle.mir.specs.declared.code.MFunction.{MFunction}

-- the registers that an instruction reads, in order; a phi reads those of its pairs
abbrev pub reads : MInst → List ℕ
reads (Op op d a b) = a ∷ b ∷ []
reads (Imm op d a n) = a ∷ []
reads (Move d a) = a ∷ []
reads (Load op d a n) = a ∷ []
reads (Store op a b n) = a ∷ b ∷ []
reads (Phi d pairs) = map (λ pair. pair.0) pairs
reads (Call g args results) = args
reads (CopyBytes a b n) = a ∷ b ∷ n ∷ []
reads (FillBytes a b n) = a ∷ b ∷ n ∷ []
reads (Branch op a b t e) = a ∷ b ∷ []
reads (Return rs) = rs
reads _ = []

-- the registers that an instruction writes
abbrev pub writes : MInst → List ℕ
writes (Param d n) = d ∷ []
writes (Op op d a b) = d ∷ []
writes (Imm op d a n) = d ∷ []
writes (Const d n) = d ∷ []
writes (Move d a) = d ∷ []
writes (Load op d a n) = d ∷ []
writes (Phi d pairs) = d ∷ []
writes (Call g args results) = results
writes (TakeData d n) = d ∷ []
writes _ = []

-- the blocks that an instruction goes to
abbrev pub targets : MInst → List ℕ
targets (Branch op a b t e) = t ∷ e ∷ []
targets (Jump t) = t ∷ []
targets _ = []

-- the instructions that end a block
abbrev pub ends_block : MInst → Bool
ends_block (Branch op a b t e) = true
ends_block (Jump t) = true
ends_block (Return rs) = true
ends_block Trap = true
ends_block _ = false

abbrev pub block_of : MFunction → ℕ → List MInst
block_of f block = slice_index_or f.blocks block []

-- the instruction at a place of a block
abbrev pub inst_at : MFunction → ℕ → ℕ → Option MInst
inst_at f block place = slice_get (block_of f block) place

-- how many instructions stand in the first so many blocks
abbrev pub count_before : List (List MInst) → ℕ → ℕ
count_before blocks zero = 0
count_before [] (suc block) = 0
count_before (b ∷ bs) (suc block) = length b + count_before bs block

-- instructions are numbered over the whole function in order of blocks
abbrev pub number_of : MFunction → ℕ → ℕ → ℕ
number_of f block place = count_before f.blocks block + place

-- the instruction at a place of a block may be followed by that at a place of a block
pub data Follows (f : MFunction) (block place : ℕ) : ℕ → ℕ → Type 0 where
  next : (inst : MInst) → inst_at f block place ≡ Some inst → ends_block inst ≡ false → Follows f block place block (place + 1)
  jump : (inst : MInst) (to : ℕ) → inst_at f block place ≡ Some inst → Contains (targets inst) to → Follows f block place to 0
