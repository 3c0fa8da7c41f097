-- Which functions are well formed.
use Rattle.std.specs.Prelude.{◌≡◌, ◌≢◌, ℕ, ◌+◌, ◌<◌, ◌≤◌, ◌↔◌, Bool, true, false, List, [], ◌∷◌, length, map, slice_index, Some}
use Rattle.std.specs.List.{Contains}
use Rattle.rv_core.specs.Instr.{Fits12, IsImmediate}
use Rattle.mir.specs.declared.code.MInst.{MInst}
use Rattle.mir.specs.declared.code.MInst.TheVariants.{Param, Imm, Load, Store, Phi, Call, TakeData, Return}
use Rattle.mir.specs.declared.code.MFunction.{MFunction}
use Rattle.mir.specs.Code.{reads, writes, targets, ends_block, block_of, inst_at}

-- immediates and offsets fit their formats, and an argument's place, a callee and counts of registers are within their ranges
abbrev pub HasRanges : MInst → Type 0
HasRanges (Param d n) = n < 8
HasRanges (Imm op d a n) = IsImmediate op n
HasRanges (Load op d a n) = Fits12 n
HasRanges (Store op a b n) = Fits12 n
HasRanges (Call g args results) = (g < 1024) × (length args ≤ 8) × (length results ≤ 1)
HasRanges (Return rs) = length rs ≤ 1
HasRanges _ = Unit {0}

abbrev pub is_param : MInst → Bool
is_param (Param d n) = true
is_param _ = false

abbrev pub is_phi : MInst → Bool
is_phi (Phi d pairs) = true
is_phi _ = false

abbrev pub takes_data : MInst → Bool
takes_data (TakeData d n) = true
takes_data _ = false

-- the blocks that a phi's pairs name
abbrev pub sources : MInst → List ℕ
sources (Phi d pairs) = map (λ pair. pair.1) pairs
sources _ = []

-- an instruction of the one block goes to the other
abbrev pub Leads : MFunction → ℕ → ℕ → Type 0
Leads f from to = (place : ℕ) × (inst : MInst) × (inst_at f from place ≡ Some inst) × Contains (targets inst) to

-- each instruction before the place passes the test
abbrev pub AllBefore : MFunction → ℕ → ℕ → (MInst → Bool) → Type 0
AllBefore f block place test = (earlier : ℕ) (inst : MInst) → earlier < place → inst_at f block earlier ≡ Some inst → test inst ≡ true

-- what is asked of the instruction at a place of a block
pub record IsWellPlaced (f : MFunction) (block place : ℕ) (inst : MInst) : Type 0 where
  pub ranges : HasRanges inst
  pub reads_exist : (r : ℕ) → Contains (reads inst) r → r < f.regs
  pub writes_exist : (r : ℕ) → Contains (writes inst) r → r < f.regs
  pub targets_exist : (to : ℕ) → Contains (targets inst) to → (0 < to) × (to < length f.blocks)
  pub ends : (ends_block inst ≡ true) ↔ (place + 1 ≡ length (block_of f block))
  pub params : is_param inst ≡ true → (block ≡ 0) × AllBefore f block place is_param
  pub data_taken : takes_data inst ≡ true → block ≡ 0
  pub phis : is_phi inst ≡ true → (0 < block) × AllBefore f block place is_phi
  pub phi_sources : is_phi inst ≡ true → (from : ℕ) → Contains (sources inst) from ↔ Leads f from block
  pub phi_once : (j k : ℕ) → j < k → k < length (sources inst) → slice_index (sources inst) j ≢ slice_index (sources inst) k

-- each register and block that is named exists, and immediates fit; each block ends by a branch, jump, return or trap and has no other of
-- these; none goes to block 0; no phi stands in block 0 or behind an instruction that isn't one, and its pairs name once each block that
-- jumps to its block, and no other; each parameter stands in block 0 before all that aren't, and data is taken in block 0
pub record IsWellFormed (f : MFunction) : Type 0 where
  pub blocks_end : (block : ℕ) → block < length f.blocks → 0 < length (block_of f block)
  pub placed : (block place : ℕ) (inst : MInst) → inst_at f block place ≡ Some inst → IsWellPlaced f block place inst

-- the function has no phi
abbrev pub HasNoPhi : MFunction → Type 0
HasNoPhi f = (block place : ℕ) (inst : MInst) → inst_at f block place ≡ Some inst → is_phi inst ≡ false
