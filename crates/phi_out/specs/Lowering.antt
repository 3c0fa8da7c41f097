-- What lowers a function block by block: which instructions and blocks on edges it has made so far.
use Rattle.std.specs.Prelude.{◌≡◌, ℕ, ◌+◌, ◌<◌, ◌≤◌, ◌||◌, Bool, false, List, [], ◌∷◌, ◌++◌, length, take, slice_index_or, sum_by}
use Rattle.mir.specs.declared.code.MInst.{MInst}
use Rattle.mir.specs.declared.code.MInst.TheVariants.{Branch}
use Rattle.mir.specs.declared.code.MFunction.{MFunction}
use Rattle.mir.specs.Code.{targets, block_of}
use Rattle.mir.specs.WellFormed.{is_phi}
use Rattle.mir_play.specs.Play.{behind_phis}
use Rattle.mir_play.specs.Refines.{static_of, static_of_block}
use Rattle.rv_core.specs.declared.instr.BranchOp.{BranchOp}
use Rattle.phi_out.specs.Lowered.{Side, Piece, Pieces, IsEdgeBlock, inst_cost, block_cost}

-- a phi stands among the instructions
abbrev pub some_phi : List MInst → Bool
some_phi [] = false
some_phi (inst ∷ insts) = is_phi inst || some_phi insts

-- a phi stands in the blocks
abbrev pub any_phi : List (List MInst) → Bool
any_phi [] = false
any_phi (insts ∷ blocks) = some_phi insts || any_phi blocks

-- how many edges the instructions have
abbrev pub edges_of : List MInst → ℕ
edges_of insts = sum_by (λ inst. length (targets inst)) insts

abbrev pub edge_count : MFunction → ℕ
edge_count f = sum_by edges_of f.blocks

abbrev pub AreEdgeBlocks : MFunction → List (List MInst) → Type 0
AreEdgeBlocks f [] = Unit {0}
AreEdgeBlocks f (insts ∷ blocks) = IsEdgeBlock f insts × AreEdgeBlocks f blocks

-- so many blocks on edges at most were added, of at most this weight
pub record Grows (f : MFunction) (old new : List (List MInst)) (count cost : ℕ) : Type 0 where
  pub rest : List (List MInst)
  pub grown : new ≡ old ++ rest
  pub blocks : AreEdgeBlocks f rest
  pub few : length rest ≤ count
  pub weighs : sum_by static_of_block rest ≤ cost

-- both sides of a branch
pub record HasSides (f : MFunction) (from t e : ℕ) (old new : List (List MInst)) (t' e' : ℕ) : Type 0 where
  pub one : Side f new from t t'
  pub other : Side f new from e e'
  pub grows : (op : BranchOp) (a b : ℕ) → Grows f old new 2 (inst_cost f (Branch op a b t e))

-- what an instruction becomes was put behind the others
pub record PutsPiece (f : MFunction) (from : ℕ) (inst : MInst) (old new : List (List MInst)) (before behind : List MInst) : Type 0 where
  pub piece : List MInst
  pub put : behind ≡ before ++ piece
  pub lowered : Piece f new from inst piece
  pub cost : ℕ
  pub grows : Grows f old new (length (targets inst)) cost
  pub weighs : static_of_block piece + cost ≤ static_of inst + inst_cost f inst

-- what the instructions become was put
pub record PutsPieces (f : MFunction) (from : ℕ) (insts : List MInst) (old new : List (List MInst)) (made : List MInst) : Type 0 where
  pub lowered : Pieces f new from insts made
  pub cost : ℕ
  pub grows : Grows f old new (edges_of insts) cost
  pub weighs : static_of_block made + cost ≤ static_of_block insts + block_cost f insts

-- the first so many blocks are lowered
pub record PutsBlocks (f : MFunction) (count : ℕ) (edges blocks : List (List MInst)) : Type 0 where
  pub size : length blocks ≡ count
  pub lowered : (block : ℕ) → block < count → Pieces f edges block (behind_phis (block_of f block)) (slice_index_or blocks block [])
  pub edge_blocks : AreEdgeBlocks f edges
  pub few : length edges ≤ sum_by edges_of (take count f.blocks)
  pub weighs : sum_by static_of_block blocks + sum_by static_of_block edges
      ≤ sum_by (λ insts. static_of_block (behind_phis insts)) (take count f.blocks) + sum_by (block_cost f) (take count f.blocks)
