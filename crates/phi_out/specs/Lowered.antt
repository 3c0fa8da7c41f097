-- A function of target code whose phis have become moves on edges.
use Rattle.std.specs.Prelude.{◌≡◌, ℕ, ◌+◌, ◌*◌, ◌<◌, ◌≤◌, ◌==◌, false, List, [], ◌∷◌, ◌++◌, length, slice_get, slice_index_or, sum_by, Some, if◌then◌else◌}
use Rattle.std.specs.List.{Contains}
use Rattle.mir.specs.declared.code.MInst.{MInst}
use Rattle.mir.specs.declared.code.MInst.TheVariants.{Branch, Jump}
use Rattle.rv_core.specs.declared.instr.BranchOp.{BranchOp}
use Rattle.mir.specs.declared.code.MFunction.{MFunction}
use Rattle.mir.specs.Code.{targets, block_of}
use Rattle.mir.specs.WellFormed.{is_phi}
use Rattle.walks.specs.Registers.{Registers}
use Rattle.mir_play.specs.Play.{with_phis, behind_phis}
use Rattle.mir_play.specs.Refines.{static_of_block}
use Rattle.parallel_copies.specs.Moves.{IsMoveOf, all_moved}
use Rattle.parallel_copies.specs.Edges.{copies_on, HasOperands, heads}

-- what stands on an edge in place of the phis of its target: moves that leave in each register but the function's first spare one what
-- the phis leave, all at once
pub record IsEdge (f : MFunction) (from to : ℕ) (moves : List MInst) : Type 0 where
  pub made : HasOperands from (block_of f to) → (before : Registers) (x : ℕ) → (x ≡ f.regs → ⊥)
      → all_moved moves before x ≡ with_phis from before (block_of f to) before x
  pub only : (inst : MInst) → Contains moves inst → IsMoveOf f.regs (copies_on from (block_of f to)) inst
  pub short : length moves ≤ 2 * heads (block_of f to)

-- The block behind a side of a branch: its target, where no move is needed, or a block on the edge, which has the moves and a jump. These
-- blocks are numbered behind those of the function.
pub data Side (f : MFunction) (edges : List (List MInst)) (from to : ℕ) : ℕ → Type 0 where
  direct : IsEdge f from to [] → Side f edges from to to
  through : (moves : List MInst) (place : ℕ) → IsEdge f from to moves → 0 < length moves → slice_get edges place ≡ Some (moves ++ Jump to ∷ [])
      → Side f edges from to (length f.blocks + place)

-- what an instruction of a block becomes: a jump has the moves of its edge before it, a branch leads by its sides, and each other
-- instruction stays
pub data Piece (f : MFunction) (edges : List (List MInst)) (from : ℕ) : MInst → List MInst → Type 0 where
  stays : (inst : MInst) → targets inst ≡ [] → is_phi inst ≡ false → Piece f edges from inst (inst ∷ [])
  jumps : (to : ℕ) (moves : List MInst) → IsEdge f from to moves → Piece f edges from (Jump to) (moves ++ Jump to ∷ [])
  branches : (op : BranchOp) (a b t e t' e' : ℕ) → Side f edges from t t' → Side f edges from e e'
      → Piece f edges from (Branch op a b t e) (Branch op a b t' e' ∷ [])

-- what the instructions behind the phis of a block become, one after another
pub data Pieces (f : MFunction) (edges : List (List MInst)) (from : ℕ) : List MInst → List MInst → Type 0 where
  none : Pieces f edges from [] []
  more : {insts others : List MInst} (inst : MInst) (piece : List MInst) → Piece f edges from inst piece → Pieces f edges from insts others
      → Pieces f edges from (inst ∷ insts) (piece ++ others)

-- a block on an edge: moves and a jump
pub record IsEdgeBlock (f : MFunction) (insts : List MInst) : Type 0 where
  pub from : ℕ
  pub to : ℕ
  pub moves : List MInst
  pub edge : IsEdge f from to moves
  pub inside : (0 < to) × (to < length f.blocks)
  pub is : insts ≡ moves ++ Jump to ∷ []

-- ---- weights

-- what an edge may weigh in place of the phis of its target, with a jump where it has a block of its own
abbrev pub edge_cost : MFunction → ℕ → ℕ
edge_cost f to = 28 * heads (block_of f to)

-- the edges of an instruction; a branch to one block has one
abbrev pub inst_cost : MFunction → MInst → ℕ
inst_cost f (Jump to) = edge_cost f to
inst_cost f (Branch op a b t e) = if t == e then edge_cost f t else edge_cost f t + edge_cost f e
inst_cost f _ = 0

abbrev pub block_cost : MFunction → List MInst → ℕ
block_cost f insts = sum_by (inst_cost f) insts

-- ---- the function

-- g is f with its phis lowered, with blocks on edges behind those of f
pub record IsLowered (f g : MFunction) : Type 0 where
  pub blocks : List (List MInst)
  pub edges : List (List MInst)
  pub are : g.blocks ≡ blocks ++ edges
  pub count : length blocks ≡ length f.blocks
  pub pieces : (block : ℕ) → block < length f.blocks → Pieces f edges block (behind_phis (block_of f block)) (slice_index_or blocks block [])
  pub edge_blocks : (place : ℕ) (insts : List MInst) → slice_get edges place ≡ Some insts → IsEdgeBlock f insts
  pub weighs : sum_by static_of_block blocks + sum_by static_of_block edges
      ≤ sum_by (λ insts. static_of_block (behind_phis insts)) f.blocks + sum_by (block_cost f) f.blocks
  pub symbol : g.symbol ≡ f.symbol
  pub values : g.values ≡ f.values
  pub end' : g.end ≡ f.end
  pub regs : g.regs ≡ f.regs + 1
