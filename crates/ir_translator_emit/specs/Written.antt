-- What the translator has written, and what it reads.
use Rattle.std.specs.Prelude.{ℕ, ◌+◌, ◌≤◌, List, [], ◌∷◌, ◌++◌, length, map, remove}
use Rattle.ir_core.specs.declared.types.Ty.{Ty}
use Rattle.ir_core.specs.declared.code.Operand.{Operand}
use Rattle.ir_core.specs.declared.code.Op.{Op}
use Rattle.ir_core.specs.declared.code.Op.TheVariants.{Phi}
use Rattle.ir_core.specs.declared.code.Inst.{Inst}
use Rattle.ir_core.specs.declared.code.Block.{Block}
use Rattle.ir_core.specs.declared.program.Function.{Function}
use Rattle.ir_core.specs.declared.program.Global.{Global}
use Rattle.ir_meaning.specs.Step.{insts_at, on_edge, phis}
use Rattle.gmir.specs.declared.code.GType.{GType}
use Rattle.gmir.specs.declared.code.GInst.{GInst}
use Rattle.generic_code.specs.Literals.{Pool, empty_pool, loads, all_loaded, behind_all}
use Rattle.generic_code.specs.Code.{Piece}
use Rattle.generic_code.specs.Edges.{Edge}

-- a phi: its type, and its operands with the blocks that they come from
abbrev pub Head : Type 0
Head = Ty × List (Operand × ℕ)

abbrev pub pairs_of : Op → List (Operand × ℕ)
pairs_of (Phi pairs) = pairs
pairs_of _ = []

abbrev pub head_of : Inst → Head
head_of inst = (inst.gives, pairs_of inst.op)

-- the phis of each block of a function
abbrev pub heads_of : Function → List (List Head)
heads_of function = map (λ (block : Block). map head_of (phis block.insts)) function.blocks

-- what these phis read on the edge from a block
abbrev pub reads_on : ℕ → List Head → List (Ty × Operand)
reads_on from heads = map (λ (head : Head). (head.0, on_edge from head.1)) heads

-- Of one function: the module's globals, the function, the finished blocks of the block under way, the instructions of the one that
-- isn't finished, the types of all registers so far, the registers at this place, the number of the next block behind the function's, and
-- the edges so far.
pub record Written : Type 0 where
  pub globals : List Global
  pub function : Function
  pub done : List (List GInst)
  pub code : List GInst
  pub types : List GType
  pub pool : Pool
  pub own : ℕ
  pub edges : List Edge

-- with these instructions and types behind, and then these registers
unfoldable pub put : Written → List GInst → List GType → Pool → Written
put w code types pool = record w { code = w.code ++ code; types = w.types ++ types; pool = pool }

abbrev pub put_piece : Written → Piece → Written
put_piece w piece = put w piece.code piece.types piece.pool

-- what operands that are read take
abbrev pub put_reads : Written → List (Ty × Operand) → Written
put_reads w operands = put w (loads w.globals w.pool operands) (all_loaded w.globals w.pool operands) (behind_all w.globals w.pool operands)

-- with an instruction behind
abbrev pub put_inst : Written → GInst → Written
put_inst w inst = put w (inst ∷ []) [] w.pool

-- with an edge behind
unfoldable pub put_edge : Written → Edge → Written
put_edge w edge = record w { edges = w.edges ++ edge ∷ [] }

-- the block under way is finished, and the next begins, in which no register holds a literal
unfoldable pub begun : Written → Written
begun w = record w { done = w.done ++ w.code ∷ []; code = []; pool = empty_pool w.pool.next; own = w.own + 1 }

-- nothing is written yet of a function whose values have registers of these types
abbrev pub unwritten : List Global → Function → List GType → Written
unwritten globals function types = record {
  globals = globals;
  function = function;
  done = [];
  code = [];
  types = types;
  pool = empty_pool (length types);
  own = length function.blocks;
  edges = [];
}

-- without a finished block
abbrev pub without : Written → ℕ → Written
without w at = record w { done = remove w.done at }

-- at most 16,384 phis stand in a block, as a function's units allow
abbrev pub HasFewPhis : Function → Type 0
HasFewPhis function = (block : ℕ) → length (phis (insts_at function block)) ≤ 16384
