-- What the end of a block leaves written.
use Rattle.std.specs.Prelude.{ℕ, ◌+◌, List, [], ◌∷◌, ◌++◌, length, if◌then◌else◌}
use Rattle.ir_core.specs.declared.program.Function.{Function}
use Rattle.ir_core.specs.declared.program.Global.{Global}
use Rattle.ir_core.specs.declared.types.Ty.{Ty}
use Rattle.generic_code.specs.Literals.{empty_pool, skip, behind_all}
use Rattle.generic_code.specs.Edges.{Ending, branch_on, edge_operands, no_phis, spare, goes_to, edge_code, edge_types, edge_uses, case_operand, test_code, test_types}
use Rattle.ir_translator_emit.specs.Written.{Written, put, put_inst, put_edge, begun}

-- what was written, when the block under way ends like this: its code is finished, and so are the blocks that it takes
unfoldable pub whole : Written → Ending → Written
whole w ending = record w {
  done = w.done ++ (w.code ++ ending.code) ∷ ending.later;
  code = [];
  types = w.types ++ ending.types;
  pool = empty_pool (length (w.types ++ ending.types));
  own = w.own + length ending.later;
  edges = w.edges ++ ending.edges;
}

module _ (globals : List Global) (function : Function) (from : ℕ) where
  -- a jump at a block to another, with the literals of its edge before it
  unfoldable pub jumped : Written → ℕ → ℕ → Written
  jumped w at to =
      put_edge
      (put w (edge_code globals function from w.pool to) (edge_types globals function from w.pool to) (behind_all globals w.pool (edge_operands globals function from to)))
      (record { to = to; at = at; uses = edge_uses globals function from w.pool to })

  -- an edge of a conditional branch at a block: in a block of its own, where it leads to phis
  unfoldable pub edge_taken : Written → ℕ → ℕ → Written
  edge_taken w at to = if no_phis globals function to then put_edge w (record { to = to; at = at; uses = [] }) else jumped (begun w) w.own to

  -- a conditional branch at a block on a bit
  unfoldable pub branched : Written → ℕ → ℕ → ℕ → ℕ → Written
  branched w at bit if_one if_zero =
      edge_taken
      (edge_taken
      (put_inst w (branch_on bit (goes_to globals function from w.own if_one) (goes_to globals function from (w.own + spare globals function if_one) if_zero)))
      at if_one)
      at if_zero

  -- the test of a register against a number of its type
  abbrev pub tested : Written → Ty → ℕ → ℕ → Written
  tested w of r n = put w (test_code globals function from of r w.pool n) (test_types globals function from of w.pool n) (skip 1 (behind_all globals w.pool (case_operand globals function from of n)))

  -- the test of a case that isn't the last, its edge, and the block of the next test
  unfoldable pub cased : Written → ℕ → Ty → ℕ → ℕ → ℕ → Written
  cased w at of r n to =
      begun
      (edge_taken
      (put_inst (tested w of r n)
      (branch_on (behind_all globals w.pool (case_operand globals function from of n)).next (goes_to globals function from w.own to) (w.own + spare globals function to)))
      at to)
