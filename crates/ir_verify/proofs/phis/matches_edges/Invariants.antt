use Rattle.std.proofs.Common.{◌≡◌, ◌+◌, ◌++◌, ◌≤◌, ◌<◌, ◌⊎◌, ℕ, length, drop, take, map, ◌||◌, ◌&&◌, not, Bool, true, false, if◌then◌else◌}
use Rattle.std.specs.Prelude.{count_by, ◌==◌}
use Rattle.ir_flow.specs.Code.{case_blocks, pair_blocks, edges}
use Rattle.ir_flow.specs.First.{first_refused}
use Rattle.ir_core.specs.declared.code.Block.{Block}
use Rattle.ir_verify.specs.Phis.{times, matches_edges, all_phis, first_wrong_phis}
use Rattle.ir_verify.proofs.phis.matches_edges.Given as goal

abbrev pub invariant-loop-i : goal.invariant-loop-i
invariant-loop-i l = matches_edges (pair_blocks l.pairs) l.to l.i (drop l.i l.blocks) ≡ matches_edges (pair_blocks l.pairs) l.to 0 l.blocks
