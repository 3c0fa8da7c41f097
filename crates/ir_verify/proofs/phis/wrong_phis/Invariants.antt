use Rattle.std.proofs.Common.{◌≡◌, ◌+◌, ◌++◌, ◌≤◌, ◌<◌, ◌⊎◌, ℕ, length, drop, take, map, ◌||◌, ◌&&◌, not, Bool, true, false, if◌then◌else◌}
use Rattle.std.specs.Prelude.{count_by, ◌==◌}
use Rattle.ir_flow.specs.Code.{case_blocks, pair_blocks, edges}
use Rattle.ir_flow.specs.First.{first_refused}
use Rattle.ir_core.specs.declared.code.Block.{Block}
use Rattle.ir_verify.specs.Phis.{times, matches_edges, all_phis, first_wrong_phis}
use Rattle.ir_verify.proofs.phis.wrong_phis.Given as goal

abbrev pub invariant-loop-i : goal.invariant-loop-i
invariant-loop-i l = first_wrong_phis l.blocks l.i (drop l.i l.blocks) ≡ first_wrong_phis l.blocks 0 l.blocks
