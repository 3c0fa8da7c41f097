use Rattle.std.proofs.Common.{◌≡◌, ◌+◌, ◌++◌, ◌≤◌, ◌<◌, ◌⊎◌, ℕ, length, drop, take, map, ◌||◌, ◌&&◌, not, Bool, true, false, if◌then◌else◌}
use Rattle.std.specs.Prelude.{count_by, ◌==◌}
use Rattle.ir_flow.specs.Code.{case_blocks, pair_blocks, edges}
use Rattle.ir_flow.specs.First.{first_refused}
use Rattle.ir_core.specs.declared.code.Block.{Block}
use Rattle.ir_verify.specs.Phis.{times, matches_edges, all_phis, first_wrong_phis}
use Rattle.ir_verify.proofs.phis.cases_to.Given as goal

abbrev pub invariant-loop-block : goal.invariant-loop-block
invariant-loop-block l = record {
  same : l.count + times l.to (case_blocks (drop l.block-index l.cases)) ≡ times l.to (case_blocks l.cases);
  few : l.count ≤ l.block-index;
}
