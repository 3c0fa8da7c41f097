use Rattle.std.proofs.Common.{◌≡◌, ◌+◌, drop, true, length}
use Rattle.code_pieces.specs.Assembly.{put}
use Rattle.quick_code.specs.Blocks.{edge_label, case_edges}
use Rattle.fast_isel.specs.Taken.{are_cases}
use Rattle.fast_isel.specs.Written.{AreFree}
use Rattle.fast_isel.proofs.switches.put_case_edges.Given as goal

abbrev pub invariant-loop-case : goal.invariant-loop-case
invariant-loop-case l = record {
  number : l.number ≡ l.case-index;
  sound : are_cases (length l.function.blocks) (drop l.case-index l.cases) ≡ true;
  free : AreFree l.function (edge_label l.function l.block + l.case-index) l.asm;
  code : put l.asm (case_edges l.globals l.function l.block l.cases l.case-index (drop l.case-index l.cases)) ≡ put l.fn.asm (case_edges l.globals l.function l.block l.cases 0 l.cases);
}
