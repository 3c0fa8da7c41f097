use Rattle.std.proofs.Common.{◌≡◌, drop, true, length}
use Rattle.code_pieces.specs.Assembly.{put}
use Rattle.quick_code.specs.Blocks.{cases_items}
use Rattle.fast_isel.specs.Taken.{are_cases}
use Rattle.fast_isel.proofs.switches.put_cases.Given as goal

abbrev pub invariant-loop-case : goal.invariant-loop-case
invariant-loop-case l = record {
  sound : are_cases (length l.function.blocks) (drop l.case-index l.cases) ≡ true;
  code : put l.asm (cases_items l.globals l.function l.block l.cases (drop l.case-index l.cases)) ≡ put l.fn.asm (cases_items l.globals l.function l.block l.cases l.cases);
}
