use Rattle.std.proofs.Common.{◌≡◌, drop, true, length}
use Rattle.quick_code.specs.Blocks.{are_headless}
use Rattle.fast_isel.specs.Taken.{are_cases}
use Rattle.fast_isel.proofs.switches.are_headless.Given as goal

abbrev pub invariant-loop-case : goal.invariant-loop-case
invariant-loop-case l = record {
  sound : are_cases (length l.function.blocks) (drop l.case-index l.cases) ≡ true;
  left : are_headless l.function (drop l.case-index l.cases) ≡ are_headless l.function l.cases;
}
