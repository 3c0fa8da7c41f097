use Rattle.std.proofs.Common.{◌≡◌, drop}
use Rattle.quick_code.specs.Blocks.{first_to}
use Rattle.fast_isel.proofs.switches.first_to.Given as goal

abbrev pub invariant-loop-case : goal.invariant-loop-case
invariant-loop-case l = record {
  number : l.number ≡ l.case-index;
  left : first_to l.case-index l.to (drop l.case-index l.cases) ≡ first_to 0 l.to l.cases;
}
