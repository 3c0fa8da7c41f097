use Rattle.std.proofs.Common.{◌<◌, ◌≤◌, ℕ}
use Rattle.jit_core.specs.Keeping.{IsOpen, ComesBefore}
use Rattle.jit_core.proofs.search.first_from.Given as goal

abbrev pub invariant-loop-number : goal.invariant-loop-number
invariant-loop-number l = record {
  low : l.from.version ≤ l.number;
  before : (p q : ℕ) → IsOpen l.harts l.versions p q → p < l.number → ComesBefore p q l.from.version l.from.hart;
}
