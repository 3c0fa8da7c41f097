use Rattle.std.proofs.Common.{◌<◌, ◌≤◌, ℕ}
use Rattle.code_epochs.specs.Sound.{HasPassed}
use Rattle.jit_core.proofs.search.first_behind.Given as goal

abbrev pub invariant-loop-hart : goal.invariant-loop-hart
invariant-loop-hart l = record {
  low : l.from ≤ l.hart;
  passed : (h : ℕ) → l.from ≤ h → h < l.hart → HasPassed l.passed h;
}
