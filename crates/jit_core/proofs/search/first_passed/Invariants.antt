use Rattle.std.proofs.Common.{◌<◌, ℕ}
use Rattle.code_epochs.specs.declared.state.VersionState.{VersionState}
use Rattle.code_epochs.specs.Sound.{At}
use Rattle.jit_core.specs.Keeping.{IsPassed}
use Rattle.jit_core.proofs.search.first_passed.Given as goal

abbrev pub invariant-loop-number : goal.invariant-loop-number
invariant-loop-number l = (i : ℕ) (v : VersionState) → i < l.number → At l.versions i v → ¬ IsPassed l.harts v
