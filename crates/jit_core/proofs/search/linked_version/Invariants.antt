use Rattle.std.proofs.Common.{◌≡◌, ◌<◌, ℕ}
use Rattle.code_epochs.specs.declared.state.VersionState.{VersionState}
use Rattle.code_epochs.specs.declared.state.Status.TheVariants.{Linked}
use Rattle.code_epochs.specs.Sound.{At}
use Rattle.jit_core.proofs.search.linked_version.Given as goal

abbrev pub invariant-loop-number : goal.invariant-loop-number
invariant-loop-number l = (i : ℕ) (v : VersionState) → i < l.number → At l.versions i v → v.status ≡ Linked → v.symbol ≡ l.symbol → ⊥
