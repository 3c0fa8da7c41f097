use Rattle.std.proofs.Common.{◌≡◌, ◌≤◌, length, vec_capacity}
use Rattle.fast_isel.specs.Modules.{quick_from}
use Rattle.fast_isel.proofs.versions.quick_versions.Given as goal

abbrev pub invariant-loop-symbol : goal.invariant-loop-symbol
invariant-loop-symbol l = quick_from l.«module» 0 l.versions.items × (length l.versions.items ≡ l.symbol) × (l.count ≤ vec_capacity l.versions)
