use Rattle.std.proofs.Common.{◌≡◌, ◌+◌, ◌-◌, ◌≤◌, length}
use Rattle.jit_core.specs.Laying.{CanLay}
use Rattle.jit_core.specs.Seated.{IsSameSize}
use Rattle.jit_core.proofs.Opening.{Lays}
use Rattle.jit_core.proofs.first.store_all.Given as goal

abbrev pub invariant-loop-laying : goal.invariant-loop-laying
invariant-loop-laying l = record {
  fits : CanLay l.laying l.state;
  stored : l.laying.stored ≤ length l.laying.version.words + 1;
  same : (l.laying.version ≡ l.initial.laying.version) × (l.laying.base ≡ l.initial.laying.base);
  versions : l.state.versions ≡ l.initial.state.versions;
  lays : Lays l.initial.state l.state l.initial.laying l.laying;
  size : IsSameSize l.initial.state l.state;
}

abbrev pub decreases-loop-laying : goal.decreases-loop-laying
decreases-loop-laying l = length l.laying.version.words + 1 - l.laying.stored
