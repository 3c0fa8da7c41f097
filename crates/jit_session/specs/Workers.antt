-- Workers before and after.
use Rattle.std.specs.Prelude.{◌≡◌, ℕ, List, Option, Some, None}
use Rattle.jit_session.specs.Runs.{IsSameCounts}
use Rattle.jit_session.specs.declared.asking.Asking.{Asking}
use Rattle.jit_session.specs.declared.worker.Worker.{Worker}

-- the policy has its marks still, and the seat of the counts has counted nothing more and taken in no other
pub record IsSameAsking {P : Type 0} (marks : P → List ℕ) (a a' : Asking P) : Type 0 where
  pub marks_are : marks a'.policy ≡ marks a.policy
  pub counts : IsSameCounts a.counts a'.counts
  pub own : a'.counts.seat.me.0.own ≡ a.counts.seat.me.0.own

-- the same, where it asks at all
abbrev pub IsSameAsker : {P : Type 0} → (P → List ℕ) → Option (Asking P) → Option (Asking P) → Type 0
IsSameAsker marks None None = Unit {0}
IsSameAsker marks None (Some a) = ⊥
IsSameAsker marks (Some a) None = ⊥
IsSameAsker marks (Some a) (Some b) = IsSameAsking marks a b

-- a worker that asks as before
abbrev pub IsSameWorker : {M P : Type 0} → (P → List ℕ) → Worker M P → Worker M P → Type 0
IsSameWorker marks w w' = IsSameAsker marks w.asking w'.asking
