-- Harts and workers before and after a session's calls.
use Rattle.std.specs.Prelude.{ℕ, List, [], ◌∷◌, Option, Some, None}
use Rattle.ir_core.specs.Program.{Program}
use Rattle.ir_meaning.specs.declared.calls.ListedCall.{ListedCall}
use Rattle.jit_session.specs.declared.runner.Runner.{Runner}
use Rattle.jit_session.specs.Runners.{CanRun, HasRun}
use Rattle.jit_session.specs.declared.asking.Asking.{Asking}
use Rattle.jit_session.specs.declared.parts.Part.{Part}
use Rattle.jit_session.specs.declared.parts.Part.TheVariants.{Runs, Works}
use Rattle.jit_session.specs.Workers.{IsSameWorker}

abbrev pub harts_of : {G M P : Type 0} → List (Part G M P) → List (Runner G)
harts_of [] = []
harts_of (Runs r ∷ ps) = r ∷ harts_of ps
harts_of (Works w ∷ ps) = harts_of ps

abbrev pub or_else : {A : Type 0} → Option A → Option A → Option A
or_else None o = o
or_else (Some x) o = Some x

-- what asks, with the first worker that has it
abbrev pub asking_in : {G M P : Type 0} → List (Part G M P) → Option (Asking P)
asking_in [] = None
asking_in (Runs r ∷ ps) = asking_in ps
asking_in (Works w ∷ ps) = or_else w.asking (asking_in ps)

-- a hart that has answered no call can run; a worker can always work
abbrev pub CanGo : {G M P : Type 0} → Program → List ListedCall → ℕ → Part G M P → Type 0
CanGo program calls harts (Runs r) = CanRun program calls harts r
CanGo program calls harts (Works w) = Unit {0}

-- a hart has answered its calls; a worker asks as before
abbrev pub Went : {G M P : Type 0} → (P → List ℕ) → Program → List ListedCall → ℕ → Part G M P → Part G M P → Type 0
Went marks program calls harts (Runs r) (Runs r') = HasRun program calls harts r r'
Went marks program calls harts (Runs r) (Works w) = ⊥
Went marks program calls harts (Works w) (Runs r) = ⊥
Went marks program calls harts (Works w) (Works w') = IsSameWorker marks w w'
