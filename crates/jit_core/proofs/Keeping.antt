-- What the keeper does next.
use Rattle.std.proofs.Common.{◌≡◌, ℕ, ◌+◌, ◌^◌, ◌/◌, ◌%◌, ◌<◌, List, Option, Some, None, sym, subst, ⊎_elim, arith}
use mathlib.Core.Logic.{dite}
use native.Mathlib.Decide.{ℕ_discrete}
use Rattle.code_epochs.specs.declared.state.VersionState.{VersionState}
use Rattle.code_epochs.specs.declared.parts.Look.{Look}
use Rattle.code_epochs.specs.Sound.{At}
use Rattle.jit_core.specs.declared.event.Event.TheVariants as event
use Rattle.jit_core.specs.declared.event.Stepped.{Stepped}
use Rattle.jit_core.specs.declared.publishing.Publishing.{Publishing}
use Rattle.jit_core.specs.declared.publishing.Pair.{Pair}
use Rattle.jit_core.specs.declared.state_machine.Core.{Core}
use Rattle.jit_core.specs.Events.{Told, Task}
use Rattle.jit_core.specs.Keeping.{IsPassed, IsOpen, IsFirstFrom, NoneFrom, NothingOpen, IsNextLook, NonePending}
use Rattle.jit_core.specs.Cores.{IsKept, IsAnswer, StandsMore, Does, IsLastLook, publishing_as}

-- the core whose version was taken out, and put in again
pub kept_as : (c : Core) (p : Option Publishing) → p ≡ c.publishing → IsKept c → IsKept (publishing_as c p)
kept_as c p e k = subst (λ (q : Option Publishing). IsKept (publishing_as c q)) (sym e) k

pub does_as : (c d : Core) (p : Option Publishing) (task : Task) → p ≡ c.publishing → Does (publishing_as c p) task d → Does c task d
does_as c d p task e does = subst (λ (q : Option Publishing). Does (publishing_as c q) task d) e does

pub answer_as : (c d : Core) (p : Option Publishing) (r : Stepped) → p ≡ c.publishing → IsAnswer (publishing_as c p) event.Keeper r d → IsAnswer c event.Keeper r d
answer_as c d p r e a = subst (λ (q : Option Publishing). IsAnswer (publishing_as c q) event.Keeper r d) e a

pub stands_as : (c d : Core) (p : Option Publishing) (t : Told) → p ≡ c.publishing → StandsMore (publishing_as c p) d t → StandsMore c d t
stands_as c d p t e s = subst (λ (q : Option Publishing). StandsMore (publishing_as c q) d t) e s

-- what is looked at next is open
pub next_open : (harts : ℕ) (versions : List VersionState) (last : Option Pair) (i h : ℕ) → IsNextLook harts versions last i h → IsOpen harts versions i h
next_open harts versions None i h is = is.0
next_open harts versions (Some p) i h is = ⊎_elim (λ (t : IsFirstFrom harts versions p.version (p.hart + 1) i h). t.0) (λ (t : NoneFrom harts versions p.version (p.hart + 1) × IsFirstFrom harts versions 0 0 i h). t.1.0) is

-- no version is pending where none is passed and no hart is behind
pub none_pending : (harts : ℕ) (versions : List VersionState) → ((i : ℕ) (v : VersionState) → At versions i v → ¬ IsPassed harts v) → NothingOpen harts versions → NonePending versions
none_pending harts versions none nothing i v tag passed at is = none i v at (tag, passed, is, λ h low. dite (ℕ_discrete ((passed / 2 ^ h) % 2) 1) (λ yes_it. yes_it) (λ not_it. absurd (nothing i h (v, at, (tag, passed, is, low, not_it)))))

-- the hart of the last look is one of at most sixteen
last-low : (looks : List Look) (o : Option Pair) (p : Pair) → o ≡ Some p → IsLastLook looks o → p.hart < 16
last-low looks o p e is = (subst (λ (q : Option Pair). IsLastLook looks q) e is).3

pub last_low : (looks : List Look) (o : Option Pair) (p : Pair) → o ≡ Some p → IsLastLook looks o → p.hart < 32
last_low looks o p e is = let low = last-low looks o p e is in omega arith
