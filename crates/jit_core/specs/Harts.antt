-- The harts of the core, each with its seat.
use Rattle.std.specs.Prelude.{ℕ, List}
use Rattle.ir_meaning.specs.Plays.{Meaning}
use Rattle.code_epochs.specs.declared.state.CodeState.{CodeState}
use Rattle.code_epochs.specs.Sound.{At, Whole, Sound, IsStateOf}
use Rattle.code_epochs.specs.Steps.{IsHere}
use Rattle.jit_core.specs.declared.seat.Seat.{Seat}
use Rattle.jit_core.specs.declared.seat.Work.{Work}
use Rattle.jit_core.specs.Events.{HartStep}
use Rattle.jit_core.specs.Seats.{SeatStands}
use Rattle.jit_core.specs.Seated.{IsReady, HasNoCall}

-- each hart has what it needs for its steps
abbrev pub AreReady : List Seat → CodeState → Work → Type 0
AreReady seats state work = (h : ℕ) (s : Seat) → At seats h s → IsReady s state work h

-- each seat stands for what its hart knows
abbrev pub AllStand : Meaning → Work → Whole → List Seat → Type 0
AllStand m work x seats = (h : ℕ) (s : Seat) → At seats h s → SeatStands m work.image.now work.calls.now work.harts x h s

-- One hart makes one step, whatever is known beside the state: all seats stand for what is known then.
abbrev pub Moves : CodeState → CodeState → List Seat → List Seat → Work → ℕ → Type 0
Moves old new before after work h =
    (m : Meaning) (x : Whole) → Sound m x → IsStateOf old x → IsHere x h → AllStand m work x before
    → (y : Whole) × HartStep x h y × Sound m y × IsStateOf new y × AllStand m work y after

-- the hart's calls have ended
abbrev pub IsOver : List Seat → Work → ℕ → Type 0
IsOver seats work h = (s : Seat) × At seats h s × HasNoCall s work h
