-- Rounds over the harts until all calls have ended.
use Rattle.std.specs.Prelude.{ℕ, zero, suc, ◌/◌, ◌%◌, ◌<◌, List, [], ◌∷◌, ◌++◌, length}
use Rattle.code_epochs.specs.Sound.{At}
use Rattle.jit_core.specs.declared.event.Event.{Event}
use Rattle.jit_core.specs.declared.event.Event.TheVariants as event
use Rattle.jit_core.specs.declared.seat.Seat.{Seat}
use Rattle.jit_core.specs.declared.state_machine.Core.{Core}
use Rattle.jit_core.specs.Harts.{IsOver}

-- an event for each of the first n harts, in order
abbrev pub one_round : ℕ → List Event
one_round zero = []
one_round (suc n) = one_round n ++ event.Hart n ∷ []

-- so many rounds over so many harts
abbrev pub rounds : ℕ → ℕ → List Event
rounds zero harts = []
rounds (suc n) harts = rounds n harts ++ one_round harts

-- the calls of all harts have ended
abbrev pub AllOver : Core → Type 0
AllOver c = (h : ℕ) → h < length c.seats.items → IsOver c.seats.items c.work h

-- the hart that makes the call at this place has answered it
abbrev pub HasAnswered : Core → ℕ → Type 0
HasAnswered c place = (s : Seat) → At c.seats.items (place % length c.seats.items) s → place / length c.seats.items < length s.answers.items
