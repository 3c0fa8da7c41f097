-- Many events on a core, one after another.
use Rattle.std.specs.Prelude.{◌≡◌, List, [], ◌∷◌}
use Rattle.jit_core.specs.declared.state_machine.Core.{Core}
use Rattle.jit_core.specs.declared.event.Event.{Event}
use Rattle.jit_core.specs.Events.{Told}
use Rattle.jit_core.specs.Cores.{IsAnswer, IsSameCore, StandsMore}

-- the event makes this core of that, and is answered so
pub record Makes (c : Core) (t : Told) (d : Core) : Type 0 where
  pub answer : IsAnswer c t.event t.answer d
  pub same : IsSameCore c d
  pub stands : StandsMore c d t

-- these events make this core of that, one after another, each answered so
abbrev pub MakesAll : Core → List Told → Core → Type 0
MakesAll c [] d = d ≡ c
MakesAll c (t ∷ told) d = (e : Core) × Makes c t e × MakesAll e told d

abbrev pub event_of : Told → Event
event_of t = t.event
