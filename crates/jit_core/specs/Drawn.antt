-- The events of a run, drawn from a number.
use Rattle.std.specs.Prelude.{ℕ, zero, suc, ◌+◌, ◌*◌, ◌/◌, ◌%◌, ◌<◌, ◌==◌, nat_lt, if◌then◌else◌, List, [], ◌∷◌, ◌++◌, length, slice_index_or, Option, Some, None}
use Rattle.rv_play.specs.declared.version.Version.{Version}
use Rattle.code_epochs.specs.Sound.{At}
use Rattle.jit_core.specs.declared.event.Event.{Event}
use Rattle.jit_core.specs.declared.event.Event.TheVariants.{Hart, Keeper, Order}

-- the number that is drawn after this one: a linear congruence modulo 2 ^ 64
abbrev pub next_draw : ℕ → ℕ
next_draw x = (x * 6364136223846793005 + 1442695040888963407) % 18446744073709551616

-- its upper 31 bits
abbrev pub choice : ℕ → ℕ
choice x = x / 8589934592

-- an order of one of the versions, if there are any
abbrev pub order_of : List Version → ℕ → List Event
order_of [] n = []
order_of (v ∷ versions) n = Order (slice_index_or (v ∷ versions) (n % length (v ∷ versions)) v) ∷ []

-- the event for this choice: by its remainder a hart, the keeper or an order
abbrev pub event_for : List Version → ℕ → ℕ → List Event
event_for versions harts r =
    if nat_lt (r % (harts + 2)) harts then Hart (r % (harts + 2)) ∷ []
    else if r % (harts + 2) == harts then Keeper ∷ []
    else order_of versions (r / (harts + 2))

-- an event or none as a list
abbrev pub listed : Option Event → List Event
listed None = []
listed (Some e) = e ∷ []

-- a hart that there is, the keeper, or an order of one of these versions
abbrev pub IsDrawn : List Version → ℕ → Option Event → Type 0
IsDrawn versions harts None = Unit {0}
IsDrawn versions harts (Some (Hart h)) = h < harts
IsDrawn versions harts (Some Keeper) = Unit {0}
IsDrawn versions harts (Some (Order v)) = (k : ℕ) × At versions k v

-- the events of so many draws, after this number
abbrev pub drawn : List Version → ℕ → ℕ → ℕ → List Event
drawn versions harts x zero = []
drawn versions harts x (suc n) = event_for versions harts (choice (next_draw x)) ++ drawn versions harts (next_draw x) n
