-- What is left of the listed calls.
use Rattle.std.specs.Prelude.{ℕ, ◌+◌, ◌-◌, ◌*◌, List, [], ◌∷◌, length}
use Rattle.hart.specs.declared.hart.Hart.{Hart}
use Rattle.hart.specs.Standing.{turns_left}
use Rattle.jit_core.specs.declared.seat.Seat.{Seat}
use Rattle.jit_core.specs.declared.seat.Stage.{Stage}
use Rattle.jit_core.specs.declared.seat.Stage.TheVariants as stage
use Rattle.jit_core.specs.declared.seat.Work.{Work}

-- Above the steps that a hart makes until its present call has ended, where a call runs at most 256 instructions a turn for at
-- most 2 ^ 32 turns.
abbrev pub stage_left : Hart → Stage → ℕ
stage_left h stage.Idle = 2199023255557
stage_left h (stage.Loaded epoch) = 2199023255556
stage_left h other = turns_left h h.phase

-- above the steps that a hart makes until all its calls have ended
abbrev pub seat_left : Work → Seat → ℕ
seat_left work s = (length work.calls.now - length s.answers.items) * 2199023255558 + stage_left s.hart s.stage

-- the same of all harts
abbrev pub all_left : Work → List Seat → ℕ
all_left work [] = 0
all_left work (s ∷ seats) = seat_left work s + all_left work seats
