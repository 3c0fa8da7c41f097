-- A hart's step on the code state and its seat.
use Rattle.std.specs.Prelude.{◌≡◌, ℕ, ◌<◌, ◌≤◌, length, vec_capacity}
use Rattle.ir_meaning.specs.Plays.{Meaning}
use Rattle.code_epochs.specs.declared.state.CodeState.{CodeState}
use Rattle.code_epochs.specs.Sound.{Whole, Sound, IsStateOf}
use Rattle.code_epochs.specs.Steps.{IsHere}
use Rattle.jit_core.specs.declared.seat.Seat.{Seat}
use Rattle.jit_core.specs.declared.seat.Work.{Work}
use Rattle.jit_core.specs.Events.{HartStep}
use Rattle.hart.specs.declared.hart.Hart.{Hart}
use Rattle.hart.specs.Calls.{HasRoomFor}
use Rattle.jit_core.specs.declared.seat.Stage.{Stage}
use Rattle.jit_core.specs.declared.seat.Stage.TheVariants as stage
use Rattle.jit_core.specs.Seats.{SeatStands, WaitsFor, AreCalls, place_of}

-- The hart makes one step, whatever is known beside the state: its seat stands for what it knows then.
abbrev pub Steps : CodeState → CodeState → Seat → Seat → Work → ℕ → Type 0
Steps old new before after work h =
    (m : Meaning) (x : Whole) → Sound m x → IsStateOf old x → IsHere x h → SeatStands m work.image.now work.calls.now work.harts x h before
    → (y : Whole) × HartStep x h y × Sound m y × IsStateOf new y × SeatStands m work.image.now work.calls.now work.harts y h after

-- the hart makes no call and has none left
abbrev pub HasNoCall : Seat → Work → ℕ → Type 0
HasNoCall s work number = (s.stage ≡ stage.Idle) × (length work.calls.now ≤ place_of work.harts number (length s.answers.items))

-- there are as many cells, words of harts and code words
abbrev pub IsSameSize : CodeState → CodeState → Type 0
IsSameSize old new = (length new.cells.items ≡ length old.cells.items) × (length new.harts.items ≡ length old.harts.items) × (length new.code.items ≡ length old.code.items)

-- what is wanted at this stage can be given: there is a call where the epoch was loaded, and a call that runs waits for something
abbrev pub CanStep : Work → ℕ → ℕ → CodeState → Hart → Stage → Type 0
CanStep work number n state h stage.Idle = Unit {0}
CanStep work number n state h (stage.Loaded epoch) = place_of work.harts number n < length work.calls.now
CanStep work number n state h other = WaitsFor h other × (h.code_words ≡ length state.code.items) × (place_of work.harts number n < length work.calls.now)

-- the hart of this number has what it needs for its steps
pub record IsReady (s : Seat) (state : CodeState) (work : Work) (number : ℕ) : Type 0 where
  pub stage : CanStep work number (length s.answers.items) state s.hart s.stage
  pub functions : s.hart.functions ≡ length state.cells.items
  pub number_fits : number < length state.harts.items
  pub image : HasRoomFor (length s.hart.bytes.items) work.image.now
  pub calls : AreCalls s.hart.functions work.calls.now
  pub few : length work.calls.now ≤ 65536
  pub harts : (1 ≤ work.harts) × (work.harts ≤ 16)
  pub count : length s.answers.items ≤ 65536
  pub code : length state.code.items ≤ 4194304
  pub enough : (n : ℕ) → place_of work.harts number n < length work.calls.now → n < vec_capacity s.answers
