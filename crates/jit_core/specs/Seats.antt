-- Where a hart of the core stands between its steps, and what it answered.
use Rattle.std.specs.Prelude.{◌≡◌, ℕ, ◌+◌, ◌*◌, ◌<◌, List, length}
use Rattle.ir_meaning.specs.declared.calls.Ended.{Ended}
use Rattle.ir_meaning.specs.declared.calls.ListedCall.{ListedCall}
use Rattle.ir_meaning.specs.Plays.{Meaning}
use Rattle.rv_core.specs.declared.reg.Reg.{Reg}
use Rattle.rv_play.specs.Good.{IsBytes}
use Rattle.hart.specs.declared.hart.Hart.{Hart}
use Rattle.hart.specs.declared.hart.Image.{Image}
use Rattle.hart.specs.declared.hart.Phase.{Phase}
use Rattle.hart.specs.declared.hart.Phase.TheVariants as phase
use Rattle.hart.specs.Standing.{IsFor, IsCodeAddress}
use Rattle.hart.specs.Calls.{Stands, EndedOver, HasRoomFor, IsCall, origin_of}
use Rattle.code_epochs.specs.declared.parts.HartPart.{HartPart}
use Rattle.code_epochs.specs.declared.parts.Item.{Item}
use Rattle.code_epochs.specs.Sound.{At, Whole}
use Rattle.code_epochs.specs.Passes.{items_of}
use Rattle.jit_core.specs.declared.seat.Stage.{Stage}
use Rattle.jit_core.specs.declared.seat.Stage.TheVariants as stage
use Rattle.jit_core.specs.declared.seat.Seat.{Seat}

-- the hart waits for what its stage says
abbrev pub WaitsFor : Hart → Stage → Type 0
WaitsFor h stage.Idle = ⊥
WaitsFor h (stage.Loaded epoch) = ⊥
WaitsFor h (stage.Cell symbol) = (rd : Reg) × (h.phase ≡ phase.Cell rd symbol) × (symbol < h.functions)
WaitsFor h (stage.Fetch address) = (h.phase ≡ phase.Fetch) × (address ≡ h.regs.pc) × IsCodeAddress h.code_words address
WaitsFor h stage.End = (e : Ended) × (h.phase ≡ phase.End e)

-- where a call started: a hart of this meaning that had room for the image, and bytes that are bytes
pub record Started (m : Meaning) (image : Image) (call : ListedCall) (before : Hart) : Type 0 where
  pub known : IsFor m before
  pub room : HasRoomFor (length before.bytes.items) image
  pub bytes : IsBytes (origin_of before image call 0).bytes
  pub control : IsBytes (origin_of before image call 0).control

-- the call ended so over the pass
pub record AnsweredOver (m : Meaning) (image : Image) (code_words : ℕ) (call : ListedCall) (pass : List Item) (e : Ended) : Type 0 where
  pub before : Hart
  pub after : Hart
  pub counted : List ℕ
  pub started : Started m image call before
  pub over : EndedOver m (origin_of before image call code_words) (items_of pass) e after counted

-- The call of this hart that is on its way has held and seen the hart's pass.
pub record Running (m : Meaning) (image : Image) (code_words : ℕ) (call : ListedCall) (pass : List Item) (h : Hart) : Type 0 where
  pub before : Hart
  pub counted : List ℕ
  pub started : Started m image call before
  pub stands : Stands m (origin_of before image call code_words) h (items_of pass) counted

-- the place in the list of calls of the call with this number among those of the hart
abbrev pub place_of : ℕ → ℕ → ℕ → ℕ
place_of harts hart n = hart + harts * n

-- what the hart's word, its part and its stage say together
abbrev pub StandsAt : Meaning → Image → List ListedCall → ℕ → Whole → ℕ → Seat → HartPart → Stage → Type 0
StandsAt m image calls place x h s p stage.Idle = At x.announced h 0
StandsAt m image calls place x h s p (stage.Loaded epoch) = At x.announced h 0 × (p.epoch ≡ epoch) × (0 < epoch) × (place < length calls)
StandsAt m image calls place x h s p other =
    (word : ℕ) × At x.announced h word × (0 < word) × WaitsFor s.hart other × (s.hart.code_words ≡ length x.code)
    × ((call : ListedCall) × At calls place call × Running m image (length x.code) call p.pass s.hart)

-- The seat of the hart with this number: its answers are those over its ended passes, in order.
pub record SeatStands (m : Meaning) (image : Image) (calls : List ListedCall) (harts : ℕ) (x : Whole) (h : ℕ) (s : Seat) : Type 0 where
  pub part : HartPart
  pub at : At x.harts h part
  pub known : IsFor m s.hart
  pub room : HasRoomFor (length s.hart.bytes.items) image
  pub count : length s.answers.items ≡ length part.ended
  pub answered : (i : ℕ) (e : Ended) → At s.answers.items i e → (pass : List Item) × At part.ended i pass
      × ((call : ListedCall) × At calls (place_of harts h i) call × AnsweredOver m image (length x.code) call pass e)
  pub stands : StandsAt m image calls (place_of harts h (length s.answers.items)) x h s part s.stage

-- the call has begun and hasn't ended
abbrev pub GoesOn : Phase → Type 0
GoesOn phase.Idle = ⊥
GoesOn phase.Start = ⊥
GoesOn (phase.End e) = ⊥
GoesOn (phase.Done e) = ⊥
GoesOn _ = Unit {0}

-- each call can be given to a hart that knows so many functions
abbrev pub AreCalls : ℕ → List ListedCall → Type 0
AreCalls functions calls = (i : ℕ) (call : ListedCall) → At calls i call → IsCall functions call
