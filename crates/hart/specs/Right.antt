-- When the answers of calls on a hart are right.
use Rattle.std.specs.Prelude.{◌≡◌, ℕ, ◌-◌, List, [], length, slice_get, slice_index, Some}
use Rattle.ir_meaning.specs.declared.calls.Ended.{Ended}
use Rattle.ir_meaning.specs.declared.calls.ListedCall.{ListedCall}
use Rattle.ir_meaning.specs.Memory.{Memory}
use Rattle.ir_meaning.specs.Step.{Program}
use Rattle.ir_meaning.specs.Meaning.{meaning}
use Rattle.ir_meaning.specs.Plays.{Meaning}
use Rattle.ir_meaning.specs.Ranges.{IsInvocation}
use Rattle.ir_meaning.specs.Typed.{IsTyped}
use Rattle.ir_meaning.specs.Right.{RightFrom}
use Rattle.rv_play.specs.declared.version.Version.{Version}
use Rattle.rv_play.specs.Machine.{data_base}
use Rattle.rv_play.specs.Good.{IsBytes}
use Rattle.rv_play.specs.Ending.{Item}
use Rattle.rv_play.specs.Link.{Backed, top_invocation}
use Rattle.rv_play.specs.ListedCalls.{Follows}
use Rattle.hart.specs.declared.hart.Hart.{Hart}
use Rattle.hart.specs.declared.hart.Image.{Image}
use Rattle.hart.specs.Standing.{IsFor, run_of}
use Rattle.hart.specs.Calls.{EndedOver, HasRoomFor, origin_of}
use Rattle.hart.specs.Fixed.{AreVersions, AllGood, Serves, bases_of, code_of}

-- an image of a first data memory: as long, and with its numbers, where 0 stands behind the image's bytes
pub record IsImageOf (memory : Memory) (image : Image) : Type 0 where
  pub long : length memory ≡ image.top - data_base
  pub bytes : (i b : ℕ) → slice_get memory i ≡ Some (Some b) → slice_index image.bytes i ≡ b

-- a listed call of a well typed program, on a hart that knows it, from an image of a first data memory
pub record IsListedOn (program : Program) (call : ListedCall) (memory : Memory) (image : Image) (h : Hart) : Type 0 where
  pub typed : IsTyped program
  pub known : IsFor (meaning program) h
  pub invocation : IsInvocation (meaning program) (top_invocation call.symbol call.args memory)
  pub image_of : IsImageOf memory image
  pub room : HasRoomFor (length h.bytes.items) image
  pub bytes : IsBytes (origin_of h image call 0).bytes
  pub control : IsBytes (origin_of h image call 0).control

-- over a backed pass the answer is right, and the run follows the evaluation
abbrev pub AnswersAreRight : Type 0
AnswersAreRight =
    (program : Program) (call : ListedCall) (memory : Memory) (image : Image) (h h' : Hart) (code_words : ℕ) (pass : List Item) (counted : List ℕ) (e : Ended)
    → IsListedOn program call memory image h → Backed (meaning program) code_words pass
    → EndedOver (meaning program) (origin_of h image call code_words) pass e h' counted
    → RightFrom program call memory e × Follows program call memory (run_of h' counted []) call.turns

-- what versions serve is backed where each of them is good
abbrev pub FixedPassesAreBacked : Type 0
FixedPassesAreBacked =
    (m : Meaning) (versions : List Version) (pass : List Item) → AreVersions versions → AllGood m versions → Serves (bases_of 0 versions) (code_of 0 versions) pass
    → Backed m (length (code_of 0 versions)) pass

-- over good versions the answer is right, and the run follows the evaluation
abbrev pub FixedAnswersAreRight : Type 0
FixedAnswersAreRight =
    (program : Program) (call : ListedCall) (memory : Memory) (image : Image) (h h' : Hart) (versions : List Version) (pass : List Item) (counted : List ℕ) (e : Ended)
    → IsListedOn program call memory image h → AreVersions versions → AllGood (meaning program) versions
    → Serves (bases_of 0 versions) (code_of 0 versions) pass
    → EndedOver (meaning program) (origin_of h image call (length (code_of 0 versions))) pass e h' counted
    → RightFrom program call memory e × Follows program call memory (run_of h' counted []) call.turns
