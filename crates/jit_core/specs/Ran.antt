-- A run over drawn events.
use Rattle.std.specs.Prelude.{◌≡◌, ℕ, ◌++◌, List, [], length, map, None}
use Rattle.ir_core.specs.Program.{Program}
use Rattle.ir_meaning.specs.Meaning.{meaning}
use Rattle.ir_meaning.specs.Memory.{Memory}
use Rattle.ir_meaning.specs.Ranges.{IsInvocation}
use Rattle.ir_meaning.specs.Right.{RightFrom}
use Rattle.ir_meaning.specs.Typed.{IsTyped}
use Rattle.ir_meaning.specs.declared.calls.Ended.{Ended}
use Rattle.ir_meaning.specs.declared.calls.ListedCall.{ListedCall}
use Rattle.rv_play.specs.declared.version.Version.{Version}
use Rattle.rv_play.specs.Link.{top_invocation}
use Rattle.hart.specs.declared.hart.Image.{Image}
use Rattle.hart.specs.Right.{IsImageOf}
use Rattle.code_epochs.specs.Sound.{At}
use Rattle.jit_core.specs.declared.state_machine.Core.{Core}
use Rattle.jit_core.specs.Events.{Told}
use Rattle.jit_core.specs.Cores.{Stands, IsRightAnswer, IsSeatAnswer}
use Rattle.jit_core.specs.First.{laid, words_of, IsBehind, AreNewSeats}
use Rattle.jit_core.specs.Simulated.{MakesAll, event_of}
use Rattle.jit_core.specs.Finished.{rounds}
use Rattle.jit_core.specs.declared.run.Plan.{Plan}
use Rattle.jit_core.specs.declared.run.Report.{Report}
use Rattle.jit_core.specs.Drawn.{drawn}

-- these are the answers of the core's seats to so many calls, and right ones
abbrev pub AreAnswers : Core → ℕ → List Ended → Type 0
AreAnswers c count ends = (length ends ≡ count) × ((i : ℕ) (e : Ended) → At ends i e → IsRightAnswer c i e × IsSeatAnswer c i e)

-- A new core of these versions over so many code words, which stands for no event: the versions are laid one behind the other from the
-- first code word on and the rest is free, nothing is being published, no hart was looked at, and none has begun a call.
pub record IsNewCore (c : Core) (program : Program) (calls : List ListedCall) (versions : List Version) (harts code_words : ℕ) : Type 0 where
  pub stands : Stands c []
  pub versions_are : c.state.versions.items ≡ laid versions 0 0
  pub publishing : c.publishing ≡ None
  pub looked : c.looked ≡ None
  pub space : IsBehind code_words (words_of versions) (length versions) c.space
  pub size : length c.state.code.items ≡ code_words
  pub seats : AreNewSeats (meaning program) harts (length calls) c.seats.items

-- the core goes by this module, image and list of calls, with so many harts
abbrev pub GoesBy : Core → Program → Image → List ListedCall → ℕ → Type 0
GoesBy c program image calls harts = (c.all.now ≡ program) × (c.work.image.now ≡ image) × (c.work.calls.now ≡ calls) × (length c.seats.items ≡ harts)

-- the answer of the call at this place is right, whichever first data memory the image is of
abbrev pub IsRightFor : Program → Image → List ListedCall → ℕ → Ended → Type 0
IsRightFor program image calls place e =
    (call : ListedCall) × At calls place call
    × ((memory : Memory) → IsTyped program → IsInvocation (meaning program) (top_invocation call.symbol call.args memory) → IsImageOf memory image → RightFrom program call memory e)

-- Of the new core of these versions over so many code words the drawn events make one, and rounds over the harts of that the last one,
-- which stands for all these events. The report has the answers of the last core's seats, each right for its call, and its number of versions.
pub record Ran (program : Program) (image : Image) (calls : List ListedCall) (versions : List Version) (plan : Plan) (r : Report) : Type 0 where
  pub first : Core
  pub middle : Core
  pub last : Core
  pub goes_by : GoesBy first program image calls plan.harts
  pub begins : IsNewCore first program calls versions plan.harts plan.code_words
  pub draws : (told : List Told) × (map event_of told ≡ drawn versions plan.harts plan.draw plan.steps) × MakesAll first told middle
  pub finishes : (told : List Told) × (n : ℕ) × (map event_of told ≡ rounds n plan.harts) × MakesAll middle told last
  pub stands : Stands last (draws.0 ++ finishes.0)
  pub answers : (length r.answers.items ≡ length calls) × ((i : ℕ) (e : Ended) → At r.answers.items i e → IsRightFor program image calls i e)
  pub seats : (i : ℕ) (e : Ended) → At r.answers.items i e → IsSeatAnswer last i e
  pub versions_are : r.versions ≡ length last.state.versions.items
