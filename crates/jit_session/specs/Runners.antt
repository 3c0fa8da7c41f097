-- The harts of a session before and after their calls.
use Rattle.std.specs.Prelude.{◌≡◌, ℕ, ◌<◌, ◌≤◌, List, [], length, vec_capacity}
use Rattle.ir_core.specs.Program.{Program}
use Rattle.ir_meaning.specs.Typed.{IsTyped}
use Rattle.ir_meaning.specs.declared.calls.ListedCall.{ListedCall}
use Rattle.hart.specs.declared.hart.Hart.{Hart}
use Rattle.hart.specs.declared.hart.Image.{Image}
use Rattle.redirect_cells.specs.declared.hart_seat.HartSeat.{HartSeat}
use Rattle.jit_session.specs.Calls.{IsCallOf, AreCallsOf}
use Rattle.jit_session.specs.declared.runner.Runner.{Runner}
use Rattle.jit_session.specs.Runs.{IsImage, IsReady, IsSameSeat, IsSameCounts, HasAnswered, place_of}
use Rattle.jit_session.specs.Entries.{calls_of, HasEntered}
use Rattle.jit_session.specs.Served.{HasServed}

-- the work of a session of so many harts: a list of calls of a well typed program, from its image
pub record IsWork (program : Program) (first : Image) (list : List ListedCall) (count : ℕ) : Type 0 where
  pub typed : IsTyped program
  pub image : IsImage program first
  pub calls : AreCallsOf program.module_.functions list
  pub few : length list ≤ 65536
  pub harts : (1 ≤ count) × (count ≤ 16)

-- a call of a well typed program, from its image, on a hart that is ready for it
pub record MayAnswer (program : Program) (first : Image) (call : ListedCall) (h : Hart) (s : HartSeat) : Type 0 where
  pub typed : IsTyped program
  pub ready : IsReady program h s
  pub image : IsImage program first
  pub listed : IsCallOf program.module_.functions call

-- the hart has answered no call, and has room for the answers to all of its calls
pub record CanRun {G : Type 0} (program : Program) (calls : List ListedCall) (harts : ℕ) (r : Runner G) : Type 0 where
  pub ready : IsReady program r.hart r.bench.seat
  pub none : r.answers.items ≡ []
  pub room : (n : ℕ) → place_of harts r.number n < length calls → n < vec_capacity r.answers

-- the hart has answered its calls
pub record HasRun {G : Type 0} (program : Program) (calls : List ListedCall) (harts : ℕ) (before after : Runner G) : Type 0 where
  pub answered : HasAnswered program calls harts before.number after.answers.items
  pub ready : IsReady program after.hart after.bench.seat
  pub seat : IsSameSeat before.bench.seat after.bench.seat
  pub counts : IsSameCounts before.bench.counts after.bench.counts
  pub number : after.number ≡ before.number
  pub entries : after.entries ≡ before.entries
  pub served : HasServed program calls harts before.number before.bench.seat after.bench.seat before.bench.counts after.bench.counts after.answers.items
  pub entered : HasEntered program (calls_of calls harts before.number) before.bench.counts after.bench.counts
