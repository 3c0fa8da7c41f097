-- What is left of the calls falls with each step of a hart.
use Rattle.std.proofs.Common.{◌≡◌, ℕ, zero, suc, ◌+◌, ◌*◌, ◌<◌, ◌≤◌, List, [], ◌∷◌, length, set, refl, sym, ap, ◌∙◌, arith}
use mathlib.Core.Option.{some-injective, some-ne-none}
use Rattle.hart.specs.declared.hart.Hart.{Hart}
use Rattle.hart.specs.declared.hart.Phase.{Phase}
use Rattle.hart.specs.declared.hart.Phase.TheVariants as phase
use Rattle.hart.specs.Standing.{turns_left}
use Rattle.code_epochs.specs.Sound.{At}
use Rattle.jit_core.specs.declared.seat.Seat.{Seat}
use Rattle.jit_core.specs.declared.seat.Stage.{Stage}
use Rattle.jit_core.specs.declared.seat.Stage.TheVariants as stage
use Rattle.jit_core.specs.declared.seat.Work.{Work}
use Rattle.jit_core.specs.Seats.{WaitsFor}
use Rattle.jit_core.specs.Left.{stage_left, seat_left, all_left}
use Rattle.jit_core.proofs.Stands.{seat_of}

waiting-left : (h : Hart) (g : Stage) → WaitsFor h g → stage_left h g ≡ turns_left h h.phase
waiting-left h stage.Idle w = absurd w
waiting-left h (stage.Loaded epoch) w = absurd w
waiting-left h (stage.Cell symbol) w = refl
waiting-left h (stage.Fetch address) w = refl
waiting-left h stage.End w = refl

pub load_falls : (work : Work) (s : Seat) (epoch : ℕ) → s.stage ≡ stage.Idle → seat_left work (seat_of s.hart (stage.Loaded epoch) s) < seat_left work s
load_falls work s epoch is = let e : stage_left s.hart s.stage ≡ 2199023255557 = ap (λ (g : Stage). stage_left s.hart g) is in omega arith

pub go_falls : (work : Work) (s : Seat) (after : Hart) (g next : Stage) → s.stage ≡ g → WaitsFor s.hart g → WaitsFor after next → turns_left after after.phase < turns_left s.hart s.hart.phase
    → seat_left work (seat_of after next s) < seat_left work s
go_falls work s after g next is waits then fewer =
    let a : stage_left s.hart s.stage ≡ turns_left s.hart s.hart.phase = ap (λ (k : Stage). stage_left s.hart k) is ∙ waiting-left s.hart g waits in
    let b = waiting-left after next then in
    omega arith

pub begin_falls : (work : Work) (s : Seat) (after started : Hart) (epoch : ℕ) (next : Stage) (turns : ℕ) → s.stage ≡ stage.Loaded epoch → WaitsFor after next → turns_left after after.phase < turns_left started started.phase
    → started.phase ≡ phase.Start → started.left ≡ 256 * turns → turns ≤ 4294967296 → seat_left work (seat_of after next s) < seat_left work s
begin_falls work s after started epoch next turns is waits fewer starts left few =
    let a : stage_left s.hart s.stage ≡ 2199023255556 = ap (λ (k : Stage). stage_left s.hart k) is in
    let b = waiting-left after next waits in
    let d : turns_left started started.phase ≡ 2 * started.left + 3 = ap (λ (p : Phase). turns_left started p) starts in
    omega arith

pub end_falls : (work : Work) (s after : Seat) → s.stage ≡ stage.End → WaitsFor s.hart stage.End → after.stage ≡ stage.Idle → length after.answers.items ≡ length s.answers.items + 1 → length s.answers.items < length work.calls.now
    → seat_left work after < seat_left work s
end_falls work s after is waits idle longer more =
    let a : stage_left s.hart s.stage ≡ 1 = ap (λ (k : Stage). stage_left s.hart k) is ∙ ap (λ (p : Phase). turns_left s.hart p) waits.1 in
    let b : stage_left after.hart after.stage ≡ 2199023255557 = ap (λ (k : Stage). stage_left after.hart k) idle in
    omega arith

pub set_falls : (work : Work) (seats : List Seat) (h : ℕ) (before after : Seat) → At seats h before → seat_left work after < seat_left work before → all_left work (set seats h after) < all_left work seats
set_falls work [] h before after at fewer = absurd (some-ne-none before (sym at))
set_falls work (s ∷ seats) zero before after at fewer = let e = ap (λ (x : Seat). seat_left work x) (some-injective s before at) in omega arith
set_falls work (s ∷ seats) (suc h) before after at fewer = let t = set_falls work seats h before after at fewer in omega arith
