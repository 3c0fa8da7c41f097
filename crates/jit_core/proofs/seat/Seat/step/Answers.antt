use Rattle.std.proofs.Common.{◌<◌, ◌≤◌, length, subst, arith}
use Rattle.jit_core.specs.declared.seat.Stage.{Stage}
use Rattle.jit_core.specs.Seated.{CanStep}
use Rattle.jit_core.proofs.Readying.{place_small}
use Rattle.jit_core.proofs.seat.Seat.step.Goals as goal

pub overflow_mul-place : goal.overflow_mul-place
overflow_mul-place c =
    let r = c.requires in
    let vec = c.args.self.now.answers.ok.0 in
    let len = c.len.ensures in
    let count = r.count in
    let few : c.len.result ≤ 65536 = omega arith in
    let small = place_small c.args.work.harts c.len.result r.harts.1 few in
    omega arith

pub overflow_add-place : goal.overflow_add-place
overflow_add-place c =
    let r = c.requires in
    let vec = c.args.self.now.answers.ok.0 in
    let len = c.len.ensures in
    let count = r.count in
    let few : c.len.result ≤ 65536 = omega arith in
    let small = place_small c.args.work.harts c.len.result r.harts.1 few in
    let number : c.args.number < 4294967296 = c.ranges.number.fits in
    omega arith

pub end-requires-clause-room : goal.end-requires-clause-room
end-requires-clause-room c =
    let r = c.requires in
    let s = c.args.self.now in
    let n = length s.answers.items in
    let can = subst (λ (g : Stage). CanStep c.args.work c.args.number n c.args.state.now s.hart g) c.in-End.is r.stage in
    let room = r.enough n can.2 in
    let vec = s.answers.ok.0 in
    omega arith
