use Rattle.std.proofs.Common.{◌≡◌, ◌+◌, ◌≤◌, ◌<◌, [], ◌∷◌, ap, length, length-append, refl, subst, ◌∙◌, arith}
use Rattle.std.proofs.lemmas.List.{length-set}
use Rattle.jit_core.specs.declared.seat.Stage.{Stage}
use Rattle.jit_core.specs.declared.seat.Stage.TheVariants as stage
use Rattle.jit_core.specs.declared.seat.Seat.{Seat}
use Rattle.jit_core.specs.Seated.{CanStep}
use Rattle.jit_core.proofs.Falling.{end_falls}
use Rattle.jit_core.proofs.Readying.{place_above}
use Rattle.jit_core.proofs.Stepping.{end_steps}
use Rattle.jit_core.proofs.Turning.{has_answer}
use Rattle.jit_core.proofs.Readying.{stays_ready, count_below}
use Rattle.jit_core.proofs.seat.Seat.end.Goals as goal

pub returns-clause-steps : goal.returns-clause-steps
returns-clause-steps c =
    let s = c.args.self.now in
    let after : Seat = record { hart = c.turn.new.self; stage = stage.Idle; answers = c.push_reserved.new.self } in
    end_steps c.args.state.now c.go_idle.new.state s after c.args.work c.args.number c.in-Done.ended c.go_idle.ensures.sound c.requires.stage refl c.push_reserved.ensures.items c.turn.ensures.same
    (λ m o pass counted stands. has_answer s.hart c.turn.new.self c.requires.waits.0 c.in-Done.ended c.turn.result m o pass counted c.requires.waits.1 c.turn.ensures.wanted c.in-Done.is (c.turn.ensures.stands m o pass counted stands))

pub returns-clause-ready : goal.returns-clause-ready
returns-clause-ready c =
    let s = c.args.self.now in
    let r = c.requires.ready in
    let after : Seat = record { hart = c.turn.new.self; stage = stage.Idle; answers = c.push_reserved.new.self } in
    let frame = c.go_idle.ensures.frame in
    let same = c.turn.ensures.same in
    let n = length s.answers.items in
    let can = subst (λ (g : Stage). CanStep c.args.work c.args.number n c.args.state.now s.hart g) c.requires.stage r.stage in
    let few : n + 1 ≤ 65536 = count_below c.args.work.harts c.args.number n (length c.args.work.calls.now) r.harts.0 can.2 r.few in
    let long : length c.push_reserved.new.self.items ≡ n + 1 = ap length c.push_reserved.ensures.items ∙ length-append s.answers.items (c.in-Done.ended ∷ []) in
    stays_ready s after c.args.state.now c.go_idle.new.state c.args.work c.args.number r
    (ap (λ v. length v.items) frame.0) (ap length c.go_idle.ensures.change ∙ length-set c.args.state.now.harts.items c.args.number 0) (ap (λ v. length v.items) frame.2) same.functions same.room c.push_reserved.ensures.capacity (omega arith) tt

pub returns-clause-fewer : goal.returns-clause-fewer
returns-clause-fewer c =
    let s = c.args.self.now in
    let r = c.requires.ready in
    let after : Seat = record { hart = c.turn.new.self; stage = stage.Idle; answers = c.push_reserved.new.self } in
    let n = length s.answers.items in
    let can = subst (λ (g : Stage). CanStep c.args.work c.args.number n c.args.state.now s.hart g) c.requires.stage r.stage in
    let low : n < length c.args.work.calls.now = place_above c.args.work.harts c.args.number n (length c.args.work.calls.now) r.harts.0 can.2 in
    end_falls c.args.work s after c.requires.stage c.requires.waits refl (ap length c.push_reserved.ensures.items ∙ length-append s.answers.items (c.in-Done.ended ∷ [])) low
