use Rattle.std.proofs.Common.{ap, ◌∙◌, set, subst}
use Rattle.code_epochs.proofs.Lists.{at_index, at_same}
use Rattle.jit_core.specs.declared.seat.Seat.{Seat}
use Rattle.jit_core.specs.Seated.{HasNoCall}
use Rattle.jit_core.proofs.Falling.{set_falls}
use Rattle.jit_core.proofs.Seating.{all_move, all_ready, set_same}
use Rattle.jit_core.proofs.harts.step_hart.Goals as goal

pub step-requires : goal.step-requires
step-requires c =
    let s = c.index_mut.result.now in
    c.requires.ready c.args.number s (at_index c.args.seats.now.items c.args.number s c.requires.number c.index_mut.ensures.value)

pub returns-clause-moves : goal.returns-clause-moves
returns-clause-moves c = λ moved.
    let s = c.index_mut.result.now in
    all_move c.args.state.now c.step.new.state c.args.seats.now.items s c.step.new.self c.args.work c.args.number (at_index c.args.seats.now.items c.args.number s c.requires.number c.index_mut.ensures.value) (c.step.ensures.steps moved)

pub returns-clause-over : goal.returns-clause-over
returns-clause-over c = λ over.
    let s = c.index_mut.result.now in
    let seats = c.args.seats.now.items in
    let at = at_index seats c.args.number s c.requires.number c.index_mut.ensures.value in
    let o = c.step.ensures.over over in
    (ap (λ t. set seats c.args.number t) o.0 ∙ set_same seats c.args.number s at, o.1, (s, at, o.2))

pub returns-clause-ready : goal.returns-clause-ready
returns-clause-ready c = all_ready c.args.state.now c.step.new.state c.args.seats.now.items c.step.new.self c.args.work c.args.number c.step.ensures.size c.step.ensures.ready c.requires.ready

pub returns-clause-fewer : goal.returns-clause-fewer
returns-clause-fewer c = λ moved.
    let s = c.index_mut.result.now in
    let seats = c.args.seats.now.items in
    set_falls c.args.work seats c.args.number s c.step.new.self (at_index seats c.args.number s c.requires.number c.index_mut.ensures.value) (c.step.ensures.fewer moved)

pub returns-clause-going : goal.returns-clause-going
returns-clause-going c = λ moved over.
    let s = c.index_mut.result.now in
    let seats = c.args.seats.now.items in
    let at = at_index seats c.args.number s c.requires.number c.index_mut.ensures.value in
    c.step.ensures.going moved (subst (λ (t : Seat). HasNoCall t c.args.work c.args.number) (at_same seats c.args.number over.0 s over.1 at) over.2)
