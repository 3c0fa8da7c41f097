use Rattle.std.proofs.Common.{ap, length, refl}
use Rattle.jit_core.specs.declared.seat.Stage.TheVariants as stage
use Rattle.jit_core.proofs.Falling.{load_falls}
use Rattle.jit_core.proofs.Stands.{seat_of}
use Rattle.jit_core.proofs.Stepping.{load_steps}
use Rattle.jit_core.proofs.Readying.{stays_ready}
use Rattle.jit_core.proofs.seat.Seat.load.Goals as goal

pub returns-clause-steps : goal.returns-clause-steps
returns-clause-steps c = load_steps c.args.state.now c.load_epoch.new.state c.args.self.now c.args.work c.args.number c.load_epoch.result c.load_epoch.ensures.sound c.load_epoch.ensures.found c.requires.stage c.requires.more

pub returns-clause-ready : goal.returns-clause-ready
returns-clause-ready c =
    let s = c.args.self.now in
    let r = c.requires.ready in
    let same = c.load_epoch.ensures.same in
    stays_ready s (seat_of s.hart (stage.Loaded c.load_epoch.result) s) c.args.state.now c.load_epoch.new.state c.args.work c.args.number r
    (ap (λ x. length x.cells.items) same) (ap (λ x. length x.harts.items) same) (ap (λ x. length x.code.items) same) refl refl refl r.count c.requires.more

pub returns-clause-fewer : goal.returns-clause-fewer
returns-clause-fewer c = load_falls c.args.work c.args.self.now c.load_epoch.result c.requires.stage
