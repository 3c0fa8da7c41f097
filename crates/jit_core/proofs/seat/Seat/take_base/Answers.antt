use Rattle.std.proofs.Common.{ap, length, refl, sym, subst, ◌∙◌}
use Rattle.jit_core.specs.declared.seat.Stage.{Stage}
use Rattle.jit_core.specs.Seated.{CanStep}
use Rattle.jit_core.specs.declared.seat.Stage.TheVariants as stage
use Rattle.jit_core.proofs.Falling.{go_falls}
use Rattle.jit_core.proofs.Stands.{seat_of}
use Rattle.jit_core.proofs.Stepping.{cell_steps}
use Rattle.jit_core.proofs.Readying.{stays_ready, can_wait}
use Rattle.jit_core.proofs.seat.Seat.take_base.Goals as goal

pub returns-clause-steps : goal.returns-clause-steps
returns-clause-steps c =
    cell_steps c.args.state.now c.load_cell-base.new.state c.args.self.now c.args.work c.args.number c.args.symbol c.load_cell-base.result c.go_on-self.new.hart c.go_on-self.result c.load_cell-base.ensures.sound c.load_cell-base.ensures.found
    c.requires.stage c.go_on-self.ensures.waits c.go_on-self.ensures.stands c.go_on-self.ensures.same

pub returns-clause-ready : goal.returns-clause-ready
returns-clause-ready c =
    let s = c.args.self.now in
    let r = c.requires.ready in
    let same = c.load_cell-base.ensures.same in
    let went = c.go_on-self.ensures.same in
    let n = length s.answers.items in
    let code = ap (λ x. length x.code.items) same in
    let can = subst (λ (g : Stage). CanStep c.args.work c.args.number n c.args.state.now s.hart g) c.requires.stage r.stage in
    stays_ready s (seat_of c.go_on-self.new.hart c.go_on-self.result s) c.args.state.now c.load_cell-base.new.state c.args.work c.args.number r
    (ap (λ x. length x.cells.items) same) (ap (λ x. length x.harts.items) same) code went.functions went.room refl r.count
    (can_wait c.args.work c.args.number n c.load_cell-base.new.state c.go_on-self.new.hart c.go_on-self.result c.go_on-self.ensures.waits (went.code_words ∙ can.1 ∙ sym code) can.2)

pub returns-clause-fewer : goal.returns-clause-fewer
returns-clause-fewer c = go_falls c.args.work c.args.self.now c.go_on-self.new.hart (stage.Cell c.args.symbol) c.go_on-self.result c.requires.stage c.requires.waits c.go_on-self.ensures.waits c.go_on-self.ensures.fewer
