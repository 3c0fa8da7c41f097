use Rattle.std.proofs.Common.{◌≡◌, ◌-◌, ◌/◌, ap, length, refl, sym, subst, ◌∙◌, arith}
use Rattle.jit_core.specs.declared.seat.Stage.{Stage}
use Rattle.jit_core.specs.Seated.{CanStep}
use Rattle.jit_core.specs.declared.seat.Stage.TheVariants as stage
use Rattle.jit_core.proofs.Falling.{go_falls}
use Rattle.jit_core.proofs.Stands.{seat_of}
use Rattle.jit_core.proofs.Readying.{stays_ready, can_wait}
use Rattle.code_epochs.specs.Steps.{address_of}
use Rattle.jit_core.proofs.Stepping.{word_steps}
use Rattle.jit_core.proofs.seat.Seat.take_word.Goals as goal

pub returns-clause-steps : goal.returns-clause-steps
returns-clause-steps c =
    let place = (c.args.address - 16777216) / 4 in
    let a = c.requires.waits.2 in
    let is : address_of place ≡ c.args.address = (let low = a.0 in let even = a.2 in omega arith) in
    word_steps c.args.state.now c.load_word-word.new.state c.args.self.now c.args.work c.args.number place c.args.address c.load_word-word.result c.go_on-self.new.hart c.go_on-self.result c.load_word-word.ensures.sound c.load_word-word.ensures.found
    c.requires.stage is c.go_on-self.ensures.waits c.go_on-self.ensures.stands c.go_on-self.ensures.same

pub returns-clause-ready : goal.returns-clause-ready
returns-clause-ready c =
    let s = c.args.self.now in
    let r = c.requires.ready in
    let same = c.load_word-word.ensures.same in
    let went = c.go_on-self.ensures.same in
    let n = length s.answers.items in
    let code = ap (λ x. length x.code.items) same in
    let can = subst (λ (g : Stage). CanStep c.args.work c.args.number n c.args.state.now s.hart g) c.requires.stage r.stage in
    stays_ready s (seat_of c.go_on-self.new.hart c.go_on-self.result s) c.args.state.now c.load_word-word.new.state c.args.work c.args.number r
    (ap (λ x. length x.cells.items) same) (ap (λ x. length x.harts.items) same) code went.functions went.room refl r.count
    (can_wait c.args.work c.args.number n c.load_word-word.new.state c.go_on-self.new.hart c.go_on-self.result c.go_on-self.ensures.waits (went.code_words ∙ can.1 ∙ sym code) can.2)

pub returns-clause-fewer : goal.returns-clause-fewer
returns-clause-fewer c = go_falls c.args.work c.args.self.now c.go_on-self.new.hart (stage.Fetch c.args.address) c.go_on-self.result c.requires.stage c.requires.waits c.go_on-self.ensures.waits c.go_on-self.ensures.fewer
