use Rattle.std.proofs.Common.{refl}
use Rattle.jit_core.proofs.HartSteps.{hart_stands, hart_kept, over_stands, over_kept}
use Rattle.jit_core.proofs.state_machine.Core.step_hart.Goals as goal

pub returns-then-step_hart-clause-stands : goal.returns-then-step_hart-clause-stands
returns-then-step_hart-clause-stands c = λ told s. hart_stands c.args.self.now c.step_hart.new.state c.step_hart.new.seats c.args.number told (c.step_hart.ensures.moves c.if-step_hart.true) s

pub returns-then-step_hart-clause-kept : goal.returns-then-step_hart-clause-kept
returns-then-step_hart-clause-kept c =
    let e = c.step_hart.ensures in
    hart_kept c.args.self.now c.step_hart.new.state c.step_hart.new.seats c.args.number (e.moves c.if-step_hart.true) e.size e.versions e.count e.ready c.requires.kept

pub returns-else-step_hart-clause-stands : goal.returns-else-step_hart-clause-stands
returns-else-step_hart-clause-stands c = λ told s. let o = c.step_hart.ensures.over c.if-step_hart.false in over_stands c.args.self.now c.step_hart.new.state c.step_hart.new.seats c.args.number told o.0 o.1 s

pub returns-else-step_hart-clause-kept : goal.returns-else-step_hart-clause-kept
returns-else-step_hart-clause-kept c =
    let e = c.step_hart.ensures in
    let o = e.over c.if-step_hart.false in
    over_kept c.args.self.now c.step_hart.new.state c.step_hart.new.seats c.args.number o.0 o.1 e.size e.count e.ready c.requires.kept

pub returns-else-step_hart-clause-answer : goal.returns-else-step_hart-clause-answer
returns-else-step_hart-clause-answer c = let o = c.step_hart.ensures.over c.if-step_hart.false in (o.2, (refl, refl, o.1, o.0, refl, refl, refl))
