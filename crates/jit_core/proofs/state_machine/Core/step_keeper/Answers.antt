use Rattle.std.proofs.Common.{◌≡◌, Some, sym}
use Rattle.jit_core.specs.declared.publishing.Publishing.TheVariants.{Storing, Raising}
use Rattle.jit_core.specs.Events.{lay_draft, raise_for}
use Rattle.jit_core.proofs.Keeping.{does_as}
use Rattle.jit_core.proofs.state_machine.Core.step_keeper.Goals as goal

pub returns-in-Some-Storing-clause-answer : goal.returns-in-Some-Storing-clause-answer
returns-in-Some-Storing-clause-answer c =
    let core = c.args.self.now in
    let value = c.take.ensures.value in
    let is = c.in-Some-Storing.is in
    let field = c.in-Some-Storing.field-0-is in
    let e : Some (Storing c.in-Some-Storing.laying) ≡ core.publishing = cc in
    (lay_draft, (c.in-Some-Storing.laying, sym e), does_as core c.lay.new.self (Some (Storing c.in-Some-Storing.laying)) lay_draft e c.lay.ensures.does)

pub returns-in-Some-Storing-clause-stands : goal.returns-in-Some-Storing-clause-stands
returns-in-Some-Storing-clause-stands c = λ told s.
    let core = c.args.self.now in
    let value = c.take.ensures.value in
    let is = c.in-Some-Storing.is in
    let field = c.in-Some-Storing.field-0-is in
    let e : Some (Storing c.in-Some-Storing.laying) ≡ core.publishing = cc in
    (does_as core c.lay.new.self (Some (Storing c.in-Some-Storing.laying)) lay_draft e c.lay.ensures.does told s).0

pub returns-in-Some-Raising-clause-answer : goal.returns-in-Some-Raising-clause-answer
returns-in-Some-Raising-clause-answer c =
    let core = c.args.self.now in
    let value = c.take.ensures.value in
    let is = c.in-Some-Raising.is in
    let field = c.in-Some-Raising.field-0-is in
    let e : Some (Raising c.in-Some-Raising.number) ≡ core.publishing = cc in
    (raise_for c.in-Some-Raising.number, sym e, does_as core c.raise.new.self (Some (Raising c.in-Some-Raising.number)) (raise_for c.in-Some-Raising.number) e c.raise.ensures.does)

pub returns-in-Some-Raising-clause-stands : goal.returns-in-Some-Raising-clause-stands
returns-in-Some-Raising-clause-stands c = λ told s.
    let core = c.args.self.now in
    let value = c.take.ensures.value in
    let is = c.in-Some-Raising.is in
    let field = c.in-Some-Raising.field-0-is in
    let e : Some (Raising c.in-Some-Raising.number) ≡ core.publishing = cc in
    (does_as core c.raise.new.self (Some (Raising c.in-Some-Raising.number)) (raise_for c.in-Some-Raising.number) e c.raise.ensures.does told s).0
