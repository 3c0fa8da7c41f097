use Rattle.std.proofs.Common.{◌≡◌, sym, subst}
use Rattle.gmir.specs.declared.code.GFunction.{GFunction}
use Rattle.gmir.specs.Legal.{IsLegal}
use Rattle.legal_code.specs.Legal.{KeepsRegisters, legalized}
use Rattle.legalizer.proofs.Answering.{answered}
use Rattle.legalizer.proofs.legalize.legalize.Goals as goal

pub returns-clause-legal : goal.returns-clause-legal
returns-clause-legal c =
    answered (λ (legal : GFunction). legal ≡ legalized c.args.function.now) (λ legal. IsLegal legal)
    (λ legal e. subst (λ z. IsLegal z) (sym e) (c.legal_forms_are_legal.ensures c.args.function.now).0) c.legal_form.result c.legal_form.ensures

pub returns-clause-registers : goal.returns-clause-registers
returns-clause-registers c =
    answered (λ (legal : GFunction). legal ≡ legalized c.args.function.now) (λ legal. KeepsRegisters c.args.function.now legal)
    (λ legal e. subst (λ z. KeepsRegisters c.args.function.now z) (sym e) (c.legal_forms_are_legal.ensures c.args.function.now).1) c.legal_form.result c.legal_form.ensures
