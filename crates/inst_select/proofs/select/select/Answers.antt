use Rattle.std.proofs.Common.{◌≡◌, sym, subst, ◌^◌, ◌<◌}
use Rattle.gmir.specs.Refines.{face as generic_face}
use Rattle.mir.specs.declared.code.MFunction.{MFunction}
use Rattle.mir.specs.WellFormed.{IsWellFormed}
use Rattle.mir_play.specs.Refines.{RefinesFrom}
use Rattle.selected_code.specs.Selected.{selected}
use Rattle.selected_code.proofs.Whole.{selected_refines}
use Rattle.selected_code.proofs.Placing.{selected_is_well_formed}
use Rattle.inst_select.proofs.Answering.{answered, answered_both}
use Rattle.inst_select.proofs.select.select.Goals as goal

pub returns-clause-refines : goal.returns-clause-refines
returns-clause-refines c =
    let g = c.args.function.now in
    answered_both (λ (code : MFunction). code ≡ selected g) (λ code. code.end < 2 ^ 64) (λ code. RefinesFrom (generic_face g) code)
    (λ code is low. subst (λ z. RefinesFrom (generic_face g) z) (sym is) (selected_refines g c.requires.formed c.requires.legal (subst (λ z. z.end < 2 ^ 64) is low)))
    c.code_of.result c.code_of.ensures.is c.code_of.ensures.low

pub returns-clause-well_formed : goal.returns-clause-well_formed
returns-clause-well_formed c =
    answered (λ (code : MFunction). code ≡ selected c.args.function.now) (λ code. IsWellFormed code)
    (λ code e. subst (λ z. IsWellFormed z) (sym e) (selected_is_well_formed c.args.function.now c.requires.formed c.requires.legal)) c.code_of.result c.code_of.ensures.is
