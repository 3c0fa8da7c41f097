use Rattle.std.proofs.Common.{sym, subst, ◌<◌, ◌+◌, ◌^◌, length}
use Rattle.std.proofs.lemmas.Result.{IfOk-weaker}
use Rattle.mir.specs.declared.code.MFunction.{MFunction}
use Rattle.phi_out.specs.Lowering.{edge_count}
use Rattle.frame_out.specs.Words.{AreGood}
use Rattle.gisel.proofs.Sizes.{regs-have-numbers, blocks-have-numbers}
use Rattle.gisel.proofs.Good.{good-for}
use Rattle.gisel.proofs.stages.words_of.Goals as goal

pub placed-requires-clause-regs : goal.placed-requires-clause-regs
placed-requires-clause-regs c = subst (λ (f : MFunction). f.regs + 1 < 2 ^ 32) (sym c.in-Ok.ensures.exact) (regs-have-numbers c.args.function.now c.requires.small)

pub placed-requires-clause-few : goal.placed-requires-clause-few
placed-requires-clause-few c = subst (λ (f : MFunction). length f.blocks + edge_count f < 2 ^ 32) (sym c.in-Ok.ensures.exact) (blocks-have-numbers c.args.function.now c.requires.small)

pub returns-in-Ok-clause-good : goal.returns-in-Ok-clause-good
returns-in-Ok-clause-good c =
    IfOk-weaker c.placed.result _ _
    (λ words good. good-for c.args.function.now words c.legal_forms_are_legal.ensures c.legal_forms_are_formed.ensures c.legal_forms_refine.ensures c.selected_refines.ensures c.requires.formed c.requires.addresses c.requires.end
    (subst (λ (f : MFunction). AreGood f words) c.in-Ok.ensures.exact good))
    c.placed.ensures.good
