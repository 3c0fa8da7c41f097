-- Words that are good for the target code of a function are good for its generic machine code.
use Rattle.std.proofs.Common.{sym, ap, subst, ◌∙◌, ◌<◌, ◌^◌, ℕ, List}
use Rattle.ir_meaning.specs.Step.{function_at}
use Rattle.ir_meaning.specs.Meaning.{meaning}
use Rattle.rv_play.specs.Good.{Good}
use Rattle.mir.specs.declared.code.MFunction.{MFunction}
use Rattle.walks.specs.Face.{function_face}
use Rattle.walks.proofs.Faces.{composes}
use Rattle.gmir.specs.declared.code.GFunction.{GFunction}
use Rattle.gmir.specs.Formed.{IsFormed}
use Rattle.gmir.specs.Refines.{face as generic_face}
use Rattle.legal_code.specs.Legal.{HasWideAddresses, legalized}
use Rattle.legal_code.specs.Laws.{LegalFormsAreLegal, LegalFormsAreFormed, LegalFormsRefine}
use Rattle.mir_play.specs.Refines.{face, Refines, IsCompiled}
use Rattle.mir_play.specs.Laws.{CompiledMayBeRefined}
use Rattle.selected_code.specs.Selected.{selected}
use Rattle.selected_code.specs.Laws.{SelectedRefines}
use Rattle.frame_out.specs.Words.{AreGood}
use Rattle.gisel.specs.Good.{AreGoodFor}

pub good-for : (f : GFunction) (words : List ℕ) → LegalFormsAreLegal → LegalFormsAreFormed → LegalFormsRefine → SelectedRefines
    → IsFormed f → HasWideAddresses f → f.end < 2 ^ 64 → AreGood (selected (legalized f)) words → AreGoodFor f words
good-for f words legal formed refine select is wide low good = λ program function typed at few refines.
    good program function typed at few (
      function,
      at,
      composes (function_face program f.symbol function) (generic_face f) (face (selected (legalized f))) refines
          (composes (generic_face f) (generic_face (legalized f)) (face (selected (legalized f))) (refine f is wide) (select (legalized f) (formed f is wide) (legal f).0 low)),
    )

-- what is good for a function that refines another is good for that
pub placed-good : (f g : MFunction) (words : List ℕ) → CompiledMayBeRefined → Refines f g → AreGood g words → AreGood f words
placed-good f g words law refines good = λ program function typed at few compiled.
    subst (λ (symbol : ℕ). Good (meaning program) symbol words) refines.symbol
    (good program function typed (ap (function_at program) refines.symbol ∙ at) few (subst (λ (symbol : ℕ). IsCompiled program symbol g) (sym refines.symbol) (law program f.symbol f g compiled refines)))
