use Rattle.std.proofs.Common.{◌∙◌, ap, Option, List, ℕ}
use Rattle.std.specs.Prelude.{slice_index}
use Rattle.ir_eval.specs.Fits.{row_of}
use Rattle.ir_eval.proofs.Numbered.{at_or_zero, none_is_zero}
use Rattle.ir_eval.proofs.numbers.number_of.Goals as goal

pub returns-in-None-get : goal.returns-in-None-get
returns-in-None-get c =
    none_is_zero c.in-Some.row.now c.args.place c.in-None-get.ensures.value
    ∙ ap (λ (r : Option (List ℕ)). slice_index (row_of r) c.args.place) c.in-Some.ensures.value

pub returns-in-Some-get : goal.returns-in-Some-get
returns-in-Some-get c =
    at_or_zero c.in-Some.row.now c.args.place c.in-Some-get.number.now c.in-Some-get.ensures.value
    ∙ ap (λ (r : Option (List ℕ)). slice_index (row_of r) c.args.place) c.in-Some.ensures.value
