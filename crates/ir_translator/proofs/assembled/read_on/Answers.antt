use Rattle.std.proofs.Common.{sym, ap, ◌∙◌}
use Rattle.std.specs.Prelude.{slice_index_or}
use Rattle.generic_code.specs.Edges.{Edge}
use Rattle.ir_translator.proofs.Assembling.{index-none}
use Rattle.ir_translator.proofs.assembled.read_on.Goals as goal

pub returns-in-None : goal.returns-in-None
returns-in-None c = sym (index-none c.edge.inside.uses c.args.place 0 (sym c.in-None.ensures.value)) ∙ ap (λ (e : Edge). slice_index_or e.uses c.args.place 0) c.edge.view_is
