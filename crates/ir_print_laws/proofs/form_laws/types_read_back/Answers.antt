use Rattle.ir_print_laws.proofs.TypesBack.{ty_back}
use Rattle.ir_print_laws.proofs.form_laws.types_read_back.Goals as goal

pub returns : goal.returns
returns c = λ ty rest n k. let h = ty_back ty rest (record { no_name = n; no_colon = k }) in (h.parts, h.read, h.tree)
