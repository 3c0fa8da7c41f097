use Rattle.ir_print_laws.proofs.ValuesBack.{typed_back}
use Rattle.ir_print_laws.proofs.form_laws.typed_read_back.Goals as goal

pub returns : goal.returns
returns c = λ globals ty one rest n k. let h = typed_back globals ty one rest (record { no_name = n; no_colon = k }) in (h.value, h.read, h.tree)
