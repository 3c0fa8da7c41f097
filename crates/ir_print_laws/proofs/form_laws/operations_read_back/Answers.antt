use Rattle.ir_print_laws.proofs.OperationsWhole.{operation_back}
use Rattle.ir_print_laws.proofs.form_laws.operations_read_back.Goals as goal

pub returns : goal.returns
returns c = λ m ret gives op rest plain n k. let h = operation_back m ret gives op rest plain (record { no_name = n; no_colon = k }) in (h.operation, h.read, h.tree)
