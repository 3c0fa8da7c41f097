use Rattle.ir_print_laws.proofs.LongOperations.{long_back}
use Rattle.ir_print_laws.proofs.form_laws.long_operations_read_back.Goals as goal

pub returns : goal.returns
returns c = λ m ret gives op rest long n k no_comma. let h = long_back m ret gives op rest long (record { no_name = n; no_colon = k }) no_comma in (h.operation, h.read, h.tree)
