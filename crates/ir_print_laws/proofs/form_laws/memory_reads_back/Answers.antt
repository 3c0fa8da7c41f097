use Rattle.ir_print_laws.proofs.MemoryBack.{memory_back}
use Rattle.ir_print_laws.proofs.form_laws.memory_reads_back.Goals as goal

pub returns : goal.returns
returns c = λ ty rest n k few. memory_back ty rest (record { no_name = n; no_colon = k }) few
