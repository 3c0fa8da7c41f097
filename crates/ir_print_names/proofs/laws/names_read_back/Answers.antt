use Rattle.ir_print_names.proofs.NamesBack.{globals_back}
use Rattle.ir_print_names.proofs.laws.names_read_back.Goals as goal

pub returns : goal.returns
returns c = globals_back
