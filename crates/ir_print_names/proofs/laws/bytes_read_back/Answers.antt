use Rattle.ir_print_names.proofs.NamesBack.{texts_back}
use Rattle.ir_print_names.proofs.laws.bytes_read_back.Goals as goal

pub returns : goal.returns
returns c = texts_back
