use Rattle.ir_print_names.proofs.NumbersBack.{value_names_back}
use Rattle.ir_print_names.proofs.laws.values_read_back.Goals as goal

pub returns : goal.returns
returns c = value_names_back
