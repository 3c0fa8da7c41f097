use Rattle.ir_print_names.proofs.NumbersBack.{numbers_back}
use Rattle.ir_print_names.proofs.laws.numbers_read_back.Goals as goal

pub returns : goal.returns
returns c = numbers_back
