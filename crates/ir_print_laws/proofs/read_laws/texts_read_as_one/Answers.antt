use Rattle.ir_print_laws.proofs.OneModule.{one-module}
use Rattle.ir_print_laws.proofs.read_laws.texts_read_as_one.Goals as goal

pub returns : goal.returns
returns c = one-module
