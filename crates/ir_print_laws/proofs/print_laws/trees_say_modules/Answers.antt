use Rattle.ir_print_laws.proofs.Modules.{module_is}
use Rattle.ir_print_laws.proofs.print_laws.trees_say_modules.Goals as goal

pub returns : goal.returns
returns c = module_is
