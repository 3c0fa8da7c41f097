use Rattle.ir_print_laws.proofs.ModuleBack.{module_back}
use Rattle.ir_print_laws.proofs.tree_laws.modules_read_back.Goals as goal

pub returns : goal.returns
returns c = module_back
