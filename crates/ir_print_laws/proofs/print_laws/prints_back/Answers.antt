use Rattle.ir_print_laws.proofs.ModuleBack.{module_back}
use Rattle.ir_print_laws.proofs.Forms.{fits_written}
use Rattle.ir_print_laws.proofs.Modules.{module_is}
use Rattle.ir_print_laws.proofs.print_laws.prints_back.Goals as goal

pub returns : goal.returns
returns c = λ m fits few. let h = module_back m (fits_written m fits few) in (few, (h.0, h.1, module_is m h.0 fits h.2))
