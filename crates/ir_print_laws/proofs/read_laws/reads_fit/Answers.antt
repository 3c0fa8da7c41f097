use Rattle.ir_print_laws.proofs.ReadModules.{reads_fit as all_read_fit}
use Rattle.ir_print_laws.proofs.read_laws.reads_fit.Goals as goal

pub returns : goal.returns
returns c = all_read_fit
