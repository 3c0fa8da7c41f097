use Rattle.std.proofs.Common.{refl}
use Rattle.ir_print_laws.proofs.Passing.{many_checked}
use Rattle.ir_print_laws.proofs.many_calls_laws.module_passes.Goals as goal

pub returns : goal.returns
returns c = (many_checked, refl)
