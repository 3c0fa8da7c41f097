use Rattle.rv_asm.proofs.Least.{one-assembly}
use Rattle.rv_asm.proofs.laws.assemblies_are_one.Goals as goal

pub returns : goal.returns
returns c = one-assembly
