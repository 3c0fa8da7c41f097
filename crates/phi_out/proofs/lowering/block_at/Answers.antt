use Rattle.std.proofs.Common.{sym}
use Rattle.phi_out.proofs.Making.{none_there}
use Rattle.phi_out.proofs.lowering.block_at.Goals as goal

pub returns-in-None : goal.returns-in-None
returns-in-None c = none_there c.args.function.now.blocks c.args.block (sym c.in-None.ensures.value)
