use Rattle.ir_resolve.proofs.Shown.{value_fails}
use Rattle.ir_resolve.proofs.laws.operand_fault.Goals as goal

pub returns : goal.returns
returns c = value_fails c.args.outer.now.types c.args.outer.now.symbols c.args.table.now c.args.ty c.args.value.now c.args.fault c.requires
