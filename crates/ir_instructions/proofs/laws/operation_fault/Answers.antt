use Rattle.ir_instructions.proofs.Shown.{operation_fails}
use Rattle.ir_instructions.proofs.laws.operation_fault.Goals as goal

pub returns : goal.returns
returns c = operation_fails c.args.outer.now.types c.args.outer.now.symbols c.args.table.now c.args.fault c.args.ret.now c.args.ty c.args.entry c.args.aligns.now c.args.given.now c.requires.result c.requires.fails
