use Rattle.std.proofs.Common.{arith}
use Rattle.ir_ops.proofs.Views.{extended}
use Rattle.ir_ops.proofs.memory.DataMemory.extend.Goals as goal

pub returns : goal.returns
returns c = extended c.loop.self-inside.cells.items c.self.inside.cells.items c.args.self.now c.loop.counter c.args.count c.self.view_is c.loop.invariant (omega arith)
