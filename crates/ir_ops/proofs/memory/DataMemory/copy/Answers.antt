use Rattle.std.proofs.Common.{◌∙◌, ap, arith}
use Rattle.ir_ops.specs.Cells.{bytes_of}
use Rattle.ir_ops.proofs.Views.{copied_in}
use Rattle.ir_ops.proofs.memory.DataMemory.copy.Goals as goal

pub returns : goal.returns
returns c =
    ap bytes_of c.copy_within.ensures.items
    ∙ copied_in c.self.inside.cells.items c.args.self.now c.args.to c.args.from c.args.count _ c.self.view_is c.requires.to c.requires.from (omega arith)
