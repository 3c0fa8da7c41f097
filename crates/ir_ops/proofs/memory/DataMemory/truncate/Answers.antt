use Rattle.std.proofs.Common.{◌∙◌, take, ap}
use Rattle.ir_meaning.specs.Memory.{Memory}
use Rattle.ir_ops.specs.Cells.{bytes_of}
use Rattle.ir_ops.proofs.Views.{view_take}
use Rattle.ir_ops.proofs.memory.DataMemory.truncate.Goals as goal

pub returns : goal.returns
returns c =
    ap bytes_of c.truncate.ensures.items ∙ view_take c.args.len c.self.inside.cells.items ∙ ap (λ (m : Memory). take c.args.len m) c.self.view_is
