use Rattle.std.proofs.Common.{◌∙◌, rules, ap, arith}
use Rattle.ir_meaning.specs.Memory.{from_bytes}
use Rattle.ir_ops.proofs.Views.{loaded}
use Rattle.ir_ops.proofs.memory.DataMemory.load.Goals as goal

pub returns : goal.returns
returns c =
    c.number_of.ensures
    ∙ ap from_bytes (loaded c.self.inside.cells.items c.args.self.now c.args.address c.args.count c.self.view_is c.requires.inside _ _ (search rules) (omega arith))
