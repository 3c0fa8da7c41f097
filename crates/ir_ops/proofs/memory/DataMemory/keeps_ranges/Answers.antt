use Rattle.std.proofs.Common.{subst}
use Rattle.ir_meaning.specs.Ranges.{IsMemory}
use Rattle.ir_meaning.proofs.Bytes.{memory-of}
use Rattle.ir_ops.specs.Cells.{bytes_of}
use Rattle.ir_ops.proofs.Views.{bytes_are}
use Rattle.ir_ops.proofs.memory.DataMemory.keeps_ranges.Goals as goal

pub returns : goal.returns
returns c = subst IsMemory c.self.view_is (memory-of (bytes_of c.self.inside.cells.items) (bytes_are c.self.inside.cells.items))
