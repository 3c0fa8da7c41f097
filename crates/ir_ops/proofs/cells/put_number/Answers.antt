use Rattle.std.proofs.Common.{arith, refl, ◌∙◌, length}
use Rattle.std.proofs.lemmas.List.{length-set}
use Rattle.ir_ops.proofs.Views.{next_byte}
use Rattle.ir_ops.proofs.cells.put_number.Goals as goal

pub loop-i-preserved : goal.loop-i-preserved
loop-i-preserved c = record {
  value = rw (length-set c.loop-i.cells c.loop-i.i) (next_byte c.loop-i.cells c.loop-i.i (length c.loop-i.cells) c.loop-i.rest _ (omega arith) refl c.loop-i.invariant.value);
  same = length-set c.loop-i.cells c.loop-i.i _ ∙ c.loop-i.invariant.same;
}
