use Rattle.std.proofs.lemmas.Nat.{and_mask}
use Rattle.ir_ops.proofs.value.low.Goals as goal

pub returns-clause-value : goal.returns-clause-value
returns-clause-value c = rw c.mask.ensures (and_mask c.args.value c.args.width)
