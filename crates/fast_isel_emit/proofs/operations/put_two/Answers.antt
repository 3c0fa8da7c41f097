use Rattle.fast_isel_emit.proofs.Put.{two_values}
use Rattle.fast_isel_emit.proofs.operations.put_two.Goals as goal

pub returns : goal.returns
returns c = two_values c.args.asm.now c.put_value.new.asm c.put_value-2.new.asm _ _ c.in_ok-put_value.ensures c.in_ok-put_value-2.ensures
