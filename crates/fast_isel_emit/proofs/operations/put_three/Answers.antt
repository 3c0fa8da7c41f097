use Rattle.fast_isel_emit.proofs.Put.{three_values}
use Rattle.fast_isel_emit.proofs.operations.put_three.Goals as goal

pub returns : goal.returns
returns c = three_values c.args.asm.now c.put_value.new.asm c.put_value-2.new.asm c.put_value-3.new.asm _ _ _ c.in_ok-put_value.ensures c.in_ok-put_value-2.ensures c.in_ok-put_value-3.ensures
