use Rattle.fast_isel_emit.proofs.Put.{one_value}
use Rattle.fast_isel_emit.proofs.operations.put_one.Goals as goal

pub returns : goal.returns
returns c = one_value c.args.asm.now c.put_value.new.asm _ c.in_ok-put_value.ensures
