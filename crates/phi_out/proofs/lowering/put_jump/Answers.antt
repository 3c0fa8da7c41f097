use Rattle.phi_out.proofs.Making.{puts_jump}
use Rattle.phi_out.proofs.lowering.put_jump.Goals as goal

pub returns-in-Ok : goal.returns-in-Ok
returns-in-Ok c =
    λ edges. rw c.in-Ok.ensures.items (rw c.in_ok-put.ensures
    (puts_jump c.args.function.now c.args.from c.args.to edges c.args.block.now.items c.in_ok-moves.moves.items c.in_ok-moves.ensures))
