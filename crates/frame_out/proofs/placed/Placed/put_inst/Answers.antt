use Rattle.frame_out.proofs.Joining.{inst_put}
use Rattle.frame_out.proofs.placed.Placed.put_inst.Goals as goal

pub returns : goal.returns
returns c = inst_put c.args.self.now.function.now c.args.self.now.places.now c.args.asm.now c.put_work.new.asm c.put_goes.new.asm c.args.block c.args.inst.now c.in_ok-put_work.ensures c.in_ok-put_goes.ensures
