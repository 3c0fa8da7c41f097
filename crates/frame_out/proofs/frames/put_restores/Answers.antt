use Rattle.frame_out.proofs.Joining.{restores_more, restores_done}
use Rattle.frame_out.proofs.frames.put_restores.Goals as goal

pub loop-number-preserved : goal.loop-number-preserved
loop-number-preserved c = restores_more c.args.frame c.args.places.now c.loop-number.asm c.put_restore.new.asm _ c.loop-number.number c.loop-number-test.true c.loop-number.invariant c.in_ok-put_restore.ensures

pub returns : goal.returns
returns c = restores_done c.args.frame c.args.places.now c.loop-number.asm _ c.loop-number.number c.loop-number-test.false c.loop-number.invariant
