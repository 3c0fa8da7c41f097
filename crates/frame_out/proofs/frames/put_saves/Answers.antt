use Rattle.frame_out.proofs.Joining.{saves_more, saves_done}
use Rattle.frame_out.proofs.frames.put_saves.Goals as goal

pub loop-number-preserved : goal.loop-number-preserved
loop-number-preserved c = saves_more c.args.frame c.args.places.now c.loop-number.asm c.put_save.new.asm _ c.loop-number.number c.loop-number-test.true c.loop-number.invariant c.in_ok-put_save.ensures

pub returns : goal.returns
returns c = saves_done c.args.frame c.args.places.now c.loop-number.asm _ c.loop-number.number c.loop-number-test.false c.loop-number.invariant
