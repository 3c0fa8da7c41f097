use Rattle.frame_out.proofs.Joining.{tested_put}
use Rattle.frame_out.proofs.insts.put_tested.Goals as goal

pub returns : goal.returns
returns c =
    tested_put c.args.asm.now c.put_fetch.new.asm c.put_fetch-2.new.asm c.put_test.new.asm c.args.op c.args.a c.args.b c.register_of-first.result c.register_of-second.result c.args.to c.in_ok-put_fetch.ensures c.in_ok-put_fetch-2.ensures c.in_ok-put_test.ensures
    c.register_of-first.ensures c.register_of-second.ensures
