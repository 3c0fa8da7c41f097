use Rattle.std.proofs.Common.{refl}
use Rattle.ir_print.specs.Instructions.{incoming_text}
use Rattle.ir_print.proofs.Lines.{listed_step, listed_end}
use Rattle.ir_print.proofs.instructions.all_incoming.Goals as goal

pub loop-index-preserved : goal.loop-index-preserved
loop-index-preserved c =
    listed_step (incoming_text c.args.globals.now c.args.given) c.loop-index.index c.args.all.now _ _ c.loop-index.page c.comma.new.page c.incoming.new.page _
    c.loop-index-test.true refl c.in_ok-comma.ensures c.in_ok-incoming.ensures c.loop-index.invariant

pub returns : goal.returns
returns c = listed_end (incoming_text c.args.globals.now c.args.given) c.loop-index.index c.loop-index.index c.args.all.now c.loop-index.page _ c.loop-index-test.false c.loop-index.invariant
