use Rattle.std.proofs.Common.{refl}
use Rattle.ir_print.specs.Instructions.{argument_text}
use Rattle.ir_print.proofs.Lines.{listed_step, listed_end}
use Rattle.ir_print.proofs.instructions.all_arguments.Goals as goal

pub loop-index-preserved : goal.loop-index-preserved
loop-index-preserved c =
    listed_step (argument_text c.args.globals.now) c.loop-index.index c.args.arguments.now _ _ c.loop-index.page c.comma.new.page c.typed.new.page _
    c.loop-index-test.true refl c.in_ok-comma.ensures c.in_ok-typed.ensures c.loop-index.invariant

pub returns : goal.returns
returns c = listed_end (argument_text c.args.globals.now) c.loop-index.index c.loop-index.index c.args.arguments.now c.loop-index.page _ c.loop-index-test.false c.loop-index.invariant
