use Rattle.std.proofs.Common.{ap, ◌∙◌, ◌∷◌, []}
use Rattle.code_pieces.specs.Assembly.{put}
use Rattle.code_pieces.specs.Items.{Goto}
use Rattle.fast_isel.proofs.Joins.{last_next, last_goto}
use Rattle.fast_isel.proofs.jumps.put_last_edge.Goals as goal

pub returns-then-to-from : goal.returns-then-to-from
returns-then-to-from c = last_next c.args.globals.now c.args.function.now c.args.asm.now c.put_edge.new.asm c.args.from c.args.to c.if-to-from.true c.in_ok-put_edge.ensures

pub returns : goal.returns
returns c = last_goto c.args.globals.now c.args.function.now c.args.asm.now c.put_edge.new.asm c.put_goto.new.asm c.args.from c.args.to c.if-to-from.false c.in_ok-put_edge.ensures
    (c.in_ok-put_goto.ensures ∙ ap (λ l. put c.put_edge.new.asm (Goto l ∷ [])) c.label_in.ensures.value)
