use Rattle.std.proofs.Common.{ap, ◌∙◌, ◌∷◌, []}
use Rattle.code_pieces.specs.Assembly.{put}
use Rattle.code_pieces.specs.Items.{Goto}
use Rattle.fast_isel.proofs.Joins.{goto_edge}
use Rattle.fast_isel.proofs.jumps.put_goto_edge.Goals as goal

pub returns : goal.returns
returns c = goto_edge c.args.globals.now c.args.function.now c.args.asm.now c.put_edge.new.asm c.put_goto.new.asm c.args.from c.args.to c.in_ok-put_edge.ensures
    (c.in_ok-put_goto.ensures ∙ ap (λ l. put c.put_edge.new.asm (Goto l ∷ [])) c.label_in.ensures.value)
