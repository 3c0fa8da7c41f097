use Rattle.std.proofs.Common.{ap, ◌∙◌, ◌∷◌, []}
use Rattle.std.specs.Prelude.{slice_get}
use Rattle.rv_core.specs.declared.reg.Reg.TheVariants.{X0, T0}
use Rattle.code_pieces.specs.Assembly.{put}
use Rattle.code_pieces.specs.Items.{Bind, Test}
use Rattle.fast_isel.proofs.Joins.{branch_put, branch_free}
use Rattle.fast_isel.proofs.jumps.put_branch.Goals as goal

pub put_label-requires : goal.put_label-requires
put_label-requires c =
    ap (slice_get c.put_goto_edge.new.asm.bound) c.edge_in-label.ensures.value
    ∙ branch_free c.args.globals.now c.args.function.now c.args.asm.now c.put_value.new.asm c.put_test.new.asm c.put_goto_edge.new.asm c.args.block c.args.op c.args.condition c.args.fails c.in_ok-put_value.ensures
    (c.in_ok-put_test.ensures ∙ ap (λ l. put c.put_value.new.asm (Test c.args.op T0 X0 l ∷ [])) c.edge_in-label.ensures.value) c.in_ok-put_goto_edge.ensures c.requires.free

pub returns : goal.returns
returns c =
    branch_put c.args.globals.now c.args.function.now c.args.asm.now c.put_value.new.asm c.put_test.new.asm c.put_goto_edge.new.asm c.put_label.new.asm c.put_last_edge.new.asm c.args.block c.args.op c.args.condition c.args.fails c.args.holds
    c.in_ok-put_value.ensures (c.in_ok-put_test.ensures ∙ ap (λ l. put c.put_value.new.asm (Test c.args.op T0 X0 l ∷ [])) c.edge_in-label.ensures.value) c.in_ok-put_goto_edge.ensures
    (c.put_label.ensures ∙ ap (λ l. put c.put_goto_edge.new.asm (Bind l ∷ [])) c.edge_in-label.ensures.value) c.in_ok-put_last_edge.ensures
