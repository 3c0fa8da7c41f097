use Rattle.std.proofs.Common.{sym, ap, ◌∙◌, ◌+◌, ◌∷◌, []}
use Rattle.code_pieces.specs.Assembly.{put}
use Rattle.code_pieces.specs.Items.{Bind}
use Rattle.fast_isel.proofs.Joins.{edge_head, edge_later, edge_first}
use Rattle.fast_isel.proofs.switches.put_case_edge.Goals as goal

pub returns-then-is_headless : goal.returns-then-is_headless
returns-then-is_headless c = edge_head c.args.globals.now c.args.function.now c.args.block c.args.number c.args.to c.args.cases.now c.args.asm.now (sym c.is_headless.ensures ∙ c.if-is_headless.true)

pub returns-then-first_to-number : goal.returns-then-first_to-number
returns-then-first_to-number c =
    edge_later c.args.globals.now c.args.function.now c.args.block c.args.number c.args.to c.args.cases.now c.args.asm.now (sym c.is_headless.ensures ∙ c.if-is_headless.false)
    (λ e. c.if-first_to-number.true (c.first_to.ensures.value ∙ e))

pub returns : goal.returns
returns c =
    edge_first c.args.globals.now c.args.function.now c.args.block c.args.number c.args.to c.args.cases.now c.args.asm.now c.put_label.new.asm c.put_goto_edge.new.asm (sym c.is_headless.ensures ∙ c.if-is_headless.false)
    (sym c.first_to.ensures.value ∙ c.if-first_to-number.false)
    (c.put_label.ensures ∙ ap (λ l. put c.args.asm.now (Bind (l + c.args.number) ∷ [])) c.edge_in.ensures.value) c.in_ok-put_goto_edge.ensures
