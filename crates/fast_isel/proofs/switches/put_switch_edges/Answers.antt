use Rattle.std.proofs.Common.{sym, ◌∙◌}
use Rattle.fast_isel.proofs.Joins.{switch_more, otherwise_free}
use Rattle.fast_isel.proofs.switches.put_switch_edges.Goals as goal

pub put_case_edges-requires-clause-free : goal.put_case_edges-requires-clause-free
put_case_edges-requires-clause-free c = otherwise_free c.args.globals.now c.args.function.now c.args.asm.now c.put_goto_edge.new.asm c.args.block c.args.otherwise c.in_ok-put_goto_edge.ensures c.requires.free

pub returns : goal.returns
returns c =
    switch_more c.args.globals.now c.args.function.now c.args.asm.now c.put_goto_edge.new.asm c.put_case_edges.new.asm c.args.block c.args.otherwise c.args.cases.now (sym c.are_headless.ensures ∙ c.if-are_headless.false)
    c.in_ok-put_goto_edge.ensures c.in_ok-put_case_edges.ensures
