use Rattle.fast_isel.proofs.Joins.{switch_put, switch_free}
use Rattle.fast_isel.proofs.switches.put_switch.Goals as goal

pub put_switch_edges-requires-clause-free : goal.put_switch_edges-requires-clause-free
put_switch_edges-requires-clause-free c =
    switch_free c.args.globals.now c.args.function.now c.args.asm.now c.put_value.new.asm c.put_cases.new.asm c.args.block c.args.value c.args.cases.now c.in_ok-put_value.ensures c.in_ok-put_cases.ensures c.requires.free

pub returns : goal.returns
returns c =
    switch_put c.args.globals.now c.args.function.now c.args.asm.now c.put_value.new.asm c.put_cases.new.asm c.put_switch_edges.new.asm c.args.block c.args.value c.args.otherwise c.args.cases.now
    c.in_ok-put_value.ensures c.in_ok-put_cases.ensures c.in_ok-put_switch_edges.ensures
