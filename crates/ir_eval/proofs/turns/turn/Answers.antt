use Rattle.std.proofs.Common.{sym}
use Rattle.ir_eval.proofs.turns.turn.Goals as goal

pub act-requires-clause-bounded : goal.act-requires-clause-bounded
act-requires-clause-bounded c = c.requires.usable.bounded c.args.now.now.symbol c.in-Some.function.now (sym c.in-Some.ensures.value)

pub act-requires-clause-fits : goal.act-requires-clause-fits
act-requires-clause-fits c =
    let there = sym c.in-Some.ensures.value in
    c.requires.usable.fits c.args.now.now.symbol c.in-Some.function.now there c.args.now.now.values (c.requires.fitting c.in-Some.function.now there)
    c.args.now.now.block c.args.now.now.place c.in-Some-inst_at.inst.now (sym c.in-Some-inst_at.ensures)
