use Rattle.std.proofs.Common.{arith}
use Rattle.std.proofs.lemmas.Result.{on_ok_weaker}
use Rattle.ir_translator.proofs.Grouping.{added-past, added-at}
use Rattle.ir_translator.proofs.edges.add.Goals as goal

pub returns-then-to-len : goal.returns-then-to-len
returns-then-to-len c = added-past c.args.groups.now.items c.args.to c.args.place (let t = c.if-to-len.true in let is = c.len.ensures in let ok = c.args.groups.now.ok.0 in omega (arith, t, is, ok))

pub returns : goal.returns
returns c =
    on_ok_weaker c.push.result
    (λ e. added-at c.args.groups.now.items c.args.to c.args.place c.index_mut.result.now c.push.new.items (let t = c.if-to-len.false in let is = c.len.ensures in let ok = c.args.groups.now.ok.0 in omega (arith, t, is, ok)) c.index_mut.ensures.value e)
    c.push.ensures
