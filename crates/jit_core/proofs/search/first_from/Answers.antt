use Rattle.std.proofs.Common.{arith}
use Rattle.code_epochs.proofs.Lists.{at_below}
use Rattle.jit_core.proofs.Stands.{at_or}
use Rattle.jit_core.proofs.Searching.{no_more, found_first}
use Rattle.jit_core.proofs.search.first_from.Goals as goal

pub returns-in-Some : goal.returns-in-Some
returns-in-Some c =
    let vs = c.args.versions.now in
    let n = c.loop-number.number in
    let inv = c.loop-number.invariant in
    let f = c.first_hart-first.ensures in
    let o = c.in-Some.ensures in
    found_first c.args.harts vs n c.args.from.version c.args.from.hart c.first_hart-first.result c.in-Some.hart _ (at_or vs n _ c.loop-number-test.true) inv.low f.here f.later o.0 o.1 o.2 inv.before

pub loop-number-preserved : goal.loop-number-preserved
loop-number-preserved c =
    let vs = c.args.versions.now in
    let n = c.loop-number.number in
    let inv = c.loop-number.invariant in
    let f = c.first_hart-first.ensures in record {
      low = (let l = inv.low in omega arith);
      before = no_more c.args.harts vs n c.args.from.version c.args.from.hart c.first_hart-first.result _ (at_or vs n _ c.loop-number-test.true) inv.low f.here f.later c.in_default.ensures inv.before;
    }

pub returns : goal.returns
returns c = λ p q is.
    let low = at_below c.args.versions.now p is.0 is.1 in
    let t = c.loop-number-test.false in
    c.loop-number.invariant.before p q is (omega arith)
