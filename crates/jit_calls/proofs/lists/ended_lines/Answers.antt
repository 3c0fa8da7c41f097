use Rattle.std.proofs.Common.{◌<◌, length, sym, ap, ◌∙◌, arith}
use Rattle.std.proofs.lemmas.Result.{err_from_is_err_and}
use Rattle.jit_calls.specs.Listing.{pair_of}
use Rattle.jit_calls.proofs.Split.{none-left, one-more, refuses-then}
use Rattle.jit_calls.proofs.lists.ended_lines.Goals as goal

pub loop-one-preserved : goal.loop-one-preserved
loop-one-preserved c =
    let first = one-more c.loop-one.rest.now c.in-Some.one.now c.in-Some.behind.now (sym c.next_line.ensures.value ∙ ap pair_of c.in-Some.is) in
    let inv = c.loop-one.invariant in
    let count = inv.line in
    record {
      calls = rw c.in_ok-add_line.ensures at (rw first at inv.calls);
      rest = rw first at inv.rest;
      line = (let l = rw first at inv.line in omega (arith, l));
      size = (let less = c.next_line.ensures.less in let lt : length c.in-Some.behind.now < length c.loop-one.rest.now = rw c.in-Some.is at less in omega (arith, lt, inv.size));
      first = omega (arith, inv.first);
    }

pub returns-in_err-add_line-clause-calls : goal.returns-in_err-add_line-clause-calls
returns-in_err-add_line-clause-calls c =
    let first = one-more c.loop-one.rest.now c.in-Some.one.now c.in-Some.behind.now (sym c.next_line.ensures.value ∙ ap pair_of c.in-Some.is) in
    let p = err_from_is_err_and c.from_residual.result c.from_residual.ensures.1 in
    rw (p.1, p.2) (refuses-then _ _ _ _ c.in_err-add_line.ensures (rw first at c.loop-one.invariant.calls))

pub returns-clause-calls : goal.returns-clause-calls
returns-clause-calls c =
    let none = none-left c.loop-one.rest.now (sym c.next_line.ensures.value ∙ ap pair_of c.in_default.is) in
    sym (rw none at c.loop-one.invariant.calls)

pub returns-clause-rest : goal.returns-clause-rest
returns-clause-rest c =
    let none = none-left c.loop-one.rest.now (sym c.next_line.ensures.value ∙ ap pair_of c.in_default.is) in
    rw none at c.loop-one.invariant.rest

pub returns-clause-line : goal.returns-clause-line
returns-clause-line c =
    let none = none-left c.loop-one.rest.now (sym c.next_line.ensures.value ∙ ap pair_of c.in_default.is) in
    let l = rw none at c.loop-one.invariant.line in
    omega (arith, l)

pub returns-clause-size : goal.returns-clause-size
returns-clause-size c = omega (arith, c.loop-one.invariant.size, c.loop-one.invariant.first, c.requires.size)
