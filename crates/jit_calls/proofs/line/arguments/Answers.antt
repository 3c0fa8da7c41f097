use Rattle.std.proofs.Common.{length, refl}
use Rattle.std.proofs.lemmas.Result.{err_from_is_err_and}
use Rattle.jit_calls.specs.Line.{next_argument, with_argument, arguments}
use Rattle.jit_calls.proofs.Refused.{refuses-then}
use Rattle.jit_calls.proofs.Repeat.{stops, goes, refused, ended}
use Rattle.jit_calls.proofs.line.arguments.Goals as goal

pub returns-in_err-one : goal.returns-in_err-one
unfolding arguments
returns-in_err-one c =
    let p = err_from_is_err_and c.from_residual.result c.from_residual.ensures.1 in
    rw (p.1, p.2) (refuses-then _ _ _ _ (refused (next_argument c.args.scope.now.all.now.globals) with_argument (length c.args.cursor.now) c.loop.counter c.loop.args c.loop.cursor _ _ (rw c.len-end.ensures at c.loop-test.true) c.loop.invariant (rw c.as_slice.ensures at c.in_err-one.ensures)) refl)

pub returns-in-None : goal.returns-in-None
unfolding arguments
returns-in-None c = rw (stops (next_argument c.args.scope.now.all.now.globals) with_argument (length c.args.cursor.now) c.loop.counter c.loop.args c.loop.cursor _ tt _ (rw c.len-end.ensures at c.loop-test.true) c.loop.invariant (rw (c.in-None.is, c.as_slice.ensures) at c.in_ok-one.ensures)) refl

pub loop-preserved : goal.loop-preserved
loop-preserved c =
    rw c.in_ok-push-in-Some.ensures.ok (goes (next_argument c.args.scope.now.all.now.globals) with_argument (length c.args.cursor.now) c.loop.counter c.loop.args c.loop.cursor _ c.in-Some.one _ (rw c.len-end.ensures at c.loop-test.true) c.loop.invariant (rw (c.in-Some.is, c.as_slice.ensures) at c.in_ok-one.ensures))

pub returns : goal.returns
unfolding arguments
returns c = rw (ended (next_argument c.args.scope.now.all.now.globals) with_argument (length c.args.cursor.now) c.loop.counter c.loop.args c.loop.cursor _ (rw c.len-end.ensures at c.loop-test.false) c.loop.invariant) refl
