use Rattle.std.proofs.Common.{arith}
use Rattle.code_epochs.specs.declared.state.VersionState.{VersionState}
use Rattle.code_epochs.proofs.Lists.{at_below}
use Rattle.jit_core.specs.Keeping.{IsPassed}
use Rattle.jit_core.proofs.Stands.{at_or}
use Rattle.jit_core.proofs.Searching.{all_more}
use Rattle.jit_core.proofs.search.first_passed.Goals as goal

pub returns-then-is_passed : goal.returns-then-is_passed
returns-then-is_passed c = let lt = c.loop-number-test.true in (_, at_or c.args.versions.now c.loop-number.number _ (omega arith), c.is_passed.ensures.passed c.if-is_passed.true, λ j u low at. c.loop-number.invariant j u low at)

pub loop-number-preserved : goal.loop-number-preserved
loop-number-preserved c =
    let lt = c.loop-number-test.true in
    all_more (λ (v : VersionState). ¬ IsPassed c.args.harts v) c.args.versions.now c.loop-number.number _ (at_or c.args.versions.now c.loop-number.number _ (omega arith)) (c.is_passed.ensures.behind c.if-is_passed.false) c.loop-number.invariant

pub returns : goal.returns
returns c = λ i v at. let low = at_below c.args.versions.now i v at in let t = c.loop-number-test.false in c.loop-number.invariant i v (omega arith) at
