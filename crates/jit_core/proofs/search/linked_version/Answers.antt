use Rattle.std.proofs.Common.{◌≡◌, arith}
use Rattle.code_epochs.specs.declared.state.VersionState.{VersionState}
use Rattle.code_epochs.specs.declared.state.Status.TheVariants.{Linked}
use Rattle.code_epochs.proofs.Lists.{at_below}
use Rattle.jit_core.proofs.Stands.{at_or}
use Rattle.jit_core.proofs.Searching.{all_more}
use Rattle.jit_core.proofs.search.linked_version.Goals as goal

pub returns-then-is_linked : goal.returns-then-is_linked
returns-then-is_linked c = let lt = c.loop-number-test.true in let is = c.is_linked.ensures.linked c.if-is_linked.true in (_, at_or c.args.versions.now c.loop-number.number _ (omega arith), is.0, is.1)

pub loop-number-preserved : goal.loop-number-preserved
loop-number-preserved c =
    let lt = c.loop-number-test.true in
    all_more (λ (v : VersionState). v.status ≡ Linked → v.symbol ≡ c.args.symbol → ⊥) c.args.versions.now c.loop-number.number _ (at_or c.args.versions.now c.loop-number.number _ (omega arith)) (c.is_linked.ensures.other c.if-is_linked.false) c.loop-number.invariant

pub returns : goal.returns
returns c = λ i v at. let low = at_below c.args.versions.now i v at in let t = c.loop-number-test.false in c.loop-number.invariant i v (omega arith) at
