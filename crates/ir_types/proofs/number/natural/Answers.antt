use Rattle.std.proofs.Common.{ℕ, sym, ◌∙◌, arith}
use Rattle.ir_types.specs.Numbers.{decimal}
use Rattle.ir_types.proofs.Digits.{next_one, none_fits, all_fit, within}
use Rattle.ir_types.proofs.number.natural.Goals as goal

pub returns-in-None : goal.returns-in-None
returns-in-None c = none_fits c.loop-digit.number c.args.digits.now c.loop-digit.digit-index c.from-more.result _ c.loop-digit-test.true (c.from-more.ensures ∙ c.saturating_sub.ensures) c.in-None.ensures c.loop-digit.invariant.digits

pub loop-digit-preserved : goal.loop-digit-preserved
loop-digit-preserved c =
    record {
      digits = next_one c.loop-digit.number c.args.digits.now c.loop-digit.digit-index c.from-more.result c.in-Some.next _ c.loop-digit-test.true (c.from-more.ensures ∙ c.saturating_sub.ensures) c.in-Some.ensures c.loop-digit.invariant.digits;
      bound = within _ _ c.in-Some.ensures;
    }

pub returns : goal.returns
returns c = all_fit c.loop-digit.number c.args.digits.now c.loop-digit.digit-index _ c.loop-digit.invariant.bound c.loop-digit-test.false c.loop-digit.invariant.digits
