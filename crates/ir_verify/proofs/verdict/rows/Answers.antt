use Rattle.std.proofs.Common.{◌≡◌, ◌∙◌, sym, None}
use Rattle.ir_flow.specs.Limits.{limit_passed}
use Rattle.ir_verify.specs.Small.{IsSmall, HasFewBlocks}
use Rattle.ir_verify.specs.Verdict.{shape_refusal}
use Rattle.ir_verify.proofs.Lists.{all_of}
use Rattle.ir_verify.proofs.Usable.{all_small}
use Rattle.ir_verify.proofs.Rows.{missing, limits_none, shapes_none, small_shapes}
use Rattle.ir_verify.proofs.verdict.rows.Goals as goal

pub shape_row-requires-clause-small : goal.shape_row-requires-clause-small
shape_row-requires-clause-small c =
    let none : c.in_ok-limits.limits ≡ None = missing c.in_ok-limits.limits c.is_some.result c.is_some.ensures c.if-is_some.false in
    let limits : limit_passed c.args.all.now ≡ None = limits_none c.args.all.now (sym c.in_ok-limits.ensures ∙ none) in
    all_of IsSmall c.args.all.now.functions (all_small c.args.all.now limits)

pub rows_after_shapes-requires-clause-small : goal.rows_after_shapes-requires-clause-small
rows_after_shapes-requires-clause-small c =
    let none : c.in_ok-limits.limits ≡ None = missing c.in_ok-limits.limits c.is_some.result c.is_some.ensures c.if-is_some.false in
    let limits : limit_passed c.args.all.now ≡ None = limits_none c.args.all.now (sym c.in_ok-limits.ensures ∙ none) in
    all_of IsSmall c.args.all.now.functions (all_small c.args.all.now limits)

pub rows_after_shapes-requires-clause-blocks : goal.rows_after_shapes-requires-clause-blocks
rows_after_shapes-requires-clause-blocks c =
    let none : c.in_ok-limits.limits ≡ None = missing c.in_ok-limits.limits c.is_some.result c.is_some.ensures c.if-is_some.false in
    let limits : limit_passed c.args.all.now ≡ None = limits_none c.args.all.now (sym c.in_ok-limits.ensures ∙ none) in
    let shaped : c.in_ok-shapes.shapes ≡ None = missing c.in_ok-shapes.shapes c.is_some-2.result c.is_some-2.ensures c.if-is_some-2.false in
    let shapes : shape_refusal c.args.all.now ≡ None = sym c.in_ok-shapes.ensures ∙ shaped in
    all_of HasFewBlocks c.args.all.now.functions (small_shapes c.args.all.now.functions (all_small c.args.all.now limits) (shapes_none c.args.all.now shapes))
