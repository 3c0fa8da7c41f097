use Rattle.std.proofs.Common.{arith, ap, ◌∙◌, ◌≡◌, ◌≤◌, ◌^◌}
use Rattle.ir_core.specs.Layout.{size}
use Rattle.ir_flow.specs.Limits.{measured}
use Rattle.ir_data.proofs.Sizes.{is_measured, size_within}
use Rattle.ir_data.proofs.values.extent_of.Goals as goal

pub returns-clause-size : goal.returns-clause-size
returns-clause-size c =
    let same : (measured c.args.ty.now).extent.size ≡ size c.args.ty.now = ap (λ e. e.size) (is_measured c.args.ty.now).0 in
    let most : size c.args.ty.now ≤ 2 ^ 32 = size_within c.args.ty.now c.requires in
    omega (arith, c.measure_of.ensures.size, same, most)

pub returns-clause-align : goal.returns-clause-align
returns-clause-align c = c.measure_of.ensures.align ∙ ap (λ e. e.align) (is_measured c.args.ty.now).0

pub returns-clause-most : goal.returns-clause-most
returns-clause-most c =
    let same : (measured c.args.ty.now).extent.size ≡ size c.args.ty.now = ap (λ e. e.size) (is_measured c.args.ty.now).0 in
    let most : size c.args.ty.now ≤ 2 ^ 32 = size_within c.args.ty.now c.requires in
    omega (arith, c.measure_of.ensures.size, same, most)
