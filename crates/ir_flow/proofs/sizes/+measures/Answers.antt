use Rattle.std.proofs.Common.{◌≡◌, ◌*◌, ℕ, Option, refl, sym, ◌∙◌, ap, arith, map, List, max}
use Rattle.std.proofs.lemmas.Grind.{common_steps}
use Rattle.ir_core.specs.declared.types.MemTy.{MemTy}
use Rattle.ir_core.specs.declared.types.MemTy.TheVariants.{Array}
use Rattle.ir_core.specs.Layout.{greatest_align}
use Rattle.ir_flow.specs.Limits.{capped, capped_passing, own_or_parts, measured, extents_of, first_passing}
use Rattle.ir_flow.proofs.Stops.{passing-Array, capped_product, least_align, end_on, align_on, passing_on}
use Rattle.ir_flow.proofs.sizes.+measures.Goals as goal

pub measure_of-returns-in-Array-clause-passing : goal.measure_of-returns-in-Array-clause-passing
measure_of-returns-in-Array-clause-passing t c =
    let element : MemTy = c.get.result.now in
    let size : c.saturating_mul-size.result ≡ capped (c.in-Array.count * (measured element).extent.size) =
    capped_product c.in-Array.count (measured element).extent.size c.measure_of-element.result.extent.size c.saturating_mul-size.result c.measure_of-element.ensures.size c.saturating_mul-size.ensures in
    let is : c.args.ty.now ≡ Array c.in-Array.count element = c.in-Array.is ∙ ap (λ (e : MemTy). Array c.in-Array.count e) (sym c.get.ensures) in
    c.own_or_parts.ensures
    ∙ ap (λ (p : Option ℕ). own_or_parts c.saturating_mul-size.result p) c.measure_of-element.ensures.passing
    ∙ passing-Array c.in-Array.count (measured element).extent.size c.saturating_mul-size.result element size
    ∙ ap (λ (ty : MemTy). capped_passing (measured ty).passing) (sym is)

pub struct_measure-loop-field-init : goal.struct_measure-loop-field-init
struct_measure-loop-field-init t c = record {
  end = refl;
  align = let h = least_align (extents_of (map measured c.args.fields.now)) in omega arith;
  least = omega arith;
  most = omega arith;
  passing = refl;
}

pub struct_measure-loop-field-preserved : goal.struct_measure-loop-field-preserved
struct_measure-loop-field-preserved t c =
    let fields : List MemTy = c.args.fields.now in
    let i = c.loop-field.field-index in
    let field = c.field-item.result in
    let most : c.max-align.result ≡ max c.loop-field.align c.measure_of-part.result.extent.align = grind (arith, common_steps, c.max-align.ensures) in
    record {
      end = end_on fields i field c.loop-field-test.true c.field-item.is c.args.packed c.loop-field.end c.saturating_add-end.result c.measure_of-part.result.extent.align
          c.field_start.result c.measure_of-part.result.extent.size (extents_of (map measured fields)) c.loop-field.invariant.end c.measure_of-part.ensures.align c.field_start.ensures c.measure_of-part.ensures.size c.saturating_add-end.ensures;
      align = align_on fields i field c.loop-field-test.true c.field-item.is c.loop-field.align c.max-align.result c.measure_of-part.result.extent.align (greatest_align (extents_of (map measured fields)))
          c.loop-field.invariant.align c.measure_of-part.ensures.align most;
      least = omega (arith, c.loop-field.invariant.least, most);
      most = omega (arith, c.loop-field.invariant.most, most, c.measure_of-part.ensures.least.1);
      passing = passing_on fields i field c.loop-field-test.true c.field-item.is c.loop-field.passing c.first_of-passing.result c.measure_of-part.result.passing (capped_passing (first_passing (map measured fields)))
          c.loop-field.invariant.passing c.measure_of-part.ensures.passing c.first_of-passing.ensures;
    }
