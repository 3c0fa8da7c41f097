use Rattle.std.proofs.Common.{◌≡◌, ◌+◌, ℕ, arith, refl, ap, ◌∙◌, take, map}
use Rattle.ir_core.specs.Layout.{extent_of, end_of_fields, field_start, offset_of_field}
use Rattle.ir_core.proofs.Structs.{struct-fields, first-within, next-end, offset-is}
use Rattle.ir_eval.proofs.parts.offset_of.Goals as goal

pub loop-i-init : goal.loop-i-init
loop-i-init c = record {
  end = refl;
  low = omega arith;
  within = omega arith;
  fields = struct-fields c.args.fields.now c.args.packed c.requires.sizes;
}

pub returns-then-i-field : goal.returns-then-i-field
returns-then-i-field c =
    let start : c.field_start-start.result ≡ field_start c.args.packed c.loop-i.end (extent_of c.index-fields-i.result).align =
    c.field_start-start.ensures.value ∙ ap (λ (a : ℕ). field_start c.args.packed c.loop-i.end a) c.extent_of-extent.ensures.align in
    offset-is c.args.packed c.args.fields.now c.loop-i.i c.loop-i.end c.field_start-start.result c.index-fields-i.result (extent_of c.index-fields-i.result)
    c.loop-i-test.true c.loop-i.invariant.end c.index-fields-i.is refl start
    ∙ ap (λ (n : ℕ). offset_of_field (map extent_of c.args.fields.now) c.args.packed n) c.if-i-field.true

pub loop-i-preserved : goal.loop-i-preserved
loop-i-preserved c =
    let start : c.field_start-start.result ≡ field_start c.args.packed c.loop-i.end (extent_of c.index-fields-i.result).align =
    c.field_start-start.ensures.value ∙ ap (λ (a : ℕ). field_start c.args.packed c.loop-i.end a) c.extent_of-extent.ensures.align in
    let more : c.field_start-start.result + (extent_of c.index-fields-i.result).size ≡ end_of_fields c.args.packed 0 (take (c.loop-i.i + 1) (map extent_of c.args.fields.now)) =
    next-end c.args.packed c.args.fields.now c.loop-i.i c.loop-i.end c.field_start-start.result c.index-fields-i.result (extent_of c.index-fields-i.result)
    c.loop-i-test.true c.loop-i.invariant.end c.index-fields-i.is refl start in
    let size : c.extent_of-extent.result.size ≡ (extent_of c.index-fields-i.result).size = c.extent_of-extent.ensures.size in
    let is : c.field_start-start.result + c.extent_of-extent.result.size ≡ end_of_fields c.args.packed 0 (take (c.loop-i.i + 1) (map extent_of c.args.fields.now)) =
    ap (λ (s : ℕ). c.field_start-start.result + s) size ∙ more in
    let within = first-within c.args.packed c.args.fields.now (c.loop-i.i + 1) c.requires.sizes in
    let other = c.if-i-field.false in
    let low = c.loop-i.invariant.low in
    record {
      end = is;
      low = grind (arith, low, other);
      within = omega (arith, is, within);
      fields = c.loop-i.invariant.fields;
    }
