use denote.Param.Weighed.{at_most, most as largest}
use Rattle.std.proofs.Common.{rules, refl, sym, subst, ap, ◌∙◌, ◌≡◌, ◌≤◌, ◌+◌, ◌-◌, ◌*◌, ◌++◌, arith, length, map, get_or, Some, true}
use Rattle.std.proofs.lemmas.Result.{on_ok_weaker}
use Rattle.ir_core.specs.declared.types.MemTy.{MemTy}
use Rattle.ir_core.specs.declared.types.MemTy.TheVariants.{Array}
use Rattle.ir_core.specs.declared.program.Init.TheVariants.{List as InitList}
use Rattle.ir_core.specs.Layout.{size}
use Rattle.ir_meaning.specs.Image.{zeros, elements, initial}
use Rattle.ir_data.specs.Image.{fillings}
use Rattle.ir_core.proofs.program.Init.TheLaws.{the_size}
use Rattle.ir_verify.specs.Ranges.{init_fits}
use Rattle.ir_data.proofs.Steps.{as_many, field_is, fit_on, end_on, value_on, end_place, fields_done, elements_done, on_ok_both}
use Rattle.ir_data.proofs.values.+initial.Goals as goal

pub push_fields-loop-i-init : goal.push_fields-loop-i-init
push_fields-loop-i-init t c = record {
  value = refl;
  more = omega arith;
  fit = c.requires.fit;
  same = as_many (init_fits (length c.args.globals.now)) c.args.items.now c.args.fields.now c.requires.fit;
  end = refl;
}

pub push_fields-push_field-requires : goal.push_fields-push_field-requires
push_fields-push_field-requires t c =
    let most : the_size (get_or c.args.items.now c.loop-i.i c.index-items-i.result) ≤ largest (λ x. the_size x) c.args.items.now =
    at_most (λ x. the_size x) c.args.items.now c.loop-i.i c.index-items-i.result (omega arith) in
    let same : the_size c.index-items-i.result ≡ the_size (get_or c.args.items.now c.loop-i.i c.index-items-i.result) = ap (λ x. the_size x) c.index-items-i.is in (
      omega (arith, most, same, c.decreases),
      field_is c.args.globals.now c.args.places.now c.args.items.now c.args.fields.now c.args.packed c.args.size c.loop-i.place c.loop-i.i
          c.index-items-i.result c.index-fields-i.result c.requires c.loop-i.invariant.fit c.loop-i.invariant.same c.loop-i.invariant.end (omega arith) c.index-items-i.is c.index-fields-i.is,
    )

pub push_fields-loop-i-preserved : goal.push_fields-loop-i-preserved
push_fields-loop-i-preserved t c = record {
  value = value_on c.args.globals.now c.args.places.now c.args.items.now c.args.fields.now c.args.packed c.args.size c.loop-i.place c.loop-i.i
      c.index-items-i.result c.index-fields-i.result c.requires c.loop-i.invariant.fit c.loop-i.invariant.same c.loop-i.invariant.end (omega arith) c.index-items-i.is c.index-fields-i.is
      c.loop-i.bytes c.push_field.new.bytes c.in_ok-place.place _ c.in_ok-place.ensures.next c.in_ok-place.ensures.value c.loop-i.invariant.value;
  more = omega (arith, c.in_ok-place.ensures.more, c.loop-i.invariant.more);
  fit = fit_on c.args.globals.now c.args.places.now c.args.items.now c.args.fields.now c.args.packed c.args.size c.loop-i.place c.loop-i.i
      c.index-items-i.result c.index-fields-i.result c.requires c.loop-i.invariant.fit c.loop-i.invariant.same c.loop-i.invariant.end (omega arith) c.index-items-i.is c.index-fields-i.is;
  same = c.loop-i.invariant.same;
  end = end_on c.args.globals.now c.args.places.now c.args.items.now c.args.fields.now c.args.packed c.args.size c.loop-i.place c.loop-i.i
      c.index-items-i.result c.index-fields-i.result c.requires c.loop-i.invariant.fit c.loop-i.invariant.same c.loop-i.invariant.end (omega arith) c.index-items-i.is c.index-fields-i.is
      c.in_ok-place.place c.in_ok-place.ensures.next;
}

pub push_fields-overflow_sub-size : goal.push_fields-overflow_sub-size
push_fields-overflow_sub-size t c =
    end_place c.args.globals.now c.args.places.now c.args.items.now c.args.fields.now c.args.packed c.args.size c.loop-i.place c.loop-i.i
    c.requires c.loop-i.invariant.same c.loop-i.invariant.end (omega arith)

pub push_fields-returns-clause-more : goal.push_fields-returns-clause-more
push_fields-returns-clause-more t c =
    let low : c.loop-i.place ≤ c.args.size = end_place c.args.globals.now c.args.places.now c.args.items.now c.args.fields.now c.args.packed c.args.size c.loop-i.place c.loop-i.i
    c.requires c.loop-i.invariant.same c.loop-i.invariant.end (omega arith) in
    on_ok_weaker c.push_zeros.result
    (λ (e : length c.push_zeros.new.bytes ≡ length c.loop-i.bytes + (c.args.size - c.loop-i.place)). omega (arith, e, c.loop-i.invariant.more, low)) c.push_zeros.ensures.more

pub push_fields-returns-clause-value : goal.push_fields-returns-clause-value
push_fields-returns-clause-value t c =
    on_ok_weaker c.push_zeros.result
    (λ (e : map Some c.push_zeros.new.bytes ≡ map Some c.loop-i.bytes ++ zeros (c.args.size - c.loop-i.place)).
    fields_done c.args.globals.now c.args.places.now c.args.items.now c.args.fields.now c.args.packed c.args.size c.loop-i.place c.loop-i.i
    c.requires c.loop-i.invariant.same c.loop-i.invariant.end (omega arith) c.loop-i.bytes c.push_zeros.new.bytes c.args.bytes.now c.loop-i.invariant.value c.loop-i.invariant.more e)
    c.push_zeros.ensures.value

pub push_items-returns-in-Array-clause-value : goal.push_items-returns-in-Array-clause-value
push_items-returns-in-Array-clause-value t c =
    let is : c.args.ty.now ≡ Array c.in-Array.field-0 c.get.result.now = search rules in
    on_ok_both c.push_elements.result
    (λ (value : map Some c.push_elements.new.bytes ≡ map Some c.args.bytes.now ++ elements c.get.result.now (fillings c.args.globals.now c.args.items.now))
    (more : length c.push_elements.new.bytes ≡ length c.args.bytes.now + length c.args.items.now * size c.get.result.now).
    subst (λ (ty : MemTy). map Some c.push_elements.new.bytes ≡ map Some c.args.bytes.now ++ initial c.args.globals.now ty (InitList c.args.items.now)) (sym is)
    (elements_done c.args.globals.now c.args.items.now c.in-Array.field-0 c.get.result.now
    (subst (λ (ty : MemTy). init_fits (length c.args.globals.now) (InitList c.args.items.now) ty ≡ true) is c.requires.fits) c.args.bytes.now c.push_elements.new.bytes value more).0)
    c.push_elements.ensures.value c.push_elements.ensures.more

pub push_items-returns-in-Array-clause-more : goal.push_items-returns-in-Array-clause-more
push_items-returns-in-Array-clause-more t c =
    let is : c.args.ty.now ≡ Array c.in-Array.field-0 c.get.result.now = search rules in
    on_ok_both c.push_elements.result
    (λ (value : map Some c.push_elements.new.bytes ≡ map Some c.args.bytes.now ++ elements c.get.result.now (fillings c.args.globals.now c.args.items.now))
    (more : length c.push_elements.new.bytes ≡ length c.args.bytes.now + length c.args.items.now * size c.get.result.now).
    subst (λ (ty : MemTy). length c.push_elements.new.bytes ≡ length c.args.bytes.now + size ty) (sym is)
    (elements_done c.args.globals.now c.args.items.now c.in-Array.field-0 c.get.result.now
    (subst (λ (ty : MemTy). init_fits (length c.args.globals.now) (InitList c.args.items.now) ty ≡ true) is c.requires.fits) c.args.bytes.now c.push_elements.new.bytes value more).1)
    c.push_elements.ensures.value c.push_elements.ensures.more
