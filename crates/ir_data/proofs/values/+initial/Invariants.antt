use Rattle.std.proofs.Common.{◌≡◌, ◌+◌, ◌*◌, ◌++◌, length, map, drop, replicate, Some, true}
use Rattle.ir_core.specs.Layout.{size, extent_of, end_of_fields}
use Rattle.ir_meaning.specs.Image.{elements, fields_from}
use Rattle.ir_verify.specs.Ranges.{all_fit, init_fits}
use Rattle.ir_data.specs.Image.{fillings}
use Rattle.ir_data.proofs.values.+initial.Given as goal

abbrev pub invariant-push_elements-loop-item : goal.invariant-push_elements-loop-item
invariant-push_elements-loop-item l = record {
  value : map Some l.bytes ++ elements l.element (fillings l.globals (drop l.item-index l.items)) ≡ map Some l.fn.bytes ++ elements l.element (fillings l.globals l.items);
  more : length l.bytes ≡ length l.fn.bytes + l.item-index * size l.element;
  fit : all_fit (map (init_fits (length l.globals)) (drop l.item-index l.items)) (replicate (length (drop l.item-index l.items)) l.element) ≡ true;
}

abbrev pub invariant-push_fields-loop-i : goal.invariant-push_fields-loop-i
invariant-push_fields-loop-i l = record {
  value : map Some l.bytes ++ fields_from l.packed l.place (drop l.i l.fields) (fillings l.globals (drop l.i l.items))
      ≡ map Some l.fn.bytes ++ fields_from l.packed 0 l.fields (fillings l.globals l.items);
  more : length l.bytes ≡ length l.fn.bytes + l.place;
  fit : all_fit (map (init_fits (length l.globals)) (drop l.i l.items)) (drop l.i l.fields) ≡ true;
  same : length l.items ≡ length l.fields;
  end : end_of_fields l.packed l.place (map extent_of (drop l.i l.fields)) ≡ end_of_fields l.packed 0 (map extent_of l.fields);
}
